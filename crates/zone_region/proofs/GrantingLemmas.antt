-- What a grant and a return of a block leave of other blocks.
use Rattle.std.proofs.Common.{ℕ, ◌≡◌, ◌≢◌, ◌<◌, List, length, subst, arith}
use Rattle.zone_region.specs.Words.{Words}
use Rattle.zone_region.specs.Members.{In}
use Rattle.zone_region.specs.Granting.{GrantsWords, ReturnsWords}

-- a block that was live isn't the one that is granted
pub live_not_granted : (m n : Words) (at count z : ℕ) → GrantsWords m n at count → 0 < length (m z) → z ≢ at
live_not_granted m n at count z g live e =
    let none : 0 < 0 = subst (λ (ws : List ℕ). 0 < length ws) g.fresh (subst (λ (y : ℕ). 0 < length (m y)) e live) in
    omega (arith, none)

-- a grant leaves the words of blocks that were live
pub granted_same : (m n : Words) (at count : ℕ) (xs : List ℕ) → GrantsWords m n at count → ((z : ℕ) → In z xs → 0 < length (m z)) → (z : ℕ) → In z xs → n z ≡ m z
granted_same m n at count xs g live z i = g.others z (live_not_granted m n at count z g (live z i))

-- a return leaves the words of all blocks but its own
pub returned_same : (m n : Words) (at : ℕ) (xs : List ℕ) → ReturnsWords m n at → (In at xs → ⊥) → (z : ℕ) → In z xs → n z ≡ m z
returned_same m n at xs r out z i = r.others z (λ e. out (subst (λ (y : ℕ). In y xs) e i))
