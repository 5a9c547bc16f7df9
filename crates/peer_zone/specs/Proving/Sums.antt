-- The sum of a list's currents stays.
use Rattle.std.proofs.Common.{ℕ, zero, suc, ◌≡◌, ◌+◌, ◌<◌, Bool, true, false, cond, List, [], ◌∷◌, Option, Some, None, refl, ap, arith}
use Rattle.std.specs.Prelude.{ℤ, pos, ◌+ℤ◌, ◌-ℤ◌, nat_lt}
use Rattle.std.proofs.lemmas.Int.{ints}
use Rattle.peer_zone.specs.declared.calls.Method.{Method}
use Rattle.peer_zone.specs.declared.calls.Method.TheVariants.{Round, Least}
use Rattle.peer_zone.specs.declared.calls.PeerCall.TheVariants.{Choose, Free}
use Rattle.peer_zone.specs.declared.state.PeerRecord.{PeerRecord}
use Rattle.peer_zone.specs.declared.state.PeerState.{PeerState}
use Rattle.peer_zone.specs.Records.{peer_at}
use Rattle.peer_zone.specs.Choice.{Part, Found, Choice, change_at, taken, settled, raised, raised_in, total_in, best_in, by_round, least_in, tied, count_in, among_least, by_least, taken_alone, by_single, choose, freed}
use Rattle.peer_zone.specs.Object.{is_single, list_of, with_list, available, choice_of}
use Rattle.peer_zone.specs.Holding.{current_sum}
use Rattle.peer_zone.specs.Laws.{SumLaw}
use Rattle.peer_zone.specs.Proving.Found.{best-found, best-none, nobody-raised}
use Rattle.peer_zone.specs.Proving.Kept.{found_there, there-raised, least-there}

-- ---- one record

put_in : (a b c t : ℤ) → a ≡ (b -ℤ t) → (a +ℤ c) ≡ ((b +ℤ c) -ℤ t)
put_in a b c t is = omega (arith, ints, is)

put_behind : (a b c t : ℤ) → b ≡ (c -ℤ t) → (a +ℤ b) ≡ ((a +ℤ c) -ℤ t)
put_behind a b c t is = omega (arith, ints, is)

-- a record that is there falls by `total`
sum-taken : (total now : ℕ) (at : ℕ) (ps : List PeerRecord) (p : PeerRecord) → peer_at ps at ≡ Some p → current_sum (change_at at (taken total now) ps) ≡ (current_sum ps -ℤ pos total)
sum-taken total now at [] p there = absurd (cc)
sum-taken total now zero (q ∷ qs) p there = put_in (q.current -ℤ pos total) q.current (current_sum qs) (pos total) refl
sum-taken total now (suc at) (q ∷ qs) p there = put_behind q.current (current_sum (change_at at (taken total now) qs)) (current_sum qs) (pos total) (sum-taken total now at qs p there)

-- a record whose current stays
sum-same : (f : PeerRecord → PeerRecord) → ((p : PeerRecord) → (f p).current ≡ p.current) → (at : ℕ) (ps : List PeerRecord) → current_sum (change_at at f ps) ≡ current_sum ps
sum-same f same at [] = refl
sum-same f same zero (p ∷ ps) = ap (λ (z : ℤ). z +ℤ current_sum ps) (same p)
sum-same f same (suc at) (p ∷ ps) = ap (λ (z : ℤ). p.current +ℤ z) (sum-same f same at ps)

-- ---- a round

raise_one : (a s : ℤ) (e t : ℕ) (r : ℤ) → r ≡ (s +ℤ pos t) → ((a +ℤ pos e) +ℤ r) ≡ ((a +ℤ s) +ℤ pos (e + t))
raise_one a s e t r is = omega (arith, ints, is)

raise_none : (a s : ℤ) (t : ℕ) (r : ℤ) → r ≡ (s +ℤ pos t) → (a +ℤ r) ≡ ((a +ℤ s) +ℤ pos (0 + t))
raise_none a s t r is = omega (arith, ints, is)

sum-raised : (part : Part) (from : ℕ) (ps : List PeerRecord) → current_sum (raised_in part from ps) ≡ (current_sum ps +ℤ pos (total_in part from ps))
sum-raised part from [] = refl
sum-raised part from (p ∷ ps) = go (part from p) (sum-raised part (from + 1) ps) where
  go : (b : Bool) → current_sum (raised_in part (from + 1) ps) ≡ (current_sum ps +ℤ pos (total_in part (from + 1) ps)) → ((cond b (raised p) p).current +ℤ current_sum (raised_in part (from + 1) ps)) ≡ ((p.current +ℤ current_sum ps) +ℤ pos (cond b p.effective 0 + total_in part (from + 1) ps))
  go true rest = raise_one p.current (current_sum ps) p.effective (total_in part (from + 1) ps) (current_sum (raised_in part (from + 1) ps)) rest
  go false rest = raise_none p.current (current_sum ps) (total_in part (from + 1) ps) (current_sum (raised_in part (from + 1) ps)) rest

cancel : (a b c : ℤ) (t : ℕ) → a ≡ (b -ℤ pos t) → b ≡ (c +ℤ pos t) → a ≡ c
cancel a b c t is was = omega (arith, ints, is, was)

sum-round : (part : Part) (now : ℕ) (ps : List PeerRecord) → current_sum (by_round part now ps).peers ≡ current_sum ps
sum-round part now ps = go (best_in part 0 ps) refl where
  go : (best : Option Found) → best_in part 0 ps ≡ best → current_sum (settled (total_in part 0 ps) now best (raised_in part 0 ps)).peers ≡ current_sum ps
  go None none = ap (λ (qs : List PeerRecord). current_sum qs) (nobody-raised part 0 ps (best-none part 0 ps none))
  go (Some best) some =
      let at = found_there part ps best (best-found part 0 ps best some) in
      let still = there-raised part 0 ps best.index at.0 at.1 in
      cancel _ (current_sum (raised_in part 0 ps)) _ (total_in part 0 ps) (sum-taken (total_in part 0 ps) now best.index (raised_in part 0 ps) still.0 still.1) (sum-raised part 0 ps)

-- ---- every choice

less_none : (a b : ℤ) → a ≡ (b -ℤ pos 0) → a ≡ b
less_none a b is = omega (arith, ints, is)

sum-least : (part : Part) (now : ℕ) (ps : List PeerRecord) → current_sum (by_least part now ps).peers ≡ current_sum ps
sum-least part now ps = go (least_in part 0 None ps) refl where
  tie : (f : Found) (p : PeerRecord) → peer_at ps f.index ≡ Some p → (b : Bool) → current_sum (cond b (by_round (tied part f) now ps) (settled 0 now (Some f) ps)).peers ≡ current_sum ps
  tie f p there true = sum-round (tied part f) now ps
  tie f p there false = less_none _ _ (sum-taken 0 now f.index ps p there)

  go : (least : Option Found) → least_in part 0 None ps ≡ least → current_sum (among_least part now ps least).peers ≡ current_sum ps
  go None none = refl
  go (Some f) some = let at = found_there part ps f (least-there part ps f some) in tie f at.0 at.1 (nat_lt 1 (count_in (tied part f) 0 ps))

sum-single : (part : Part) (ps : List PeerRecord) → current_sum (by_single part ps).peers ≡ current_sum ps
sum-single part [] = refl
sum-single part (p ∷ ps) = go (part 0 p) where
  go : (b : Bool) → current_sum (cond {A = Choice} b (record { chosen = Some 0; peers = taken_alone p ∷ ps }) (record { chosen = None; peers = p ∷ ps })).peers ≡ current_sum (p ∷ ps)
  go true = refl
  go false = refl

sum-choose : (single : Bool) (method : Method) (part : Part) (now : ℕ) (ps : List PeerRecord) → current_sum (choose single method part now ps).peers ≡ current_sum ps
sum-choose true method part now ps = sum-single part ps
sum-choose false Round part now ps = sum-round part now ps
sum-choose false Least part now ps = sum-least part now ps

current-freed : (single failed : Bool) (now : ℕ) (p : PeerRecord) → (freed single failed now p).current ≡ p.current
current-freed true failed now p = refl
current-freed false true now p = refl
current-freed false false now p = refl

-- ---- both lists

sum-with : (s : PeerState) (asked list : ℕ) (peers : List PeerRecord) → asked < 2 → list < 2 → current_sum peers ≡ current_sum (list_of s asked) → current_sum (list_of (with_list s asked peers) list) ≡ current_sum (list_of s list)
sum-with s zero zero peers known l is = is
sum-with s zero (suc zero) peers known l is = refl
sum-with s (suc zero) zero peers known l is = refl
sum-with s (suc zero) (suc zero) peers known l is = is
sum-with s (suc (suc asked)) list peers known l is = absurd (omega (arith, known))
sum-with s asked (suc (suc list)) peers known l is = absurd (omega (arith, l))

pub sum-law : SumLaw
sum-law s (Choose asked tried now) list l known = sum-with s asked list (choice_of s asked tried now).peers known l (sum-choose (is_single s) s.method (available s tried now) now (list_of s asked))
sum-law s (Free asked index failed now) list l known = sum-with s asked list (change_at index (freed (is_single s) failed now) (list_of s asked)) known l (sum-same (freed (is_single s) failed now) (current-freed (is_single s) failed now) index (list_of s asked))
