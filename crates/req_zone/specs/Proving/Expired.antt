-- What leaves in an expiry.
use Rattle.std.proofs.Common.{ℕ, zero, suc, ◌≡◌, ◌+◌, ◌≤◌, ◌&&◌, Bool, true, false, cond, eqb, List, [], ◌∷◌, length, take, reverse, refl, subst, arith}
use Rattle.std.proofs.lemmas.List.{length-reverse}
use Rattle.std.proofs.lemmas.List.Elements.{All-nil, All-cons, All-head, All-tail}
use Rattle.std.proofs.lemmas.Bool.{eqb-true}
use Rattle.std.specs.List.{All}
use Rattle.req_zone.specs.declared.state.ReqEntry.{ReqEntry}
use Rattle.req_zone.specs.Table.{is_stale}
use Rattle.req_zone.specs.Expiry.{stale_leaving, first_leaving, forced_from, forced_leaving}
use Rattle.req_zone.specs.Object.{holds_at}
use Rattle.req_zone.specs.Proving.Tables.{holds_more}

-- no request holds the entry
abbrev pub IsFree : ReqEntry → Type 0
IsFree entry = entry.count ≡ 0

at_most : (b : Bool) (x y : ℕ) → x ≤ y → cond b (1 + x) 0 ≤ 1 + y
at_most true x y h = omega arith
at_most false x y h = omega arith

-- no more leave than there are
pub stale_le : (rate now most : ℕ) (oldest : List ReqEntry) → stale_leaving rate now most oldest ≤ length oldest
stale_le rate now zero oldest = omega arith
stale_le rate now (suc most) [] = omega arith
stale_le rate now (suc most) (e ∷ es) = let h = at_most (eqb e.count 0 && is_stale rate now e) _ _ (stale_le rate now most es) in omega (arith, h)

pub forced_le : (rate now : ℕ) (oldest : List ReqEntry) → forced_from rate now oldest ≤ length oldest
forced_le rate now [] = omega arith
forced_le rate now (e ∷ es) = let h = at_most (eqb e.count 0) _ _ (stale_le rate now 2 es) in omega (arith, h)

pub first_within : (rate now : ℕ) (table : List ReqEntry) → first_leaving rate now table ≤ length table
first_within rate now table = omega (arith, stale_le rate now 2 (reverse table), length-reverse table)

pub forced_within : (rate now : ℕ) (table : List ReqEntry) → forced_leaving rate now table ≤ length table
forced_within rate now table = omega (arith, forced_le rate now (reverse table), length-reverse table)

one_more : (e : ReqEntry) (es : List ReqEntry) (k : ℕ) → eqb e.count 0 ≡ true → All IsFree (take k es) → All IsFree (take (1 + k) (e ∷ es))
one_more e es k free rest =
    let same : suc k ≡ 1 + k = omega arith in
    subst (λ (m : ℕ). All IsFree (take m (e ∷ es))) same (All-cons IsFree e (take k es) (eqb-true e.count 0 free) rest)

-- what leaves is held by no request
stale_free : (rate now most : ℕ) (oldest : List ReqEntry) → All IsFree (take (stale_leaving rate now most oldest) oldest)
stale_free rate now zero oldest = All-nil IsFree
stale_free rate now (suc most) [] = All-nil IsFree
stale_free rate now (suc most) (e ∷ es) = go (eqb e.count 0) (is_stale rate now e) refl (stale_free rate now most es) where
  go : (b c : Bool) → eqb e.count 0 ≡ b → All IsFree (take (stale_leaving rate now most es) es) → All IsFree (take (cond (b && c) (1 + stale_leaving rate now most es) 0) (e ∷ es))
  go true true is rest = one_more e es (stale_leaving rate now most es) is rest
  go true false is rest = All-nil IsFree
  go false c is rest = All-nil IsFree

from_free : (rate now : ℕ) (oldest : List ReqEntry) → All IsFree (take (forced_from rate now oldest) oldest)
from_free rate now [] = All-nil IsFree
from_free rate now (e ∷ es) = go (eqb e.count 0) refl where
  go : (b : Bool) → eqb e.count 0 ≡ b → All IsFree (take (cond b (1 + stale_leaving rate now 2 es) 0) (e ∷ es))
  go true is = one_more e es (stale_leaving rate now 2 es) is (stale_free rate now 2 es)
  go false is = All-nil IsFree

pub first_free : (rate now : ℕ) (table : List ReqEntry) → All IsFree (take (first_leaving rate now table) (reverse table))
first_free rate now table = stale_free rate now 2 (reverse table)

pub forced_free : (rate now : ℕ) (table : List ReqEntry) → All IsFree (take (forced_leaving rate now table) (reverse table))
forced_free rate now table = from_free rate now (reverse table)

none_held : (b : Bool) (count : ℕ) → count ≡ 0 → cond b count 0 ≡ 0
none_held true count h = h
none_held false count h = refl

-- free entries have no holds
pub free_holds : (at : ℕ) (gone : List ReqEntry) → All IsFree gone → holds_at at gone ≡ 0
free_holds at [] free = refl
free_holds at (e ∷ es) free = let here = none_held (eqb e.block at) e.count (All-head IsFree e es free) in let rest = free_holds at es (All-tail IsFree e es free) in omega (arith, holds_more at e es, here, rest)
