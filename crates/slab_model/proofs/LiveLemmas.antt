-- For the zones: the live blocks of a slab, counted, once a grant or a return has changed them.
use Rattle.std.proofs.Common.{ℕ, ◌≡◌, ◌≢◌, ◌+◌, ◌<◌, ◌≤◌, Bool, true, false, cond, eqb, ltb, Some, refl, sym, ap, subst, ◌∙◌, inl, inr, arith}
use Rattle.std.proofs.lemmas.Bool.{cases_eq, cases_lt, lt-ltb, eq-eqb, ne_eqb}
use Rattle.slab_model.specs.State.{Slab}
use Rattle.slab_model.specs.Blocks.{live_bytes, IsLive, live_at, once_at}
use Rattle.slab_model.specs.Grant.{grant}
use Rattle.slab_model.specs.Return.{give_back}
use Rattle.slab_model.specs.Soundness.{IsSound}
use Rattle.slab_model.proofs.BlockLaws.{grant-grants, give_back-returns}

pub once_here : (at : ℕ) → once_at at at ≡ 1
once_here at = let h : eqb at at ≡ true = eq-eqb at at refl in ap (λ (b : Bool). cond b 1 0) h

pub once_there : (at block : ℕ) → at ≢ block → once_at at block ≡ 0
once_there at block ne = let h : eqb block at ≡ false = ne_eqb block at (λ e. ne (sym e)) in ap (λ (b : Bool). cond b 1 0) h

pub live_some : (slab : Slab) (at : ℕ) → 0 < live_bytes slab at → live_at slab at ≡ 1
live_some slab at live = ap (λ (b : Bool). cond b 1 0) (lt-ltb 0 (live_bytes slab at) live)

pub live_none : (slab : Slab) (at : ℕ) → live_bytes slab at ≡ 0 → live_at slab at ≡ 0
live_none slab at none = ap (λ n. cond (ltb 0 n) 1 0) none

pub live_same : (old new : Slab) (at : ℕ) → live_bytes new at ≡ live_bytes old at → live_at new at ≡ live_at old at
live_same old new at same = ap (λ n. cond (ltb 0 n) 1 0) same

pub live_most : (slab : Slab) (at : ℕ) → live_at slab at ≤ 1
live_most slab at = most (ltb 0 (live_bytes slab at)) where
  most : (b : Bool) → cond b 1 0 ≤ 1
  most true = omega arith
  most false = omega arith

pub is_live : (slab : Slab) (at : ℕ) → 0 < live_at slab at → IsLive slab at
is_live slab at some = elim (cases_lt 0 (live_bytes slab at)) [
  | inl live ↦ live
  | inr none ↦ let gone : live_bytes slab at ≡ 0 = omega arith in absurd (omega (arith, some, live_none slab at gone))
]

-- a grant makes one block live
pub granted_live : (slab : Slab) (size at : ℕ) → IsSound slab → 0 < size → (grant slab size).0 ≡ Some at → (other : ℕ) → live_at (grant slab size).1 other ≡ once_at other at + live_at slab other
granted_live slab size at sound some given other =
    let new = (grant slab size).1 in
    let g = grant-grants slab size at sound some given in
    elim (cases_eq other at) [
      | inl same ↦
          let one : once_at other at ≡ 1 = ap (λ (n : ℕ). once_at n at) same ∙ once_here at in
          let was = live_none slab other (ap (λ (n : ℕ). live_bytes slab n) same ∙ g.0.fresh) in
          let now = live_some new other (let b = ap (λ (n : ℕ). live_bytes new n) same ∙ g.0.bytes in omega (arith, b, g.1, some)) in
          omega (arith, one, was, now)
      | inr ne ↦
          let none = once_there other at ne in
          let stays = live_same slab new other (g.0.others other ne) in
          omega (arith, none, stays)
    ]

-- and a return takes one away
pub returned_live : (slab : Slab) (at : ℕ) → IsSound slab → IsLive slab at → (other : ℕ) → live_at (give_back slab at) other + once_at other at ≡ live_at slab other
returned_live slab at sound live other =
    let new = give_back slab at in
    let r = give_back-returns slab at sound live in
    elim (cases_eq other at) [
      | inl same ↦
          let one : once_at other at ≡ 1 = ap (λ (n : ℕ). once_at n at) same ∙ once_here at in
          let was = live_some slab other (subst (λ (n : ℕ). 0 < live_bytes slab n) (sym same) live) in
          let gone = live_none new other (ap (λ (n : ℕ). live_bytes new n) same ∙ r.gone) in
          omega (arith, one, was, gone)
      | inr ne ↦
          let none = once_there other at ne in
          let stays = live_same slab new other (r.others other ne) in
          omega (arith, none, stays)
    ]
