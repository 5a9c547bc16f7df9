-- The blocks of a whole zone as a list, and the entry of a block that is held.
use Rattle.std.proofs.Common.{ℕ, ◌≡◌, ◌+◌, ◌<◌, ◌≤◌, Bool, true, false, cond, eqb, List, [], ◌∷◌, length, map, find, Option, Some, None, refl, ap, ◌∙◌, inl, inr, arith}
use Rattle.std.proofs.lemmas.Bool.{cases_eq, eqb-true}
use Rattle.std.proofs.lemmas.List.Elements.{All-weaker}
use Rattle.slab_model.specs.Geometry.{class_of}
use Rattle.slab_model.specs.State.{Slab}
use Rattle.slab_model.specs.Blocks.{live_bytes}
use Rattle.slab_model.specs.Grant.{block_bytes, block_bytes_as}
use Rattle.slab_model.proofs.ClassLemmas.{class_of-some, pages_for-holds}
use Rattle.slab_model.proofs.LiveLemmas.{once_here, once_there, live_some, live_most, is_live}
use Rattle.req_zone.specs.Step.{node_size}
use Rattle.zone_region.specs.Members.{In, IsDistinct}
use Rattle.req_zone.specs.declared.state.ReqEntry.{ReqEntry}
use Rattle.req_zone.specs.declared.state.ReqState.{ReqState}
use Rattle.req_zone.specs.Object.{context_size, name_size, once_at, holds_at}
use Rattle.req_zone.specs.Holding.{nodes_at, named_at, HasNode}
use Rattle.req_zone.specs.Laws.{SpaceLaw, IsHeldBy, HeldEntryLaw, blocks_of, WholeLaw}
use Rattle.req_zone.specs.Proving.Tables.{nodes_more, holds_more}
use Rattle.req_zone.specs.Proving.CallEffects.{unnamed}

-- how often a number stands in a list
times : ℕ → List ℕ → ℕ
times at [] = 0
times at (block ∷ blocks) = once_at at block + times at blocks

times_nodes : (at : ℕ) (table : List ReqEntry) → times at (map (λ (entry : ReqEntry). entry.block) table) ≡ nodes_at at table
unfolding times
times_nodes at [] = refl
times_nodes at (e ∷ es) = let rest = times_nodes at es in omega (arith, rest, nodes_more at e es)

times_named : (s : ReqState) (at : ℕ) → times at (blocks_of s) ≡ named_at s at
unfolding times
times_named s at = let rest = times_nodes at s.table in omega (arith, rest)

in_times : (at : ℕ) (blocks : List ℕ) → In at blocks → 0 < times at blocks
unfolding times
in_times at [] h = absurd h
in_times at (block ∷ blocks) (inl same) = let one : once_at at block ≡ 1 = ap (λ (n : ℕ). once_at n block) same ∙ once_here block in omega (arith, one)
in_times at (block ∷ blocks) (inr there) = let rest = in_times at blocks there in omega (arith, rest)

times_in : (at : ℕ) (blocks : List ℕ) → 0 < times at blocks → In at blocks
unfolding times
times_in at [] h = absurd (omega (arith, h))
times_in at (block ∷ blocks) h = elim (cases_eq at block) [
  | inl same ↦ inl same
  | inr ne ↦ let none = once_there at block ne in inr (times_in at blocks (omega (arith, h, none)))
]

times_distinct : (blocks : List ℕ) → ((at : ℕ) → times at blocks ≤ 1) → IsDistinct blocks
unfolding times
times_distinct [] once = tt
times_distinct (block ∷ blocks) once = (
  λ there. let h = in_times block blocks there in let one = once_here block in let most = once block in absurd (omega (arith, h, one, most)),
  times_distinct blocks (λ at. let most = once at in omega (arith, most)),
)

pub whole-law : WholeLaw
whole-law s whole = (
  times_distinct (blocks_of s) (λ at. let n = times_named s at in let h = whole.named at in omega (arith, n, h, live_most s.slab at)),
  λ at. (
    λ there. let i = in_times at (blocks_of s) there in let n = times_named s at in let h = whole.named at in is_live s.slab at (omega (arith, i, n, h)),
    λ live. let n = times_named s at in let h = whole.named at in let one = live_some s.slab at live in times_in at (blocks_of s) (omega (arith, n, h, one)),
  ),
)

held_first : (at : ℕ) (table : List ReqEntry) → nodes_at at table ≤ 1 → 0 < holds_at at table → (entry : ReqEntry) × IsHeldBy table at entry
held_first at [] once some = let none : holds_at at [] ≡ 0 = refl in absurd (omega (arith, none, some))
held_first at (e ∷ es) once some = go (eqb e.block at) refl (λ o h. held_first at es o h) where
  later : eqb e.block at ≡ false → (entry : ReqEntry) × IsHeldBy es at entry → (entry : ReqEntry) × IsHeldBy (e ∷ es) at entry
  later is x = (x.0, record { found = ap (λ (t : Bool). cond t (Some e) (find (λ (y : ReqEntry). eqb y.block at) es)) is ∙ x.1.found; block = x.1.block; held = x.1.held })

  go : (b : Bool) → eqb e.block at ≡ b → (nodes_at at es ≤ 1 → 0 < holds_at at es → (entry : ReqEntry) × IsHeldBy es at entry) → (entry : ReqEntry) × IsHeldBy (e ∷ es) at entry
  go true is rest =
      let one : once_at at e.block ≡ 1 = ap {B = ℕ} (λ (b : Bool). cond b 1 0) is in
      let alone = unnamed at es (omega (arith, once, one, nodes_more at e es)) in
      let own : cond (eqb e.block at) e.count 0 ≡ e.count = ap {B = ℕ} (λ (b : Bool). cond b e.count 0) is in
      (e, record { found = ap (λ (t : Bool). cond t (Some e) (find (λ (y : ReqEntry). eqb y.block at) es)) is; block = eqb-true e.block at is; held = omega (arith, own, alone, some, holds_more at e es) })
  go false is rest =
      let none : once_at at e.block ≡ 0 = ap {B = ℕ} (λ (b : Bool). cond b 1 0) is in
      let free : cond (eqb e.block at) e.count 0 ≡ 0 = ap {B = ℕ} (λ (b : Bool). cond b e.count 0) is in
      later is (rest (omega (arith, once, none, nodes_more at e es)) (omega (arith, some, free, holds_more at e es)))

pub held_entry-law : HeldEntryLaw
held_entry-law s at whole some = let named = whole.named at in held_first at s.table (omega (arith, named, live_most s.slab at)) some

-- ---- what a block holds fits in it

block_holds : (slab : Slab) (size : ℕ) → 0 < size → size ≤ block_bytes slab size
unfolding block_bytes
block_holds slab size some = go (class_of slab.shape size) refl where
  go : (class : Option ℕ) → class_of slab.shape size ≡ class → size ≤ block_bytes_as slab size class
  go None is = (pages_for-holds slab.shape size some).1
  go (Some class) is = (class_of-some slab.shape size class is).1

node_fits : (slab : Slab) (e : ReqEntry) → HasNode slab e → node_size + length e.key ≤ live_bytes slab e.block
node_fits slab e has = let h = block_holds slab (node_size + length e.key) (omega arith) in omega (arith, h, has)

pub space-law : SpaceLaw
space-law s whole = record {
  context = let h = block_holds s.slab context_size (omega arith) in let is = whole.context in omega (arith, h, is);
  name = let h = block_holds s.slab (name_size s.name) (omega arith) in let is = whole.name in omega (arith, h, is);
  nodes = All-weaker (HasNode s.slab) (λ (entry : ReqEntry). node_size + length entry.key ≤ live_bytes s.slab entry.block) (node_fits s.slab) s.table whole.nodes;
}
