-- The blocks of a whole zone as a list, and the entry of a block that has connections.
use Rattle.std.proofs.Common.{ℕ, ◌≡◌, ◌+◌, ◌<◌, ◌≤◌, List, [], ◌∷◌, map, Option, Some, None, refl, ap, ◌∙◌, inl, inr, arith}
use Rattle.std.proofs.lemmas.Bool.{cases_eq}
use Rattle.zone_region.specs.Members.{In, IsDistinct}
use Rattle.slab_model.proofs.LiveLemmas.{once_here, once_there, live_some, live_most, is_live}
use Rattle.conn_zone.specs.declared.state.ConnEntry.{ConnEntry}
use Rattle.conn_zone.specs.declared.state.ConnState.{ConnState}
use Rattle.conn_zone.specs.Table.{is_at, entry_at}
use Rattle.conn_zone.specs.Object.{once_at, count_at}
use Rattle.conn_zone.specs.Holding.{nodes_at, named_at}
use Rattle.conn_zone.specs.Laws.{blocks_of, WholeLaw, HasCount, CountedEntryLaw}
use Rattle.conn_zone.specs.Proving.Tables.{found_passes, missing_count, same_block, nodes_more}
use Rattle.conn_zone.proofs.Weights.{own_sum}

-- how often a number stands in a list
pub times : ℕ → List ℕ → ℕ
times at [] = 0
times at (block ∷ blocks) = once_at at block + times at blocks

pub times_nodes : (at : ℕ) (table : List ConnEntry) → times at (map (λ (entry : ConnEntry). entry.block) table) ≡ nodes_at at table
unfolding times
times_nodes at [] = refl
times_nodes at (e ∷ es) = let rest = times_nodes at es in omega (arith, rest, nodes_more at e es)

pub times_named : (s : ConnState) (at : ℕ) → times at (blocks_of s) ≡ named_at s at
unfolding times
times_named s at = let rest = times_nodes at s.table in omega (arith, rest)

pub in_times : (at : ℕ) (blocks : List ℕ) → In at blocks → 0 < times at blocks
unfolding times
in_times at [] h = absurd h
in_times at (block ∷ blocks) (inl same) = let one : once_at at block ≡ 1 = ap (λ (n : ℕ). once_at n block) same ∙ once_here block in omega (arith, one)
in_times at (block ∷ blocks) (inr there) = let rest = in_times at blocks there in omega (arith, rest)

pub times_in : (at : ℕ) (blocks : List ℕ) → 0 < times at blocks → In at blocks
unfolding times
times_in at [] h = absurd (omega (arith, h))
times_in at (block ∷ blocks) h = elim (cases_eq at block) [
  | inl same ↦ inl same
  | inr ne ↦ let none = once_there at block ne in inr (times_in at blocks (omega (arith, h, none)))
]

pub times_distinct : (blocks : List ℕ) → ((at : ℕ) → times at blocks ≤ 1) → IsDistinct blocks
unfolding times
times_distinct [] once = tt
times_distinct (block ∷ blocks) once = (
  λ there. let h = in_times block blocks there in let one = once_here block in let most = once block in absurd (omega (arith, h, one, most)),
  times_distinct blocks (λ at. let most = once at in omega (arith, most)),
)

-- an entry's block is in the list of the blocks
pub in_nodes : (at : ℕ) (table : List ConnEntry) → In at (map (λ (entry : ConnEntry). entry.block) table) → 0 < nodes_at at table
in_nodes at table there = let h = in_times at (map (λ (entry : ConnEntry). entry.block) table) there in let n = times_nodes at table in omega (arith, h, n)

pub nodes_in : (at : ℕ) (table : List ConnEntry) → 0 < nodes_at at table → In at (map (λ (entry : ConnEntry). entry.block) table)
nodes_in at table some = let n = times_nodes at table in times_in at (map (λ (entry : ConnEntry). entry.block) table) (omega (arith, n, some))

pub whole-law : WholeLaw
whole-law s whole = (
  times_distinct (blocks_of s) (λ at. let n = times_named s at in let h = whole.named at in omega (arith, n, h, live_most s.slab at)),
  λ at. (
    λ there. let i = in_times at (blocks_of s) there in let n = times_named s at in let h = whole.named at in is_live s.slab at (omega (arith, i, n, h)),
    λ live. let n = times_named s at in let h = whole.named at in let one = live_some s.slab at live in times_in at (blocks_of s) (omega (arith, n, h, one)),
  ),
)

pub counted_entry-law : CountedEntryLaw
counted_entry-law s at whole some = go (entry_at at s.table) refl where
  go : (found : Option ConnEntry) → entry_at at s.table ≡ found → (entry : ConnEntry) × HasCount s.table at (count_at at s.table) entry
  go None is = absurd (let none = missing_count at s.table is in omega (arith, none, some))
  go (Some e) is =
      let named = whole.named at in
      let few : nodes_at at s.table ≤ 1 = omega (arith, named, live_most s.slab at) in
      let counted = own_sum (is_at at) (λ (e : ConnEntry). e.count) s.table e is few in
      (e, record { found = is; block = same_block at e (found_passes (is_at at) s.table e is); counted = omega (arith, counted) })
