-- Tables in blocks of a pool.
use Rattle.std.proofs.Common.{ℕ, ◌≡◌, ◌≢◌, ◌/◌, ◌∷◌, ◌++◌, List, ◌∙◌, refl, inl, inr, arith}
use Rattle.zone_region.specs.Words.{Words}
use Rattle.zone_region.specs.Members.{In, IsDistinct}
use Rattle.zone_region.specs.Granting.{GrantsWords, ReturnsWords}
use Rattle.zone_region.proofs.GrantingLemmas.{live_not_granted}
use Rattle.zone_region.proofs.HoldingLemmas.{holds_some}
use Rattle.zone_region.proofs.MembersLemmas.{IsDistinct-split}
use Rattle.slab_model.specs.State.{Slab}
use Rattle.slab_model.specs.Grant.{block_bytes}
use Rattle.slab_pages.specs.Places.{Image}
use Rattle.slab_pool.specs.Pool.{LaysPool}
use Rattle.slab_pool.specs.Live.{block_words}
use Rattle.offset_table.specs.declared.table.Table.{Table}
use Rattle.offset_table.specs.Table.{tree_of, rank_at, IsTable, IsTableContext, CanAdd}
use Rattle.offset_table.proofs.Keeping.{can_add, returned_table}
use Rattle.pool_tests.proofs.NodeLemmas.{context_bytes, is_context, IsNewNode, new_node}

-- the context's block
pub is_table_context : (old new : Image) (before after : Slab) (t : Table) → LaysPool new after → GrantsWords (block_words old) (block_words new) t.context.at (block_bytes before 80 / 8) → IsTableContext (block_words new) t
is_table_context old new before after t p g =
    let c = is_context old new before after (tree_of t) p g in
    record { room = omega (arith, g.long, context_bytes before); above = c.above; below = c.below }

-- a granted block with a key that no node has can be added
pub new_entry : (old mid new : Image) (t : Table) (b hash : ℕ) (key order : List ℕ) → (h : IsTable (block_words old) t order) → ((x : ℕ) → In x order → rank_at (block_words old) x ≢ (hash, key)) →
    IsNewNode old mid new (tree_of t) b hash key h.sorted → CanAdd (block_words new) t b key order
new_entry old mid new t b hash key order h none node =
    let c = new_node old mid new (tree_of t) b hash key h.sorted node in
    let d = h.queue.holds.distinct in
    let distinct : IsDistinct (t.context.at ∷ b ∷ order) = (
      λ i. elim i [ inl e ↦ c.holds.distinct.0 (inl e) | inr j ↦ d.0 j ],
      (λ i. c.holds.distinct.1.0 (h.there b i), d.1),
    ) in
    let holds = holds_some (block_words new) (t.context.at ∷ b ∷ h.sorted) (t.context.at ∷ b ∷ order) distinct
    (λ x i. elim i [ inl e ↦ inl e | inr j ↦ inr (elim j [ inl e ↦ inl e | inr k ↦ inr (h.there x k) ]) ]) c.holds in
    let apart = λ (z : ℕ) (i : In z (t.context.at ∷ order)). live_not_granted (block_words old) (block_words mid) b node.count z node.granted (h.queue.holds.live z i) in
    can_add (block_words old) (block_words new) t b hash key order (λ z i. node.others z (apart z i) ∙ node.granted.others z (apart z i)) h none holds (c.room.nodes b (inl refl)) node.rank

-- a node that was taken out comes back to the pool
pub table_less : (old mid new : Words) (t : Table) (b : ℕ) (ys zs : List ℕ) → IsTable old t (ys ++ b ∷ zs) → IsTable mid t (ys ++ zs) → ReturnsWords mid new b → IsTable new t (ys ++ zs)
table_less old mid new t b ys zs was now back =
    let split = IsDistinct-split (t.context.at ∷ ys) b zs was.queue.holds.distinct in
    returned_table mid new b t (ys ++ zs) back split.1 now
