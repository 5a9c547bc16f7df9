use Rattle.std.proofs.Common.{ℕ, ◌≡◌, ◌≢◌, List, length, MatchOption, Some, None, sym, ap, subst, arith}
use Rattle.std.specs.declared.option.Option.{Option}
use Rattle.zone_region.specs.declared.blocks.Block.{Block}
use Rattle.zone_region.specs.Words.{Words}
use Rattle.zone_region.specs.Members.{In}
use Rattle.offset_tree.specs.declared.tree.Tree.{Tree}
use Rattle.offset_tree.specs.Keys.{Rank, rank_of}
use Rattle.offset_tree.specs.Bounds.{search_cost}
use Rattle.offset_tree.specs.Layout.{IsTree}
use Rattle.offset_table.specs.declared.table.Table.{Table}
use Rattle.offset_table.specs.Table.{rank_at, IsTable}
use Rattle.offset_table.proofs.Tables.{equally_many}
use Rattle.offset_table.proofs.table.Table.find.Goals as goal

-- what is found in the tree is found in the table
found_in_table : (m : Words) (t : Table) (order : List ℕ) (rank : Rank) (found : Option Block) → (h : IsTable m t order) →
    MatchOption found ((x : ℕ) → In x h.sorted → rank_at m x ≢ rank) (λ b. In b.at h.sorted × (rank_at m b.at ≡ rank)) →
    MatchOption found ((x : ℕ) → In x order → rank_at m x ≢ rank) (λ b. In b.at order × (rank_at m b.at ≡ rank))
found_in_table m t order rank None h none = λ x i. none x (h.there x i)
found_in_table m t order rank (Some b) h some = (h.back b.at some.0, some.1)

pub returns-clause-found : goal.returns-clause-found
returns-clause-found g c = λ order h.
    let m = g.B.Blocks.words c.args.blocks.now in
    let e = c.tree-tree.ensures in
    let tree = subst (λ (w : Tree). IsTree m w h.sorted) (sym e) h.tree in
    found_in_table m _ order (c.args.hash, c.args.key.now) c.find.result h
    (subst (λ (w : Tree). MatchOption c.find.result ((x : ℕ) → In x h.sorted → rank_of m w.form x ≢ (c.args.hash, c.args.key.now)) (λ b. In b.at h.sorted × (rank_of m w.form b.at ≡ (c.args.hash, c.args.key.now)))) e (c.find.ensures.found h.sorted tree))

pub returns-clause-cost : goal.returns-clause-cost
returns-clause-cost g c = λ order h.
    let m = g.B.Blocks.words c.args.blocks.now in
    let tree = subst (λ (w : Tree). IsTree m w h.sorted) (sym c.tree-tree.ensures) h.tree in
    let same = ap (λ (n : ℕ). search_cost n (length c.args.key.now)) (equally_many m _ order h) in
    omega (arith, c.find.ensures.cost h.sorted tree, same)
