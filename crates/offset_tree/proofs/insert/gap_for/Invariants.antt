use Rattle.std.proofs.Common.{ℕ, ◌+◌, ◌/◌, List, length}
use Rattle.offset_tree.specs.Inside.Trees.{IsDrawn, Sought}
use Rattle.offset_tree.specs.Inside.Inserting.{Descending}
use Rattle.offset_tree.proofs.insert.gap_for.Given as goal

abbrev pub invariant-loop-round : goal.invariant-loop-round
invariant-loop-round g l =
    let m = g.B.Blocks.words l.blocks in
    record {
      sought : (xs : List ℕ) (h : IsDrawn m l.t xs) → Sought m l.t (l.hash, l.key) xs h.settled.height l.at l.round l.fn.steps l.steps (5 + length l.key / 8);
      descending : (xs : List ℕ) (h : IsDrawn m l.t xs) → Descending m l.t (l.hash, l.key) xs h.settled.tree l.at l.parent l.side;
    }
