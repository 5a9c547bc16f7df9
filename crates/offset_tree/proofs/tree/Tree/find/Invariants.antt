use Rattle.std.proofs.Common.{ℕ, ◌+◌, ◌/◌, List, length}
use Rattle.offset_tree.specs.Inside.Trees.{IsDrawn, Sought}
use Rattle.offset_tree.proofs.tree.Tree.find.Given as goal

abbrev pub invariant-loop-round : goal.invariant-loop-round
invariant-loop-round g l =
    let m = g.B.Blocks.words l.blocks in
    (xs : List ℕ) (h : IsDrawn m l.self xs) → Sought m l.self (l.hash, l.key) xs h.settled.height l.at l.round l.fn.steps l.steps (5 + length l.key / 8)
