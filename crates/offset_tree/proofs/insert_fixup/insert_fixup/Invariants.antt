use Rattle.std.proofs.Common.{ℕ, ◌≡◌, ◌+◌, ◌*◌, ◌≤◌, List}
use Rattle.offset_tree.specs.Changes.{ChangesNodes}
use Rattle.offset_tree.specs.Inside.InsertFixup.{Rising}
use Rattle.offset_tree.proofs.insert_fixup.insert_fixup.Given as goal

abbrev pub invariant-loop-round : goal.invariant-loop-round
invariant-loop-round g l =
    let words = g.B.Blocks.words in
    let context = l.t.context.at in
    record {
      now : (xs : List ℕ) (d : ℕ) → Rising (words l.fn.blocks) context l.fn.x xs d → (e : ℕ) × (e + l.round ≤ d) × (l.steps + 5 * e ≤ l.fn.steps + 5 * d) × Rising (words l.blocks) context l.at xs e;
      rest : g.B.Blocks.rest l.blocks ≡ g.B.Blocks.rest l.fn.blocks;
      changes : (xs : List ℕ) (d : ℕ) → Rising (words l.fn.blocks) context l.fn.x xs d → ChangesNodes (words l.fn.blocks) (words l.blocks) context xs;
    }
