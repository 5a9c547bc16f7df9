use Rattle.std.proofs.Common.{ℕ, ◌≡◌, ◌+◌, ◌≤◌, List}
use Rattle.offset_tree.specs.Changes.{ChangesNodes}
use Rattle.offset_tree.specs.Inside.DeleteFixup.{Lacking}
use Rattle.offset_tree.proofs.delete_fixup.delete_fixup.Given as goal

abbrev pub invariant-loop-round : goal.invariant-loop-round
invariant-loop-round g l =
    let words = g.B.Blocks.words in
    let context = l.t.context.at in
    record {
      now : (xs : List ℕ) (d : ℕ) → Lacking (words l.fn.blocks) context l.fn.place.at l.fn.place.parent l.fn.place.side xs d → (e : ℕ) × (e + l.round ≤ d) × Lacking (words l.blocks) context l.lacking.at l.lacking.parent l.lacking.side xs e;
      rest : g.B.Blocks.rest l.blocks ≡ g.B.Blocks.rest l.fn.blocks;
      changes : (xs : List ℕ) (d : ℕ) → Lacking (words l.fn.blocks) context l.fn.place.at l.fn.place.parent l.fn.place.side xs d → ChangesNodes (words l.fn.blocks) (words l.blocks) context xs;
    }
