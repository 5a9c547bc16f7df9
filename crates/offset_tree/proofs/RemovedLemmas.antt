-- The list without a block, as a tree.
use Rattle.std.proofs.Common.{ℕ, ◌≢◌, List, [], ◌∷◌, ◌++◌, subst, arith}
use Rattle.zone_region.specs.Words.{Words}
use Rattle.offset_tree.specs.declared.tree.Tree.{Tree}
use Rattle.offset_tree.specs.declared.tree.Form.{Form}
use Rattle.zone_region.specs.Members.{In, IsDistinct}
use Rattle.offset_tree.specs.Keys.{IsForm, AllAfter, IsOrdered}
use Rattle.offset_tree.specs.Changes.{ChangesNodes}
use Rattle.offset_tree.specs.Layout.{IsTree}
use Rattle.offset_tree.specs.Inside.Balance.{Settled}
use Rattle.zone_region.proofs.MembersLemmas.{In-more, IsDistinct-split}
use Rattle.offset_tree.proofs.InsertLemmas.{rank_same, holds_key_same, ordered_same}
use Rattle.offset_tree.proofs.Drawing.{lays_of, held_same}

after_without : (m : Words) (f : Form) (z : ℕ) (xs : List ℕ) (b : ℕ) (ys : List ℕ) → AllAfter m f z (xs ++ b ∷ ys) → AllAfter m f z (xs ++ ys)
after_without m f z [] b ys a = a.1
after_without m f z (x ∷ xs) b ys a = (a.0, after_without m f z xs b ys a.1)

ordered_without : (m : Words) (f : Form) (xs : List ℕ) (b : ℕ) (ys : List ℕ) → IsOrdered m f (xs ++ b ∷ ys) → IsOrdered m f (xs ++ ys)
ordered_without m f [] b ys o = o.1
ordered_without m f (x ∷ xs) b ys o = (after_without m f x xs b ys o.0, ordered_without m f xs b ys o.1)

pub removed_tree : (m n : Words) (t : Tree) (b : ℕ) (before after : List ℕ) → IsForm t.form → IsTree m t (before ++ b ∷ after) → Settled n t.context.at (before ++ after) →
    ChangesNodes m n t.context.at (before ++ b ∷ after) → IsTree n t (before ++ after)
removed_tree m n t b before after form h s changes =
    let xs = before ++ b ∷ after in
    let ys = before ++ after in
    let more = λ (y : ℕ) (i : In y ys). In-more y before b after i in
    let away = λ (y : ℕ) (i : In y ys). let r : y ≢ t.context.at = λ e. h.holds.distinct.0 (subst (λ (q : ℕ). In q xs) e (more y i)) in r in
    let distinct : IsDistinct (t.context.at ∷ ys) = (λ i. h.holds.distinct.0 (more t.context.at i), (IsDistinct-split before b after h.holds.distinct.1).0) in
    record {
      holds = held_same m n t.context.at xs ys h.holds changes.lengths more distinct;
      room = record {
        context = omega (arith, changes.lengths t.context.at, h.room.context);
        nodes = λ y i. holds_key_same m n t.form t.context.at xs y form changes (away y i) (h.room.nodes y (more y i));
      };
      lays = lays_of n t ys s (ordered_same m n t.form ys (λ y i. rank_same m n t.form t.context.at xs y form changes (away y i)) (ordered_without m t.form before b after h.lays.ordered));
    }
