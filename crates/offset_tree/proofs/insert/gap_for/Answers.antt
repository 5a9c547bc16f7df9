use Rattle.std.proofs.Common.{◌≡◌, ◌+◌, sym, ◌∙◌, arith}
use Rattle.offset_tree.proofs.SearchLemmas.{sought_start, sought_left, sought_right, sought_room, found_at, tree_height, search_bound}
use Rattle.offset_tree.proofs.InsertLemmas.{descend_start, descend_left, descend_right, descend_under, opening_at}
use Rattle.offset_tree.proofs.BoundLemmas.{searched}
use Rattle.offset_tree.proofs.insert.gap_for.Goals as goal
use Rattle.offset_tree.proofs.insert.gap_for.Goals.{in-Less, in-Greater}

pub loop-round-init : goal.loop-round-init
loop-round-init g c = record {
  sought = λ xs h. sought_start _ _ _ xs _ _ _ _ h c.word-at.ensures.value c.word-at.ensures.cost;
  descending = λ xs h. descend_start _ _ _ xs h _ _ c.word-at.ensures.value;
}

pub returns-then-at-nil-clause-opening : goal.returns-then-at-nil-clause-opening
returns-then-at-nil-clause-opening g c = λ xs h. opening_at _ _ _ xs h _ _ _ (c.loop-round.invariant.descending xs h) (c.if-at-nil.true ∙ c.sentinel-nil.ensures)

pub returns-then-at-nil-clause-cost : goal.returns-then-at-nil-clause-cost
returns-then-at-nil-clause-cost g c = λ xs h. searched _ _ h.settled.height _ _ (tree_height _ _ xs h) (omega (arith, (c.loop-round.invariant.sought xs h).paid))

pub compare_at-requires-clause-room : goal.compare_at-requires-clause-room
compare_at-requires-clause-room g c = sought_room _ _ _ c.requires.there.0 _ _ c.requires.there.1 (c.loop-round.invariant.sought _ c.requires.there.1).search (λ e. c.if-at-nil.false (e ∙ sym c.sentinel-nil.ensures))

pub word-at-requires-in-Less : goal.word-at-requires-in-Less
word-at-requires-in-Less g c =
    let room = (sought_room _ _ _ c.requires.there.0 _ _ c.requires.there.1 (c.loop-round.invariant.sought _ c.requires.there.1).search (λ e. c.if-at-nil.false (e ∙ sym c.sentinel-nil.ensures))).links in
    omega (arith, room)

pub word-at-requires-in-Greater : goal.word-at-requires-in-Greater
word-at-requires-in-Greater g c =
    let room = (sought_room _ _ _ c.requires.there.0 _ _ c.requires.there.1 (c.loop-round.invariant.sought _ c.requires.there.1).search (λ e. c.if-at-nil.false (e ∙ sym c.sentinel-nil.ensures))).links in
    omega (arith, room)

pub unreachable-requires : goal.unreachable-requires
unreachable-requires g c =
    let f = found_at _ _ _ c.requires.there.0 _ _ (c.loop-round.invariant.sought _ c.requires.there.1).search (λ e. c.if-at-nil.false (e ∙ sym c.sentinel-nil.ensures)) (sym c.in-Equal.ensures.order) in
    c.requires.there.2 _ f.0 f.1

pub loop-round-preserved : goal.loop-round-preserved
loop-round-preserved g c =
    let m = g.B.Blocks.words c.args.blocks.now in
    let live = λ (e : c.loop-round.at ≡ c.args.t.now.context.at + 24). c.if-at-nil.false (e ∙ sym c.sentinel-nil.ensures) in
    record {
      sought = λ xs h. elim c.match-compare_at.branch [
        | in-Less w ↦ sought_left m _ _ _ _ _ _ _ _ _ _ _ (c.loop-round.invariant.sought xs h) live (sym w.in-Less.ensures.order) (w.at-is ∙ w.word-at-in-Less.ensures.value) (omega (arith, w.in-Less.ensures.cost, w.word-at-in-Less.ensures.cost, w.steps-is))
        | in-Greater w ↦ sought_right m _ _ _ _ _ _ _ _ _ _ _ (c.loop-round.invariant.sought xs h) live (sym w.in-Greater.ensures.order) (w.at-is ∙ w.word-at-in-Greater.ensures.value) (omega (arith, w.in-Greater.ensures.cost, w.word-at-in-Greater.ensures.cost, w.steps-is))
      ];
      descending = λ xs h. elim c.match-compare_at.branch [
        | in-Less w ↦ descend_under m _ _ _ _ _ _ _ _ w.parent-is (descend_left m _ _ xs _ _ _ _ _ _ (c.loop-round.invariant.descending xs h) live (sym w.in-Less.ensures.order) (w.at-is ∙ w.word-at-in-Less.ensures.value) w.side-is)
        | in-Greater w ↦ descend_under m _ _ _ _ _ _ _ _ w.parent-is (descend_right m _ _ xs _ _ _ _ _ _ (c.loop-round.invariant.descending xs h) live (sym w.in-Greater.ensures.order) (w.at-is ∙ w.word-at-in-Greater.ensures.value) w.side-is)
      ];
    }

pub unreachable-requires-2 : goal.unreachable-requires-2
unreachable-requires-2 g c = omega (arith, search_bound _ _ _ _ _ _ (c.loop-round.invariant.sought _ c.requires.there.1).search)
