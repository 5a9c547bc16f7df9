use Rattle.std.proofs.Common.{ℕ, ◌≡◌, ◌+◌, sym, ap, ◌∙◌, arith}
use Rattle.offset_tree.specs.Keys.{rank_cmp, rank_of}
use Rattle.offset_tree.proofs.SearchLemmas.{sought_start, sought_left, sought_right, sought_here, sought_room, search_none, found_at, tree_height, search_bound}
use Rattle.offset_tree.proofs.BoundLemmas.{searched}
use Rattle.offset_tree.proofs.Drawing.{drawn, ends_of}
use Rattle.offset_tree.proofs.tree.Tree.find.Goals as goal
use Rattle.offset_tree.proofs.tree.Tree.find.Goals.{in-Less, in-Greater}

pub loop-round-init : goal.loop-round-init
loop-round-init g c = λ xs h. sought_start _ _ _ xs _ _ _ _ h c.word-at.ensures.value c.word-at.ensures.cost

pub returns-then-at-nil-clause-found : goal.returns-then-at-nil-clause-found
returns-then-at-nil-clause-found g c = λ xs h. search_none _ _ _ xs _ _ (c.loop-round.invariant xs (drawn _ _ xs h)).search (c.if-at-nil.true ∙ c.sentinel-nil.ensures)

pub returns-then-at-nil-clause-cost : goal.returns-then-at-nil-clause-cost
returns-then-at-nil-clause-cost g c = λ xs h.
    let d = drawn _ _ xs h in
    searched _ _ d.settled.height _ _ (tree_height _ _ xs d) (omega (arith, (c.loop-round.invariant xs d).paid))

pub compare_at-requires-clause-room : goal.compare_at-requires-clause-room
compare_at-requires-clause-room g c = sought_room _ _ _ c.requires.there.0 _ _ (drawn _ _ _ c.requires.there.1) (c.loop-round.invariant _ (drawn _ _ _ c.requires.there.1)).search (λ e. c.if-at-nil.false (e ∙ sym c.sentinel-nil.ensures))

pub word-at-requires-in-Less : goal.word-at-requires-in-Less
word-at-requires-in-Less g c =
    let room = (sought_room _ _ _ c.requires.there.0 _ _ (drawn _ _ _ c.requires.there.1) (c.loop-round.invariant _ (drawn _ _ _ c.requires.there.1)).search (λ e. c.if-at-nil.false (e ∙ sym c.sentinel-nil.ensures))).links in
    omega (arith, room)

pub word-at-requires-in-Greater : goal.word-at-requires-in-Greater
word-at-requires-in-Greater g c =
    let room = (sought_room _ _ _ c.requires.there.0 _ _ (drawn _ _ _ c.requires.there.1) (c.loop-round.invariant _ (drawn _ _ _ c.requires.there.1)).search (λ e. c.if-at-nil.false (e ∙ sym c.sentinel-nil.ensures))).links in
    omega (arith, room)

pub returns-in-Equal-clause-found : goal.returns-in-Equal-clause-found
returns-in-Equal-clause-found g c = λ xs h. found_at _ _ _ xs _ _ (c.loop-round.invariant xs (drawn _ _ xs h)).search (λ e. c.if-at-nil.false (e ∙ sym c.sentinel-nil.ensures)) (ap (λ (z : ℕ). rank_cmp (z, c.args.key.now) (rank_of (g.B.Blocks.words c.args.blocks.now) c.args.self.now.form c.loop-round.at)) (sym c.from.ensures) ∙ sym c.in-Equal.ensures.order)

pub returns-in-Equal-clause-cost : goal.returns-in-Equal-clause-cost
returns-in-Equal-clause-cost g c = λ xs h.
    let d = drawn _ _ xs h in
    searched _ _ d.settled.height _ _ (tree_height _ _ xs d)
    (sought_here _ _ _ _ _ _ _ _ _ _ _ (c.loop-round.invariant xs d) (λ e. c.if-at-nil.false (e ∙ sym c.sentinel-nil.ensures)) (omega (arith, c.in-Equal.ensures.cost)))

pub loop-round-preserved : goal.loop-round-preserved
loop-round-preserved g c = λ xs h.
    let m = g.B.Blocks.words c.args.blocks.now in
    let live = λ (e : c.loop-round.at ≡ c.args.self.now.context.at + 24). c.if-at-nil.false (e ∙ sym c.sentinel-nil.ensures) in
    let hashed = ap (λ (z : ℕ). rank_cmp (z, c.args.key.now) (rank_of m c.args.self.now.form c.loop-round.at)) (sym c.from.ensures) in
    elim c.match-compare_at.branch [
      | in-Less w ↦ sought_left m _ _ _ _ _ _ _ _ _ _ _ (c.loop-round.invariant xs h) live (hashed ∙ sym w.in-Less.ensures.order) (w.at-is ∙ w.word-at-in-Less.ensures.value) (omega (arith, w.in-Less.ensures.cost, w.word-at-in-Less.ensures.cost, w.steps-is))
      | in-Greater w ↦ sought_right m _ _ _ _ _ _ _ _ _ _ _ (c.loop-round.invariant xs h) live (hashed ∙ sym w.in-Greater.ensures.order) (w.at-is ∙ w.word-at-in-Greater.ensures.value) (omega (arith, w.in-Greater.ensures.cost, w.word-at-in-Greater.ensures.cost, w.steps-is))
    ]

pub unreachable-requires : goal.unreachable-requires
unreachable-requires g c = omega (arith, search_bound _ _ _ _ _ _ (c.loop-round.invariant _ (drawn _ _ _ c.requires.there.1)).search)

pub sentinel-nil-requires : goal.sentinel-nil-requires
sentinel-nil-requires g c = ends_of _ _ _ c.requires.there.1.holds c.requires.there.1.room

pub word-at-requires : goal.word-at-requires
word-at-requires g c = let h = c.requires.there.1.room.context in omega (arith, h)
