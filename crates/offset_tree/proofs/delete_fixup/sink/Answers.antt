use Rattle.std.proofs.Common.{sym, ◌∙◌, refl}
use Rattle.offset_tree.proofs.Frames.{nodes_changed, nodes_changed_twice}
use Rattle.offset_tree.proofs.DeleteFixup.BlackSibling.{sink_spots}
use Rattle.offset_tree.proofs.DeleteFixup.Children.{sink_high}
use Rattle.offset_tree.proofs.delete_fixup.sink.Goals as goal

pub recolour-requires : goal.recolour-requires
recolour-requires g c = let a = sink_spots _ _ _ _ _ _ _ c.requires.there.2 c.requires.there.3 c.requires.there.4 in (a.0, a.1)

pub is_red-requires-clause-live : goal.is_red-requires-clause-live
is_red-requires-clause-live g c = λ _.
    let a = sink_spots _ _ _ _ _ _ _ c.requires.there.2 c.requires.there.3 c.requires.there.4 in
    (a.3 _ (c.recolour.ensures.shape a.0 a.1)).1

pub recolour-requires-then-is_red : goal.recolour-requires-then-is_red
recolour-requires-then-is_red g c =
    let a = sink_spots _ _ _ _ _ _ _ c.requires.there.2 c.requires.there.3 c.requires.there.4 in
    let b = a.3 _ (c.recolour.ensures.shape a.0 a.1) in
    let d = b.2 (sym b.0 ∙ sym c.if-is_red.ensures.value) in (d.0, d.1)

pub returns-then-is_red-clause-goes_on : goal.returns-then-is_red-clause-goes_on
returns-then-is_red-clause-goes_on g c = λ xs depth r near outer.
    let a = sink_spots _ _ _ _ _ _ _ r near outer in
    let b = a.3 _ (c.recolour.ensures.shape a.0 a.1) in
    let d = b.2 (sym b.0 ∙ sym c.if-is_red.ensures.value) in
    d.3 _ (c.recolour-then-is_red.ensures.shape d.0 d.1)

pub returns-then-is_red-clause-changes : goal.returns-then-is_red-clause-changes
returns-then-is_red-clause-changes g c = λ xs depth r near outer.
    let a = sink_spots _ _ _ _ _ _ _ r near outer in
    let b = a.3 _ (c.recolour.ensures.shape a.0 a.1) in
    let d = b.2 (sym b.0 ∙ sym c.if-is_red.ensures.value) in
    nodes_changed_twice _ _ _ _ _ (nodes_changed _ _ _ _ _ a.2 (c.recolour.ensures.changes a.0 a.1)) (nodes_changed _ _ _ _ _ d.2 (c.recolour-then-is_red.ensures.changes d.0 d.1))

pub parent-g-requires : goal.parent-g-requires
parent-g-requires g c =
    let a = sink_spots _ _ _ _ _ _ _ c.requires.there.2 c.requires.there.3 c.requires.there.4 in
    (a.3 _ (c.recolour.ensures.shape a.0 a.1)).1

pub returns-then-g-eq0-clause-goes_on : goal.returns-then-g-eq0-clause-goes_on
returns-then-g-eq0-clause-goes_on g c = λ xs depth r near outer.
    let a = sink_spots _ _ _ _ _ _ _ r near outer in
    let b = a.3 _ (c.recolour.ensures.shape a.0 a.1) in
    let d = b.4 (sym b.0 ∙ sym c.if-is_red.ensures.value) in
    (d.0, d.1, d.2 0 _ (sym c.if-g-eq0.true ∙ c.parent-g.ensures.value) (λ ne. absurd (ne refl)))

pub returns-then-g-eq0-clause-changes : goal.returns-then-g-eq0-clause-changes
returns-then-g-eq0-clause-changes g c = λ xs depth r near outer.
    let a = sink_spots _ _ _ _ _ _ _ r near outer in nodes_changed _ _ _ _ _ a.2 (c.recolour.ensures.changes a.0 a.1)

pub side_of-above-requires : goal.side_of-above-requires
side_of-above-requires g c =
    let a = sink_spots _ _ _ _ _ _ _ c.requires.there.2 c.requires.there.3 c.requires.there.4 in
    let b = a.3 _ (c.recolour.ensures.shape a.0 a.1) in
    sink_high (g.B.Blocks.words c.recolour.new.blocks) _ _ c.parent-g.ensures.value c.if-g-eq0.false b.3

pub returns-clause-goes_on : goal.returns-clause-goes_on
returns-clause-goes_on g c = λ xs depth r near outer.
    let a = sink_spots _ _ _ _ _ _ _ r near outer in
    let b = a.3 _ (c.recolour.ensures.shape a.0 a.1) in
    let d = b.4 (sym b.0 ∙ sym c.if-is_red.ensures.value) in
    (d.0, d.1, d.2 _ _ c.parent-g.ensures.value (λ _. c.side_of-above.ensures.value))

pub returns-clause-changes : goal.returns-clause-changes
returns-clause-changes g c = λ xs depth r near outer.
    let a = sink_spots _ _ _ _ _ _ _ r near outer in nodes_changed _ _ _ _ _ a.2 (c.recolour.ensures.changes a.0 a.1)
