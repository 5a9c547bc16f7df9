-- An object begins at one state, and its words lay out the states that it lays out.
use Rattle.std.proofs.Common.{◌≡◌, sym, subst, ◌∙◌}
use Rattle.slab_model.specs.declared.shape.Shape.{Shape}
use Rattle.conn_zone.specs.declared.state.ConnState.{ConnState}
use Rattle.conn_zone.specs.Object.{IsOpened}
use Rattle.conn_zone.specs.Layout.{Zone, Lays, LaysZone, LaysWords}
use Rattle.conn_zone.specs.ObjectLaws.{start-law}

pub one_start-law : (zone : Zone) (s t : ConnState) → Lays zone s → Lays zone t → IsOpened s → IsOpened t → s ≡ t
one_start-law zone s t a b p q = start-law s t p q (a.name_is ∙ sym b.name_is) (a.laid.words.zone.slab.shape_is ∙ sym b.laid.words.zone.slab.shape_is)

pub words-law : (zone : Zone) (s : ConnState) → Lays zone s → LaysWords zone.image.words s
words-law zone s l = subst (λ (shape : Shape). LaysZone (record { shape = shape; words = zone.image.words }) s) (sym l.laid.words.zone.slab.shape_is) l.laid.words.zone
