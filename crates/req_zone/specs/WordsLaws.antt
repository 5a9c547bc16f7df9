-- What the words of a request zone tell of its state.
use Rattle.std.proofs.Common.{◌≡◌, List, refl, sym, ap, subst, ◌∙◌}
use Rattle.slab_model.specs.declared.shape.Shape.{Shape}
use Rattle.slab_pages.specs.Places.{Image}
use Rattle.req_zone.specs.declared.words.ReqWords.{ReqWords}
use Rattle.req_zone.specs.declared.state.ReqState.{ReqState}
use Rattle.req_zone.specs.Object.{IsOpened}
use Rattle.req_zone.specs.Words.{LaysReq, LaysImage}
use Rattle.req_zone.specs.Lays.{Lays}
use Rattle.req_zone.specs.Proving.Fresh.{start-law}

-- two opened states that one zone lays out are equal
pub one_start-law : (z : ReqWords) (s t : ReqState) → Lays z s → Lays z t → IsOpened s → IsOpened t → s ≡ t
one_start-law z s t a b p q = start-law s t p q (sym a.rate_is ∙ b.rate_is) (sym a.name_is ∙ b.name_is) (a.words.slab.shape_is ∙ sym b.words.slab.shape_is)

-- the words of a zone lay out each state that the zone lays out
pub image-law : (z : ReqWords) (s : ReqState) → Lays z s → LaysImage z.pool.words s
image-law z s l = subst (λ (shape : Shape). LaysReq (record { shape = shape; words = z.pool.words }) s) (sym l.words.slab.shape_is) l.words
