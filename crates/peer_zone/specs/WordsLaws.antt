-- What the words of an upstream's zone tell of its state.
use Rattle.std.proofs.Common.{◌≡◌, sym, subst, ◌∙◌}
use Rattle.slab_model.specs.declared.shape.Shape.{Shape}
use Rattle.peer_zone.specs.declared.words.PeerWords.{PeerWords}
use Rattle.peer_zone.specs.declared.state.PeerState.{PeerState}
use Rattle.peer_zone.specs.Opening.{IsOpened}
use Rattle.peer_zone.specs.ObjectLaws.{start-law}
use Rattle.peer_zone.specs.Layout.{LaysPeers, LaysImage}
use Rattle.peer_zone.specs.Lays.{Lays}

-- two opened states that one zone lays out are equal
pub one_start-law : (z : PeerWords) (s t : PeerState) → Lays z s → Lays z t → IsOpened s → IsOpened t → s ≡ t
one_start-law z s t a b p q = start-law s t p q (a.spec_is ∙ sym b.spec_is)

-- the words of a zone lay out each state that the zone lays out
pub image-law : (z : PeerWords) (s : PeerState) → Lays z s → LaysImage z.pool.words s
image-law z s l = subst (λ (shape : Shape). LaysPeers (record { shape = shape; words = z.pool.words }) s) (sym l.words.pool.shape_is) l.words
