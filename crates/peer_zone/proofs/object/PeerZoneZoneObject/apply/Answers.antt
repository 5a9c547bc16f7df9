use Rattle.std.proofs.Common.{sym, subst}
use Rattle.peer_zone.specs.declared.words.PeerWords.{PeerWords}
use Rattle.peer_zone.specs.Object.{zone_after}
use Rattle.peer_zone.specs.Lays.{Lays}
use Rattle.peer_zone.proofs.object.PeerZoneZoneObject.apply.Goals as goal

pub answer-requires : goal.answer-requires
answer-requires g c = let r = c.requires in (r.0, subst (λ (z : PeerWords). Lays z r.0) (sym c.self.view_is) r.1, r.2)

pub invariant_of-self : goal.invariant_of-self
invariant_of-self g c = let r = c.requires in (zone_after r.0 c.args.call.now, c.answer.ensures.laid r.0 (subst (λ (z : PeerWords). Lays z r.0) (sym c.self.view_is) r.1) r.2)

pub returns-clause-reply : goal.returns-clause-reply
returns-clause-reply g c s l r = c.answer.ensures.reply s (subst (λ (z : PeerWords). Lays z s) (sym c.self.view_is) l) r

pub returns-clause-laid : goal.returns-clause-laid
returns-clause-laid g c s l r = c.answer.ensures.laid s (subst (λ (z : PeerWords). Lays z s) (sym c.self.view_is) l) r

pub returns-clause-cost : goal.returns-clause-cost
returns-clause-cost g c s l r = c.answer.ensures.cost s (subst (λ (z : PeerWords). Lays z s) (sym c.self.view_is) l) r
