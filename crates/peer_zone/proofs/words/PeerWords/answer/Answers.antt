use Rattle.std.proofs.Common.{◌≡◌, sym, subst}
use Rattle.peer_zone.specs.declared.calls.PeerCall.{PeerCall}
use Rattle.peer_zone.specs.Object.{answer_of, zone_after, Ready}
use Rattle.peer_zone.specs.Lays.{Lays}
use Rattle.peer_zone.proofs.words.PeerWords.answer.Goals as goal

pub returns-in-Choose-clause-reply : goal.returns-in-Choose-clause-reply
returns-in-Choose-clause-reply g c = λ s l ready. subst (λ (x : PeerCall). Ready s x → c.choose.result ≡ answer_of s x) (sym c.in-Choose.is) (λ h. c.choose.ensures.reply s l h) ready

pub returns-in-Choose-clause-laid : goal.returns-in-Choose-clause-laid
returns-in-Choose-clause-laid g c = λ s l ready. subst (λ (x : PeerCall). Ready s x → Lays c.choose.new.self (zone_after s x)) (sym c.in-Choose.is) (λ h. c.choose.ensures.laid s l h) ready

pub returns-in-Free-clause-reply : goal.returns-in-Free-clause-reply
returns-in-Free-clause-reply g c = λ s l ready. subst (λ (x : PeerCall). Ready s x → c.free.result ≡ answer_of s x) (sym c.in-Free.is) (λ h. c.free.ensures.reply s) ready

pub returns-in-Free-clause-laid : goal.returns-in-Free-clause-laid
returns-in-Free-clause-laid g c = λ s l ready. subst (λ (x : PeerCall). Ready s x → Lays c.free.new.self (zone_after s x)) (sym c.in-Free.is) (λ h. c.free.ensures.laid s l h) ready
