use Rattle.std.proofs.Common.{◌≡◌, sym, subst}
use Rattle.req_zone.specs.declared.calls.ReqCall.{ReqCall}
use Rattle.req_zone.specs.Object.{Ready, answer_of}
use Rattle.req_zone.proofs.words.ReqWords.answer.Goals as goal

pub returns-in-Check-clause-reply : goal.returns-in-Check-clause-reply
returns-in-Check-clause-reply g c = λ s l ready. subst (λ (call : ReqCall). c.check.result ≡ answer_of s call) (sym c.in-Check.is) (c.check.ensures.reply s l)

pub returns-in-Account-clause-reply : goal.returns-in-Account-clause-reply
returns-in-Account-clause-reply g c = λ s l ready. subst (λ (call : ReqCall). c.account.result ≡ answer_of s call) (sym c.in-Account.is) (c.account.ensures.reply s l (subst (λ (call : ReqCall). Ready s call) c.in-Account.is ready))

pub returns-in-Release-clause-reply : goal.returns-in-Release-clause-reply
returns-in-Release-clause-reply g c = λ s l ready. subst (λ (call : ReqCall). c.release.result ≡ answer_of s call) (sym c.in-Release.is) (c.release.ensures.reply s l (subst (λ (call : ReqCall). Ready s call) c.in-Release.is ready))
