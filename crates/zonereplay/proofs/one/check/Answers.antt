use Rattle.std.proofs.Common.{◌∙◌, ◌+◌, ◌<◌, ◌≤◌, ◌^◌, ℕ, Some, ap, arith, sym, subst, length, true}
use Rattle.req_zone.specs.declared.calls.ReqCall.TheVariants.{Check}
use Rattle.req_zone.specs.declared.calls.ReqReply.{ReqReply}
use Rattle.req_zone.specs.declared.state.ReqState.{ReqState}
use Rattle.req_zone.specs.Amount.{greatest_burst}
use Rattle.req_zone.specs.Object.{IsAsked, answer_of, zone_after}
use Rattle.zonereplay.specs.OneText.{delayed_excess}
use Rattle.zonereplay.specs.Checking.{HasAnswered}
use Rattle.zonereplay.proofs.OneLemmas.{answered_laid, answered_ready, answered_more, delayed_small, short_reply, short_after}
use Rattle.zonereplay.proofs.one.check.Goals as goal

pub apply_uncounted-requires : goal.apply_uncounted-requires
apply_uncounted-requires c =
    let a = c.requires.answered in
    let known = c.requires.known in
    let within = subst (λ (n : ℕ). n ≤ greatest_burst) known.1 known.2 in
    let limits = c.requires.limits in
    let asked : IsAsked c.args.line.key c.args.line.moment c.args.burst = record { named = (limits.1, omega (arith, c.if-len-gt-MOST_KEY.false, c.len.ensures)); early = limits.0; small = within } in
    (a.1, answered_laid c.args.zone.now a.0 a.1 a.2 a.3, answered_ready c.args.zone.now a.0 a.1 a.2 c.args.line.key c.args.line.moment c.args.burst a.3 a.4 asked)

pub returns-clause-bound : goal.returns-clause-bound
returns-clause-bound c =
    let a = c.requires.answered in
    let known = c.requires.known in
    let within = subst (λ (n : ℕ). n ≤ greatest_burst) known.1 known.2 in
    let limits = c.requires.limits in
    let asked : IsAsked c.args.line.key c.args.line.moment c.args.burst = record { named = (limits.1, omega (arith, c.if-len-gt-MOST_KEY.false, c.len.ensures)); early = limits.0; small = within } in
    let ready = answered_ready c.args.zone.now a.0 a.1 a.2 c.args.line.key c.args.line.moment c.args.burst a.3 a.4 asked in
    let is = c.apply_uncounted.ensures.reply a.1 (answered_laid c.args.zone.now a.0 a.1 a.2 a.3) ready in
    subst (λ (r : ReqReply). delayed_excess r < 2 ^ 52) (sym is) (delayed_small a.1 c.args.line.key c.args.line.moment c.args.burst ready)

pub returns-clause-reply : goal.returns-clause-reply
returns-clause-reply c job start s calls same h few =
    let known = c.requires.known in
    let within = subst (λ (n : ℕ). n ≤ greatest_burst) known.1 known.2 in
    let limits = c.requires.limits in
    let short : length c.args.line.key ≤ 65535 = omega (arith, c.if-len-gt-MOST_KEY.false, c.len.ensures) in
    let asked : IsAsked c.args.line.key c.args.line.moment c.args.burst = record { named = (limits.1, omega (arith, short)); early = limits.0; small = within } in
    let ready = answered_ready c.args.zone.now start s calls c.args.line.key c.args.line.moment c.args.burst h few asked in
    let is = c.apply_uncounted.ensures.reply s (answered_laid c.args.zone.now start s calls h) ready in
    ap Some (is ∙ ap (λ (b : ℕ). answer_of s (Check c.args.line.key c.args.line.moment b true)) (sym same)) ∙ sym (short_reply job s c.args.line short)

pub returns-clause-answered : goal.returns-clause-answered
returns-clause-answered c job start s calls same h few =
    let known = c.requires.known in
    let within = subst (λ (n : ℕ). n ≤ greatest_burst) known.1 known.2 in
    let limits = c.requires.limits in
    let short : length c.args.line.key ≤ 65535 = omega (arith, c.if-len-gt-MOST_KEY.false, c.len.ensures) in
    let asked : IsAsked c.args.line.key c.args.line.moment c.args.burst = record { named = (limits.1, omega (arith, short)); early = limits.0; small = within } in
    let ready = answered_ready c.args.zone.now start s calls c.args.line.key c.args.line.moment c.args.burst h few asked in
    let laid = c.apply_uncounted.ensures.laid s (answered_laid c.args.zone.now start s calls h) ready in
    let more = answered_more c.args.zone.now c.apply_uncounted.new.object start s calls c.args.line.key c.args.line.moment c.args.burst h few asked laid in
    let is = ap (λ (b : ℕ). zone_after s (Check c.args.line.key c.args.line.moment b true)) (sym same) ∙ sym (short_after job s c.args.line short) in
    subst (λ (t : ReqState). HasAnswered c.apply_uncounted.new.object start (calls + 1) t) is more
