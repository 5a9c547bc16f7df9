use Rattle.std.proofs.Common.{ℕ, ◌≡◌, ◌+◌, ◌<◌, ◌^◌, ◌++◌, List, Result, length, refl, subst, arith}
use Rattle.std.proofs.lemmas.Bool.Decides.{nat_tests}
use Rattle.replay_log.specs.declared.keys.KeyLine.{KeyLine}
use Rattle.replay_log.specs.Lines.{Fault, parts, lines_from}
use Rattle.replay_log.specs.Keys.{key_line, keys_of}
use Rattle.replay_log.proofs.LineLemmas.{next_lines}
use Rattle.zonereplay.specs.Jobs.{asked}
use Rattle.zonereplay.specs.OneText.{zone_of, after_key, key_line as line_of}
use Rattle.zonereplay.proofs.OneLemmas.{Leads, opened_answered, answered_still, leads_first, leads_more, leads_end}
use Rattle.zonereplay.proofs.one.text_of.Goals as goal

pub loop-rest-init : goal.loop-rest-init
loop-rest-init c =
    let job = asked c.args.job in
    let start = zone_of job in
    let zone = c.in-Ok.ensures in
    record {
      counted = omega arith;
      answered = (start, answered_still c.in-Ok.zone start start 0 (opened_answered c.in-Ok.zone start zone.1 zone.0), rw c.in_ok-text.ensures.items (leads_first job (keys_of c.args.log.now)));
    }

pub check-reply-requires-clause-known : goal.check-reply-requires-clause-known
check-reply-requires-clause-known c = (asked c.args.job, refl, c.args.job.burst_in_limits)

pub loop-rest-preserved : goal.loop-rest-preserved
loop-rest-preserved c =
    let a = c.loop-rest.invariant.answered in
    let job = asked c.args.job in
    let start = zone_of job in
    let said = keys_of c.args.log.now in
    let n = c.loop-rest.number in
    let line = c.in_ok-line.line in
    let tail = c.in_ok-line.tail.now in
    let left = lines_from key_line (n + 1) (parts 10 tail) in
    let counts = c.in_ok-line.ensures.value.counts in
    let below : n + 1 < 2 ^ 32 = omega (arith, counts) in
    let was = subst (λ (of : Result (List KeyLine) Fault). Leads job said n a.0 of c.loop-rest.text.items) (next_lines key_line n c.loop-rest.rest.now line tail c.in_ok-line.ensures.value) a.2 in
    let pushed = subst (λ (k : ℕ). c.push_line.new.text.items ≡ c.loop-rest.text.items ++ line_of k job.rate c.check-reply.result) c.from.ensures c.in_ok-push_line.ensures in
    record {
      counted = omega (arith, counts);
      answered = (
        after_key job a.0 line,
        c.check-reply.ensures.answered job start a.0 n refl a.1 below,
        leads_more job said n a.0 line left c.loop-rest.text.items c.push_line.new.text.items c.check-reply.result was (c.check-reply.ensures.reply job start a.0 n refl a.1 below) pushed,
      );
    }

pub returns : goal.returns
returns c =
    let a = c.loop-rest.invariant.answered in
    let none : length c.loop-rest.rest.now ≡ 0 = first_of (grind (arith, c.loop-rest-test.false, c.is_empty.ensures), grind (arith, nat_tests, c.loop-rest-test.false, c.is_empty.ensures)) in
    rw c.from_vec.ensures (leads_end (asked c.args.job) c.args.log.now c.loop-rest.number a.0 c.loop-rest.rest.now c.loop-rest.text.items none a.2)
