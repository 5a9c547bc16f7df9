use Rattle.std.proofs.Common.{ap, refl, sym, ◌∙◌}
use Rattle.zonereplay.specs.Plan.{plan_for}
use Rattle.zonereplay.proofs.AnswerLemmas.{usage_done}
use Rattle.zonereplay.proofs.WordLemmas.{no_form, not_there}
use Rattle.zonereplay.proofs.run.run.Goals as goal

pub returns-clause-does : goal.returns-clause-does
returns-clause-does g c =
    let one = not_there c.read_one.result _ _ c.read_one.ensures (sym c.is_some.ensures ∙ c.if-is_some.false) in
    let check = not_there c.read_check.result _ _ c.read_check.ensures (sym c.is_some-2.ensures ∙ c.if-is_some-2.false) in
    let plain = not_there c.read_plain.result _ _ c.read_plain.ensures (sym c.is_some-3.ensures ∙ c.if-is_some-3.false) in
    let image = not_there c.read_image.result _ _ c.read_image.ensures (sym c.is_some-4.ensures ∙ c.if-is_some-4.false) in
    let made = not_there c.read_made.result _ _ c.read_made.ensures.asked (sym c.is_some-5.ensures ∙ c.if-is_some-5.false) in
    let replay = not_there c.read_replay.result _ _ c.read_replay.ensures (sym c.is_some-6.ensures ∙ c.if-is_some-6.false) in
    usage_done c.tell_stop.result (ap plan_for (no_form c.args.words.now one check plain image made replay)) c.code.ensures refl refl refl c.tell_stop.ensures
