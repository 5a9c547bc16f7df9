use Rattle.std.proofs.Common.{Option, ap}
use Rattle.zonereplay.specs.Words.{Command, first_form, check_of, plain_of, image_of, made_of, replay_of}
use Rattle.zonereplay.specs.Plan.{plan_for}
use Rattle.zonereplay.proofs.AnswerLemmas.{command_done}
use Rattle.zonereplay.proofs.commands.one_command.Goals as goal

pub returns : goal.returns
returns g c =
    let words = c.args.words.now in
    let others = first_form (check_of words) (first_form (plain_of words) (first_form (image_of words) (first_form (made_of words) (replay_of words)))) in
    command_done c.conclude.result (ap (λ (o : Option Command). plan_for (first_form o others)) c.in-Some.ensures) c.code.ensures (c.prepare_one-prepared.ensures _) c.conclude.ensures
