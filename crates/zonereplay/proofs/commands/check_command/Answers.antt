use Rattle.std.proofs.Common.{ap}
use Rattle.zonereplay.specs.Words.Command.{check}
use Rattle.zonereplay.specs.Plan.{plan_for}
use Rattle.zonereplay.proofs.AnswerLemmas.{command_done}
use Rattle.zonereplay.proofs.WordLemmas.{check_alone}
use Rattle.zonereplay.proofs.commands.check_command.Goals as goal

pub returns : goal.returns
returns g c = command_done c.conclude.result (ap plan_for (check_alone c.args.words.now (check c.in-Some.name.now) c.in-Some.ensures)) c.code.ensures (c.prepare_check-prepared.ensures _) c.conclude.ensures
