use Rattle.std.proofs.Common.{ap}
use Rattle.zonereplay.specs.Words.Command.{plain}
use Rattle.zonereplay.specs.Plan.{plan_for}
use Rattle.zonereplay.proofs.AnswerLemmas.{command_done}
use Rattle.zonereplay.proofs.WordLemmas.{plain_alone}
use Rattle.zonereplay.proofs.commands.plain_command.Goals as goal

pub returns : goal.returns
returns g c = command_done c.conclude.result (ap plan_for (plain_alone c.args.words.now (plain c.in-Some.name.now c.in-Some.log.now) c.in-Some.ensures)) c.code.ensures c.prepare_plain-prepared.ensures c.conclude.ensures
