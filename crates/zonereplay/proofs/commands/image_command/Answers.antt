use Rattle.std.proofs.Common.{ap}
use Rattle.zonereplay.specs.Words.Command.{image}
use Rattle.zonereplay.specs.Plan.{plan_for}
use Rattle.zonereplay.proofs.AnswerLemmas.{command_done}
use Rattle.zonereplay.proofs.WordLemmas.{image_alone}
use Rattle.zonereplay.proofs.commands.image_command.Goals as goal

pub returns : goal.returns
returns g c = command_done c.conclude.result (ap plan_for (image_alone c.args.words.now (image c.in-Some.name.now c.in-Some.log.now c.in-Some.zone.now) c.in-Some.ensures)) c.code.ensures c.prepare_image-prepared.ensures c.conclude.ensures
