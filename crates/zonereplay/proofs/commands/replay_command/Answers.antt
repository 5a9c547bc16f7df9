use Rattle.std.proofs.Common.{ap}
use Rattle.zonereplay.specs.Words.Command.{replay}
use Rattle.zonereplay.specs.Plan.{plan_for}
use Rattle.zonereplay.proofs.AnswerLemmas.{command_done}
use Rattle.zonereplay.proofs.WordLemmas.{replay_alone}
use Rattle.zonereplay.proofs.commands.replay_command.Goals as goal

pub returns : goal.returns
returns g c = command_done c.conclude.result (ap plan_for (replay_alone c.args.words.now (replay c.in-Some.name.now c.in-Some.log.now c.in-Some.job.workers c.in-Some.job.words) c.in-Some.ensures)) c.code.ensures c.prepare_replay-prepared.ensures c.conclude.ensures
