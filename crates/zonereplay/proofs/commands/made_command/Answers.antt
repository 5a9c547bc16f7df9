use Rattle.std.proofs.Common.{[], ap, refl}
use Rattle.made_log.specs.MadeConfig.{made_config}
use Rattle.made_log.specs.MadeLog.{made_lines}
use Rattle.zonereplay.specs.Told.Told.{summary}
use Rattle.zonereplay.specs.Words.Command.{made}
use Rattle.zonereplay.specs.Plan.{plan_for}
use Rattle.zonereplay.specs.Devices.{Devices}
use Rattle.zonereplay.proofs.AnswerLemmas.{command_done, writes_statuses}
use Rattle.zonereplay.proofs.WordLemmas.{made_alone}
use Rattle.zonereplay.proofs.commands.made_command.Goals as goal

pub returns-clause-does : goal.returns-clause-does
returns-clause-does g c =
    command_done c.conclude.result (ap plan_for (made_alone c.args.words.now (made c.in-Some.seed c.in-Some.lines) c.in-Some.ensures.asked)) c.code.ensures (c.prepare_made-prepared.ensures _ _) c.conclude.ensures

-- whoever watches
pub returns-clause-statuses : goal.returns-clause-statuses
returns-clause-statuses g c =
    let before : Devices = record {
      files = record { contents = g.F.Shelf.contents c.args._files.now; faults = g.F.Shelf.faults c.args._files.now };
      out = record { text = g.O.Sink.taken c.args.out.now; faults = g.O.Sink.faults c.args.out.now };
      err = record { text = g.E.Sink.taken c.args.err.now; faults = g.E.Sink.faults c.args.err.now };
      watchers = [];
    } in
    let after : Devices = record {
      files = before.files;
      out = record { text = g.O.Sink.taken c.conclude.new.out; faults = g.O.Sink.faults c.conclude.new.out };
      err = record { text = g.E.Sink.taken c.conclude.new.err; faults = g.E.Sink.faults c.conclude.new.err };
      watchers = [];
    } in
    writes_statuses (summary made_config (made_lines c.in-Some.seed c.in-Some.lines)) before after c.code.result (command_done c.conclude.result refl c.code.ensures (c.prepare_made-prepared.ensures before.files []) c.conclude.ensures)
