use Rattle.std.proofs.Common.{arith}
use Rattle.replay_text.specs.ReplayText.{req_line}
use Rattle.replay_text.proofs.TextLemmas.{lines-grow}
use Rattle.replay_text.proofs.histories.push_req_lines.Goals as goal

pub loop-entry-preserved : goal.loop-entry-preserved
loop-entry-preserved c = record {
  placed = omega arith;
  grown = lines-grow req_line c.args.text.now.items c.loop-entry.text.items c.push_req_entry.new.text.items c.args.entries.now c.loop-entry.entry-index c.loop-entry.place c.entry-item.result c.entry-item.result
      (omega arith) c.entry-item.is c.loop-entry.invariant.placed c.loop-entry.invariant.grown c.in_ok-push_req_entry.ensures;
}
