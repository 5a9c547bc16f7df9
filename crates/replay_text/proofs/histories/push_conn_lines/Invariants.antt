use Rattle.std.proofs.Common.{◌≡◌, ◌+◌, ◌++◌, take}
use Rattle.replay_text.specs.ReplayText.{lines_from, conn_line}
use Rattle.replay_text.proofs.histories.push_conn_lines.Given as goal

abbrev pub invariant-loop-entry : goal.invariant-loop-entry
invariant-loop-entry l = record {
  placed : l.place ≡ l.entry-index + 1;
  grown : l.text.items ≡ l.initial.text.items ++ lines_from conn_line 1 (take l.entry-index l.entries);
}
