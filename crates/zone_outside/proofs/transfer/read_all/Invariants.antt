-- What was taken is the text so far, no read has failed, and the text has at most `limit` bytes.
use Rattle.std.proofs.Common.{◌≡◌, ◌-◌, ◌≤◌, vec_len}
use Rattle.std.specs.Io.KnownBytes.{Consumes}
use Rattle.zone_outside.proofs.transfer.read_all.Given as goal

abbrev pub invariant-loop-text : goal.invariant-loop-text
invariant-loop-text g l = record {
  named : g.R.Source.name l.source ≡ g.R.Source.name l.initial.source;
  calm : g.R.Source.faults l.source ≡ g.R.Source.faults l.initial.source;
  within : vec_len l.text ≤ l.limit;
  taken : Consumes (g.R.Source.left l.initial.source) (g.R.Source.left l.source) l.text.items;
}

abbrev pub decreases-loop-text : goal.decreases-loop-text
decreases-loop-text g l = l.limit - vec_len l.text
