use Rattle.std.proofs.Common.{◌≡◌, take, drop}
use Rattle.replay_share.specs.Opening.{refused_line}
use Rattle.replay_share.proofs.Served.{AreFresh}
use Rattle.replay_share.proofs.journals.Journals.open.Given as goal

abbrev pub invariant-loop-zone : goal.invariant-loop-zone
invariant-loop-zone l = record {
  fresh : AreFresh l.room (take l.zone-index l.zones) l.journals.items;
  rest : refused_line l.zones ≡ refused_line (drop l.zone-index l.zones);
}
