use Rattle.std.proofs.Common.{sym, subst}
use Rattle.std.specs.Prelude.{All}
use Rattle.shared_zone.specs.Callers.{Keeps}
use Rattle.shared_zone.proofs.Calls.{all_passes, same_zone, none_beyond, run_of}
use Rattle.shared_zone.proofs.zone.SharedZone.close.Goals as goal

pub returns : goal.returns
returns g c =
    let o = g.S.ZoneObject in
    let turn = c.gather.result in
    let first = c.in-Some.first in
    let others = c.pop.new.self.items in
    let passes = c.args.passes.items in
    let log_is = c.into_parts.ensures.log in
    let parts = c.in-Some.ensures.items in
    let same = same_zone c.requires.zone.0 first others passes parts c.requires.zone.2 in
    record {
      run = run_of o.is_quiet o.lays o.reply_of o.state_after o.permits first passes turn.object c.into_parts.result.0 turn.log c.into_parts.result.1.items c.gather.ensures.run c.into_parts.ensures.object log_is same;
      passes = subst (λ l. All (Keeps l) passes) (sym log_is) (all_passes (Keeps turn.log) first others passes parts c.gather.ensures.first c.gather.ensures.others);
      others = none_beyond turn.rooms turn.log c.into_parts.result.1.items first passes c.gather.ensures.rooms c.gather.ensures.within log_is same;
    }
