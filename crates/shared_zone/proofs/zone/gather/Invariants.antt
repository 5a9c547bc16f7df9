use Rattle.std.proofs.Common.{◌≡◌, ◌++◌, true, List, vec_len}
use Rattle.std.specs.Prelude.{map}
use Rattle.crossbeam_queue.specs.Passes.{view, IsPassOf}
use Rattle.zone_object.specs.declared.object.Entry.{Entry}
use Rattle.shared_zone.specs.Callers.{Caller}
use Rattle.shared_zone.proofs.zone.gather.Given as goal

abbrev pub invariant-loop-pass : goal.invariant-loop-pass
invariant-loop-pass g l =
    IsPassOf l.queue l.seat
    × ((view l.seat).start ≡ (view l.initial.seat).start)
    × ((view l.seat).holding ≡ true)
    × ((view l.seat).seen ≡ (view l.initial.seat).seen)
    × (done : List (Caller g.row.S-State.Denot (Entry g.row.S.Denot g.row.S-State.Denot g.row.S-Call.Denot g.row.S-Reply.Denot)))
    × (l.initial.others.items ≡ l.others.items ++ done)
    × ((view l.seat).ended ≡ map (λ pass. (pass.number, pass.seen)) done)

abbrev pub decreases-loop-pass : goal.decreases-loop-pass
decreases-loop-pass g l = vec_len l.others
