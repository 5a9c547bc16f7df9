-- A refused read takes from what the reads before it left.
use Rattle.std.proofs.KnownBytes.{Consumes-trans}
use Rattle.zone_outside.proofs.Joins.{Loses-after}
use Rattle.zone_outside.proofs.transfer.read_all.Goals as goal

pub returns-in-Err-clause-too_long : goal.returns-in-Err-clause-too_long
returns-in-Err-clause-too_long g c =
    Loses-after c.in-Err.answer _ _ _ c.loop-text.text.items _ c.loop-text.invariant.taken c.in-Err.ensures.too_long

pub returns-in-Err-clause-front : goal.returns-in-Err-clause-front
returns-in-Err-clause-front g c =
    (_, Consumes-trans _ _ _ _ _ c.loop-text.invariant.taken c.read_more.ensures.front.1)
