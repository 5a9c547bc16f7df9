use Rattle.std.proofs.Common.{ℕ, List, subst}
use Rattle.zone_region.specs.Members.{In}
use Rattle.zone_region.proofs.MembersLemmas.{In-split}
use Rattle.offset_tests.specs.Line.{full, IsLine}
use Rattle.offset_tests.proofs.LineLemmas.{line_moved, line_without}
use Rattle.offset_tests.proofs.line.apply.Goals as goal

pub returns-in-ToFront : goal.returns-in-ToFront
returns-in-ToFront g c =
    let s = In-split _ full c.block_at.ensures in
    let old = subst (λ (xs : List ℕ). IsLine (g.B.Blocks.words c.args.blocks.now) c.args.q.now xs) s.2 c.requires in
    record { blocks = _; line = line_moved _ _ _ s.0 _ s.1 old (c.move_front.ensures.lays s.0 s.1 old.queue) (c.move_front.ensures.changes _ old.queue (subst (λ (xs : List ℕ). In c.block_at.result.at xs) s.2 c.block_at.ensures)) }

pub returns-in-Out : goal.returns-in-Out
returns-in-Out g c =
    let s = In-split _ full c.block_at-in-Out.ensures in
    let old = subst (λ (xs : List ℕ). IsLine (g.B.Blocks.words c.args.blocks.now) c.args.q.now xs) s.2 c.requires in
    record { blocks = _; line = line_without _ _ _ s.0 _ s.1 old (c.remove.ensures.lays s.0 s.1 old.queue) (c.remove.ensures.changes _ old.queue (subst (λ (xs : List ℕ). In c.block_at-in-Out.result.at xs) s.2 c.block_at-in-Out.ensures)) }
