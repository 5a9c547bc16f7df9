use Rattle.std.proofs.Common.{ℕ, List, [], ◌++◌, subst, sym}
use Rattle.zone_region.specs.Members.{In}
use Rattle.zone_region.proofs.MembersLemmas.{In-middle}
use Rattle.offset_tests.specs.Line.{IsLine}
use Rattle.offset_tests.proofs.LineLemmas.{line_without}
use Rattle.offset_tests.proofs.line.take_last.Goals as goal

pub remove-requires : goal.remove-requires
remove-requires g c =
    let line = c.requires.line in
    let s = c.in_ok-b.ensures c.requires.blocks line.queue in
    (c.requires.blocks, line.queue, subst (λ (xs : List ℕ). In c.in_ok-b.b.at xs) (sym s.1) (In-middle s.0 _ []))

pub returns : goal.returns
returns g c =
    let line = c.requires.line in
    let s = c.in_ok-b.ensures c.requires.blocks line.queue in
    let old = subst (λ (xs : List ℕ). IsLine (g.B.Blocks.words c.args.blocks.now) c.args.q.now xs) s.1 line in
    record { blocks = s.0 ++ []; line = line_without _ _ _ s.0 _ [] old (c.remove.ensures.lays s.0 [] old.queue) (c.remove.ensures.changes _ old.queue (In-middle s.0 _ [])) }
