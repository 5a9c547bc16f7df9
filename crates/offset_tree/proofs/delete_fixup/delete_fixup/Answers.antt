use Rattle.std.proofs.Common.{arith, refl, ◌∙◌}
use Rattle.offset_tree.proofs.Frames.{nodes_unchanged, nodes_changed_twice}
use Rattle.offset_tree.proofs.DeleteFixup.Lacking.{lacking_bound}
use Rattle.offset_tree.proofs.delete_fixup.delete_fixup.Goals as goal

pub loop-round-init : goal.loop-round-init
loop-round-init g c = record { rest = refl; now = λ xs d r. (d, omega arith, r); changes = λ xs d r. nodes_unchanged _ _ xs }

pub delete_fixup_step-requires-clause-there : goal.delete_fixup_step-requires-clause-there
delete_fixup_step-requires-clause-there g c =
    let n = c.loop-round.invariant.now _ _ c.requires.there.2 in (c.requires.there.0, n.0, n.2)

pub returns-in-None-clause-settled : goal.returns-in-None-clause-settled
returns-in-None-clause-settled g c = λ xs d r. let n = c.loop-round.invariant.now xs d r in c.in-None.ensures.goes_on xs n.0 n.2

pub returns-in-None-clause-changes : goal.returns-in-None-clause-changes
returns-in-None-clause-changes g c = λ xs d r. let n = c.loop-round.invariant.now xs d r in
    nodes_changed_twice _ _ _ _ _ (c.loop-round.invariant.changes xs d r) (c.in-None.ensures.changes xs n.0 n.2)

pub loop-round-preserved : goal.loop-round-preserved
loop-round-preserved g c = record {
  rest = c.in-Some.ensures.rest ∙ c.loop-round.invariant.rest;
  now = λ xs d r. let n = c.loop-round.invariant.now xs d r in let s = c.in-Some.ensures.goes_on xs n.0 n.2 in (s.0, omega (arith, n.1, s.1), s.2);
  changes = λ xs d r. let n = c.loop-round.invariant.now xs d r in
      nodes_changed_twice _ _ _ _ _ (c.loop-round.invariant.changes xs d r) (c.in-Some.ensures.changes xs n.0 n.2);
}

pub unreachable-requires : goal.unreachable-requires
unreachable-requires g c = let n = c.loop-round.invariant.now _ _ c.requires.there.2 in omega (arith, n.1, lacking_bound _ _ _ _ _ _ _ c.requires.there.2)
