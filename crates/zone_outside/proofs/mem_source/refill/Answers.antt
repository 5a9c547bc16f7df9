-- An empty front makes way for the next copy.
use Rattle.std.proofs.Common.{rules, length, ◌≡◌, [], ◌++◌, sym, ap, ◌∙◌, arith}
use Rattle.std.proofs.lemmas.List.{nil_from_length}
use Rattle.std.proofs.lemmas.Bool.Decides.{nat_tests}
use Rattle.zone_outside.specs.MemSources.{repeated}
use Rattle.zone_outside.proofs.RepeatedLemmas.{repeated-none, repeated-first, repeated-nil}
use Rattle.zone_outside.proofs.mem_source.refill.Goals as goal

pub returns-then-copies-gt0-clause-same : goal.returns-then-copies-gt0-clause-same
returns-then-copies-gt0-clause-same c =
    let none : length c.args.front.now.now ≡ 0 = first_of (search rules, grind (arith, nat_tests, c.if-not-is_empty.ensures)) in
    let empty : c.args.front.now.now ≡ [] = nil_from_length c.args.front.now.now none in
    repeated-first c.args.copies.now c.args.piece.now c.if-copies-gt0.true
    ∙ sym (ap (λ l. l ++ repeated c.args.copies.now c.args.piece.now) empty)

pub returns-then-copies-gt0-clause-filled : goal.returns-then-copies-gt0-clause-filled
returns-then-copies-gt0-clause-filled c e = repeated-nil _ c.args.piece.now e

pub returns-else-copies-gt0-clause-filled : goal.returns-else-copies-gt0-clause-filled
returns-else-copies-gt0-clause-filled c e = repeated-none c.args.copies.now c.args.piece.now (omega arith)
