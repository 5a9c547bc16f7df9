use Rattle.std.proofs.Common.{◌≡◌, rules, Some, inl, ap, ◌∙◌}
use Rattle.directive_text.specs.Internals.Tokens.{fault_of}
use Rattle.directive_text.specs.declared.fault.TextFault.TheVariants.{At}
use Rattle.directive_text.proofs.Meaning.{says-spells, tokens-fault, one_tree, one_fault, not_both}
use Rattle.directive_text.proofs.reader.read.Goals as goal

pub returns-then-is_end-clause-reads : goal.returns-then-is_end-clause-reads
returns-then-is_end-clause-reads c = says-spells _ _ (search rules)

pub returns-then-is_end-clause-only : goal.returns-then-is_end-clause-only
returns-then-is_end-clause-only c directives spells = one_tree _ _ directives (returns-then-is_end-clause-reads c) spells

pub returns-then-is_end-clause-only_fault : goal.returns-then-is_end-clause-only_fault
returns-then-is_end-clause-only_fault c line kind fault = not_both _ _ line kind (returns-then-is_end-clause-reads c) fault

pub returns-in-Some-clause-reads : goal.returns-in-Some-clause-reads
returns-in-Some-clause-reads c =
    let found : fault_of c.args.text.now ≡ Some (record { line = c.in_ok-next.next.line; kind = c.in-Some.kind }) = search rules in
    tokens-fault c.args.text.now (record { line = c.in_ok-next.next.line; kind = c.in-Some.kind }) found

pub returns-in-Some-clause-only : goal.returns-in-Some-clause-only
returns-in-Some-clause-only c directives spells = absurd (not_both _ directives _ _ spells (returns-in-Some-clause-reads c))

pub returns-in-Some-clause-only_fault : goal.returns-in-Some-clause-only_fault
returns-in-Some-clause-only_fault c line kind fault =
    let same = one_fault _ c.in_ok-next.next.line c.in-Some.kind line kind (returns-in-Some-clause-reads c) fault in
    inl (ap (λ n. At n c.in-Some.kind) same.0 ∙ ap (λ n. At line n) same.1)
