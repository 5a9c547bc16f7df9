use Rattle.std.proofs.Common.{◌≡◌, false, codes, Some, sym, ap, ◌∙◌, subst}
use Rattle.std.specs.Ordering.{nat_cmp}
use Rattle.std.specs.Cmp.Lexicographic.{slice_cmp}
use Rattle.std.specs.BTreeMap.{get_by}
use Rattle.zone_outside.specs.Coded.{decoded}
use Rattle.zone_key.specs.Expr.{is_same}
use Rattle.replay_log.specs.Reading.{Tells}
use Rattle.replay_log.proofs.KeyLemmas.{plain_decoded}
use Rattle.replay_log.proofs.LocationLemmas.{level_spelled, some_bytes}
use Rattle.replay_log.proofs.words.read_level.Goals as goal

pub returns-then-are_plain : goal.returns-then-are_plain
returns-then-are_plain c =
    let word = c.args.word.now in
    let dash : is_same word (codes "-") ≡ false = sym (ap (is_same word) c.as_slice.ensures) ∙ sym c.eq.ensures ∙ c.if-eq.false in
    let some = some_bytes word (sym c.is_empty.ensures ∙ c.if-is_empty.false) in
    let spelled = plain_decoded word (sym c.are_plain.ensures ∙ c.if-are_plain.true) in
    subst (λ said. Tells said c.level_called.result) (sym (level_spelled (λ name. get_by (λ k. slice_cmp nat_cmp name k.now) c.args.numbers.now) word word dash some spelled)) c.level_called.ensures

pub returns-in-Ok : goal.returns-in-Ok
returns-in-Ok c =
    let word = c.args.word.now in
    let dash : is_same word (codes "-") ≡ false = sym (ap (is_same word) c.as_slice.ensures) ∙ sym c.eq.ensures ∙ c.if-eq.false in
    let some = some_bytes word (sym c.is_empty.ensures ∙ c.if-is_empty.false) in
    let spelled : decoded word ≡ Some c.as_slice-in-Ok.result.now = c.in-Ok.ensures ∙ ap Some (sym c.as_slice-in-Ok.ensures.value) in
    subst (λ said. Tells said c.level_called-in-Ok.result) (sym (level_spelled (λ name. get_by (λ k. slice_cmp nat_cmp name k.now) c.args.numbers.now) word c.as_slice-in-Ok.result.now dash some spelled)) c.level_called-in-Ok.ensures
