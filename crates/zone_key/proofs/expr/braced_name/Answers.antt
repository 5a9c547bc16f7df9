use Rattle.std.proofs.Common.{◌≡◌, ◌<◌, get_or, length, arith}
use Rattle.std.proofs.lemmas.Bool.Decides.{nat_tests}
use Rattle.zone_key.proofs.ExprLemmas.{braced-none, braced-brace, braced-wrong}
use Rattle.zone_key.proofs.expr.braced_name.Goals as goal
use Rattle.zone_key.proofs.expr.braced_name.Goals.{then-is_empty-via-then-is_empty, then-is_empty-via-else-is_empty+then-behind-ne125}

pub returns-then-len-eq0-clause-cuts : goal.returns-then-len-eq0-clause-cuts
returns-then-len-eq0-clause-cuts c = braced-none c.args.text.now c.name_len-len.result c.name_len-len.ensures.value c.if-len-eq0.true

pub returns-then-is_empty-clause-cuts : goal.returns-then-is_empty-clause-cuts
returns-then-is_empty-clause-cuts c =
    let other : 0 < length c.split_at.result.1.now → get_or c.split_at.result.1.now 0 0 ≡ 125 → ⊥ =
    λ some is. elim c.then-is_empty.branch [ then-is_empty-via-then-is_empty w ↦ grind (arith, nat_tests, c.is_empty.ensures, w.if-is_empty.true) | then-is_empty-via-else-is_empty+then-behind-ne125 w ↦ w.if-behind-ne125.true is ] in
    braced-wrong c.args.text.now c.split_at.result.1.now c.name_len-len.result c.name_len-len.ensures.value c.if-len-eq0.false c.name_len-len.ensures.within c.split_at.ensures.back other

pub returns-clause-cuts : goal.returns-clause-cuts
returns-clause-cuts c =
    let some : 0 < length c.split_at.result.1.now = grind (arith, nat_tests, c.is_empty.ensures, c.if-is_empty.false) in
    let first : get_or c.split_at.result.1.now 0 0 ≡ 125 = omega arith in
    rw c.split_at.ensures.front (braced-brace c.args.text.now c.split_at.result.1.now c.name_len-len.result c.name_len-len.ensures.value c.if-len-eq0.false c.name_len-len.ensures.within c.split_at.ensures.back some first)
