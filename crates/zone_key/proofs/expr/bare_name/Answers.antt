use Rattle.zone_key.proofs.ExprLemmas.{bare-none, bare-some}
use Rattle.zone_key.proofs.expr.bare_name.Goals as goal

pub returns-then-len-eq0-clause-cuts : goal.returns-then-len-eq0-clause-cuts
returns-then-len-eq0-clause-cuts c = bare-none c.args.text.now c.name_len-len.result c.name_len-len.ensures.value c.if-len-eq0.true

pub returns-clause-cuts : goal.returns-clause-cuts
returns-clause-cuts c =
    rw (c.split_at.ensures.front, c.split_at.ensures.back)
    (bare-some c.args.text.now c.name_len-len.result c.name_len-len.ensures.value c.if-len-eq0.false c.name_len-len.ensures.within)
