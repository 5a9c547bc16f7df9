use Rattle.zone_key.proofs.ExprLemmas.{parts-plain}
use Rattle.zone_key.proofs.expr.cut_front.Goals as goal

pub returns-clause-cuts : goal.returns-clause-cuts
returns-clause-cuts c =
    rw (c.split_at.ensures.front, c.split_at.ensures.back) (parts-plain c.args.text.now c.plain_len.result c.requires c.if-text-eq36.false c.plain_len.ensures.value)
