use Rattle.zone_key.proofs.OrderLemmas.{order_total, order_equal}
use Rattle.zone_key.proofs.order.compare.Goals as goal

pub returns-clause-equal : goal.returns-clause-equal
returns-clause-equal c = order_equal _ _ _ (cc)

pub returns-clause-total : goal.returns-clause-total
returns-clause-total c = order_total
