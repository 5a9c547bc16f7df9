use Rattle.zone_key.proofs.Spelled.{spelled-is-expr}
use Rattle.zone_key.proofs.theorems.spelled_is_expr.Goals as goal

pub returns : goal.returns
returns c = spelled-is-expr
