use Rattle.pool_tests.specs.Tables.{HoldsTable}
use Rattle.pool_tests.proofs.table_tests.all_steps.Given as goal

abbrev pub invariant-loop-step : goal.invariant-loop-step
invariant-loop-step g l = HoldsTable l.pool l.t
