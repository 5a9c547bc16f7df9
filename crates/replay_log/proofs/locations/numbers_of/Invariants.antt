use Rattle.std.proofs.Common.{◌≡◌, ℕ, ◌≤◌, List, length, drop}
use Rattle.std.specs.List.{position_from}
use Rattle.std.specs.Ordering.{nat_cmp}
use Rattle.std.specs.Cmp.Lexicographic.{slice_cmp}
use Rattle.std.specs.BTreeMap.{get_by}
use Rattle.zone_key.specs.Expr.{is_same}
use Rattle.zone_config.specs.declared.data.Level.{Level}
use Rattle.replay_log.proofs.locations.numbers_of.Given as goal

abbrev pub invariant-levels : goal.invariant-levels
invariant-levels l = record {
  within : l.at ≤ length l.levels;
  found : (name : List ℕ) → get_by (λ k. slice_cmp nat_cmp name k.now) l.numbers ≡ position_from (λ (level : Level). is_same level.name name) l.at (drop l.at l.levels);
}

abbrev pub decreases-levels : goal.decreases-levels
decreases-levels l = l.at
