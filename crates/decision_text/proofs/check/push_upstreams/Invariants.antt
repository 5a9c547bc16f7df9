use Rattle.std.proofs.Common.{◌≡◌, ◌++◌, take}
use Rattle.std.specs.List.{flat_map}
use Rattle.decision_text.specs.CheckText.{upstream_line}
use Rattle.decision_text.proofs.check.push_upstreams.Given as goal

abbrev pub invariant-loop-upstream : goal.invariant-loop-upstream
invariant-loop-upstream l = l.text.items ≡ l.initial.text.items ++ flat_map (upstream_line l.zones) (take l.upstream-index l.upstreams)
