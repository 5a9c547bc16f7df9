use Rattle.std.proofs.Common.{◌≡◌, ◌++◌, ◌≤◌, length, take}
use Rattle.decision_text.specs.TailText.{slots_text}
use Rattle.decision_text.proofs.tail.push_slots.Given as goal

abbrev pub invariant-loop-class : goal.invariant-loop-class
invariant-loop-class g l = (s : g.row.V-State.Denot) → g.V.ZoneObject.lays l.zone s → l.text.items ≡ l.initial.text.items ++ slots_text 0 (take l.class (g.V.ZoneView.stats_in s))
