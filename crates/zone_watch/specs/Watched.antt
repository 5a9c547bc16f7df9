-- What a watcher is, and what is left of a list of watchers that were shown notices.
use Rattle.std.specs.Prelude.{ℕ, List, [], ◌∷◌, Option, Some, None, option_and_then}
use Rattle.std.specs.List.{filter_map, flat_map}
use Rattle.request_script.specs.declared.decision.Notice.{Notice}
use Rattle.zone_watch.specs.declared.stay.Stay.{Stay}
use Rattle.zone_watch.specs.declared.stay.Stay.TheVariants.{Keep, Leave}

-- A rule: what a notice makes of the counts, what is answered to it, and what is reported of the counts.
pub record Rule : Type 0 where
  pub after : List ℕ → Notice → List ℕ
  pub answer : List ℕ → Notice → Stay
  pub report : List ℕ → List ℕ

-- a watcher: its rule and its counts
pub record Watched : Type 0 where
  pub rule : Rule
  pub counts : List ℕ

-- a watcher that has seen a notice
abbrev pub sees : Watched → Notice → Watched
sees w notice = record { rule = w.rule; counts = w.rule.after w.counts notice }

-- what it answers to the notice
abbrev pub answers : Watched → Notice → Stay
answers w notice = w.rule.answer w.counts notice

-- what it reports
abbrev pub report_of : Watched → List ℕ
report_of w = w.rule.report w.counts

-- a watcher, unless it leaves
abbrev pub unless_left : Stay → Watched → Option Watched
unless_left Keep w = Some w
unless_left Leave w = None

-- what is left of a watcher that is shown a notice
abbrev pub left_after : Notice → Watched → Option Watched
left_after notice w = unless_left (answers w notice) (sees w notice)

-- what is left of it when it is shown notices one after another, up to the one at which it leaves
abbrev pub left_of : List Notice → Watched → Option Watched
left_of [] w = Some w
left_of (notice ∷ notices) w = option_and_then (left_of notices) (left_after notice w)

-- The watchers that are left of a list: in their order, those that never left, each having seen every notice.
abbrev pub shown : List Notice → List Watched → List Watched
shown notices list = filter_map (left_of notices) list

-- their reports, one after another
abbrev pub reports_of : List Watched → List ℕ
reports_of list = flat_map report_of list
