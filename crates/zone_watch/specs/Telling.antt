-- What becomes of a list of watchers where a command shows it notices.
use Rattle.std.specs.Prelude.{◌≡◌, ◌⊎◌, ◌++◌, ℕ, List}
use Rattle.request_script.specs.declared.decision.Notice.{Notice}
use Rattle.zone_watch.specs.Watched.{Watched, shown, reports_of}

-- the list was shown the notices
abbrev pub IsShown : List Notice → List Watched → List Watched → Type 0
IsShown notices before after = after ≡ shown notices before

-- it is as it was, or was shown them
abbrev pub MayBeShown : List Notice → List Watched → List Watched → Type 0
MayBeShown notices before after = (after ≡ before) ⊎ IsShown notices before after

-- the list was shown the notices, and the text got the reports of those that are left
pub record Reported (notices : List Notice) (before after : List Watched) (text text_after : List ℕ) : Type 0 where
  pub list : IsShown notices before after
  pub told : text_after ≡ text ++ reports_of after
