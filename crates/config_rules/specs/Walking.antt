-- How far a tree is walked: the places that are left.
use Rattle.std.specs.Prelude.{◌≡◌, List, [], ◌∷◌, ◌++◌, Option, None, Some, take, drop}
use Rattle.config_rules.specs.declared.walk.Frame.{Frame}
use Rattle.config_rules.specs.declared.place.Spot.{Spot}
use Rattle.config_rules.specs.InOrder.{Place, places_from}
use Rattle.config_rules.specs.Views.{scope_now, place_now}

-- the places of a block from here on
abbrev pub frame_left : Frame → List Place
frame_left f = places_from (scope_now f.scope) (take f.at f.scope.block.now) (drop f.at f.scope.block.now)

-- the places of open blocks, the outermost of which stands first and is walked on with last
abbrev pub places_left : List Frame → List Place
places_left [] = []
places_left (f ∷ fs) = places_left fs ++ frame_left f

-- the next place, if there is one
abbrev pub GivesNext : Option Spot → List Place → List Place → Type 0
GivesNext None old new = old ≡ []
GivesNext (Some spot) old new = old ≡ place_now spot ∷ new
