-- The zone whose words are wanted.
use Rattle.std.proofs.Common.{ℕ, ◌≡◌, ◌<◌, Bool, true, false, cond, List, length, Option, Some, None, Result, Err, ap, subst, refl, arith, ◌∙◌}
use Rattle.std.specs.Prelude.{IfSome, nat_lt}
use Rattle.std.specs.List.{position, position_or_len}
use Rattle.std.proofs.lemmas.Bool.{ltb-true}
use Rattle.zone_config.specs.declared.data.ZoneSpec.{ZoneSpec}
use Rattle.zone_config.specs.Configuration.{is_zone_called}
use Rattle.zone_watch.specs.Watched.{Watched}
use Rattle.zonereplay.specs.declared.stop.Refusal.TheVariants.{Rule}
use Rattle.zonereplay.specs.declared.stop.Stop.{Stop}
use Rattle.zonereplay.specs.declared.stop.Stop.TheVariants.{Refused}
use Rattle.zonereplay.specs.Plan.{Plan, Ends, with_zone}
use Rattle.zonereplay.specs.Plan.End.{refused}
use Rattle.zonereplay.specs.Devices.{Files}
use Rattle.zonereplay.specs.Stages.{Prepares}

-- a place that is found is one of the list
pub found_below : {X : Type 0} (test : X → Bool) (xs : List X) → IfSome (position test xs) (λ i. i < length xs)
found_below test xs = go (nat_lt (position_or_len test xs) (length xs)) refl where
  go : (low : Bool) → nat_lt (position_or_len test xs) (length xs) ≡ low → IfSome (cond low (Some (position_or_len test xs)) None) (λ i. i < length xs)
  go true e = ltb-true (position_or_len test xs) (length xs) e
  go false e = tt

-- what was found of the same name among the same zones
same_found : (zones given_zones : List ZoneSpec) (name given : List ℕ) (found : Option ℕ) → given ≡ name → given_zones ≡ zones → found ≡ position (is_zone_called given) given_zones → found ≡ position (is_zone_called name) zones
same_found zones given_zones name given found name_is zones_are is = is ∙ ap (λ (n : List ℕ). position (is_zone_called n) given_zones) name_is ∙ ap (λ (zs : List ZoneSpec). position (is_zone_called name) zs) zones_are

-- a plan that needs a zone that is there goes on by its number
pub zone_prepares : (zones given_zones : List ZoneSpec) (name given : List ℕ) (zone : ℕ) (next : ℕ → Plan) (before after : Files) (seen left : List Watched) (prepared : Result (List ℕ) Stop) → given ≡ name → given_zones ≡ zones
    → Some zone ≡ position (is_zone_called given) given_zones → Prepares (next zone) before after seen left prepared → Prepares (with_zone (position (is_zone_called name) zones) next) before after seen left prepared
zone_prepares zones given_zones name given zone next before after seen left prepared name_is zones_are is went =
    subst (λ (o : Option ℕ). Prepares (with_zone o next) before after seen left prepared) (same_found zones given_zones name given (Some zone) name_is zones_are is) went

-- a plan that needs a zone that isn't there stops
pub zone_stopped : (zones given_zones : List ZoneSpec) (name given : List ℕ) (next : ℕ → Plan) (files : Files) (seen : List Watched) → given ≡ name → given_zones ≡ zones
    → None ≡ position (is_zone_called given) given_zones → Prepares (with_zone (position (is_zone_called name) zones) next) files files seen seen (Err (Refused (Rule 0 11)))
zone_stopped zones given_zones name given next files seen name_is zones_are is =
    let none = same_found zones given_zones name given None name_is zones_are is in
    record {
      files = record { kept = λ n. refl; later = λ n. omega arith };
      gives = ((subst (λ (o : Option ℕ). Ends files.contents (with_zone o next) (refused (Rule 0 11))) none refl, λ n. refl), refl);
    }
