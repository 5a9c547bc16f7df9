-- The zones of upstreams by their names in lower case, with one upstream more before the others.
use Rattle.std.proofs.Common.{ℕ, ◌≡◌, Bool, true, false, cond, List, ◌∷◌, Option, Some, Vec, BTreeMap, refl, ap, ◌∙◌}
use Rattle.std.specs.Option.{option_and_then}
use Rattle.std.specs.List.{find}
use Rattle.std.specs.Ordering.{nat_cmp}
use Rattle.std.specs.Str.{bytes_eq, str_to_ascii_lowercase}
use Rattle.std.specs.Cmp.Lexicographic.{slice_cmp}
use Rattle.std.specs.BTreeMap.{UpdatesBy, get_by}
use Rattle.std.proofs.lemmas.Map.Text.{is_eq-slice_cmp}
use Rattle.zone_config.specs.declared.data.Upstream.{Upstream}
use Rattle.zone_config.specs.Configuration.{is_upstream_called}
use Rattle.zone_config.specs.Names.{FindsZones}

-- what is found of one upstream or else behind it
either : (b : Bool) (u : Upstream) (g : Option (Option ℕ)) (f : Option Upstream) → option_and_then (λ (zone : Option ℕ). zone) g ≡ option_and_then (λ (u : Upstream). u.zone) f
    → option_and_then (λ (zone : Option ℕ). zone) (cond b (Some u.zone) g) ≡ option_and_then (λ (u : Upstream). u.zone) (cond b (Some u) f)
either true u g f h = refl
either false u g f h = h

module _ {A : Type 0} where
  pub one_before : (old new : BTreeMap (Vec ℕ A) (Option ℕ)) (k : Vec ℕ A) (u : Upstream) (us : List Upstream) → k.items ≡ str_to_ascii_lowercase u.name
      → UpdatesBy (λ x y. slice_cmp nat_cmp x.items y.items) (λ y. slice_cmp nat_cmp k.items y.items) old new (Some u.zone) → FindsZones old us → FindsZones new (u ∷ us)
  one_before old new k u us lower updates found = λ bytes name is.
      ap (option_and_then (λ (zone : Option ℕ). zone)) (updates.0 bytes)
      ∙ ap (λ b. option_and_then (λ (zone : Option ℕ). zone) (cond b (Some u.zone) (get_by (λ y. slice_cmp nat_cmp bytes.items y.items) old)))
      (is_eq-slice_cmp k.items bytes.items ∙ ap (λ (w : List ℕ). bytes_eq w bytes.items) lower ∙ ap (bytes_eq (str_to_ascii_lowercase u.name)) is)
      ∙ either (is_upstream_called name u) u (get_by (λ y. slice_cmp nat_cmp bytes.items y.items) old) (find (is_upstream_called name) us) (found bytes name is)
