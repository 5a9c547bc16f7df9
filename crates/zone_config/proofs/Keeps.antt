-- What a place that breaks no rule keeps, rule by rule.
use Rattle.std.proofs.Common.{◌≡◌, ℕ, false, Option, None, Some, refl, length}
use Rattle.std.specs.Prelude.{not}
use Rattle.std.specs.Option.{option_map}
use Rattle.std.specs.List.{list_any}
use Rattle.config_rules.specs.declared.kind.Kind.{Kind}
use Rattle.config_rules.specs.declared.earlier.Earlier.{Earlier}
use Rattle.config_rules.specs.declared.earlier.ZoneNames.{ZoneNames}
use Rattle.config_rules.specs.Words.{arguments_of, has_block, line_of}
use Rattle.config_rules.specs.Arguments.{meanings}
use Rattle.config_rules.specs.InOrder.{Place, kind_at}
use Rattle.config_rules.specs.Rules.{Fault, Seen, fault_at, rules, first_broken, misplaced, is_formed, is_unknown, has_bad_size, has_size, is_small, is_large, has_bad_rate, is_out_of_range, names_no_zone, declares_one_of, is_twice, is_too_many, has_taken_name, is_bad_key, lacks_primary}
use Rattle.config_rules.proofs.Fits.{unbroken}

pub record Keeps (s : Seen) : Type 0 where
  pub placed : misplaced s.kind ≡ false
  pub formed : not (is_formed s.kind (length (arguments_of s.place.directive)) (has_block s.place.directive)) ≡ false
  pub known : list_any is_unknown s.arguments ≡ false
  pub sized : list_any has_bad_size s.arguments ≡ false
  pub not_small : list_any (has_size is_small) s.arguments ≡ false
  pub not_large : list_any (has_size (is_large s.earlier.zone_bytes)) s.arguments ≡ false
  pub rated : list_any has_bad_rate s.arguments ≡ false
  pub ranged : list_any is_out_of_range s.arguments ≡ false
  pub zoned : names_no_zone s.text s.kind s.arguments ≡ false
  pub fresh : list_any (declares_one_of s.earlier.zone_names) s.arguments ≡ false
  pub once : is_twice s.kind s.arguments s.place ≡ false
  pub few : is_too_many s.earlier s.kind s.place.directive s.place.before ≡ false
  pub apart : has_taken_name s.earlier s.kind s.place.directive ≡ false
  pub keyed : list_any is_bad_key s.arguments ≡ false
  pub served : lacks_primary s.kind s.place.directive ≡ false

pub keeps : (s : Seen) → first_broken rules s ≡ None → Keeps s
keeps s h = record {
  placed = unbroken rules 1 s _ h refl;
  formed = unbroken rules 2 s _ h refl;
  known = unbroken rules 3 s _ h refl;
  sized = unbroken rules 4 s _ h refl;
  not_small = unbroken rules 5 s _ h refl;
  not_large = unbroken rules 6 s _ h refl;
  rated = unbroken rules 7 s _ h refl;
  ranged = unbroken rules 8 s _ h refl;
  zoned = unbroken rules 9 s _ h refl;
  fresh = unbroken rules 10 s _ h refl;
  once = unbroken rules 11 s _ h refl;
  few = unbroken rules 12 s _ h refl;
  apart = unbroken rules 13 s _ h refl;
  keyed = unbroken rules 14 s _ h refl;
  served = unbroken rules 15 s _ h refl;
}

-- what is seen at a place, as if its directive were of this kind
abbrev pub seen_as : ZoneNames → Earlier → Place → Kind → Seen
seen_as text e p k = record { text = text; earlier = e; kind = k; arguments = meanings k (arguments_of p.directive); place = p }

pub no_rule : (line : ℕ) (rule : Option ℕ) → (let fault : ℕ → Fault = λ r. record { line = line; rule = r } in option_map fault rule ≡ None) → rule ≡ None
no_rule line None e = refl
no_rule line (Some r) e = absurd (cc)

-- what a place that breaks no rule keeps
pub keeps_at : (text : ZoneNames) (e : Earlier) (p : Place) → fault_at text e p ≡ None → Keeps (seen_as text e p (kind_at p))
keeps_at text e p sound = keeps (seen_as text e p (kind_at p)) (no_rule (line_of p.directive) (first_broken rules (seen_as text e p (kind_at p))) sound)
