-- The numbers of locations by their names.
use Rattle.std.proofs.Common.{ℕ, ◌≡◌, ◌+◌, ◌-◌, ◌<◌, ◌≤◌, suc, Bool, false, cond, eqb, codes, List, [], ◌∷◌, length, get_or, drop, Some, None, Ok, arith, ap, sym, ◌∙◌, refl}
use Rattle.std.proofs.Math.Seq.{drop-cons}
use Rattle.std.proofs.lemmas.Iterator.Adapters.{position_from-zero}
use Rattle.std.specs.Option.{option_and_then}
use Rattle.std.specs.List.{position_from}
use Rattle.zone_outside.specs.Coded.{decoded}
use Rattle.zone_outside.specs.Numbers.{is_empty}
use Rattle.zone_key.specs.Expr.{is_same}
use Rattle.zone_config.specs.declared.data.Level.{Level}
use Rattle.replay_log.specs.Requests.{locations_in}
use Rattle.replay_log.specs.Words.{Locations, location_of, at_location, level_of}

-- whether a location has this name
abbrev pub is_called : List ℕ → Level → Bool
is_called name level = is_same level.name name

-- one location before the others
pub position_before : (levels : List Level) (at : ℕ) (level : Level) (name : List ℕ) → 0 < at → at ≤ length levels → level ≡ get_or levels (at - 1) level
    → position_from (is_called name) (at - 1) (drop (at - 1) levels) ≡ cond (is_called name level) (Some (at - 1)) (position_from (is_called name) at (drop at levels))
position_before levels at level name some within is =
    let last : at - 1 < length levels = omega arith in
    let next : at - 1 + 1 ≡ at = omega arith in
    let after : suc (at - 1) ≡ at = omega arith in
    ap (λ (ls : List Level). position_from (is_called name) (at - 1) ls) (drop-cons levels (at - 1) level last ∙ ap (λ (l : Level). l ∷ drop (suc (at - 1)) levels) (sym is))
    ∙ ap (λ n. cond (is_called name level) (Some (at - 1)) (position_from (is_called name) n (drop (suc (at - 1)) levels))) next
    ∙ ap (λ n. cond (is_called name level) (Some (at - 1)) (position_from (is_called name) at (drop n levels))) after

-- all locations
pub position_whole : (levels : List Level) (name : List ℕ) → position_from (is_called name) 0 levels ≡ locations_in levels name
position_whole levels name = sym (position_from-zero (is_called name) levels)

-- the level of a word that spells a name
pub level_spelled : (locations : Locations) (word name : List ℕ) → is_same word (codes "-") ≡ false → is_empty word ≡ false → decoded word ≡ Some name → level_of locations word ≡ at_location (locations name)
level_spelled locations word name dash some is =
    ap (λ b. cond b (Ok None) (at_location (location_of locations word))) dash
    ∙ ap (λ b. at_location (cond b None (option_and_then locations (decoded word)))) some
    ∙ ap (λ spelled. at_location (option_and_then locations spelled)) is

-- a word of some bytes
pub some_bytes : (word : List ℕ) → eqb (length word) 0 ≡ false → is_empty word ≡ false
some_bytes [] some = absurd (cc)
some_bytes (c ∷ cs) some = refl
