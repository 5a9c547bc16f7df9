-- A printed expression reads back, and what is read is an expression.
use Rattle.std.proofs.Common.{◌≡◌, ◌∙◌, ℕ, Bool, true, false, not, ◌&&◌, List, [], ◌∷◌, ◌++◌, Some, length, refl, ap, le-leb}
use Rattle.std.specs.Prelude.{◌==◌, codes, option_and_then}
use Rattle.std.specs.List.{list_all}
use Rattle.zone_outside.specs.Numbers.{is_empty}
use Rattle.zone_key.specs.declared.expr.Part.{Part}
use Rattle.zone_key.specs.declared.expr.Part.TheVariants.{Plain, Named, Address, Binary}
use Rattle.zone_key.specs.Expr.{after, braced, ends, expr_of, few_parts, is_count, is_name_byte, is_same, kept, parts_of, plain, plain_part, variable, variable_part}
use Rattle.zone_key.specs.Printing.{IsExpr, are_parts, in_braces, is_other_name, is_part, is_plain, printed, spelling}
use Rattle.zone_key.proofs.ExprLemmas.{name_byte-brace}

and_true : (a b : Bool) → (a && b) ≡ true → (a ≡ true) × (b ≡ true)
and_true true b e = (refl, e)
and_true false b e = absurd (cc)

not_true : (a : Bool) → not a ≡ true → a ≡ false
not_true true e = absurd (cc)
not_true false e = refl

-- a text that is empty or begins with `$`
abbrev ends_plain : List ℕ → Bool
ends_plain [] = true
ends_plain (b ∷ bs) = b == 36

no_plain : (t u : Bool) → ((t && false) && u) ≡ true → ⊥
no_plain true u e = cc
no_plain false u e = cc

-- what is printed behind plain text ends it
printed-ends : (parts : List Part) → are_parts true parts ≡ true → ends_plain (printed parts) ≡ true
printed-ends [] e = refl
printed-ends (Plain text ∷ parts) e = absurd (no_plain (is_part (Plain text)) (are_parts true parts) e)
printed-ends (Named name ∷ parts) e = refl
printed-ends (Address ∷ parts) e = refl
printed-ends (Binary ∷ parts) e = refl

-- plain text up to what ends it
plain-end : (rest : List ℕ) → ends_plain rest ≡ true → plain rest ≡ ends (parts_of rest)
plain-end [] e = refl
plain-end (b ∷ bs) e = rw e refl

plain-text : (text rest : List ℕ) → list_all (λ b. not (b == 36)) text ≡ true → ends_plain rest ≡ true → plain (text ++ rest) ≡ record { bytes = text; behind = parts_of rest }
plain-text [] rest all e = plain-end rest e
plain-text (b ∷ bs) rest all e =
    let each = and_true (not (b == 36)) (list_all (λ b. not (b == 36)) bs) all in
    rw (not_true (b == 36) each.0) (ap (kept b) (plain-text bs rest each.1 e))

parts-plain : (text rest : List ℕ) → is_part (Plain text) ≡ true → ends_plain rest ≡ true → parts_of (text ++ rest) ≡ after (Plain text ∷ []) (parts_of rest)
parts-plain [] rest part e = absurd (cc)
parts-plain (b ∷ bs) rest part e =
    let each = and_true (not (b == 36)) (list_all (λ b. not (b == 36)) bs) part in
    rw (not_true (b == 36) each.0) (ap (λ run. plain_part (kept b run)) (plain-text bs rest each.1 e))

-- a name in braces
braced-name : (name rest : List ℕ) → list_all is_name_byte name ≡ true → braced ((name ++ 125 ∷ []) ++ rest) ≡ record { bytes = name; behind = parts_of rest }
braced-name [] rest all = refl
braced-name (b ∷ bs) rest all =
    let each = and_true (is_name_byte b) (list_all is_name_byte bs) all in
    rw (name_byte-brace b (b == 125) refl each.0, each.0) (ap (kept b) (braced-name bs rest each.1))

parts-variable : (name rest : List ℕ) → not (is_empty name) ≡ true → list_all is_name_byte name ≡ true → parts_of (in_braces name ++ rest) ≡ after (variable name ∷ []) (parts_of rest)
parts-variable [] rest some all = absurd (cc)
parts-variable (b ∷ bs) rest some all = ap variable_part (braced-name (b ∷ bs) rest all)

-- a name without a part of its own
other-name : (name : List ℕ) → is_other_name name ≡ true → (not (is_empty name) ≡ true) × (list_all is_name_byte name ≡ true) × (variable name ≡ Named name)
other-name name e =
    let last = and_true (not (is_empty name) && list_all is_name_byte name && not (is_same name (codes "remote_addr"))) (not (is_same name (codes "binary_remote_addr"))) e in
    let next = and_true (not (is_empty name) && list_all is_name_byte name) (not (is_same name (codes "remote_addr"))) last.0 in
    let first = and_true (not (is_empty name)) (list_all is_name_byte name) next.0 in
    (first.0, first.1, rw (not_true (is_same name (codes "remote_addr")) next.1, not_true (is_same name (codes "binary_remote_addr")) last.1) refl)

read-spelling : (plain_before : Bool) (part : Part) (parts : List Part) → are_parts plain_before (part ∷ parts) ≡ true → parts_of (spelling part ++ printed parts) ≡ after (part ∷ []) (parts_of (printed parts))
read-spelling plain_before (Plain text) parts e =
    let all = and_true (is_part (Plain text) && not (plain_before && true)) (are_parts true parts) e in
    let first = and_true (is_part (Plain text)) (not (plain_before && true)) all.0 in
    parts-plain text (printed parts) first.0 (printed-ends parts all.1)
read-spelling plain_before (Named name) parts e =
    let all = and_true (is_part (Named name) && not (plain_before && false)) (are_parts false parts) e in
    let first = and_true (is_part (Named name)) (not (plain_before && false)) all.0 in
    let other = other-name name first.0 in
    parts-variable name (printed parts) other.0 other.1 ∙ ap (λ part. after (part ∷ []) (parts_of (printed parts))) other.2
read-spelling plain_before Address parts e = parts-variable (codes "remote_addr") (printed parts) refl refl
read-spelling plain_before Binary parts e = parts-variable (codes "binary_remote_addr") (printed parts) refl refl

read-printed : (plain_before : Bool) (parts : List Part) → are_parts plain_before parts ≡ true → parts_of (printed parts) ≡ Some parts
read-printed plain_before [] e = refl
read-printed plain_before (part ∷ parts) e =
    read-spelling plain_before part parts e
    ∙ ap (after (part ∷ [])) (read-printed (is_plain part) parts ((and_true (is_part part && not (plain_before && is_plain part)) (are_parts (is_plain part) parts) e).1))

-- the canonical text of an expression spells it
pub printed-spells : (parts : List Part) → IsExpr parts → expr_of (printed parts) ≡ Some parts
printed-spells parts is =
    let spelled : are_parts false parts ≡ true = is.spelled in
    let count : is_count (length parts) ≡ true = rw (le-leb 1 (length parts) is.some, le-leb (length parts) 8 is.few) refl in
    ap (option_and_then few_parts) (read-printed false parts spelled) ∙ rw count refl
