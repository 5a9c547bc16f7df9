-- What a text spells is an expression.
use Rattle.std.proofs.Common.{◌≡◌, ℕ, Bool, true, false, not, ◌&&◌, List, [], ◌∷◌, Option, None, Some, length, refl, ap, subst, leb-true}
use Rattle.std.specs.Prelude.{◌==◌, if◌then◌else◌, codes, nat_le, option_and_then}
use Rattle.std.specs.List.{list_all}
use Rattle.zone_key.specs.declared.expr.Part.{Part}
use Rattle.zone_key.specs.declared.expr.Part.TheVariants.{Plain}
use Rattle.zone_key.specs.Expr.{Run, after, braced, dollar, ends, expr_of, few_parts, is_count, is_name_byte, is_same, kept, named, parts_of, plain, plain_part, variable, variable_part}
use Rattle.zone_key.specs.Printing.{IsExpr, are_parts, is_part, is_plain}
use Rattle.zone_key.specs.Fronts.{is_plain_byte}

and_true : (a b : Bool) → (a && b) ≡ true → (a ≡ true) × (b ≡ true)
and_true true b e = (refl, e)
and_true false b e = absurd (cc)

-- what is read, if it is, are parts that may stand behind plain text or not
abbrev Good : Bool → Option (List Part) → Type 0
Good plain_before None = Unit {0}
Good plain_before (Some parts) = are_parts plain_before parts ≡ true

-- a run of bytes of one kind, and good parts behind it
record GoodRun (test : ℕ → Bool) (plain_before : Bool) (run : Run) : Type 0 where
  bytes : list_all test run.bytes ≡ true
  behind : Good plain_before run.behind

choice : (P : Option (List Part) → Type 0) (t : Bool) (x y : Option (List Part)) → (t ≡ true → P x) → (t ≡ false → P y) → P (if t then x else y)
choice P true x y on_true on_false = on_true refl
choice P false x y on_true on_false = on_false refl

run-choice : (P : Run → Type 0) (t : Bool) (x y : Run) → (t ≡ true → P x) → (t ≡ false → P y) → P (if t then x else y)
run-choice P true x y on_true on_false = on_true refl
run-choice P false x y on_true on_false = on_false refl

good-after : (plain_before : Bool) (part : Part) (behind : Option (List Part)) → is_part part ≡ true → (plain_before && is_plain part) ≡ false → Good (is_plain part) behind → Good plain_before (after (part ∷ []) behind)
good-after plain_before part None is apart good = tt
good-after plain_before part (Some parts) is apart good = rw (is, apart, good) refl

good-kept : (test : ℕ → Bool) (plain_before : Bool) (b : ℕ) (run : Run) → test b ≡ true → GoodRun test plain_before run → GoodRun test plain_before (kept b run)
good-kept test plain_before b run is good = record { bytes = rw (is, good.bytes) refl; behind = good.behind }

good-ends : (test : ℕ → Bool) (plain_before : Bool) (behind : Option (List Part)) → Good plain_before behind → GoodRun test plain_before (ends behind)
good-ends test plain_before behind good = record { bytes = refl; behind = good }

-- plain text with a byte
good-plain : (b : ℕ) (run : Run) → is_plain_byte b ≡ true → GoodRun is_plain_byte true run → Good false (plain_part (kept b run))
good-plain b run is good = good-after false (Plain (b ∷ run.bytes)) run.behind (rw (is, good.bytes) refl) refl good.behind

-- the part of a name
variable-is : (b : ℕ) (bs : List ℕ) (first second : Bool) → is_same (b ∷ bs) (codes "remote_addr") ≡ first → is_same (b ∷ bs) (codes "binary_remote_addr") ≡ second → list_all is_name_byte (b ∷ bs) ≡ true
    → (is_part (variable (b ∷ bs)) ≡ true) × (is_plain (variable (b ∷ bs)) ≡ false)
variable-is b bs true second e f all = rw e (refl, refl)
variable-is b bs false true e f all = rw (e, f) (refl, refl)
variable-is b bs false false e f all = rw (e, f) (rw (e, f, all) (refl, refl))

no_more : (plain_before is : Bool) → is ≡ false → (plain_before && is) ≡ false
no_more true is e = e
no_more false is e = refl

good-variable-at : (plain_before : Bool) (bytes : List ℕ) (behind : Option (List Part)) → list_all is_name_byte bytes ≡ true → Good false behind → Good plain_before (variable_part (record { bytes = bytes; behind = behind }))
good-variable-at plain_before [] behind all good = tt
good-variable-at plain_before (b ∷ bs) behind all good =
    let is = variable-is b bs (is_same (b ∷ bs) (codes "remote_addr")) (is_same (b ∷ bs) (codes "binary_remote_addr")) refl refl all in
    good-after plain_before (variable (b ∷ bs)) behind is.0 (no_more plain_before (is_plain (variable (b ∷ bs))) is.1) (rw is.1 good)

good-variable : (plain_before : Bool) (run : Run) → GoodRun is_name_byte false run → Good plain_before (variable_part run)
good-variable plain_before run good = good-variable-at plain_before run.bytes run.behind good.bytes good.behind

mutual
  good-parts : (bs : List ℕ) → Good false (parts_of bs)
  good-parts [] = refl
  good-parts (b ∷ bs) =
      choice (Good false) (b == 36) (dollar bs) (plain_part (kept b (plain bs)))
      (λ e. good-dollar false bs)
      (λ e. good-plain b (plain bs) (ap not e) (good-plain-run bs))

  good-dollar : (plain_before : Bool) (bs : List ℕ) → Good plain_before (dollar bs)
  good-dollar plain_before [] = tt
  good-dollar plain_before (b ∷ bs) =
      choice (Good plain_before) (b == 123) (variable_part (braced bs)) (if is_name_byte b then variable_part (kept b (named bs)) else None)
      (λ e. good-variable plain_before (braced bs) (good-braced bs))
      (λ e. choice (Good plain_before) (is_name_byte b) (variable_part (kept b (named bs))) None
      (λ is. good-variable plain_before (kept b (named bs)) (good-kept is_name_byte false b (named bs) is (good-named bs)))
      (λ other. tt))

  good-plain-run : (bs : List ℕ) → GoodRun is_plain_byte true (plain bs)
  good-plain-run [] = good-ends is_plain_byte true (Some []) refl
  good-plain-run (b ∷ bs) =
      run-choice (GoodRun is_plain_byte true) (b == 36) (ends (dollar bs)) (kept b (plain bs))
      (λ e. good-ends is_plain_byte true (dollar bs) (good-dollar true bs))
      (λ e. good-kept is_plain_byte true b (plain bs) (ap not e) (good-plain-run bs))

  good-named : (bs : List ℕ) → GoodRun is_name_byte false (named bs)
  good-named [] = good-ends is_name_byte false (Some []) refl
  good-named (b ∷ bs) =
      run-choice (GoodRun is_name_byte false) (is_name_byte b) (kept b (named bs)) (if b == 36 then ends (dollar bs) else ends (plain_part (kept b (plain bs))))
      (λ is. good-kept is_name_byte false b (named bs) is (good-named bs))
      (λ other. run-choice (GoodRun is_name_byte false) (b == 36) (ends (dollar bs)) (ends (plain_part (kept b (plain bs))))
      (λ e. good-ends is_name_byte false (dollar bs) (good-dollar false bs))
      (λ e. good-ends is_name_byte false (plain_part (kept b (plain bs))) (good-plain b (plain bs) (ap not e) (good-plain-run bs))))

  good-braced : (bs : List ℕ) → GoodRun is_name_byte false (braced bs)
  good-braced [] = good-ends is_name_byte false None tt
  good-braced (b ∷ bs) =
      run-choice (GoodRun is_name_byte false) (b == 125) (ends (parts_of bs)) (if is_name_byte b then kept b (braced bs) else ends None)
      (λ e. good-ends is_name_byte false (parts_of bs) (good-parts bs))
      (λ e. run-choice (GoodRun is_name_byte false) (is_name_byte b) (kept b (braced bs)) (ends None)
      (λ is. good-kept is_name_byte false b (braced bs) is (good-braced bs))
      (λ other. good-ends is_name_byte false None tt))

-- of parts that are read, 1 to 8 make an expression
counted : (read : Option (List Part)) (parts : List Part) → Good false read → option_and_then few_parts read ≡ Some parts → IsExpr parts
counted None parts good e = absurd (cc)
counted (Some all) parts good e = few (is_count (length all)) refl e
  where
    few : (t : Bool) → is_count (length all) ≡ t → (if t then Some all else None) ≡ Some parts → IsExpr parts
    few true count same =
        let is : all ≡ parts = cc in
        let both = and_true (nat_le 1 (length all)) (nat_le (length all) 8) count in
        subst IsExpr is (record { spelled = good; some = leb-true 1 (length all) both.0; few = leb-true (length all) 8 both.1 })
    few false count same = absurd (cc)

-- what a text spells is an expression
pub spelled-is-expr : (text : List ℕ) (parts : List Part) → expr_of text ≡ Some parts → IsExpr parts
spelled-is-expr text parts e = counted (parts_of text) parts (good-parts text) e
