-- Runs of bytes in key expressions.
use Rattle.std.proofs.Common.{◌≡◌, ◌∙◌, ℕ, ◌+◌, ◌-◌, ◌<◌, ◌≤◌, Bool, true, false, not, suc, List, [], ◌∷◌, Option, None, length, take, drop, get_or, length-take, eq-eqb, refl, ap, sym, subst, arith}
use Rattle.std.proofs.Math.Seq.{take-length}
use Rattle.std.specs.Prelude.{◌==◌, if◌then◌else◌}
use Rattle.std.specs.List.{prefix_len, take_while}
use Rattle.std.proofs.lemmas.List.Sums.{take_while-cons}
use Rattle.std.proofs.lemmas.Bool.{eqb-true, ne_eqb}
use Rattle.zone_key.specs.declared.expr.Part.{Part}
use Rattle.zone_key.specs.declared.expr.Part.TheVariants.{Plain}
use Rattle.zone_key.specs.Expr.{Run, after, braced, dollar, ends, is_name_byte, kept, named, parts_of, plain, plain_part, variable, variable_part}
use Rattle.zone_key.specs.Fronts.{is_plain_byte}

-- what is behind the bytes at the front that pass
abbrev pub rest_after : (ℕ → Bool) → List ℕ → List ℕ
rest_after p bs = drop (prefix_len p bs) bs

drop-one : (n b : ℕ) (bs : List ℕ) → drop (1 + n) (b ∷ bs) ≡ drop n bs
drop-one n b bs = let e : 1 + n ≡ suc n = omega arith in rw e refl

rest_after-passes : (p : ℕ → Bool) (b : ℕ) (bs : List ℕ) → p b ≡ true → rest_after p (b ∷ bs) ≡ rest_after p bs
rest_after-passes p b bs e = rw e (drop-one (prefix_len p bs) b bs)

rest_after-stops : (p : ℕ → Bool) (b : ℕ) (bs : List ℕ) → p b ≡ false → rest_after p (b ∷ bs) ≡ b ∷ bs
rest_after-stops p b bs e = rw e refl

front-passes : (p : ℕ → Bool) (b : ℕ) (bs : List ℕ) → p b ≡ true → take_while p (b ∷ bs) ≡ b ∷ take_while p bs
front-passes p b bs e = take_while-cons p b bs ∙ rw e refl

front-stops : (p : ℕ → Bool) (b : ℕ) (bs : List ℕ) → p b ≡ false → take_while p (b ∷ bs) ≡ []
front-stops p b bs e = take_while-cons p b bs ∙ rw e refl

-- the run of the bytes at the front that pass, with what is behind it
abbrev pub run_while : (ℕ → Bool) → (List ℕ → Option (List Part)) → List ℕ → Run
run_while p behind bs = record { bytes = take_while p bs; behind = behind (rest_after p bs) }

run_while-passes : (p : ℕ → Bool) (behind : List ℕ → Option (List Part)) (b : ℕ) (bs : List ℕ) → p b ≡ true → run_while p behind (b ∷ bs) ≡ kept b (run_while p behind bs)
run_while-passes p behind b bs e = rw (front-passes p b bs e, rest_after-passes p b bs e) refl

run_while-stops : (p : ℕ → Bool) (behind : List ℕ → Option (List Part)) (b : ℕ) (bs : List ℕ) → p b ≡ false → run_while p behind (b ∷ bs) ≡ ends (behind (b ∷ bs))
run_while-stops p behind b bs e = rw (front-stops p b bs e, rest_after-stops p b bs e) refl

choose-ends : (t : Bool) (x y : Option (List Part)) → (if t then ends x else ends y) ≡ ends (if t then x else y)
choose-ends true x y = refl
choose-ends false x y = refl

named-at : (b : ℕ) (bs : List ℕ) (t : Bool) → is_name_byte b ≡ t → named bs ≡ run_while is_name_byte parts_of bs → named (b ∷ bs) ≡ run_while is_name_byte parts_of (b ∷ bs)
named-at b bs true e ih = rw (run_while-passes is_name_byte parts_of b bs e, e) (ap (kept b) ih)
named-at b bs false e ih = rw (run_while-stops is_name_byte parts_of b bs e, e) (choose-ends (b == 36) (dollar bs) (plain_part (kept b (plain bs))))

-- a name goes on as long as it may
pub run-named : (bs : List ℕ) → named bs ≡ run_while is_name_byte parts_of bs
run-named [] = refl
run-named (b ∷ bs) = named-at b bs (is_name_byte b) refl (run-named bs)

-- what a `}` lets begin
abbrev pub braced_end : List ℕ → Option (List Part)
braced_end [] = None
braced_end (b ∷ bs) = if b == 125 then parts_of bs else None

-- a byte of a name is no `}`
pub name_byte-brace : (b : ℕ) (t : Bool) → (b == 125) ≡ t → is_name_byte b ≡ true → (b == 125) ≡ false
name_byte-brace b true e name = let other : is_name_byte 125 ≡ true = subst (λ n. is_name_byte n ≡ true) (eqb-true b 125 e) name in cc
name_byte-brace b false e name = e

braced-at : (b : ℕ) (bs : List ℕ) (t : Bool) → is_name_byte b ≡ t → braced bs ≡ run_while is_name_byte braced_end bs → braced (b ∷ bs) ≡ run_while is_name_byte braced_end (b ∷ bs)
braced-at b bs true e ih = rw (run_while-passes is_name_byte braced_end b bs e, name_byte-brace b (b == 125) refl e, e) (ap (kept b) ih)
braced-at b bs false e ih = rw (run_while-stops is_name_byte braced_end b bs e, e) (choose-ends (b == 125) (parts_of bs) None)

-- a name in braces goes on up to a byte that is none of a name
pub run-braced : (bs : List ℕ) → braced bs ≡ run_while is_name_byte braced_end bs
run-braced [] = refl
run-braced (b ∷ bs) = braced-at b bs (is_name_byte b) refl (run-braced bs)

plain-at : (b : ℕ) (bs : List ℕ) (t : Bool) → (b == 36) ≡ t → plain bs ≡ run_while is_plain_byte parts_of bs → plain (b ∷ bs) ≡ run_while is_plain_byte parts_of (b ∷ bs)
plain-at b bs true e ih = rw (run_while-stops is_plain_byte parts_of b bs (ap not e), e) refl
plain-at b bs false e ih = rw (run_while-passes is_plain_byte parts_of b bs (ap not e), e) (ap (kept b) ih)

-- plain text goes on up to a `$`
pub run-plain : (bs : List ℕ) → plain bs ≡ run_while is_plain_byte parts_of bs
run-plain [] = refl
run-plain (b ∷ bs) = plain-at b bs (b == 36) refl (run-plain bs)

some_name : (name : List ℕ) (behind : Option (List Part)) → 0 < length name → variable_part (record { bytes = name; behind = behind }) ≡ after (variable name ∷ []) behind
some_name [] behind some = absurd (omega arith)
some_name (b ∷ bs) behind some = refl

name_front : (p : ℕ → Bool) (behind : List ℕ → Option (List Part)) (bs : List ℕ) (n : ℕ) → n ≡ prefix_len p bs → (n ≡ 0 → ⊥) → n ≤ length bs → variable_part (run_while p behind bs) ≡ after (variable (take n bs) ∷ []) (behind (drop n bs))
name_front p behind bs n e some within =
    let length_front : length (take n bs) ≡ n = grind (arith, length-take) in
    rw (← e) (some_name (take n bs) (behind (drop n bs)) (omega arith))

no_name : (p : ℕ → Bool) (behind : List ℕ → Option (List Part)) (bs : List ℕ) → prefix_len p bs ≡ 0 → variable_part (run_while p behind bs) ≡ None
no_name p behind bs e = rw e refl

pub bare-none : (bs : List ℕ) (n : ℕ) → n ≡ prefix_len is_name_byte bs → n ≡ 0 → variable_part (named bs) ≡ None
bare-none bs n e z = rw (run-named bs) (no_name is_name_byte parts_of bs (sym e ∙ z))

pub bare-some : (bs : List ℕ) (n : ℕ) → n ≡ prefix_len is_name_byte bs → (n ≡ 0 → ⊥) → n ≤ length bs → variable_part (named bs) ≡ after (variable (take n bs) ∷ []) (parts_of (drop n bs))
bare-some bs n e some within = rw (run-named bs) (name_front is_name_byte parts_of bs n e some within)

pub braced-none : (bs : List ℕ) (n : ℕ) → n ≡ prefix_len is_name_byte bs → n ≡ 0 → variable_part (braced bs) ≡ None
braced-none bs n e z = rw (run-braced bs) (no_name is_name_byte braced_end bs (sym e ∙ z))

pub braced-some : (bs : List ℕ) (n : ℕ) → n ≡ prefix_len is_name_byte bs → (n ≡ 0 → ⊥) → n ≤ length bs → variable_part (braced bs) ≡ after (variable (take n bs) ∷ []) (braced_end (drop n bs))
braced-some bs n e some within = rw (run-braced bs) (name_front is_name_byte braced_end bs n e some within)

-- plain text in front of other parts
pub parts-plain : (bs : List ℕ) (n : ℕ) → 0 < length bs → (get_or bs 0 0 ≡ 36 → ⊥) → n ≡ prefix_len is_plain_byte bs → parts_of bs ≡ after (Plain (take n bs) ∷ []) (parts_of (drop n bs))
parts-plain [] n some other e = absurd (omega arith)
parts-plain (b ∷ bs) n some other e =
    let no_dollar = ne_eqb b 36 other in
    let whole : kept b (plain bs) ≡ run_while is_plain_byte parts_of (b ∷ bs) = sym (run_while-passes is_plain_byte parts_of b bs (ap not no_dollar) ∙ ap (kept b) (sym (run-plain bs))) in
    rw no_dollar (ap plain_part whole ∙ rw e refl)

-- a `}` at the front ends the name
pub braced_end-brace : (bs : List ℕ) → 0 < length bs → get_or bs 0 0 ≡ 125 → braced_end bs ≡ parts_of (take (length bs - 1) (drop 1 bs))
braced_end-brace [] some e = absurd (omega arith)
braced_end-brace (b ∷ bs) some e =
    let all : length (b ∷ bs) - 1 ≡ length bs = omega arith in
    rw (eq-eqb b 125 e, all, take-length bs) refl

-- any other byte ends it wrongly, and so does the end of the text
pub braced_end-none : (bs : List ℕ) → (0 < length bs → get_or bs 0 0 ≡ 125 → ⊥) → braced_end bs ≡ None
braced_end-none [] other = refl
braced_end-none (b ∷ bs) other = rw (ne_eqb b 125 (other (omega arith))) refl

-- a `}` behind a name
pub braced-brace : (bs behind : List ℕ) (n : ℕ) → n ≡ prefix_len is_name_byte bs → (n ≡ 0 → ⊥) → n ≤ length bs → behind ≡ drop n bs → 0 < length behind → get_or behind 0 0 ≡ 125
    → variable_part (braced bs) ≡ after (variable (take n bs) ∷ []) (parts_of (take (length behind - 1) (drop 1 behind)))
braced-brace bs behind n e some within rest more first =
    braced-some bs n e some within
    ∙ ap (after (variable (take n bs) ∷ [])) (ap braced_end (sym rest) ∙ braced_end-brace behind more first)

-- no `}` behind a name
pub braced-wrong : (bs behind : List ℕ) (n : ℕ) → n ≡ prefix_len is_name_byte bs → (n ≡ 0 → ⊥) → n ≤ length bs → behind ≡ drop n bs → (0 < length behind → get_or behind 0 0 ≡ 125 → ⊥)
    → variable_part (braced bs) ≡ None
braced-wrong bs behind n e some within rest other =
    braced-some bs n e some within
    ∙ ap (after (variable (take n bs) ∷ [])) (ap braced_end (sym rest) ∙ braced_end-none behind other)
