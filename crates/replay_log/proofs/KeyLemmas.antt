-- The ranges of a log of keys, from what its lines say.
use Rattle.std.proofs.Common.{ℕ, ◌≡◌, ◌∙◌, ◌-◌, ◌^◌, ◌<◌, Bool, true, false, not, ◌&&◌, eqb, List, [], ◌∷◌, length, Option, Some, None, Result, Ok, Err, IfOk, arith, ap, sym, refl, subst}
use Rattle.std.specs.List.{All, list_all}
use Rattle.std.proofs.lemmas.Bool.Decides.{nat_tests}
use denote.Ref.{Bor}
use Rattle.std.specs.declared.vec.Vec.{Vec}
use Rattle.std.specs.declared.alloc.Global.{Global}
use Rattle.zone_outside.specs.Coded.{after, decoded, is_plain}
use Rattle.zone_outside.specs.Numbers.{number_of}
use Rattle.replay_log.specs.declared.fault.LogFault.{LogFault}
use Rattle.replay_log.specs.declared.keys.KeyLine.{KeyLine}
use Rattle.replay_log.specs.Lines.{parts}
use Rattle.replay_log.specs.Words.{then_behind, or_kind}
use Rattle.replay_log.specs.Keys.{some_key, key_of, with_key, at_key, key_words, key_line, keys_of}
use Rattle.replay_log.specs.Limits.{IsKeyLine}
use Rattle.replay_log.specs.Reading.{GivesLines}
use Rattle.replay_log.specs.Next.{GivesNext}
use Rattle.replay_log.proofs.PartLemmas.{both, whole_part}
use Rattle.replay_log.proofs.LimitLemmas.{same_Ok, then_ok, kind_ok, number_below, lines_all}

-- a key that is read has a byte
some_byte : (found : Option (List ℕ)) (key : List ℕ) → Some key ≡ some_key found → 0 < length key
some_byte None key is = absurd (cc)
some_byte (Some []) key is = absurd (cc)
some_byte (Some (b ∷ bs)) key is = let same : key ≡ b ∷ bs = cc in rw same (omega arith)

end_limits : (moment : ℕ) (words : List (List ℕ)) (key : List ℕ) (line : KeyLine) → moment < 2 ^ 42 → 0 < length key → with_key moment words key ≡ Ok line → IsKeyLine line
end_limits moment [] key line early some is = let P : KeyLine → Type 0 = IsKeyLine in subst P (same_Ok _ line is) (early, some)
end_limits moment (word ∷ words) key line early some is = absurd (cc)

key_limits : (moment : ℕ) (words : List (List ℕ)) (line : KeyLine) → moment < 2 ^ 42 → at_key moment words ≡ Ok line → IsKeyLine line
key_limits moment [] line early is = absurd (cc)
key_limits moment (word ∷ words) line early is =
    let at = then_ok (key_of word) _ line is in
    end_limits moment words at.0 line early (some_byte (decoded word) at.0 (kind_ok 12 (some_key (decoded word)) at.0 at.1)) at.2

line_limits : (words : List (List ℕ)) (line : KeyLine) → key_words words ≡ Ok line → IsKeyLine line
line_limits [] line is = absurd (cc)
line_limits (word ∷ words) line is =
    let at = then_ok (or_kind 2 (number_of (2 ^ 42 - 1) word)) _ line is in
    key_limits at.0 words line (number_below 2 (2 ^ 42) word at.0 (omega arith) at.1) at.2

-- the keys of a log are in their ranges
keys_limits : (text : List ℕ) (lines : List KeyLine) → keys_of text ≡ Ok lines → All IsKeyLine lines
keys_limits text lines is = lines_all key_line IsKeyLine (λ n line found some last said. line_limits (parts 32 line) found said) 1 (parts 10 text) lines (omega arith) is

pub limits_of_keys : (text : List ℕ) (result : Result (Vec KeyLine Global) LogFault) → GivesLines (keys_of text) result → IfOk result (λ lines. All IsKeyLine lines.items)
limits_of_keys text (Ok lines) said = keys_limits text lines.items said
limits_of_keys text (Err fault) said = tt

-- ---- words without escapes

not_false : (b : Bool) → not b ≡ true → b ≡ false
not_false true is = absurd (cc)
not_false false is = refl

-- a byte that stands for itself
itself : (c : ℕ) (rest : List ℕ) → eqb c 37 ≡ false → is_plain c ≡ true → decoded (c ∷ rest) ≡ after (c ∷ []) (decoded rest)
itself c [] other plain = rw (other, plain) refl
itself c (d ∷ []) other plain = rw (other, plain) refl
itself c (d ∷ e ∷ rest) other plain = rw (other, plain) refl

pub plain_decoded : (word : List ℕ) → list_all (λ c. is_plain c && not (eqb c 37)) word ≡ true → decoded word ≡ Some word
plain_decoded [] all = refl
plain_decoded (c ∷ rest) all =
    let here = both (is_plain c && not (eqb c 37)) (list_all (λ c. is_plain c && not (eqb c 37)) rest) all in
    let parts = both (is_plain c) (not (eqb c 37)) here.0 in
    itself c rest (not_false (eqb c 37) parts.1) parts.0 ∙ ap (after (c ∷ [])) (plain_decoded rest here.1)

-- a word of bytes that stand for themselves is the key
pub plain_key : (word : List ℕ) → 0 < length word → list_all (λ c. is_plain c && not (eqb c 37)) word ≡ true → key_of word ≡ Ok word
plain_key [] some all = absurd (omega (arith, some))
plain_key (c ∷ rest) some all = ap (λ found. or_kind 12 (some_key found)) (plain_decoded (c ∷ rest) all)

-- a byte that stands for itself is no space
no_space : (x : ℕ) (same : Bool) → eqb x 32 ≡ same → (is_plain x && not (eqb x 37)) ≡ true → same ≡ false
no_space x true is plain = absurd (grind (arith, nat_tests))
no_space x false is plain = refl

-- bytes that stand for themselves, up to the end of a line, are one word and the key
pub plain_line : (moment : ℕ) (rest key : List ℕ) → 0 < length rest → list_all (λ c. is_plain c && not (eqb c 37)) rest ≡ true → key ≡ rest → at_key moment (parts 32 rest) ≡ Ok (record { moment = moment; key = key })
plain_line moment rest key some all is =
    ap (at_key moment) (whole_part (λ c. is_plain c && not (eqb c 37)) 32 rest (λ x plain. no_space x (eqb x 32) refl plain) all)
    ∙ ap (λ found. then_behind found (λ k. with_key moment [] k)) (plain_key rest some all)
    ∙ ap (λ (k : List ℕ). Ok (record { moment = moment; key = k })) (sym is)

-- ---- one key after another

-- the next key is in its ranges
pub next_limits : (n : ℕ) (rest : List ℕ) (result : Result (KeyLine × Bor (List ℕ)) LogFault) → GivesNext key_line n rest result → IfOk result (λ next. IsKeyLine next.0)
next_limits n rest (Ok next) is = line_limits (parts 32 is.front) next.0 is.said
next_limits n rest (Err fault) is = tt
