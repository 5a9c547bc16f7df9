-- Coded text reads back.
use Rattle.std.proofs.Common.{ℕ, ◌≡◌, ◌+◌, ◌*◌, ◌/◌, ◌%◌, ◌<◌, Bool, true, false, cond, ◌&&◌, ◌==◌, not, List, [], ◌∷◌, ◌++◌, Option, Some, None, sym, ap, subst, ◌∙◌, refl, arith, zero, suc}
use Rattle.std.specs.List.{All, flat_map}
use Rattle.std.specs.Char.{digit_value}
use Rattle.std.proofs.lemmas.List.Elements.{All-head, All-tail}
use Rattle.std.specs.Prelude.{nat_lt}
use Rattle.std.proofs.lemmas.Bool.{lt-ltb}
use Rattle.zone_outside.specs.Coded.{is_plain, are_hex, after, decoded}
use Rattle.decision_text.specs.Coding.{hex_digit, coded_byte, coded}

-- a digit's value
pub hex_value : (n : ℕ) → n < 16 → digit_value (hex_digit n) ≡ n
hex_value zero small = refl
hex_value (suc zero) small = refl
hex_value (suc (suc zero)) small = refl
hex_value (suc (suc (suc zero))) small = refl
hex_value (suc (suc (suc (suc zero)))) small = refl
hex_value (suc (suc (suc (suc (suc zero))))) small = refl
hex_value (suc (suc (suc (suc (suc (suc zero)))))) small = refl
hex_value (suc (suc (suc (suc (suc (suc (suc zero))))))) small = refl
hex_value (suc (suc (suc (suc (suc (suc (suc (suc zero)))))))) small = refl
hex_value (suc (suc (suc (suc (suc (suc (suc (suc (suc zero))))))))) small = refl
hex_value (suc (suc (suc (suc (suc (suc (suc (suc (suc (suc zero)))))))))) small = refl
hex_value (suc (suc (suc (suc (suc (suc (suc (suc (suc (suc (suc zero))))))))))) small = refl
hex_value (suc (suc (suc (suc (suc (suc (suc (suc (suc (suc (suc (suc zero)))))))))))) small = refl
hex_value (suc (suc (suc (suc (suc (suc (suc (suc (suc (suc (suc (suc (suc zero))))))))))))) small = refl
hex_value (suc (suc (suc (suc (suc (suc (suc (suc (suc (suc (suc (suc (suc (suc zero)))))))))))))) small = refl
hex_value (suc (suc (suc (suc (suc (suc (suc (suc (suc (suc (suc (suc (suc (suc (suc zero))))))))))))))) small = refl
hex_value (suc (suc (suc (suc (suc (suc (suc (suc (suc (suc (suc (suc (suc (suc (suc (suc n)))))))))))))))) small = absurd (omega (arith, small))

-- a plain byte before coded text
plain_first : (b : ℕ) (rest : List ℕ) → is_plain b ≡ true → (b == 37) ≡ false → decoded (b ∷ rest) ≡ after (b ∷ []) (decoded rest)
plain_first b [] plain other = rw other (rw plain refl)
plain_first b (d ∷ []) plain other = rw other (rw plain refl)
plain_first b (d ∷ e ∷ rest) plain other = rw other (rw plain refl)

-- an escape before coded text
escape_first : (h l : ℕ) (rest : List ℕ) → are_hex h l ≡ true → decoded (37 ∷ h ∷ l ∷ rest) ≡ after ((digit_value h * 16 + digit_value l) ∷ []) (decoded rest)
escape_first h l rest hex = rw hex refl

-- two digits of a byte
digits_hex : (b : ℕ) → b < 256 → are_hex (hex_digit (b / 16)) (hex_digit (b % 16)) ≡ true
digits_hex b small =
    let high : b / 16 < 16 = omega (arith, small) in
    let low : b % 16 < 16 = omega arith in
    rw (hex_value (b / 16) high) (rw (hex_value (b % 16) low) (lt-both (b / 16) (b % 16) high low))
  where
    lt-both : (x y : ℕ) → x < 16 → y < 16 → (nat_lt x 16 && nat_lt y 16) ≡ true
    lt-both x y sx sy = rw (lt-ltb x 16 sx) (lt-ltb y 16 sy)

digits_value_is : (b : ℕ) → b < 256 → digit_value (hex_digit (b / 16)) * 16 + digit_value (hex_digit (b % 16)) ≡ b
digits_value_is b small =
    let high : b / 16 < 16 = omega (arith, small) in
    let low : b % 16 < 16 = omega arith in
    rw (hex_value (b / 16) high) (rw (hex_value (b % 16) low) (omega arith))

-- a byte as it is printed, before coded text
byte_first : (b : ℕ) (rest : List ℕ) → b < 256 → decoded (coded_byte b ++ rest) ≡ after (b ∷ []) (decoded rest)
byte_first b rest small = go (is_plain b) (b == 37) refl refl where
  escaped : List ℕ → Type 0
  escaped front = decoded (front ++ rest) ≡ after (b ∷ []) (decoded rest)

  by_digits : decoded (37 ∷ hex_digit (b / 16) ∷ hex_digit (b % 16) ∷ rest) ≡ after (b ∷ []) (decoded rest)
  by_digits = escape_first (hex_digit (b / 16)) (hex_digit (b % 16)) rest (digits_hex b small) ∙ ap (λ (n : ℕ). after (n ∷ []) (decoded rest)) (digits_value_is b small)

  go : (plain percent : Bool) → is_plain b ≡ plain → (b == 37) ≡ percent → escaped (cond (plain && not percent) (b ∷ []) (37 ∷ hex_digit (b / 16) ∷ hex_digit (b % 16) ∷ []))
  go true true p q = by_digits
  go true false p q = plain_first b rest p q
  go false percent p q = by_digits

pub reads_back : (name : List ℕ) → All (λ b. b < 256) name → decoded (coded name) ≡ Some name
reads_back [] all = refl
reads_back (b ∷ bs) all = byte_first b (coded bs) (All-head (λ (x : ℕ). x < 256) b bs all) ∙ ap (after (b ∷ [])) (reads_back bs (All-tail (λ (x : ℕ). x < 256) b bs all))
