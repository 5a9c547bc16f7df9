-- The text of a zone's words tells each of them.
use Rattle.std.proofs.Common.{ℕ, zero, suc, ◌≡◌, ◌≢◌, ◌+◌, ◌%◌, ◌^◌, ◌<◌, ◌≤◌, ◌⊎◌, inl, inr, List, [], ◌∷◌, ◌++◌, length, Ok, sym, ap, subst, ◌∙◌, refl, arith, append_assoc}
use Rattle.std.specs.Prelude.{codes, decimal}
use Rattle.std.specs.Int.{w64, to_be_bytes, from_be_bytes}
use Rattle.std.proofs.lemmas.Bool.{cases_eq, ne_eqb}
use Rattle.std.proofs.lemmas.Fmt.{decimal_by_steps, decimal_injective}
use Rattle.std.proofs.lemmas.List.{append_cancel_left}
use Rattle.std.proofs.lemmas.List.Elements.{All-head, All-tail}
use Rattle.std.proofs.lemmas.Nat.{from_be_bytes-to_be_bytes_8}
use Rattle.hex.specs.Hex.{IsBytes, decode_of, lower_digits}
use Rattle.hex.proofs.HexLemmas.{decode_of-encode_lower, decode_of-same, length-encode_with}
use Rattle.decision_text.specs.Coding.{coded}
use Rattle.decision_text.specs.Hexadecimal.{hex_word}
use Rattle.decision_text.specs.TailText.{AreWords, word_text, words_text, image_text, BeginsNoWord}

-- ---- where a text is cut

-- the byte isn't in the text
abbrev pub Lacks : ℕ → List ℕ → Type 0
Lacks s [] = Unit {0}
Lacks s (c ∷ cs) = (c ≢ s) × Lacks s cs

-- two equal texts are cut alike at the first place of a byte
pub cut_at : (s : ℕ) (a b x y : List ℕ) → Lacks s a → Lacks s b → a ++ s ∷ x ≡ b ++ s ∷ y → (a ≡ b) × (x ≡ y)
cut_at s [] [] x y p q e = (refl, cc)
cut_at s [] (b ∷ bs) x y p q e = let h : b ≡ s = cc in absurd (q.0 h)
cut_at s (a ∷ as_) [] x y p q e = let h : a ≡ s = cc in absurd (p.0 h)
cut_at s (a ∷ as_) (b ∷ bs) x y p q e =
    let first : a ≡ b = cc in
    let rest : as_ ++ s ∷ x ≡ bs ++ s ∷ y = cc in
    let more = cut_at s as_ bs x y p.1 q.1 rest in
    (ap (λ (c : ℕ). c ∷ as_) first ∙ ap (λ (cs : List ℕ). b ∷ cs) more.0, more.1)

-- two equal texts are cut alike behind as many bytes
cut_behind : (a b x y : List ℕ) → length a ≡ length b → a ++ x ≡ b ++ y → (a ≡ b) × (x ≡ y)
cut_behind [] [] x y same e = (refl, e)
cut_behind [] (b ∷ bs) x y same e = absurd (omega (arith, same))
cut_behind (a ∷ as_) [] x y same e = absurd (omega (arith, same))
cut_behind (a ∷ as_) (b ∷ bs) x y same e =
    let first : a ≡ b = cc in
    let rest : as_ ++ x ≡ bs ++ y = cc in
    let more = cut_behind as_ bs x y (omega (arith, same)) rest in
    (ap (λ (c : ℕ). c ∷ as_) first ∙ ap (λ (cs : List ℕ). b ∷ cs) more.0, more.1)

pub lacks-append : (s : ℕ) (a b : List ℕ) → Lacks s a → Lacks s b → Lacks s (a ++ b)
lacks-append s [] b p q = q
lacks-append s (c ∷ cs) b p q = (p.0, lacks-append s cs b p.1 q)

-- a number has digits alone
pub lacks-decimal : (s n : ℕ) → s < 48 → n < 2 ^ 64 → Lacks s (decimal n)
lacks-decimal s n low small =
    decimal_by_steps (λ m ds. Lacks s ds)
    (λ m l. (λ e. absurd (omega (arith, e, low)), tt))
    (λ m ds l h. lacks-append s ds ((48 + m % 10) ∷ []) h (λ e. absurd (omega (arith, e, low)), tt)) n small

-- ---- a word in hexadecimal digits

pub bytes-word : (v : ℕ) → IsBytes (to_be_bytes w64 v)
bytes-word v zero = omega arith
bytes-word v (suc zero) = omega arith
bytes-word v (suc (suc zero)) = omega arith
bytes-word v (suc (suc (suc zero))) = omega arith
bytes-word v (suc (suc (suc (suc zero)))) = omega arith
bytes-word v (suc (suc (suc (suc (suc zero))))) = omega arith
bytes-word v (suc (suc (suc (suc (suc (suc zero)))))) = omega arith
bytes-word v (suc (suc (suc (suc (suc (suc (suc zero))))))) = omega arith
bytes-word v (suc (suc (suc (suc (suc (suc (suc (suc i)))))))) = omega arith

length-word : (v : ℕ) → length (hex_word v) ≡ 16
length-word v = length-encode_with lower_digits (to_be_bytes w64 v)

word-same : (v w : ℕ) → v < 2 ^ 64 → w < 2 ^ 64 → hex_word v ≡ hex_word w → v ≡ w
word-same v w sv sw e =
    let first = decode_of-encode_lower (to_be_bytes w64 v) (bytes-word v) in
    let second : decode_of (hex_word v) ≡ Ok (to_be_bytes w64 w) = ap decode_of e ∙ decode_of-encode_lower (to_be_bytes w64 w) (bytes-word w) in
    let bytes = decode_of-same (hex_word v) (to_be_bytes w64 v) (to_be_bytes w64 w) first second in
    sym (from_be_bytes-to_be_bytes_8 v sv) ∙ ap (from_be_bytes w64) bytes ∙ from_be_bytes-to_be_bytes_8 w sw

-- ---- the lines of words

-- the line of a word, before what follows it
abbrev line_before : ℕ → ℕ → List ℕ → List ℕ
line_before index value rest = 119 ∷ 32 ∷ (decimal index ++ 32 ∷ (hex_word value ++ 10 ∷ rest))

line-some : (index value : ℕ) (rest : List ℕ) → value ≢ 0 → word_text index value ++ rest ≡ line_before index value rest
line-some index value rest some = rw (ne_eqb value 0 some) (simp append_assoc)

-- the lines of words that begin with one of 0
lines-none : (index w : ℕ) (ws end : List ℕ) → w ≡ 0 → words_text index (w ∷ ws) ++ end ≡ words_text (index + 1) ws ++ end
lines-none index w ws end none = ap (λ (v : ℕ). word_text index v ++ words_text (index + 1) ws ++ end) none

-- and of those that don't
lines-some : (index w : ℕ) (ws end : List ℕ) → w ≢ 0 → words_text index (w ∷ ws) ++ end ≡ line_before index w (words_text (index + 1) ws ++ end)
lines-some index w ws end some = append_assoc (word_text index w) (words_text (index + 1) ws) end ∙ line-some index w (words_text (index + 1) ws ++ end) some

-- a text is the end, or begins with the line of a word from this one on
abbrev IsFrom : List ℕ → ℕ → List ℕ → Type 0
IsFrom end index text = (text ≡ end) ⊎ ((k value : ℕ) × (rest : List ℕ) × (index ≤ k) × (k < 2 ^ 64) × (text ≡ line_before k value rest))

words-from : (end : List ℕ) (index : ℕ) (words : List ℕ) → index + length words < 2 ^ 64 → IsFrom end index (words_text index words ++ end)
words-from end index [] fits = inl refl
words-from end index (w ∷ ws) fits = elim (cases_eq w 0) [
  | inl none ↦
      let here = lines-none index w ws end none in
      elim (words-from end (index + 1) ws (omega (arith, fits))) [
        | inl over ↦ inl (here ∙ over)
        | inr line ↦ inr (line.0, line.1, line.2, omega (arith, line.3), line.4, here ∙ line.5)
      ]
  | inr some ↦ inr (index, w, words_text (index + 1) ws ++ end, omega arith, omega (arith, fits), lines-some index w ws end some)
]

-- the line of a word doesn't begin a text of later words
line-later : (end : List ℕ) (index value : ℕ) (rest text : List ℕ) → BeginsNoWord end → index < 2 ^ 64 → IsFrom end (index + 1) text → text ≡ line_before index value rest → ⊥
line-later end index value rest text quiet small (inl over) e =
    let begins : end ≡ line_before index value rest = sym over ∙ e in
    let no : 119 ≢ 119 = subst (λ (t : List ℕ). BeginsNoWord t) begins quiet in
    no refl
line-later end index value rest text quiet small (inr line) e =
    let both : line_before line.0 line.1 line.2 ≡ line_before index value rest = sym line.5 ∙ e in
    let tails : decimal line.0 ++ 32 ∷ (hex_word line.1 ++ 10 ∷ line.2) ≡ decimal index ++ 32 ∷ (hex_word value ++ 10 ∷ rest) = cc in
    let cut = cut_at 32 (decimal line.0) (decimal index) (hex_word line.1 ++ 10 ∷ line.2) (hex_word value ++ 10 ∷ rest) (lacks-decimal 32 line.0 (omega arith) line.4) (lacks-decimal 32 index (omega arith) small) tails in
    let same = decimal_injective line.0 index line.4 small cut.0 in
    omega (arith, same, line.3)

-- two equal lines of one place are those of one word, before equal texts
lines-same : (index v w : ℕ) (x y : List ℕ) → v < 2 ^ 64 → w < 2 ^ 64 → line_before index v x ≡ line_before index w y → (v ≡ w) × (x ≡ y)
lines-same index v w x y sv sw e =
    let tails : decimal index ++ 32 ∷ (hex_word v ++ 10 ∷ x) ≡ decimal index ++ 32 ∷ (hex_word w ++ 10 ∷ y) = cc in
    let behind = append_cancel_left (decimal index) (32 ∷ (hex_word v ++ 10 ∷ x)) (32 ∷ (hex_word w ++ 10 ∷ y)) tails in
    let digits : hex_word v ++ 10 ∷ x ≡ hex_word w ++ 10 ∷ y = cc in
    let cut = cut_behind (hex_word v) (hex_word w) (10 ∷ x) (10 ∷ y) (length-word v ∙ sym (length-word w)) digits in
    let last : 10 ∷ x ≡ 10 ∷ y = cut.1 in
    (word-same v w sv sw cut.0, cc)

-- as many words whose texts are equal are the same, and so is what follows them
words-same : (index : ℕ) (words others first second : List ℕ) → length words ≡ length others → index + length words < 2 ^ 64 → AreWords words → AreWords others → BeginsNoWord first → BeginsNoWord second
    → words_text index words ++ first ≡ words_text index others ++ second → (words ≡ others) × (first ≡ second)
words-same index [] [] first second same fits wide wide_others quiet quiet_too e = (refl, e)
words-same index [] (v ∷ vs) first second same fits wide wide_others quiet quiet_too e = absurd (omega (arith, same))
words-same index (w ∷ ws) [] first second same fits wide wide_others quiet quiet_too e = absurd (omega (arith, same))
words-same index (w ∷ ws) (v ∷ vs) first second same fits wide wide_others quiet quiet_too e =
    let small : index < 2 ^ 64 = omega (arith, fits) in
    let sw = All-head (λ (word : ℕ). word < 2 ^ 64) w ws wide in
    let sv = All-head (λ (word : ℕ). word < 2 ^ 64) v vs wide_others in
    let go = words-same (index + 1) ws vs first second (omega (arith, same)) (omega (arith, fits)) (All-tail (λ (word : ℕ). word < 2 ^ 64) w ws wide) (All-tail (λ (word : ℕ). word < 2 ^ 64) v vs wide_others) quiet quiet_too in
    elim (cases_eq w 0) [
      | inl none ↦
          let here = lines-none index w ws first none in
          elim (cases_eq v 0) [
            | inl none_other ↦
                let rest = go (sym here ∙ e ∙ lines-none index v vs second none_other) in
                (ap (λ (n : ℕ). n ∷ ws) (none ∙ sym none_other) ∙ ap (λ (ns : List ℕ). v ∷ ns) rest.0, rest.1)
            | inr some ↦ absurd (line-later first index v (words_text (index + 1) vs ++ second) (words_text (index + 1) ws ++ first) quiet small (words-from first (index + 1) ws (omega (arith, fits))) (sym here ∙ e ∙ lines-some index v vs second some))
          ]
      | inr some ↦
          let here = lines-some index w ws first some in
          elim (cases_eq v 0) [
            | inl none_other ↦
                absurd (line-later second index w (words_text (index + 1) ws ++ first) (words_text (index + 1) vs ++ second) quiet_too small (words-from second (index + 1) vs (omega (arith, fits, same))) (sym (lines-none index v vs second none_other) ∙ sym e ∙ here))
            | inr some_other ↦
                let both = lines-same index w v (words_text (index + 1) ws ++ first) (words_text (index + 1) vs ++ second) sw sv (sym here ∙ e ∙ lines-some index v vs second some_other) in
                let rest = go both.1 in
                (ap (λ (n : ℕ). n ∷ ws) both.0 ∙ ap (λ (ns : List ℕ). v ∷ ns) rest.0, rest.1)
          ]
    ]

-- ---- the whole

image-is : (name words rest : List ℕ) → image_text name words ++ rest ≡ (codes "zone " ++ coded name ++ codes " words ") ++ (decimal (length words) ++ 10 ∷ (words_text 0 words ++ rest))
image-is name words rest = simp append_assoc

-- two equal texts that begin with images of one name have the same words, and go on alike
pub image-before : (name words others first second : List ℕ) → AreWords words → AreWords others → length words < 2 ^ 64 → length others < 2 ^ 64 → BeginsNoWord first → BeginsNoWord second
    → image_text name words ++ first ≡ image_text name others ++ second → (words ≡ others) × (first ≡ second)
image-before name words others first second wide wide_others short short_others quiet quiet_too e =
    let front = codes "zone " ++ coded name ++ codes " words " in
    let tail : List ℕ → List ℕ → List ℕ = λ (ws rest : List ℕ). decimal (length ws) ++ 10 ∷ (words_text 0 ws ++ rest) in
    let both = append_cancel_left front (tail words first) (tail others second) (sym (image-is name words first) ∙ e ∙ image-is name others second) in
    let cut = cut_at 10 (decimal (length words)) (decimal (length others)) (words_text 0 words ++ first) (words_text 0 others ++ second) (lacks-decimal 10 (length words) (omega arith) short) (lacks-decimal 10 (length others) (omega arith) short_others) both in
    words-same 0 words others first second (decimal_injective (length words) (length others) short short_others cut.0) (omega (arith, short)) wide wide_others quiet quiet_too cut.1

pub image-same : (name words others : List ℕ) → AreWords words → AreWords others → length words < 2 ^ 64 → length others < 2 ^ 64 → image_text name words ≡ image_text name others → words ≡ others
image-same name words others wide wide_others short short_others e =
    let both = image-before name words others [] [] wide wide_others short short_others tt tt (ap (λ (t : List ℕ). t ++ []) e) in both.0
