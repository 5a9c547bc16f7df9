-- Texts that grow by one part at a time.
use Rattle.std.proofs.Common.{ℕ, ◌≡◌, ◌+◌, ◌<◌, ◌≤◌, List, [], ◌∷◌, ◌++◌, length, get_or, take, drop, sym, ap, subst, add-one, ◌∙◌, refl, arith, zero, suc, append_assoc, append-nil}
use Rattle.std.specs.List.{flat_map}
use Rattle.std.proofs.Math.Seq.{take-append-add, take-append_seam}
use Rattle.slab_model.specs.declared.stat.Stat.{Stat}
use Rattle.slab_model.specs.State.{no_stat}
use Rattle.decision_text.specs.TailText.{slot_text, slots_text, word_text, words_text}

-- one part more
pub parts_more : {X : Type 0} (f : X → List ℕ) (xs : List X) (i : ℕ) (d : X) → i < length xs → flat_map f (take (suc i) xs) ≡ flat_map f (take i xs) ++ f (get_or xs i d)
parts_more f [] i d below = absurd (omega arith)
parts_more f (x ∷ xs) zero d below = append-nil (f x)
parts_more f (x ∷ xs) (suc i) d below = ap (λ (ys : List ℕ). f x ++ ys) (parts_more f xs i d (omega (arith, below))) ∙ sym (append_assoc (f x) _ _)

here : (n : ℕ) → n ≡ n + 0
here n = omega arith

-- one class more, also where there is none
pub slots_more : (class : ℕ) (stats : List Stat) (i : ℕ) → slots_text class (take (suc i) stats) ≡ slots_text class (take i stats) ++ slot_text (class + i) (get_or stats i no_stat)
slots_more class [] zero = refl
slots_more class [] (suc i) = refl
slots_more class (stat ∷ stats) zero = append-nil (slot_text class stat) ∙ ap (λ n. slot_text n stat) (here class)
slots_more class (stat ∷ stats) (suc i) =
    let at : class + 1 + i ≡ class + suc i = omega arith in
    ap (λ (ys : List ℕ). slot_text class stat ++ ys) (slots_more (class + 1) stats i ∙ ap (λ n. slots_text (class + 1) (take i stats) ++ slot_text n (get_or stats i no_stat)) at) ∙ sym (append_assoc (slot_text class stat) _ _)

-- one word more
pub words_more : (index : ℕ) (words : List ℕ) (i : ℕ) → i < length words → words_text index (take (suc i) words) ≡ words_text index (take i words) ++ word_text (index + i) (get_or words i 0)
words_more index [] i below = absurd (omega arith)
words_more index (word ∷ words) zero below = append-nil (word_text index word) ∙ ap (λ n. word_text n word) (here index)
words_more index (word ∷ words) (suc i) below =
    let at : index + 1 + i ≡ index + suc i = omega arith in
    ap (λ (ys : List ℕ). word_text index word ++ ys) (words_more (index + 1) words i (omega (arith, below)) ∙ ap (λ n. words_text (index + 1) (take i words) ++ word_text n (get_or words i 0)) at) ∙ sym (append_assoc (word_text index word) _ _)

-- a text that has the first classes has one more
pub slots_grow : (old text new : List ℕ) (stats : List Stat) (i : ℕ) (stat : Stat) → text ≡ old ++ slots_text 0 (take i stats) → new ≡ text ++ slot_text i stat → stat ≡ get_or stats i no_stat → new ≡ old ++ slots_text 0 (take (i + 1) stats)
slots_grow old text new stats i stat had grew is =
    let at : 0 + i ≡ i = omega arith in
    let one = slots_more 0 stats i ∙ ap (λ n. slots_text 0 (take i stats) ++ slot_text n (get_or stats i no_stat)) at in
    let more : slots_text 0 (take i stats) ++ slot_text i stat ≡ slots_text 0 (take (suc i) stats) = ap (λ (x : Stat). slots_text 0 (take i stats) ++ slot_text i x) is ∙ sym one in
    let whole : new ≡ old ++ slots_text 0 (take (suc i) stats) = grew ∙ ap (λ (t : List ℕ). t ++ slot_text i stat) had ∙ append_assoc old (slots_text 0 (take i stats)) (slot_text i stat) ∙ ap (λ (t : List ℕ). old ++ t) more in
    subst (λ (n : ℕ). new ≡ old ++ slots_text 0 (take n stats)) (sym (add-one i)) whole

-- a text that has the first words has one more
pub words_grow : (old text new : List ℕ) (words : List ℕ) (i : ℕ) (word : ℕ) → i < length words → text ≡ old ++ words_text 0 (take i words) → new ≡ text ++ word_text i word → word ≡ get_or words i 0 → new ≡ old ++ words_text 0 (take (i + 1) words)
words_grow old text new words i word below had grew is =
    let at : 0 + i ≡ i = omega arith in
    let one = words_more 0 words i below ∙ ap (λ n. words_text 0 (take i words) ++ word_text n (get_or words i 0)) at in
    let more : words_text 0 (take i words) ++ word_text i word ≡ words_text 0 (take (suc i) words) = ap (λ x. words_text 0 (take i words) ++ word_text i x) is ∙ sym one in
    let whole : new ≡ old ++ words_text 0 (take (suc i) words) = grew ∙ ap (λ (t : List ℕ). t ++ word_text i word) had ∙ append_assoc old (words_text 0 (take i words)) (word_text i word) ∙ ap (λ (t : List ℕ). old ++ t) more in
    subst (λ (n : ℕ). new ≡ old ++ words_text 0 (take n words)) (sym (add-one i)) whole

-- a list is its own beginning
pub take_whole : {X : Type 0} (xs : List X) (n : ℕ) → length xs ≤ n → take n xs ≡ xs
take_whole [] zero enough = refl
take_whole [] (suc n) enough = refl
take_whole (x ∷ xs) zero enough = absurd (omega (arith, enough))
take_whole (x ∷ xs) (suc n) enough = ap (λ (ys : List _). x ∷ ys) (take_whole xs n (omega (arith, enough)))

-- digits that stand in a room, with all of the room behind a text, and what is behind the digits cut off
pub digits_cut : (old digits rest room : List ℕ) (start size count : ℕ) → drop start room ≡ digits ++ rest → size ≡ length digits + start → count ≡ length (old ++ digits)
    → take count (old ++ take size (drop start room)) ≡ old ++ digits
digits_cut old digits rest room start size count had is cut =
    ap (λ (k : ℕ). take k (old ++ take size (drop start room))) cut
    ∙ ap (λ (xs : List ℕ). take (length (old ++ digits)) (old ++ take size xs)) had
    ∙ ap (λ (k : ℕ). take (length (old ++ digits)) (old ++ take k (digits ++ rest))) is
    ∙ ap (λ (xs : List ℕ). take (length (old ++ digits)) (old ++ xs)) (take-append-add digits rest start)
    ∙ ap (take (length (old ++ digits))) (sym (append_assoc old digits (take start rest)))
    ∙ take-append_seam (old ++ digits) (take start rest)
