-- What one changed word leaves.
use Rattle.std.proofs.Common.{ℕ, ◌≡◌, ◌≢◌, ◌<◌, length, get_or, ap, ◌∙◌, sym, subst, inl, inr, get_or-set_same, get_or-set_other}
use Rattle.std.proofs.lemmas.List.{length-set}
use Rattle.std.proofs.lemmas.Bool.{cases_eq}
use Rattle.zone_region.specs.Words.{Words, word_at, SetsWord}

pub word_at-set_same : (m n : Words) (o i v : ℕ) → SetsWord m n o i v → i < length (m o) → word_at n o i ≡ v
word_at-set_same m n o i v s h = ap (λ ws. get_or ws i 0) s.changed ∙ get_or-set_same (m o) i v 0 h

pub word_at-set_block : (m n : Words) (o i v p j : ℕ) → SetsWord m n o i v → p ≢ o → word_at n p j ≡ word_at m p j
word_at-set_block m n o i v p j s h = ap (λ ws. get_or ws j 0) (s.others p h)

pub word_at-set_index : (m n : Words) (o i v p j : ℕ) → SetsWord m n o i v → j ≢ i → word_at n p j ≡ word_at m p j
word_at-set_index m n o i v p j s h = elim (cases_eq p o) [
  | inl e ↦ subst (λ (q : ℕ). word_at n q j ≡ word_at m q j) (sym e) (ap (λ ws. get_or ws j 0) s.changed ∙ get_or-set_other (m o) i j v 0 h)
  | inr ne ↦ word_at-set_block m n o i v p j s ne
]

pub length-set_word : (m n : Words) (o i v p : ℕ) → SetsWord m n o i v → length (n p) ≡ length (m p)
length-set_word m n o i v p s = elim (cases_eq p o) [
  | inl e ↦ subst (λ (q : ℕ). length (n q) ≡ length (m q)) (sym e) (ap (λ ws. length ws) s.changed ∙ length-set (m o) i v)
  | inr ne ↦ ap (λ ws. length ws) (s.others p ne)
]
