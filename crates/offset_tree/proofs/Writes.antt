-- What each write to links leaves, word by word.
use Rattle.std.proofs.Common.{ℕ, ◌≡◌, ◌≢◌, ◌+◌, ◌%◌, ◌<◌, ◌≤◌, Bool, sym, ap, subst, ◌∙◌, refl, arith, length, get_or, set, inl, inr, get_or-set_same, get_or-set_other}
use Rattle.std.proofs.lemmas.Bool.{cases_eq}
use Rattle.std.proofs.lemmas.List.{length-set}
use Rattle.zone_region.specs.Words.{Words, word_at, SetsWord}
use Rattle.zone_region.proofs.WordLemmas.{word_at-set_same, word_at-set_block, word_at-set_index, length-set_word}
use Rattle.offset_tree.specs.declared.side.Side.{Side}
use Rattle.offset_tree.specs.declared.side.Side.TheVariants.{Left, Right}
use Rattle.offset_tree.specs.Inside.Sides.{child_word, other_of}
use Rattle.offset_tree.specs.Inside.Shape.{Shape, leaf, node, Path, top, step, hits, hits_path}
use Rattle.offset_tree.specs.Inside.Links.{Lies, LiesAround, SetsTwo, SetsParent, Replaces}
use Rattle.offset_tree.proofs.ShapeLemmas.{one-same}
use Rattle.offset_tree.proofs.LiesLemmas.{Lies-same, LiesAround-same}

pub index-sum : (s : Side) → child_word s + child_word (other_of s) ≡ 3
index-sum Left = refl
index-sum Right = refl

pub index-low : (s : Side) → 1 ≤ child_word s
index-low Left = omega arith
index-low Right = omega arith

pub index-other : (s : Side) → 1 ≤ child_word (other_of s)
index-other Left = omega arith
index-other Right = omega arith

pub two_first : (m n : Words) (o i v j w : ℕ) → SetsTwo m n o i v j w → i ≢ j → i < length (m o) → word_at n o i ≡ v
two_first m n o i v j w s ne h = ap (λ ws. get_or ws i 0) s.changed ∙ (get_or-set_other (set (m o) i v) j i w 0 ne ∙ get_or-set_same (m o) i v 0 h)

pub two_second : (m n : Words) (o i v j w : ℕ) → SetsTwo m n o i v j w → j < length (m o) → word_at n o j ≡ w
two_second m n o i v j w s h = ap (λ ws. get_or ws j 0) s.changed ∙ get_or-set_same (set (m o) i v) j w 0 (omega (arith, length-set (m o) i v))

pub two_other : (m n : Words) (o i v j w k : ℕ) → SetsTwo m n o i v j w → k ≢ i → k ≢ j → word_at n o k ≡ word_at m o k
two_other m n o i v j w k s ni nj = ap (λ ws. get_or ws k 0) s.changed ∙ (get_or-set_other (set (m o) i v) j k w 0 nj ∙ get_or-set_other (m o) i k v 0 ni)

pub two_length : (m n : Words) (o i v j w z : ℕ) → SetsTwo m n o i v j w → length (n z) ≡ length (m z)
two_length m n o i v j w z s = elim (cases_eq z o) [
  | inl e ↦ subst (λ (q : ℕ). length (n q) ≡ length (m q)) (sym e) (ap (λ ws. length ws) s.changed ∙ (length-set (set (m o) i v) j w ∙ length-set (m o) i v))
  | inr ne ↦ ap (λ ws. length ws) (s.others z ne)
]

pub parent_length : (m n : Words) (nil o p z : ℕ) → SetsParent m n nil o p → length (n z) ≡ length (m z)
parent_length m n nil o p z s = elim (cases_eq z o) [
  | inl e ↦ elim (cases_eq o nil) [
    | inl n0 ↦ ap (λ ws. length ws) (s.others z (inr n0))
    | inr live ↦ subst (λ (q : ℕ). length (n q) ≡ length (m q)) (sym e) (ap (λ ws. length ws) (s.here live) ∙ length-set (m o) 3 p)
  ]
  | inr ne ↦ ap (λ ws. length ws) (s.others z (inl ne))
]

pub replace_length : (m n : Words) (context p o v z : ℕ) → Replaces m n context p o v → length (n z) ≡ length (m z)
replace_length m n context p o v z s = elim (cases_eq p 0) [
  | inl e ↦ length-set_word m n _ _ v z (s.root e)
  | inr ne ↦ elim (cases_eq (word_at m p 1) o) [
    | inl l ↦ length-set_word m n _ _ v z (s.left ne l)
    | inr r ↦ length-set_word m n _ _ v z (s.right ne r)
  ]
]

-- only the parent and the context can change
pub replace_other : (m n : Words) (context p o v z : ℕ) → Replaces m n context p o v → z ≢ context → z ≢ p → n z ≡ m z
replace_other m n context p o v z s nc np = elim (cases_eq p 0) [
  | inl e ↦ (s.root e).others z nc
  | inr ne ↦ elim (cases_eq (word_at m p 1) o) [
    | inl l ↦ (s.left ne l).others z np
    | inr r ↦ (s.right ne r).others z np
  ]
]

-- a tree that isn't empty has its offset among its blocks
pub hits_root : (m : Words) (nil : ℕ) (t : Shape) (o p : ℕ) → Lies m nil t o p → o ≢ nil → 0 < hits o t
hits_root m nil leaf o p h ne = absurd (ne h)
hits_root m nil (node c l x r) o p h ne = omega (arith, one-same o x h.0)

pub replaced_step : (m n : Words) (nil context : ℕ) (s : Side) (c : Bool) (x : ℕ) (far : Shape) (up : Path) (o v : ℕ) →
    ((z : ℕ) → hits_path z (step s c x far up) ≤ 1) → x ≢ context → 5 ≤ length (m x) →
    SetsWord m n x (child_word s) v → LiesAround m nil (word_at m context 0) (step s c x far up) o x → LiesAround n nil (word_at n context 0) (step s c x far up) v x
replaced_step m n nil context s c x far up o v tidy nc room w h =
    let same = λ (j : ℕ) (ne : j ≢ child_word s). word_at-set_index m n x (child_word s) v x j w ne in
    let others = λ (z : ℕ) (i : 0 < hits z far + hits_path z up). w.others z (λ e. omega (arith, i, tidy z, one-same z x e)) in
    let far_at = same (child_word (other_of s)) (λ e. omega (arith, e, index-sum s)) in
    let root : word_at n context 0 ≡ word_at m context 0 = word_at-set_block m n x (child_word s) v context 0 w (λ e. nc (sym e)) in (
      refl,
      word_at-set_same m n x (child_word s) v w (omega (arith, room, index-sum s, index-low s)),
      ap (λ q. q % 256) (same 4 (λ e. omega (arith, e, index-sum s))) ∙ h.2,
      subst (λ (q : ℕ). Lies n nil far q x) (sym far_at) (Lies-same m n nil far (word_at m x (child_word (other_of s))) x (λ z i. others z (omega (arith, i))) h.3),
      subst (λ (q : ℕ). LiesAround n nil (word_at n context 0) up x q) (sym (same 3 (λ e. omega (arith, e, index-sum s, index-other s))))
          (subst (λ (q : ℕ). LiesAround n nil q up x (word_at m x 3)) (sym root) (LiesAround-same m n nil (word_at m context 0) up x (word_at m x 3) (λ z i. others z (omega (arith, i))) h.4)),
    )

-- the way around a place where another block is linked
pub replaced : (m n : Words) (nil context : ℕ) (k : Path) (o p v : ℕ) → ((z : ℕ) → hits_path z k ≤ 1) →
    ((z : ℕ) → 0 < hits_path z k → (z ≢ context) × (z ≢ 0) × (5 ≤ length (m z))) → 8 ≤ length (m context) → o ≢ nil → hits_path o k ≡ 0 →
    Replaces m n context p o v → LiesAround m nil (word_at m context 0) k o p → LiesAround n nil (word_at n context 0) k v p
replaced m n nil context top o p v tidy live head live_o alone w h = (word_at-set_same m n context 0 v (w.root h.1) (omega (arith, head)), h.1)
replaced m n nil context (step Left c x far up) o p v tidy live head live_o alone w h =
    let i = live x (omega (arith, one-same x x refl)) in
    let w' = subst (λ (q : ℕ). (q ≢ 0) → (word_at m q 1 ≡ o) → SetsWord m n q 1 v) h.0 w.left in
    let h' = subst (λ (q : ℕ). LiesAround m nil (word_at m context 0) (step Left c x far up) o q) h.0 h in
    subst (λ (q : ℕ). LiesAround n nil (word_at n context 0) (step Left c x far up) v q) (sym h.0)
    (replaced_step m n nil context Left c x far up o v tidy i.0 i.2 (w' i.1 h.1) h')
replaced m n nil context (step Right c x far up) o p v tidy live head live_o alone w h =
    let i = live x (omega (arith, one-same x x refl)) in
    let w' = subst (λ (q : ℕ). (q ≢ 0) → (word_at m q 1 ≢ o) → SetsWord m n q 2 v) h.0 w.right in
    let h' = subst (λ (q : ℕ). LiesAround m nil (word_at m context 0) (step Right c x far up) o q) h.0 h in
    let not_left : word_at m x 1 ≢ o = λ e. let j = hits_root m nil far o x (subst (λ (q : ℕ). Lies m nil far q x) e h.3) live_o in omega (arith, j, alone) in
    subst (λ (q : ℕ). LiesAround n nil (word_at n context 0) (step Right c x far up) v q) (sym h.0)
    (replaced_step m n nil context Right c x far up o v tidy i.0 i.2 (w' i.1 not_left) h')
