-- Each write to links changes links alone.
use Rattle.std.proofs.Common.{ℕ, ◌≡◌, ◌≢◌, ◌⊎◌, ◌+◌, ◌/◌, ◌<◌, ◌≤◌, sym, ap, subst, ◌∙◌, refl, arith, length, inl, inr, List, ◌∷◌}
use Rattle.std.proofs.lemmas.Bool.{cases_eq}
use Rattle.zone_region.specs.Words.{Words, word_at, SetsWord}
use Rattle.zone_region.proofs.WordLemmas.{word_at-set_block, word_at-set_index, length-set_word}
use Rattle.offset_tree.specs.Inside.Shape.{Shape, leaf, node, blocks_of, hits}
use Rattle.zone_region.specs.Members.{In}
use Rattle.offset_tree.specs.Inside.Links.{SetsTwo, SetsParent, Replaces}
use Rattle.offset_tree.specs.Inside.Moves.{ChangesTree}
use Rattle.offset_tree.specs.Changes.{ChangesNodes}
use Rattle.offset_tree.proofs.ShapeLemmas.{one-other}
use Rattle.zone_region.proofs.MembersLemmas.{In-append_left, In-append_right}
use Rattle.offset_tree.proofs.LiesLemmas.{same_word}
use Rattle.offset_tree.proofs.Writes.{two_other, two_length}

pub tree_changed_twice : (l m n : Words) (context : ℕ) (t : Shape) → ChangesTree l m context t → ChangesTree m n context t → ChangesTree l n context t
tree_changed_twice l m n context t a b = record {
  lengths = λ z. b.lengths z ∙ a.lengths z;
  others = λ z nc none. b.others z nc none ∙ a.others z nc none;
  nodes = λ z i nc h. b.nodes z i nc h ∙ a.nodes z i nc h;
  flags = λ z nc. b.flags z nc ∙ a.flags z nc;
  head = λ i h. b.head i h ∙ a.head i h;
}

-- a link word of one block of the tree
pub changes_word : (m n : Words) (context : ℕ) (t : Shape) (o i v : ℕ) → o ≢ context → 0 < hits o t → 1 ≤ i → i ≤ 3 → SetsWord m n o i v → ChangesTree m n context t
changes_word m n context t o i v away there low high s = record {
  lengths = λ z. length-set_word m n o i v z s;
  others = λ z nc none. s.others z (λ e. let h : 0 < hits z t = subst (λ (q : ℕ). 0 < hits q t) (sym e) there in omega (arith, h, none));
  nodes = λ z j nc h. word_at-set_index m n o i v z j s (λ e. elim h [ inl e0 ↦ omega (arith, e, e0, low) | inr far ↦ omega (arith, e, far, high) ]);
  flags = λ z nc. ap (λ w. w / 256) (word_at-set_index m n o i v z 4 s (λ e. omega (arith, e, high)));
  head = λ j h. word_at-set_block m n o i v context j s (λ e. away (sym e));
}

pub changes_root : (m n : Words) (context : ℕ) (t : Shape) (v : ℕ) → SetsWord m n context 0 v → ChangesTree m n context t
changes_root m n context t v s = record {
  lengths = λ z. length-set_word m n context 0 v z s;
  others = λ z nc none. s.others z nc;
  nodes = λ z j nc h. word_at-set_block m n context 0 v z j s nc;
  flags = λ z nc. ap (λ w. w / 256) (word_at-set_block m n context 0 v z 4 s nc);
  head = λ j h. word_at-set_index m n context 0 v context j s h;
}

pub changes_two : (m n : Words) (context : ℕ) (t : Shape) (o i v w : ℕ) → o ≢ context → 0 < hits o t → 1 ≤ i → i ≤ 2 → SetsTwo m n o i v 3 w → ChangesTree m n context t
changes_two m n context t o i v w away there low high s = record {
  lengths = λ z. two_length m n o i v 3 w z s;
  others = λ z nc none. s.others z (λ e. let h : 0 < hits z t = subst (λ (q : ℕ). 0 < hits q t) (sym e) there in omega (arith, h, none));
  nodes = λ z j nc h. elim (cases_eq z o) [
    | inl e ↦ subst (λ (q : ℕ). word_at n q j ≡ word_at m q j) (sym e) (two_other m n o i v 3 w j s (λ f. elim h [ inl e0 ↦ omega (arith, f, e0, low) | inr far ↦ omega (arith, f, far, high) ]) (λ f. elim h [ inl e0 ↦ omega (arith, f, e0) | inr far ↦ omega (arith, f, far) ]))
    | inr ne ↦ same_word m n z j (s.others z ne)
  ];
  flags = λ z nc. ap (λ q. q / 256) (elim (cases_eq z o) [
    | inl e ↦ subst (λ (q : ℕ). word_at n q 4 ≡ word_at m q 4) (sym e) (two_other m n o i v 3 w 4 s (λ f. omega (arith, f, high)) (λ f. omega (arith, f)))
    | inr ne ↦ same_word m n z 4 (s.others z ne)
  ]);
  head = λ j h. same_word m n context j (s.others context (λ e. away (sym e)));
}

pub changes_parent : (m n : Words) (context : ℕ) (t : Shape) (o p : ℕ) → o ≢ context → (o ≢ context + 24 → 0 < hits o t) → SetsParent m n (context + 24) o p → ChangesTree m n context t
changes_parent m n context t o p away there s = elim (cases_eq o (context + 24)) [
  | inl e ↦ let same = λ (z : ℕ). s.others z (inr e) in record {
    lengths = λ z. ap (λ ws. length ws) (same z);
    others = λ z nc none. same z;
    nodes = λ z i nc h. same_word m n z i (same z);
    flags = λ z nc. ap (λ w. w / 256) (same_word m n z 4 (same z));
    head = λ i h. same_word m n context i (same context);
  }
  | inr ne ↦ changes_word m n context t o 3 p away (there ne) (omega arith) (omega arith) (record { changed = s.here ne; others = λ z nz. s.others z (inl nz) })
]

pub changes_slot : (m n : Words) (context : ℕ) (t : Shape) (p o v : ℕ) → (p ≢ 0 → (p ≢ context) × (0 < hits p t)) → Replaces m n context p o v → ChangesTree m n context t
changes_slot m n context t p o v there s = elim (cases_eq p 0) [
  | inl e ↦ changes_root m n context t v (s.root e)
  | inr ne ↦ elim (cases_eq (word_at m p 1) o) [
    | inl l ↦ changes_word m n context t p 1 v (there ne).0 (there ne).1 (omega arith) (omega arith) (s.left ne l)
    | inr r ↦ changes_word m n context t p 2 v (there ne).0 (there ne).1 (omega arith) (omega arith) (s.right ne r)
  ]
]

pub hits_in : (z : ℕ) (t : Shape) → (hits z t ≡ 0) ⊎ In z (blocks_of t)
hits_in z leaf = inl refl
hits_in z (node c l x r) = elim (hits_in z l) [
  | inr i ↦ inr (In-append_left z (blocks_of l) (x ∷ blocks_of r) i)
  | inl nl ↦ elim (hits_in z r) [
    | inr i ↦ inr (In-append_right z (blocks_of l) (x ∷ blocks_of r) (inr i))
    | inl nr ↦ elim (cases_eq z x) [
      | inl e ↦ inr (In-append_right z (blocks_of l) (x ∷ blocks_of r) (inl e))
      | inr ne ↦ inl (omega (arith, nl, nr, one-other z x ne))
    ]
  ]
]

pub nodes_changed : (m n : Words) (context : ℕ) (t : Shape) (xs : List ℕ) → blocks_of t ≡ xs → ChangesTree m n context t → ChangesNodes m n context xs
nodes_changed m n context t xs e h = record {
  lengths = h.lengths;
  others = λ z nc out. elim (hits_in z t) [ inl none ↦ h.others z nc none | inr i ↦ absurd (out (subst (λ (ys : List ℕ). In z ys) e i)) ];
  nodes = h.nodes;
  flags = h.flags;
  head = h.head;
}

pub nodes_changed_twice : (l m n : Words) (context : ℕ) (xs : List ℕ) → ChangesNodes l m context xs → ChangesNodes m n context xs → ChangesNodes l n context xs
nodes_changed_twice l m n context xs a b = record {
  lengths = λ z. b.lengths z ∙ a.lengths z;
  others = λ z nc out. b.others z nc out ∙ a.others z nc out;
  nodes = λ z i nc h. b.nodes z i nc h ∙ a.nodes z i nc h;
  flags = λ z nc. b.flags z nc ∙ a.flags z nc;
  head = λ i h. b.head i h ∙ a.head i h;
}

pub nodes_unchanged : (m : Words) (context : ℕ) (xs : List ℕ) → ChangesNodes m m context xs
nodes_unchanged m context xs = record { lengths = λ z. refl; others = λ z nc out. refl; nodes = λ z i nc h. refl; flags = λ z nc. refl; head = λ i h. refl }

-- changes at some blocks are changes at more
pub nodes_more : (m n : Words) (context : ℕ) (xs ys : List ℕ) → ((z : ℕ) → In z xs → In z ys) → ChangesNodes m n context xs → ChangesNodes m n context ys
nodes_more m n context xs ys more h = record { lengths = h.lengths; others = λ z nc out. h.others z nc (λ i. out (more z i)); nodes = h.nodes; flags = h.flags; head = h.head }
