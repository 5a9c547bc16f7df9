-- A block that is put into an empty place.
use Rattle.std.proofs.Common.{ℕ, ◌≡◌, ◌≢◌, ◌⊎◌, ◌+◌, ◌/◌, ◌%◌, ◌^◌, ◌<◌, ◌≤◌, true, sym, ap, subst, ◌∙◌, refl, arith, length, inl, inr}
use Rattle.std.proofs.lemmas.Bool.{cases_eq}
use Rattle.zone_region.specs.Words.{Words, word_at, SetsWord}
use Rattle.zone_region.proofs.WordLemmas.{word_at-set_same, word_at-set_block, word_at-set_index, length-set_word}
use Rattle.offset_tree.specs.declared.side.Side.{Side}
use Rattle.offset_tree.specs.Inside.Sides.{child_word}
use Rattle.offset_tree.specs.Inside.Shape.{leaf, node, Path, top, step, plug, hits, hits_path, IsHole}
use Rattle.offset_tree.specs.Inside.Links.{LiesAround, IsShape, with_colour}
use Rattle.offset_tree.specs.Inside.Moves.{ChangesTree}
use Rattle.offset_tree.specs.Inside.Attaching.{Gap, Cleared, Linked}
use Rattle.offset_tree.proofs.ShapeLemmas.{one-same, one-other, hits-plug}
use Rattle.offset_tree.proofs.LiesLemmas.{same_word, LiesAround-same, Lies-plug, placed}
use Rattle.offset_tree.proofs.Writes.{index-sum, index-low, index-other, replaced_step}
use Rattle.offset_tree.proofs.Paints.{with_colour-low, with_colour-high}

pub cleared : (m0 m1 m2 m3 m4 : Words) (nil b p : ℕ) → 5 ≤ length (m0 b) → SetsWord m0 m1 b 1 nil → SetsWord m1 m2 b 2 nil → SetsWord m2 m3 b 3 p → SetsWord m3 m4 b 4 (with_colour (word_at m3 b 4) true) → Cleared m0 m4 nil b p
cleared m0 m1 m2 m3 m4 nil b p room s1 s2 s3 s4 =
    let c = with_colour (word_at m3 b 4) true in
    let l1 = length-set_word m0 m1 b 1 nil b s1 in
    let l2 = length-set_word m1 m2 b 2 nil b s2 in
    let l3 = length-set_word m2 m3 b 3 p b s3 in
    let old4 = word_at-set_index m2 m3 b 3 p b 4 s3 (λ e. omega (arith, e)) ∙ (word_at-set_index m1 m2 b 2 nil b 4 s2 (λ e. omega (arith, e)) ∙ word_at-set_index m0 m1 b 1 nil b 4 s1 (λ e. omega (arith, e))) in
    record {
      left = word_at-set_index m3 m4 b 4 c b 1 s4 (λ e. omega (arith, e)) ∙ (word_at-set_index m2 m3 b 3 p b 1 s3 (λ e. omega (arith, e)) ∙ (word_at-set_index m1 m2 b 2 nil b 1 s2 (λ e. omega (arith, e)) ∙ word_at-set_same m0 m1 b 1 nil s1 (omega (arith, room))));
      right = word_at-set_index m3 m4 b 4 c b 2 s4 (λ e. omega (arith, e)) ∙ (word_at-set_index m2 m3 b 3 p b 2 s3 (λ e. omega (arith, e)) ∙ word_at-set_same m1 m2 b 2 nil s2 (omega (arith, room, l1)));
      parent = word_at-set_index m3 m4 b 4 c b 3 s4 (λ e. omega (arith, e)) ∙ word_at-set_same m2 m3 b 3 p s3 (omega (arith, room, l1, l2));
      colour = word_at-set_same m3 m4 b 4 c s4 (omega (arith, room, l1, l2, l3)) ∙ ap (λ (w : ℕ). with_colour w true) old4;
      rest = λ i h.
          word_at-set_index m3 m4 b 4 c b i s4 (λ e. elim h [ inl z ↦ omega (arith, e, z) | inr f ↦ omega (arith, e, f) ])
          ∙ (word_at-set_index m2 m3 b 3 p b i s3 (λ e. elim h [ inl z ↦ omega (arith, e, z) | inr f ↦ omega (arith, e, f) ])
          ∙ (word_at-set_index m1 m2 b 2 nil b i s2 (λ e. elim h [ inl z ↦ omega (arith, e, z) | inr f ↦ omega (arith, e, f) ])
          ∙ word_at-set_index m0 m1 b 1 nil b i s1 (λ e. elim h [ inl z ↦ omega (arith, e, z) | inr f ↦ omega (arith, e, f) ])));
      others = λ z ne. s4.others z ne ∙ (s3.others z ne ∙ (s2.others z ne ∙ s1.others z ne));
      lengths = λ z. length-set_word m3 m4 b 4 c z s4 ∙ (length-set_word m2 m3 b 3 p z s3 ∙ (length-set_word m1 m2 b 2 nil z s2 ∙ length-set_word m0 m1 b 1 nil z s1));
    }

-- the way around the place, once the block is linked there
linked_around : (m n : Words) (nil context : ℕ) (k : Path) (p : ℕ) (side : Side) (b q : ℕ) → ((z : ℕ) → hits_path z k ≤ 1) →
    ((z : ℕ) → 0 < hits_path z k → (z ≢ context) × (z ≢ 0) × (5 ≤ length (m z))) → 8 ≤ length (m context) → IsHole k p side → Linked m n context p side b →
    LiesAround m nil (word_at m context 0) k nil q → LiesAround n nil (word_at n context 0) k b p
linked_around m n nil context top p side b q tidy live head hole l h = (word_at-set_same m n context 0 b (l.root hole) (omega (arith, head)), hole)
linked_around m n nil context (step s c x far up) p side b q tidy live head hole l h =
    let i = live x (omega (arith, one-same x x refl)) in
    let l' = subst (λ (z : ℕ). z ≢ 0 → SetsWord m n z (child_word side) b) hole.0 l.child in
    let w = subst (λ (t : Side). SetsWord m n x (child_word t) b) hole.1 (l' i.1) in
    let h' = subst (λ (z : ℕ). LiesAround m nil (word_at m context 0) (step s c x far up) nil z) h.0 h in
    subst (λ (z : ℕ). LiesAround n nil (word_at n context 0) (step s c x far up) b z) (sym hole.0) (replaced_step m n nil context s c x far up nil b tidy i.0 i.2 w h')

linked_other : (m n : Words) (context p : ℕ) (side : Side) (b z : ℕ) → Linked m n context p side b → z ≢ context → z ≢ p → n z ≡ m z
linked_other m n context p side b z l nc np = elim (cases_eq p 0) [ inl e ↦ (l.root e).others z nc | inr ne ↦ (l.child ne).others z np ]

linked_length : (m n : Words) (context p : ℕ) (side : Side) (b z : ℕ) → Linked m n context p side b → length (n z) ≡ length (m z)
linked_length m n context p side b z l = elim (cases_eq p 0) [ inl e ↦ length-set_word m n _ _ b z (l.root e) | inr ne ↦ length-set_word m n _ _ b z (l.child ne) ]

-- the parent of the gap
gap_parent : (k : Path) (p : ℕ) (side : Side) → IsHole k p side → (p ≡ 0) ⊎ (0 < hits_path p k)
gap_parent top p side h = inl h
gap_parent (step s c x far up) p side h = inr (omega (arith, one-same p x h.0))

pub gap_room : (m : Words) (context p : ℕ) (side : Side) (k : Path) (b : ℕ) → Gap m context p side k b → p ≢ 0 → 5 ≤ length (m p)
gap_room m context p side k b g live = elim (gap_parent k p side g.hole) [
  | inl z ↦ absurd (live z)
  | inr i ↦ g.shape.room p (omega (arith, i, hits-plug p k leaf))
]

pub attached : (l m n : Words) (context p : ℕ) (side : Side) (k : Path) (b : ℕ) → Gap l context p side k b → Cleared l m (context + 24) b p → Linked m n context p side b → IsShape n context (plug k (node true leaf b leaf))
attached l m n context p side k b g c k' =
    let nil = context + 24 in
    let t = plug k leaf in
    let count = λ (z : ℕ). hits-plug z k leaf in
    let count' = λ (z : ℕ). hits-plug z k (node true leaf b leaf) in
    let bb = one-same b b refl in
    let not_b = λ (z : ℕ) (i : 0 < hits_path z k). let r : z ≢ b = λ e. let j : 0 < hits_path b k = subst (λ (q : ℕ). 0 < hits_path q k) e i in omega (arith, j, g.fresh.new, count b) in r in
    let u = placed l nil (word_at l context 0) k leaf g.shape.lies in
    let context_m : m context ≡ l context = c.others context (λ e. g.fresh.apart.0 (sym e)) in
    let around0 = subst (λ (q : ℕ). LiesAround l nil (word_at l context 0) k q u.1) u.2.lies u.2.around in
    let around1 = subst (λ (q : ℕ). LiesAround m nil q k nil u.1) (sym (same_word l m context 0 context_m)) (LiesAround-same l m nil (word_at l context 0) k nil u.1 (λ z i. c.others z (not_b z i)) around0) in
    let around = linked_around m n nil context k p side b u.1 (λ z. omega (arith, g.shape.tidy z, count z))
    (λ z i. let there : 0 < hits z t = omega (arith, i, count z) in ((g.shape.apart z there).0, (g.shape.apart z there).2, omega (arith, c.lengths z, g.shape.room z there)))
    (omega (arith, c.lengths context, g.shape.head)) g.hole k' around1 in
    let b_p : b ≢ p = λ e. elim (gap_parent k p side g.hole) [ inl z ↦ g.fresh.apart.2 (e ∙ z) | inr i ↦ not_b p i (sym e) ] in
    let same_b : n b ≡ m b = linked_other m n context p side b b k' g.fresh.apart.0 b_p in
    let lengths = λ (z : ℕ). linked_length m n context p side b z k' ∙ c.lengths z in
    record {
      head = omega (arith, lengths context, g.shape.head);
      room = λ z i. elim (cases_eq z b) [
        | inl e ↦ subst (λ (q : ℕ). 5 ≤ length (n q)) (sym e) (omega (arith, lengths b, g.fresh.room))
        | inr ne ↦ omega (arith, lengths z, g.shape.room z (omega (arith, i, count z, count' z, one-other z b ne)))
      ];
      tidy = λ z. elim (cases_eq z b) [
        | inl e ↦ subst (λ (q : ℕ). hits q (plug k (node true leaf b leaf)) ≤ 1) (sym e) (omega (arith, count b, count' b, bb, g.fresh.new))
        | inr ne ↦ omega (arith, count z, count' z, one-other z b ne, g.shape.tidy z)
      ];
      apart = λ z i. elim (cases_eq z b) [
        | inl e ↦ subst (λ (q : ℕ). (q ≢ context) × (q ≢ context + 24) × (q ≢ 0)) (sym e) g.fresh.apart
        | inr ne ↦ g.shape.apart z (omega (arith, i, count z, count' z, one-other z b ne))
      ];
      below = λ z i. elim (cases_eq z b) [
        | inl e ↦ subst (λ (q : ℕ). q < 2 ^ 63) (sym e) g.fresh.below
        | inr ne ↦ g.shape.below z (omega (arith, i, count z, count' z, one-other z b ne))
      ];
      lies = Lies-plug n nil (word_at n context 0) k (node true leaf b leaf) b p around
          (refl, same_word m n b 3 same_b ∙ c.parent, ap (λ q. q % 256) (same_word m n b 4 same_b ∙ c.colour) ∙ with_colour-low (word_at l b 4) true, same_word m n b 1 same_b ∙ c.left, same_word m n b 2 same_b ∙ c.right);
    }

pub attached_changes : (l m n : Words) (context p : ℕ) (side : Side) (k : Path) (b : ℕ) → Gap l context p side k b → Cleared l m (context + 24) b p → Linked m n context p side b → ChangesTree l n context (plug k (node true leaf b leaf))
attached_changes l m n context p side k b g c k' =
    let t = plug k (node true leaf b leaf) in
    let count' = λ (z : ℕ). hits-plug z k (node true leaf b leaf) in
    let b_there : 0 < hits b t = omega (arith, count' b, one-same b b refl) in
    let away = λ (z : ℕ) (none : hits z t ≡ 0). let r : z ≢ b = λ e. let i : 0 < hits z t = subst (λ (q : ℕ). 0 < hits q t) (sym e) b_there in omega (arith, i, none) in r in
    let context_b : context ≢ b = λ e. g.fresh.apart.0 (sym e) in
    let index_high : child_word side ≤ 2 = omega (arith, index-sum side, index-other side) in
    let low = index-low side in
    let first = λ (z i : ℕ) (h : (i ≡ 0) ⊎ (5 ≤ i)). elim (cases_eq z b) as (λ _. word_at m z i ≡ word_at l z i) [ inl e ↦ subst (λ (q : ℕ). word_at m q i ≡ word_at l q i) (sym e) (c.rest i h) | inr ne ↦ same_word l m z i (c.others z ne) ] in
    let flags = λ (z : ℕ). elim (cases_eq z b) as (λ _. word_at m z 4 / 256 ≡ word_at l z 4 / 256) [ inl e ↦ subst (λ (q : ℕ). word_at m q 4 / 256 ≡ word_at l q 4 / 256) (sym e) (ap (λ w. w / 256) c.colour ∙ with_colour-high (word_at l b 4) true) | inr ne ↦ ap (λ w. w / 256) (same_word l m z 4 (c.others z ne)) ] in
    record {
      lengths = λ z. linked_length m n context p side b z k' ∙ c.lengths z;
      others = λ z nc none. elim (cases_eq p 0) [
        | inl e ↦ (k'.root e).others z nc ∙ c.others z (away z none)
        | inr ne ↦ (k'.child ne).others z (λ e. elim (gap_parent k p side g.hole) [ inl q ↦ ne q | inr i ↦ let j : 0 < hits_path z k = subst (λ (q : ℕ). 0 < hits_path q k) (sym e) i in omega (arith, j, none, count' z) ]) ∙ c.others z (away z none)
      ];
      nodes = λ z i nc h. elim (cases_eq p 0) [
        | inl e ↦ word_at-set_block m n context 0 b z i (k'.root e) nc ∙ first z i h
        | inr ne ↦ word_at-set_index m n p (child_word side) b z i (k'.child ne) (λ e. elim h [ inl q ↦ omega (arith, e, q, low) | inr q ↦ omega (arith, e, q, index_high) ]) ∙ first z i h
      ];
      flags = λ z nc. elim (cases_eq p 0) [
        | inl e ↦ ap (λ w. w / 256) (word_at-set_block m n context 0 b z 4 (k'.root e) nc) ∙ flags z
        | inr ne ↦ ap (λ w. w / 256) (word_at-set_index m n p (child_word side) b z 4 (k'.child ne) (λ e. omega (arith, e, index_high))) ∙ flags z
      ];
      head = λ i h. elim (cases_eq p 0) [
        | inl e ↦ word_at-set_index m n context 0 b context i (k'.root e) h ∙ same_word l m context i (c.others context context_b)
        | inr ne ↦ word_at-set_block m n p (child_word side) b context i (k'.child ne) (λ e. elim (gap_parent k p side g.hole) [ inl q ↦ ne q | inr j ↦ (g.shape.apart p (omega (arith, j, hits-plug p k leaf))).0 (sym e) ]) ∙ same_word l m context i (c.others context context_b)
      ];
    }

pub cleared_by : (m0 m1 m2 m3 m4 : Words) (nil q b p : ℕ) → q ≡ nil → 5 ≤ length (m0 b) → SetsWord m0 m1 b 1 q → SetsWord m1 m2 b 2 q → SetsWord m2 m3 b 3 p → SetsWord m3 m4 b 4 (with_colour (word_at m3 b 4) true) → Cleared m0 m4 nil b p
cleared_by m0 m1 m2 m3 m4 nil q b p e room s1 s2 s3 s4 = subst (λ (z : ℕ). Cleared m0 m4 z b p) e (cleared m0 m1 m2 m3 m4 q b p room s1 s2 s3 s4)
