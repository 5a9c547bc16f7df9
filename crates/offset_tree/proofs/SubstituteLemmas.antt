-- A block put in another's place.
use Rattle.std.proofs.Common.{ℕ, ◌≡◌, ◌≢◌, ◌⊎◌, ◌+◌, ◌/◌, ◌%◌, ◌^◌, ◌<◌, ◌≤◌, Bool, List, sym, ap, subst, ◌∙◌, refl, arith, length, get_or, get_or-set_same, get_or-set_other, inl, inr}
use Rattle.std.proofs.lemmas.Bool.{cases_eq}
use Rattle.zone_region.specs.Words.{Words, word_at, SetsWord}
use Rattle.zone_region.proofs.WordLemmas.{word_at-set_same, word_at-set_index, length-set_word}
use Rattle.offset_tree.specs.declared.side.Side.TheVariants.{Left}
use Rattle.offset_tree.specs.Inside.Shape.{Shape, node, Path, plug, blocks_of, one, hits, hits_path}
use Rattle.offset_tree.specs.Inside.Links.{Lies, LiesAround, IsShape, SetsParent, Replaces, with_colour, colour_value}
use Rattle.offset_tree.specs.Inside.Attaching.{IsFresh, Filled}
use Rattle.offset_tree.proofs.ShapeLemmas.{one-same, one-other, hits-plug}
use Rattle.offset_tree.proofs.LiesLemmas.{same_word, LiesAround-same, Lies-plug, Lies-reparent}
use Rattle.offset_tree.proofs.Writes.{parent_length, replace_length, replace_other, hits_root, replaced}
use Rattle.offset_tree.proofs.Paints.{around_of, with_colour-low, with_colour-high}
use Rattle.zone_region.specs.Members.{In}
use Rattle.offset_tree.specs.Changes.{ChangesNodes}
use Rattle.offset_tree.proofs.Frames.{nodes_changed, nodes_changed_twice, nodes_more, changes_parent, changes_slot}
use Rattle.offset_tree.proofs.TurnLemmas.{around_parent}

pub filled : (m0 m1 m2 m3 m4 : Words) (y l r p : ℕ) (d : Bool) → 5 ≤ length (m0 y) → SetsWord m0 m1 y 1 l → SetsWord m1 m2 y 2 r → SetsWord m2 m3 y 3 p → SetsWord m3 m4 y 4 (with_colour (word_at m3 y 4) d) → Filled m0 m4 y l r p d
filled m0 m1 m2 m3 m4 y l r p d room s1 s2 s3 s4 =
    let c = with_colour (word_at m3 y 4) d in
    let l1 = length-set_word m0 m1 y 1 l y s1 in
    let l2 = length-set_word m1 m2 y 2 r y s2 in
    let l3 = length-set_word m2 m3 y 3 p y s3 in
    let old4 = word_at-set_index m2 m3 y 3 p y 4 s3 (λ e. omega (arith, e)) ∙ (word_at-set_index m1 m2 y 2 r y 4 s2 (λ e. omega (arith, e)) ∙ word_at-set_index m0 m1 y 1 l y 4 s1 (λ e. omega (arith, e))) in
    record {
      left = word_at-set_index m3 m4 y 4 c y 1 s4 (λ e. omega (arith, e)) ∙ (word_at-set_index m2 m3 y 3 p y 1 s3 (λ e. omega (arith, e)) ∙ (word_at-set_index m1 m2 y 2 r y 1 s2 (λ e. omega (arith, e)) ∙ word_at-set_same m0 m1 y 1 l s1 (omega (arith, room))));
      right = word_at-set_index m3 m4 y 4 c y 2 s4 (λ e. omega (arith, e)) ∙ (word_at-set_index m2 m3 y 3 p y 2 s3 (λ e. omega (arith, e)) ∙ word_at-set_same m1 m2 y 2 r s2 (omega (arith, room, l1)));
      parent = word_at-set_index m3 m4 y 4 c y 3 s4 (λ e. omega (arith, e)) ∙ word_at-set_same m2 m3 y 3 p s3 (omega (arith, room, l1, l2));
      colour = word_at-set_same m3 m4 y 4 c s4 (omega (arith, room, l1, l2, l3)) ∙ ap (λ (w : ℕ). with_colour w d) old4;
      rest = λ i h.
          word_at-set_index m3 m4 y 4 c y i s4 (λ e. elim h [ inl z ↦ omega (arith, e, z) | inr f ↦ omega (arith, e, f) ])
          ∙ (word_at-set_index m2 m3 y 3 p y i s3 (λ e. elim h [ inl z ↦ omega (arith, e, z) | inr f ↦ omega (arith, e, f) ])
          ∙ (word_at-set_index m1 m2 y 2 r y i s2 (λ e. elim h [ inl z ↦ omega (arith, e, z) | inr f ↦ omega (arith, e, f) ])
          ∙ word_at-set_index m0 m1 y 1 l y i s1 (λ e. elim h [ inl z ↦ omega (arith, e, z) | inr f ↦ omega (arith, e, f) ])));
      others = λ z ne. s4.others z ne ∙ (s3.others z ne ∙ (s2.others z ne ∙ s1.others z ne));
      lengths = λ z. length-set_word m3 m4 y 4 c z s4 ∙ (length-set_word m2 m3 y 3 p z s3 ∙ (length-set_word m1 m2 y 2 r z s2 ∙ length-set_word m0 m1 y 1 l z s1));
    }

-- a child under another parent
moved : (m0 m1 m2 m3 m4 : Words) (nil context : ℕ) (t : Shape) (o x y : ℕ) → ((z : ℕ) → hits z t ≤ 1) → Lies m0 nil t o x → ((z : ℕ) → 0 < hits z t → (z ≢ nil) × (5 ≤ length (m0 z))) →
    ((z : ℕ) → 0 < hits z t → m1 z ≡ m0 z) → SetsParent m1 m2 nil o y → ((z : ℕ) → 0 < hits z t → m4 z ≡ m2 z) → Lies m4 nil t o y
moved m0 m1 m2 m3 m4 nil context t o x y tidy lies live first s last =
    Lies-reparent m0 m4 nil t o x y tidy (λ z i ne. last z i ∙ (s.others z (inl ne) ∙ first z i))
    (λ i.
    let w = live o i in
    let at : m4 o ≡ _ = last o i ∙ s.here w.0 in
    let word = λ (j : ℕ) (ne : j ≢ 3). ap (λ (ws : List ℕ). get_or ws j 0) at ∙ (get_or-set_other (m1 o) 3 j y 0 ne ∙ same_word m0 m1 o j (first o i)) in
    let room : 5 ≤ length (m1 o) = subst (λ (ws : List ℕ). 5 ≤ length ws) (sym (first o i)) w.1 in
    (word 1 (λ q. omega (arith, q)), word 2 (λ q. omega (arith, q)), ap (λ (ws : List ℕ). get_or ws 3 0) at ∙ get_or-set_same (m1 o) 3 y 0 (omega (arith, room)), word 4 (λ q. omega (arith, q)))) lies

pub substituted : (m0 m1 m2 m3 m4 : Words) (context : ℕ) (k : Path) (c d : Bool) (a : Shape) (x : ℕ) (b : Shape) (y u v p : ℕ) → IsShape m0 context (plug k (node c a x b)) → IsFresh m0 context y (plug k (node c a x b)) →
    u ≡ word_at m0 x 1 → v ≡ word_at m0 x 2 → p ≡ word_at m0 x 3 → d ≡ c → Filled m0 m1 y u v p d → SetsParent m1 m2 (context + 24) u y → SetsParent m2 m3 (context + 24) v y → Replaces m3 m4 context p x y →
    IsShape m4 context (plug k (node c a y b))
substituted m0 m1 m2 m3 m4 context k c d a x b y u v p h f ue ve pe de fi su sv re =
    let nil = context + 24 in
    let w = around_of m0 context k Left c a x b h in
    let P = w.1 in
    let around0 = subst (λ (q : ℕ). LiesAround m0 nil (word_at m0 context 0) k x q) (sym P.is.parent ∙ sym pe) P.around in
    let a_at = subst (λ (q : ℕ). Lies m0 nil a q x) (sym ue) P.is.on_side in
    let b_at = subst (λ (q : ℕ). Lies m0 nil b q x) (sym ve) P.is.on_other in
    let xx = one-same x x refl in
    let live_x = P.live x (omega (arith, xx)) in
    let count = λ (z : ℕ). let q : hits z (plug k (node c a x b)) ≡ hits z a + (one z x + hits z b) + hits_path z k = hits-plug z k (node c a x b) in q in
    let not_y = λ (z : ℕ) (i : 0 < hits z a + (one z x + hits z b) + hits_path z k). let r : z ≢ y = λ e. let j : 0 < hits z (plug k (node c a x b)) = omega (arith, i, count z) in let j' : 0 < hits y (plug k (node c a x b)) = subst (λ (q : ℕ). 0 < hits q (plug k (node c a x b))) e j in omega (arith, j', f.new) in r in
    let apart_u = λ (z : ℕ) (none : hits z a ≡ 0). elim (cases_eq u nil) as (λ _. (z ≢ u) ⊎ (u ≡ nil)) [
      | inl e ↦ inr e
      | inr ne ↦ inl (λ q. let j = hits_root m0 nil a u x a_at ne in let i : 0 < hits z a = subst (λ (r : ℕ). 0 < hits r a) (sym q) j in omega (arith, none, i))
    ] in
    let apart_v = λ (z : ℕ) (none : hits z b ≡ 0). elim (cases_eq v nil) as (λ _. (z ≢ v) ⊎ (v ≡ nil)) [
      | inl e ↦ inr e
      | inr ne ↦ inl (λ q. let j = hits_root m0 nil b v x b_at ne in let i : 0 < hits z b = subst (λ (r : ℕ). 0 < hits r b) (sym q) j in omega (arith, none, i))
    ] in
    let not_p = λ (z : ℕ) (i : 0 < hits z a + (one z x + hits z b)). let r : z ≢ p = λ e. elim (around_parent m0 nil (word_at m0 context 0) k x p around0) [
      | inl q ↦ (P.live z (omega (arith, i))).2 (e ∙ q)
      | inr j ↦ let j' : 0 < hits_path z k = subst (λ (q : ℕ). 0 < hits_path q k) (sym e) j in omega (arith, i, j', P.tidy z)
    ] in r in
    let y_none = λ (n : hits y (plug k (node c a x b)) ≡ 0). let q : hits y a + (one y x + hits y b) + hits_path y k ≡ 0 = omega (arith, n, count y) in q in
    let y0 = y_none f.new in
    let y_p : y ≢ p = λ e. elim (around_parent m0 nil (word_at m0 context 0) k x p around0) [ inl q ↦ f.apart.2 (e ∙ q) | inr j ↦ let j' : 0 < hits_path y k = subst (λ (q : ℕ). 0 < hits_path q k) (sym e) j in omega (arith, j', y0) ] in
    let context_none_a : hits context a ≡ 0 = elim (cases_eq (hits context a) 0) [ inl e ↦ e | inr ne ↦ absurd ((P.live context (omega (arith, ne))).0 refl) ] in
    let context_none_b : hits context b ≡ 0 = elim (cases_eq (hits context b) 0) [ inl e ↦ e | inr ne ↦ absurd ((P.live context (omega (arith, ne))).0 refl) ] in
    let context3 : m3 context ≡ m0 context = sv.others context (apart_v context context_none_b) ∙ (su.others context (apart_u context context_none_a) ∙ fi.others context (λ e. f.apart.0 (sym e))) in
    let lengths3 = λ (z : ℕ). parent_length m2 m3 nil v y z sv ∙ (parent_length m1 m2 nil u y z su ∙ fi.lengths z) in
    let lengths = λ (z : ℕ). replace_length m3 m4 context p x y z re ∙ lengths3 z in
    let path3 = λ (z : ℕ) (i : 0 < hits_path z k). sv.others z (apart_v z (omega (arith, i, P.tidy z))) ∙ (su.others z (apart_u z (omega (arith, i, P.tidy z))) ∙ fi.others z (not_y z (omega (arith, i)))) in
    let around3 = subst (λ (q : ℕ). LiesAround m3 nil q k x p) (sym (same_word m0 m3 context 0 context3)) (LiesAround-same m0 m3 nil (word_at m0 context 0) k x p path3 around0) in
    let around = replaced m3 m4 nil context k x p y (λ z. omega (arith, P.tidy z)) (λ z i. let q = P.live z (omega (arith, i)) in (q.0, q.2, omega (arith, lengths3 z, q.3))) (omega (arith, lengths3 context, h.head)) live_x.1 (omega (arith, P.tidy x, xx)) re around3 in
    let last = λ (z : ℕ) (i : 0 < hits z a + (one z x + hits z b)). replace_other m3 m4 context p x y z re (P.live z (omega (arith, i))).0 (not_p z i) in
    let a_new = moved m0 m1 m2 m3 m4 nil context a u x y (λ z. omega (arith, P.tidy z)) a_at (λ z i. let q = P.live z (omega (arith, i)) in (q.1, q.3)) (λ z i. fi.others z (not_y z (omega (arith, i)))) su
    (λ z i. last z (omega (arith, i)) ∙ sv.others z (apart_v z (omega (arith, i, P.tidy z)))) in
    let b_new = moved m0 m2 m3 m3 m4 nil context b v x y (λ z. omega (arith, P.tidy z)) b_at (λ z i. let q = P.live z (omega (arith, i)) in (q.1, q.3)) (λ z i. su.others z (apart_u z (omega (arith, i, P.tidy z))) ∙ fi.others z (not_y z (omega (arith, i)))) sv
    (λ z i. last z (omega (arith, i))) in
    let same_y : m4 y ≡ m1 y = replace_other m3 m4 context p x y y re f.apart.0 y_p ∙ (sv.others y (apart_v y (omega (arith, y0))) ∙ su.others y (apart_u y (omega (arith, y0)))) in
    let at = λ (j : ℕ). same_word m1 m4 y j same_y in
    let hits_new = λ (z : ℕ). hits-plug z k (node c a y b) in
    let split = λ (z : ℕ). hits-plug z k (node c a x b) in
    let x_y : x ≢ y = not_y x (omega (arith, xx)) in
    record {
      head = omega (arith, lengths context, h.head);
      room = λ z i. elim (cases_eq z y) [
        | inl e ↦ subst (λ (q : ℕ). 5 ≤ length (m4 q)) (sym e) (omega (arith, lengths y, f.room))
        | inr ne ↦ omega (arith, lengths z, h.room z (omega (arith, i, split z, hits_new z, one-other z y ne)))
      ];
      tidy = λ z. elim (cases_eq z y) [
        | inl e ↦ subst (λ (q : ℕ). hits q (plug k (node c a y b)) ≤ 1) (sym e) (omega (arith, hits_new y, y0, one-same y y refl))
        | inr ne ↦ omega (arith, split z, hits_new z, one-other z y ne, h.tidy z)
      ];
      apart = λ z i. elim (cases_eq z y) [
        | inl e ↦ subst (λ (q : ℕ). (q ≢ context) × (q ≢ context + 24) × (q ≢ 0)) (sym e) f.apart
        | inr ne ↦ h.apart z (omega (arith, i, split z, hits_new z, one-other z y ne))
      ];
      below = λ z i. elim (cases_eq z y) [
        | inl e ↦ subst (λ (q : ℕ). q < 2 ^ 63) (sym e) f.below
        | inr ne ↦ h.below z (omega (arith, i, split z, hits_new z, one-other z y ne))
      ];
      lies = Lies-plug m4 nil (word_at m4 context 0) k (node c a y b) y p around (
        refl,
        at 3 ∙ fi.parent,
        ap (λ q. q % 256) (at 4 ∙ fi.colour) ∙ (with_colour-low (word_at m0 y 4) d ∙ ap (λ (q : Bool). colour_value q) de),
        subst (λ (q : ℕ). Lies m4 nil a q y) (sym (at 1 ∙ fi.left)) a_new,
        subst (λ (q : ℕ). Lies m4 nil b q y) (sym (at 2 ∙ fi.right)) b_new,
      );
    }

-- the links and the colour of a block that stands in the list
filled_changes : (m n : Words) (context : ℕ) (ys : List ℕ) (y l r p : ℕ) (d : Bool) → y ≢ context → In y ys → Filled m n y l r p d → ChangesNodes m n context ys
filled_changes m n context ys y l r p d away there f = record {
  lengths = f.lengths;
  others = λ z nc out. f.others z (λ e. out (subst (λ (q : ℕ). In q ys) (sym e) there));
  nodes = λ z i nc h. elim (cases_eq z y) [
    | inl e ↦ subst (λ (q : ℕ). word_at n q i ≡ word_at m q i) (sym e) (f.rest i h)
    | inr ne ↦ same_word m n z i (f.others z ne)
  ];
  flags = λ z nc. elim (cases_eq z y) [
    | inl e ↦ subst (λ (q : ℕ). word_at n q 4 / 256 ≡ word_at m q 4 / 256) (sym e) (ap (λ w. w / 256) f.colour ∙ with_colour-high (word_at m y 4) d)
    | inr ne ↦ ap (λ w. w / 256) (same_word m n z 4 (f.others z ne))
  ];
  head = λ i h. same_word m n context i (f.others context (λ e. away (sym e)));
}

pub substituted_changes : (m0 m1 m2 m3 m4 : Words) (context : ℕ) (k : Path) (c d : Bool) (a : Shape) (x : ℕ) (b : Shape) (y u v p : ℕ) (ys : List ℕ) → IsShape m0 context (plug k (node c a x b)) → IsFresh m0 context y (plug k (node c a x b)) →
    u ≡ word_at m0 x 1 → v ≡ word_at m0 x 2 → p ≡ word_at m0 x 3 → Filled m0 m1 y u v p d → SetsParent m1 m2 (context + 24) u y → SetsParent m2 m3 (context + 24) v y → Replaces m3 m4 context p x y →
    In y ys → ((z : ℕ) → In z (blocks_of (plug k (node c a x b))) → In z ys) → ChangesNodes m0 m4 context ys
substituted_changes m0 m1 m2 m3 m4 context k c d a x b y u v p ys h f ue ve pe fi su sv re there all =
    let nil = context + 24 in
    let t = plug k (node c a x b) in
    let w = around_of m0 context k Left c a x b h in
    let P = w.1 in
    let around0 = subst (λ (q : ℕ). LiesAround m0 nil (word_at m0 context 0) k x q) (sym P.is.parent ∙ sym pe) P.around in
    let count = λ (z : ℕ). let q : hits z t ≡ hits z a + (one z x + hits z b) + hits_path z k = hits-plug z k (node c a x b) in q in
    let u_there = λ (ne : u ≢ nil). let i = hits_root m0 nil a u x (subst (λ (q : ℕ). Lies m0 nil a q x) (sym ue) P.is.on_side) ne in let r : 0 < hits u t = omega (arith, i, count u) in r in
    let v_there = λ (ne : v ≢ nil). let i = hits_root m0 nil b v x (subst (λ (q : ℕ). Lies m0 nil b q x) (sym ve) P.is.on_other) ne in let r : 0 < hits v t = omega (arith, i, count v) in r in
    let u_away : u ≢ context = λ q. elim (cases_eq u nil) [ inl z ↦ omega (arith, z, q) | inr ne ↦ (h.apart u (u_there ne)).0 q ] in
    let v_away : v ≢ context = λ q. elim (cases_eq v nil) [ inl z ↦ omega (arith, z, q) | inr ne ↦ (h.apart v (v_there ne)).0 q ] in
    let p_there = λ (ne : p ≢ 0). elim (around_parent m0 nil (word_at m0 context 0) k x p around0) as (λ _. (p ≢ context) × (0 < hits p t)) [
      | inl z ↦ absurd (ne z)
      | inr i ↦ let r : 0 < hits p t = omega (arith, i, count p) in ((h.apart p r).0, r)
    ] in
    let wide = λ (m n : Words) (ch : ChangesNodes m n context (blocks_of t)). nodes_more m n context (blocks_of t) ys all ch in
    nodes_changed_twice m0 m3 m4 context ys
    (nodes_changed_twice m0 m2 m3 context ys
    (nodes_changed_twice m0 m1 m2 context ys (filled_changes m0 m1 context ys y u v p d f.apart.0 there fi)
    (wide m1 m2 (nodes_changed m1 m2 context t (blocks_of t) refl (changes_parent m1 m2 context t u y u_away u_there su))))
    (wide m2 m3 (nodes_changed m2 m3 context t (blocks_of t) refl (changes_parent m2 m3 context t v y v_away v_there sv))))
    (wide m3 m4 (nodes_changed m3 m4 context t (blocks_of t) refl (changes_slot m3 m4 context t p x y p_there re)))
