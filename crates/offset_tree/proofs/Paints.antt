-- A block of another colour.
use Rattle.std.proofs.Common.{ℕ, ◌≡◌, ◌≢◌, ◌+◌, ◌-◌, ◌/◌, ◌%◌, ◌<◌, ◌≤◌, Bool, true, false, sym, ap, subst, ◌∙◌, refl, arith, length, inl, inr}
use Rattle.std.proofs.lemmas.Bool.{cases_eq}
use Rattle.std.proofs.lemmas.Grind.{common_steps}
use Rattle.zone_region.specs.Words.{Words, word_at, SetsWord}
use Rattle.zone_region.proofs.WordLemmas.{word_at-set_same, word_at-set_block, word_at-set_index, length-set_word}
use Rattle.offset_tree.specs.declared.side.Side.{Side}
use Rattle.offset_tree.specs.declared.side.Side.TheVariants.{Left, Right}
use Rattle.offset_tree.specs.Inside.Sides.{child_word, other_of}
use Rattle.offset_tree.specs.Inside.Shape.{Shape, leaf, node, branch, Path, plug, one, hits, hits_path}
use Rattle.offset_tree.specs.Inside.Links.{colour_value, IsColoured, Lies, LiesAround, IsShape, red_at, side_at, with_colour}
use Rattle.offset_tree.specs.Inside.Balance.{red_of}
use Rattle.offset_tree.specs.Inside.Moves.{ChangesTree}
use Rattle.offset_tree.proofs.ShapeLemmas.{one-same, hits-branch, hits-plug}
use Rattle.offset_tree.proofs.LiesLemmas.{Lies-same, LiesAround-same, IsBranch, branch_of, Lies-branch, Lies-plug, placed}
use Rattle.offset_tree.proofs.Writes.{index-sum, index-low, index-other, hits_root}

number-small : (c : Bool) → colour_value c ≤ 1
number-small true = omega arith
number-small false = omega arith

pub with_colour-low : (w : ℕ) (c : Bool) → with_colour w c % 256 ≡ colour_value c
with_colour-low w c = let n : ℕ = colour_value c in let small : n ≤ 1 = number-small c in lemma w n small where
  lemma : (w n : ℕ) → n ≤ 1 → (w - w % 256 + n) % 256 ≡ n
  lemma w n small = omega arith

pub with_colour-high : (w : ℕ) (c : Bool) → with_colour w c / 256 ≡ w / 256
with_colour-high w c = let n : ℕ = colour_value c in let small : n ≤ 1 = number-small c in lemma w n small where
  lemma : (w n : ℕ) → n ≤ 1 → (w - w % 256 + n) / 256 ≡ w / 256
  lemma w n small = omega arith

-- what is known of a block in its place
pub record Around (l : Words) (context : ℕ) (k : Path) (s : Side) (c : Bool) (near : Shape) (x : ℕ) (far : Shape) (p : ℕ) : Type 0 where
  pub around : LiesAround l (context + 24) (word_at l context 0) k x p
  pub is : IsBranch l (context + 24) s c near x far x p
  pub tidy : (z : ℕ) → hits z near + (one z x + hits z far) + hits_path z k ≤ 1
  pub live : (z : ℕ) → 0 < hits z near + (one z x + hits z far) + hits_path z k → (z ≢ context) × (z ≢ context + 24) × (z ≢ 0) × (5 ≤ length (l z))

pub around_of : (l : Words) (context : ℕ) (k : Path) (s : Side) (c : Bool) (near : Shape) (x : ℕ) (far : Shape) →
    IsShape l context (plug k (branch s c near x far)) → (p : ℕ) × Around l context k s c near x far p
around_of l context k s c near x far h =
    let nil = context + 24 in
    let root = word_at l context 0 in
    let u = placed l nil root k (branch s c near x far) h.lies in
    let b = branch_of l nil s c near x far u.0 u.1 u.2.lies in
    let count = λ (z : ℕ). let q : hits z (plug k (branch s c near x far)) ≡ hits z near + (one z x + hits z far) + hits_path z k = omega (arith, hits-plug z k (branch s c near x far), hits-branch z s c near x far) in q in (
      u.1,
      record {
        around = subst (λ (q : ℕ). LiesAround l nil root k q u.1) b.at u.2.around;
        is = record { at = refl; parent = b.parent; colour = b.colour; on_side = b.on_side; on_other = b.on_other };
        tidy = λ z. omega (arith, count z, h.tidy z);
        live = λ z i. let j : 0 < hits z (plug k (branch s c near x far)) = omega (arith, count z, i) in ((h.apart z j).0, (h.apart z j).1, (h.apart z j).2, h.room z j);
      },
    )

pub painted : (l n : Words) (context : ℕ) (k : Path) (s : Side) (c d : Bool) (near : Shape) (x : ℕ) (far : Shape) →
    IsShape l context (plug k (branch s c near x far)) → SetsWord l n x 4 (with_colour (word_at l x 4) d) → IsShape n context (plug k (branch s d near x far))
painted l n context k s c d near x far h w =
    let nil = context + 24 in
    let u = around_of l context k s c near x far h in
    let P = u.1 in
    let p = u.0 in
    let live_x = P.live x (omega (arith, one-same x x refl)) in
    let other = λ (z : ℕ) (i : 0 < hits z near + hits z far + hits_path z k). w.others z (λ e. omega (arith, i, P.tidy z, one-same z x e)) in
    let at = λ (j : ℕ) (ne : j ≢ 4). word_at-set_index l n x 4 (with_colour (word_at l x 4) d) x j w ne in
    let sides = index-sum s in
    let low = index-low s in
    let low' = index-other s in
    let at_side = at (child_word s) (λ e. omega (arith, e, sides)) in
    let at_other = at (child_word (other_of s)) (λ e. omega (arith, e, sides)) in
    let colour = word_at-set_same l n x 4 (with_colour (word_at l x 4) d) w (omega (arith, live_x.3)) in
    let root : word_at n context 0 ≡ word_at l context 0 = word_at-set_block l n x 4 (with_colour (word_at l x 4) d) context 0 w (λ e. live_x.0 (sym e)) in
    let is : IsBranch n nil s d near x far x p = record {
      at = refl;
      parent = at 3 (λ e. omega (arith, e)) ∙ P.is.parent;
      colour = ap (λ q. q % 256) colour ∙ with_colour-low (word_at l x 4) d;
      on_side = subst (λ (q : ℕ). Lies n nil near q x) (sym at_side) (Lies-same l n nil near (word_at l x (child_word s)) x (λ z i. other z (omega (arith, i))) P.is.on_side);
      on_other = subst (λ (q : ℕ). Lies n nil far q x) (sym at_other) (Lies-same l n nil far (word_at l x (child_word (other_of s))) x (λ z i. other z (omega (arith, i))) P.is.on_other);
    } in
    let around = subst (λ (q : ℕ). LiesAround n nil q k x p) (sym root) (LiesAround-same l n nil (word_at l context 0) k x p (λ z i. other z (omega (arith, i))) P.around) in
    let hits_same = λ (z : ℕ). let q : hits z (plug k (branch s d near x far)) ≡ hits z (plug k (branch s c near x far)) =
    omega (arith, hits-plug z k (branch s d near x far), hits-plug z k (branch s c near x far), hits-branch z s d near x far, hits-branch z s c near x far) in q in
    let lengths = λ (z : ℕ). length-set_word l n x 4 (with_colour (word_at l x 4) d) z w in
    record {
      head = omega (arith, lengths context, h.head);
      room = λ z i. omega (arith, lengths z, h.room z (omega (arith, hits_same z, i)));
      tidy = λ z. omega (arith, hits_same z, h.tidy z);
      apart = λ z i. h.apart z (omega (arith, hits_same z, i));
      below = λ z i. h.below z (omega (arith, hits_same z, i));
      lies = Lies-plug n nil (word_at n context 0) k (branch s d near x far) x p around (Lies-branch n nil s d near x far x p is);
    }

pub painted_changes : (l n : Words) (context : ℕ) (k : Path) (s : Side) (c d : Bool) (near : Shape) (x : ℕ) (far : Shape) →
    IsShape l context (plug k (branch s c near x far)) → SetsWord l n x 4 (with_colour (word_at l x 4) d) → ChangesTree l n context (plug k (branch s c near x far))
painted_changes l n context k s c d near x far h w =
    let t = plug k (branch s c near x far) in
    let v = with_colour (word_at l x 4) d in
    let there : 0 < hits x t = omega (arith, hits-plug x k (branch s c near x far), hits-branch x s c near x far, one-same x x refl) in
    let room = h.room x there in
    record {
      lengths = λ z. length-set_word l n x 4 v z w;
      others = λ z nc none. w.others z (λ e. let i : 0 < hits z t = subst (λ (q : ℕ). 0 < hits q t) (sym e) there in omega (arith, i, none));
      nodes = λ z j nc a. word_at-set_index l n x 4 v z j w (λ e. elim a [ inl e0 ↦ omega (arith, e, e0) | inr high ↦ omega (arith, e, high) ]);
      flags = λ z nc. elim (cases_eq z x) [
        | inl e ↦ subst (λ (q : ℕ). word_at n q 4 / 256 ≡ word_at l q 4 / 256) (sym e) (ap (λ q. q / 256) (word_at-set_same l n x 4 v w (omega (arith, room))) ∙ with_colour-high (word_at l x 4) d)
        | inr ne ↦ ap (λ q. q / 256) (word_at-set_block l n x 4 v z 4 w ne)
      ];
      head = λ j a. word_at-set_block l n x 4 v context j w (λ e. (h.apart x there).0 (sym e));
    }

-- what the code reads of colours and sides
pub red_at-number : (m : Words) (nil x : ℕ) (c : Bool) → x ≢ nil → IsColoured m x c → red_at m nil x ≡ c
red_at-number m nil x true ne e = grind (arith, common_steps)
red_at-number m nil x false ne e = grind (arith, common_steps)

pub red_at_is : (m : Words) (nil : ℕ) (t : Shape) (o p : ℕ) → ((z : ℕ) → 0 < hits z t → z ≢ nil) → Lies m nil t o p → red_at m nil o ≡ red_of t
red_at_is m nil leaf o p live h = grind (arith, common_steps)
red_at_is m nil (node c l x r) o p live h =
    subst (λ (q : ℕ). red_at m nil q ≡ c) (sym h.0) (red_at-number m nil x c (live x (omega (arith, one-same x x refl))) h.2)

-- the side of a block under its parent
pub side_at_is : (m : Words) (nil : ℕ) (s : Side) (c : Bool) (near : Shape) (x : ℕ) (far : Shape) (o p q : ℕ) → o ≢ nil → hits o far ≡ 0 → word_at m x (child_word s) ≡ o → IsBranch m nil s c near x far p q → side_at m x o ≡ s
side_at_is m nil Left c near x far o p q live none at b = grind (arith, common_steps)
side_at_is m nil Right c near x far o p q live none at b =
    let ne : word_at m x 1 ≢ o = λ e. let i = hits_root m nil far o x (subst (λ (y : ℕ). Lies m nil far y x) e b.on_other) live in omega (arith, i, none) in
    grind (arith, common_steps)
