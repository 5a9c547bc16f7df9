-- What the writes of a turn leave of a tree.
use Rattle.std.proofs.Common.{ℕ, ◌≡◌, ◌≢◌, ◌⊎◌, ◌+◌, ◌%◌, ◌<◌, ◌≤◌, Bool, sym, ap, subst, ◌∙◌, refl, arith, length, get_or, get_or-set_same, get_or-set_other, inl, inr, List}
use Rattle.std.proofs.lemmas.Bool.{cases_eq}
use Rattle.zone_region.specs.Words.{Words, word_at}
use Rattle.offset_tree.specs.declared.side.Side.{Side}
use Rattle.offset_tree.specs.Inside.Sides.{child_word, other_of}
use Rattle.offset_tree.specs.Inside.Shape.{Shape, branch, Path, top, step, plug, one, hits, hits_path, before_turn, after_turn}
use Rattle.offset_tree.specs.Inside.Links.{IsColoured, Lies, LiesAround, IsShape, SetsTwo, SetsParent, Replaces}
use Rattle.offset_tree.specs.Inside.Moves.{ChangesTree}
use Rattle.offset_tree.proofs.Frames.{tree_changed_twice, changes_two, changes_parent, changes_slot}
use Rattle.offset_tree.proofs.ShapeLemmas.{one-same, hits-branch, hits-plug}
use Rattle.offset_tree.proofs.LiesLemmas.{same_word, Lies-same, LiesAround-same, IsBranch, branch_of, Lies-branch, Lies-plug, placed, Lies-reparent}
use Rattle.offset_tree.proofs.Writes.{index-sum, index-low, index-other, two_first, two_second, two_other, two_length, parent_length, replace_length, replace_other, hits_root, replaced}

-- the writes of a turn at `x` towards side `s`
pub record TurnWrites (l : Words) (context : ℕ) (s : Side) (x y inner p : ℕ) (m1 m2 m3 m4 : Words) : Type 0 where
  pub y_is : y ≡ word_at l x (child_word (other_of s))
  pub inner_is : inner ≡ word_at l y (child_word s)
  pub p_is : p ≡ word_at l x 3
  pub down : SetsTwo l m1 x (child_word (other_of s)) inner 3 y
  pub up : SetsTwo m1 m2 y (child_word s) x 3 p
  pub between : SetsParent m2 m3 (context + 24) inner x
  pub above : Replaces m3 m4 context p x y

turn_length : (l : Words) (context : ℕ) (s : Side) (x y inner p : ℕ) (m1 m2 m3 m4 : Words) → TurnWrites l context s x y inner p m1 m2 m3 m4 → (z : ℕ) → length (m4 z) ≡ length (l z)
turn_length l context s x y inner p m1 m2 m3 m4 w z =
    replace_length m3 m4 context p x y z w.above ∙ (parent_length m2 m3 _ inner x z w.between ∙ (two_length m1 m2 y _ x 3 p z w.up ∙ two_length l m1 x _ inner 3 y z w.down))

hits-turn : (z : ℕ) (s : Side) (c d : Bool) (a : Shape) (x : ℕ) (b : Shape) (y : ℕ) (e : Shape) →
    (hits z (before_turn s c d a x b y e) ≡ hits z a + (one z x + (hits z b + (one z y + hits z e)))) × (hits z (after_turn s c d a x b y e) ≡ hits z a + (one z x + (hits z b + (one z y + hits z e))))
hits-turn z s c d a x b y e = (
  omega (arith, hits-branch z s c a x (branch s d b y e), hits-branch z s d b y e),
  omega (arith, hits-branch z s d (branch s c a x b) y e, hits-branch z s c a x b),
)

-- what is known at a turn
record Parts (l : Words) (context : ℕ) (k : Path) (s : Side) (c d : Bool) (a : Shape) (x : ℕ) (b : Shape) (y : ℕ) (e : Shape) (p : ℕ) : Type 0 where
  around : LiesAround l (context + 24) (word_at l context 0) k x p
  parent : word_at l x 3 ≡ p
  x_colour : IsColoured l x c
  y_colour : IsColoured l y d
  y_at : word_at l x (child_word (other_of s)) ≡ y
  a_lies : Lies l (context + 24) a (word_at l x (child_word s)) x
  b_lies : Lies l (context + 24) b (word_at l y (child_word s)) y
  e_lies : Lies l (context + 24) e (word_at l y (child_word (other_of s))) y
  tidy : (z : ℕ) → hits z a + (one z x + (hits z b + (one z y + hits z e))) + hits_path z k ≤ 1
  live : (z : ℕ) → 0 < hits z a + (one z x + (hits z b + (one z y + hits z e))) + hits_path z k → (z ≢ context) × (z ≢ context + 24) × (z ≢ 0) × (5 ≤ length (l z))

parts : (l : Words) (context : ℕ) (k : Path) (s : Side) (c d : Bool) (a : Shape) (x : ℕ) (b : Shape) (y : ℕ) (e : Shape) →
    IsShape l context (plug k (before_turn s c d a x b y e)) → (p : ℕ) × Parts l context k s c d a x b y e p
parts l context k s c d a x b y e h =
    let nil = context + 24 in
    let root = word_at l context 0 in
    let u = placed l nil root k (before_turn s c d a x b y e) h.lies in
    let bx = branch_of l nil s c a x (branch s d b y e) u.0 u.1 u.2.lies in
    let by = branch_of l nil s d b y e (word_at l x (child_word (other_of s))) x bx.on_other in
    let count = λ (z : ℕ). let q : hits z (plug k (before_turn s c d a x b y e)) ≡ hits z a + (one z x + (hits z b + (one z y + hits z e))) + hits_path z k = omega (arith, hits-plug z k (before_turn s c d a x b y e), (hits-turn z s c d a x b y e).0) in q in (
      u.1,
      record {
        around = subst (λ (q : ℕ). LiesAround l nil root k q u.1) bx.at u.2.around;
        parent = bx.parent;
        x_colour = bx.colour;
        y_colour = by.colour;
        y_at = by.at;
        a_lies = bx.on_side;
        b_lies = by.on_side;
        e_lies = by.on_other;
        tidy = λ z. omega (arith, count z, h.tidy z);
        live = λ z i. let j : 0 < hits z (plug k (before_turn s c d a x b y e)) = omega (arith, count z, i) in ((h.apart z j).0, (h.apart z j).1, (h.apart z j).2, h.room z j);
      },
    )

-- nothing else changed
turn_other : (l : Words) (context : ℕ) (s : Side) (x y inner p : ℕ) (m1 m2 m3 m4 : Words) → TurnWrites l context s x y inner p m1 m2 m3 m4 →
    (z : ℕ) → z ≢ x → z ≢ y → (z ≢ inner) ⊎ (inner ≡ context + 24) → (m3 z ≡ l z) × (z ≢ context → z ≢ p → m4 z ≡ l z)
turn_other l context s x y inner p m1 m2 m3 m4 w z nx ny ni =
    let e = w.between.others z ni ∙ (w.up.others z ny ∙ w.down.others z nx) in
    (e, λ nc np. replace_other m3 m4 context p x y z w.above nc np ∙ e)

-- the parent of a place is 0 or stands on the way up
pub around_parent : (m : Words) (nil root : ℕ) (k : Path) (o p : ℕ) → LiesAround m nil root k o p → (p ≡ 0) ⊎ (0 < hits_path p k)
around_parent m nil root top o p h = inl h.1
around_parent m nil root (step s c x far up) o p h = inr (omega (arith, one-same p x h.0))

-- the words after a turn
record Turned (l n : Words) (context : ℕ) (k : Path) (s : Side) (a : Shape) (x : ℕ) (b : Shape) (y : ℕ) (e : Shape) (inner p : ℕ) : Type 0 where
  x_side : word_at n x (child_word s) ≡ word_at l x (child_word s)
  x_other : word_at n x (child_word (other_of s)) ≡ inner
  x_parent : word_at n x 3 ≡ y
  x_flags : word_at n x 4 ≡ word_at l x 4
  y_side : word_at n y (child_word s) ≡ x
  y_other : word_at n y (child_word (other_of s)) ≡ word_at l y (child_word (other_of s))
  y_parent : word_at n y 3 ≡ p
  y_flags : word_at n y 4 ≡ word_at l y 4
  same : (z : ℕ) → 0 < hits z a + (hits z b + hits z e) → (z ≢ inner) ⊎ (inner ≡ context + 24) → n z ≡ l z
  inner_words : 0 < hits inner b → (word_at n inner 1 ≡ word_at l inner 1) × (word_at n inner 2 ≡ word_at l inner 2) × (word_at n inner 3 ≡ x) × (word_at n inner 4 ≡ word_at l inner 4)
  around : LiesAround n (context + 24) (word_at n context 0) k y p

turned_words : (l : Words) (context : ℕ) (k : Path) (s : Side) (c d : Bool) (a : Shape) (x : ℕ) (b : Shape) (y : ℕ) (e : Shape) (inner p : ℕ) (m1 m2 m3 m4 : Words) →
    IsShape l context (plug k (before_turn s c d a x b y e)) → TurnWrites l context s x y inner p m1 m2 m3 m4 → Turned l m4 context k s a x b y e inner p
turned_words l context k s c d a x b y e inner p m1 m2 m3 m4 h w =
    let nil = context + 24 in
    let P = (parts l context k s c d a x b y e h).1 in
    let p_is : (parts l context k s c d a x b y e h).0 ≡ p = sym P.parent ∙ sym w.p_is in
    let around = subst (λ (q : ℕ). LiesAround l nil (word_at l context 0) k x q) p_is P.around in
    let b_at = subst (λ (q : ℕ). Lies l nil b q y) (sym w.inner_is) P.b_lies in
    let xx : one x x ≡ 1 = one-same x x refl in
    let yy : one y y ≡ 1 = one-same y y refl in
    let live_x = P.live x (omega (arith, xx)) in
    let live_y = P.live y (omega (arith, yy)) in
    let x_y : x ≢ y = λ q. omega (arith, P.tidy x, xx, one-same x y q) in
    let y_x : y ≢ x = λ q. x_y (sym q) in
    let apart_inner = λ (z : ℕ) (none : hits z b ≡ 0). elim (cases_eq inner nil) as (λ _. (z ≢ inner) ⊎ (inner ≡ nil)) [
      | inl n ↦ inr n
      | inr ne ↦ inl (λ q. let j = hits_root l nil b inner y b_at ne in let i : 0 < hits z b = subst (λ (r : ℕ). 0 < hits r b) (sym q) j in omega (arith, none, i))
    ] in
    let apart_p = λ (z : ℕ) (i : 0 < hits z a + (one z x + (hits z b + (one z y + hits z e)))). let r : z ≢ p = λ q. elim (around_parent l nil (word_at l context 0) k x p around) [
      | inl n ↦ (P.live z (omega (arith, i))).2 (q ∙ n)
      | inr j ↦ let j' : 0 < hits_path z k = subst (λ (r : ℕ). 0 < hits_path r k) (sym q) j in omega (arith, i, j', P.tidy z)
    ] in r in
    let same = λ (z : ℕ) (i : 0 < hits z a + (hits z b + hits z e)) (ni : (z ≢ inner) ⊎ (inner ≡ nil)).
    (turn_other l context s x y inner p m1 m2 m3 m4 w z (λ q. omega (arith, i, P.tidy z, one-same z x q)) (λ q. omega (arith, i, P.tidy z, one-same z y q)) ni).1
    (P.live z (omega (arith, i))).0 (apart_p z (omega (arith, i))) in
    let none_x : hits x b ≡ 0 = omega (arith, P.tidy x, xx) in
    let none_y : hits y b ≡ 0 = omega (arith, P.tidy y, yy) in
    let m4x : m4 x ≡ m1 x = replace_other m3 m4 context p x y x w.above live_x.0 (apart_p x (omega (arith, xx))) ∙ (w.between.others x (apart_inner x none_x) ∙ w.up.others x x_y) in
    let m4y : m4 y ≡ m2 y = replace_other m3 m4 context p x y y w.above live_y.0 (apart_p y (omega (arith, yy))) ∙ w.between.others y (apart_inner y none_y) in
    let m1y : m1 y ≡ l y = w.down.others y y_x in
    let sides = index-sum s in
    let low = index-low s in
    let low' = index-other s in
    let room1y : 5 ≤ length (m1 y) = subst (λ (ws : List ℕ). 5 ≤ length ws) (sym m1y) live_y.3 in
    let at_y = λ (j : ℕ). ap (λ (ws : List ℕ). get_or ws j 0) m4y in
    let at_x = λ (j : ℕ). ap (λ (ws : List ℕ). get_or ws j 0) m4x in
    let at_1y = λ (j : ℕ). ap (λ (ws : List ℕ). get_or ws j 0) m1y in
    let length3 = λ (z : ℕ). parent_length m2 m3 nil inner x z w.between ∙ (two_length m1 m2 y (child_word s) x 3 p z w.up ∙ two_length l m1 x (child_word (other_of s)) inner 3 y z w.down) in
    let on_path = λ (z : ℕ) (i : 0 < hits_path z k). (turn_other l context s x y inner p m1 m2 m3 m4 w z (λ q. omega (arith, i, P.tidy z, one-same z x q)) (λ q. omega (arith, i, P.tidy z, one-same z y q)) (apart_inner z (omega (arith, i, P.tidy z)))).0 in
    let inner_context : (context ≢ inner) ⊎ (inner ≡ nil) = elim (cases_eq inner nil) [
      | inl n ↦ inr n
      | inr ne ↦ inl (λ q. let j = hits_root l nil b inner y b_at ne in (P.live inner (omega (arith, j))).0 (sym q))
    ] in
    let context3 : m3 context ≡ l context = (turn_other l context s x y inner p m1 m2 m3 m4 w context (λ q. live_x.0 (sym q)) (λ q. live_y.0 (sym q)) inner_context).0 in
    let around3 = subst (λ (q : ℕ). LiesAround m3 nil q k x p) (sym (same_word l m3 context 0 context3)) (LiesAround-same l m3 nil (word_at l context 0) k x p on_path around) in
    record {
      x_side = at_x (child_word s) ∙ two_other l m1 x (child_word (other_of s)) inner 3 y (child_word s) w.down (λ q. omega (arith, q, sides)) (λ q. omega (arith, q, sides, low'));
      x_other = at_x (child_word (other_of s)) ∙ two_first l m1 x (child_word (other_of s)) inner 3 y w.down (λ q. omega (arith, q, sides, low)) (omega (arith, sides, low, live_x.3));
      x_parent = at_x 3 ∙ two_second l m1 x (child_word (other_of s)) inner 3 y w.down (omega (arith, live_x.3));
      x_flags = at_x 4 ∙ two_other l m1 x (child_word (other_of s)) inner 3 y 4 w.down (λ q. omega (arith, q, sides, low)) (λ q. omega (arith, q));
      y_side = at_y (child_word s) ∙ two_first m1 m2 y (child_word s) x 3 p w.up (λ q. omega (arith, q, sides, low')) (omega (arith, sides, low', room1y));
      y_other = at_y (child_word (other_of s)) ∙ (two_other m1 m2 y (child_word s) x 3 p (child_word (other_of s)) w.up (λ q. omega (arith, q, sides)) (λ q. omega (arith, q, sides, low)) ∙ at_1y (child_word (other_of s)));
      y_parent = at_y 3 ∙ two_second m1 m2 y (child_word s) x 3 p w.up (omega (arith, room1y));
      y_flags = at_y 4 ∙ (two_other m1 m2 y (child_word s) x 3 p 4 w.up (λ q. omega (arith, q, sides, low')) (λ q. omega (arith, q)) ∙ at_1y 4);
      same = same;
      inner_words = λ i.
          let live_i = P.live inner (omega (arith, i)) in
          let m2i = w.up.others inner (λ q. omega (arith, i, P.tidy inner, one-same inner y q)) ∙ w.down.others inner (λ q. omega (arith, i, P.tidy inner, one-same inner x q)) in
          let m4i = replace_other m3 m4 context p x y inner w.above live_i.0 (apart_p inner (omega (arith, i))) ∙ w.between.here live_i.1 in
          let word = λ (j : ℕ) (ne : j ≢ 3). ap (λ (ws : List ℕ). get_or ws j 0) m4i ∙ (get_or-set_other (m2 inner) 3 j x 0 ne ∙ ap (λ (ws : List ℕ). get_or ws j 0) m2i) in
          let room2 : 5 ≤ length (m2 inner) = subst (λ (ws : List ℕ). 5 ≤ length ws) (sym m2i) live_i.3 in
          (word 1 (λ q. omega (arith, q)), word 2 (λ q. omega (arith, q)), ap (λ (ws : List ℕ). get_or ws 3 0) m4i ∙ get_or-set_same (m2 inner) 3 x 0 (omega (arith, room2)), word 4 (λ q. omega (arith, q)));
      around = replaced m3 m4 nil context k x p y (λ z. omega (arith, P.tidy z))
          (λ z i. let v = P.live z (omega (arith, i)) in (v.0, v.2, omega (arith, length3 z, v.3)))
          (omega (arith, length3 context, h.head)) live_x.1 (omega (arith, P.tidy x, xx)) w.above around3;
    }

pub turned : (l : Words) (context : ℕ) (k : Path) (s : Side) (c d : Bool) (a : Shape) (x : ℕ) (b : Shape) (y : ℕ) (e : Shape) (inner p : ℕ) (m1 m2 m3 m4 : Words) →
    IsShape l context (plug k (before_turn s c d a x b y e)) → TurnWrites l context s x y inner p m1 m2 m3 m4 → IsShape m4 context (plug k (after_turn s c d a x b y e))
turned l context k s c d a x b y e inner p m1 m2 m3 m4 h w =
    let nil = context + 24 in
    let P = (parts l context k s c d a x b y e h).1 in
    let b_at = subst (λ (q : ℕ). Lies l nil b q y) (sym w.inner_is) P.b_lies in
    let t = turned_words l context k s c d a x b y e inner p m1 m2 m3 m4 h w in
    let none = λ (z : ℕ) (i : 0 < hits z a + hits z e). let none_b : hits z b ≡ 0 = omega (arith, i, P.tidy z) in
    elim (cases_eq inner nil) as (λ _. (z ≢ inner) ⊎ (inner ≡ nil)) [
      | inl n ↦ inr n
      | inr ne ↦ inl (λ q. let j = hits_root l nil b inner y b_at ne in let j' : 0 < hits z b = subst (λ (r : ℕ). 0 < hits r b) (sym q) j in omega (arith, none_b, j'))
    ] in
    let a_new = Lies-same l m4 nil a (word_at l x (child_word s)) x (λ z i. t.same z (omega (arith, i)) (none z (omega (arith, i)))) P.a_lies in
    let e_new = Lies-same l m4 nil e (word_at l y (child_word (other_of s))) y (λ z i. t.same z (omega (arith, i)) (none z (omega (arith, i)))) P.e_lies in
    let b_new = Lies-reparent l m4 nil b inner y x (λ z. omega (arith, P.tidy z)) (λ z i ne. t.same z (omega (arith, i)) (inl ne)) t.inner_words b_at in
    let below : IsBranch m4 nil s c a x b x y = record {
      at = refl;
      parent = t.x_parent;
      colour = ap (λ q. q % 256) t.x_flags ∙ P.x_colour;
      on_side = subst (λ (q : ℕ). Lies m4 nil a q x) (sym t.x_side) a_new;
      on_other = subst (λ (q : ℕ). Lies m4 nil b q x) (sym t.x_other) b_new;
    } in
    let above : IsBranch m4 nil s d (branch s c a x b) y e y p = record {
      at = refl;
      parent = t.y_parent;
      colour = ap (λ q. q % 256) t.y_flags ∙ P.y_colour;
      on_side = subst (λ (q : ℕ). Lies m4 nil (branch s c a x b) q y) (sym t.y_side) (Lies-branch m4 nil s c a x b x y below);
      on_other = subst (λ (q : ℕ). Lies m4 nil e q y) (sym t.y_other) e_new;
    } in
    let hits_same = λ (z : ℕ). let q : hits z (plug k (after_turn s c d a x b y e)) ≡ hits z (plug k (before_turn s c d a x b y e)) =
    omega (arith, hits-plug z k (after_turn s c d a x b y e), hits-plug z k (before_turn s c d a x b y e), (hits-turn z s c d a x b y e).0, (hits-turn z s c d a x b y e).1) in q in
    let same_length = turn_length l context s x y inner p m1 m2 m3 m4 w in
    record {
      head = omega (arith, same_length context, h.head);
      room = λ z i. omega (arith, same_length z, h.room z (omega (arith, hits_same z, i)));
      tidy = λ z. omega (arith, hits_same z, h.tidy z);
      apart = λ z i. h.apart z (omega (arith, hits_same z, i));
      below = λ z i. h.below z (omega (arith, hits_same z, i));
      lies = Lies-plug m4 nil (word_at m4 context 0) k (after_turn s c d a x b y e) y p t.around (Lies-branch m4 nil s d (branch s c a x b) y e y p above);
    }

-- a turn changes links alone
pub turned_changes : (l : Words) (context : ℕ) (k : Path) (s : Side) (c d : Bool) (a : Shape) (x : ℕ) (b : Shape) (y : ℕ) (e : Shape) (inner p : ℕ) (m1 m2 m3 m4 : Words) →
    IsShape l context (plug k (before_turn s c d a x b y e)) → TurnWrites l context s x y inner p m1 m2 m3 m4 → ChangesTree l m4 context (plug k (before_turn s c d a x b y e))
turned_changes l context k s c d a x b y e inner p m1 m2 m3 m4 h w =
    let t = plug k (before_turn s c d a x b y e) in
    let nil = context + 24 in
    let P = (parts l context k s c d a x b y e h).1 in
    let p_is : (parts l context k s c d a x b y e h).0 ≡ p = sym P.parent ∙ sym w.p_is in
    let around = subst (λ (q : ℕ). LiesAround l nil (word_at l context 0) k x q) p_is P.around in
    let b_at = subst (λ (q : ℕ). Lies l nil b q y) (sym w.inner_is) P.b_lies in
    let xx : one x x ≡ 1 = one-same x x refl in
    let yy : one y y ≡ 1 = one-same y y refl in
    let count = λ (z : ℕ). let q : hits z t ≡ hits z a + (one z x + (hits z b + (one z y + hits z e))) + hits_path z k = omega (arith, hits-plug z k (before_turn s c d a x b y e), (hits-turn z s c d a x b y e).0) in q in
    let inner_there = λ (ne : inner ≢ nil). let j = hits_root l nil b inner y b_at ne in let r : 0 < hits inner t = omega (arith, j, count inner) in r in
    let inner_away : inner ≢ context = λ q. elim (cases_eq inner nil) [
      | inl n ↦ omega (arith, n, q)
      | inr ne ↦ (h.apart inner (inner_there ne)).0 q
    ] in
    let p_there = λ (ne : p ≢ 0). elim (around_parent l nil (word_at l context 0) k x p around) as (λ _. (p ≢ context) × (0 < hits p t)) [
      | inl n ↦ absurd (ne n)
      | inr j ↦ let r : 0 < hits p t = omega (arith, j, count p) in ((h.apart p r).0, r)
    ] in
    let x_there : 0 < hits x t = omega (arith, xx, count x) in
    let y_there : 0 < hits y t = omega (arith, yy, count y) in
    let sides = index-sum s in
    let low = index-low s in
    let low' = index-other s in
    tree_changed_twice l m3 m4 context t
    (tree_changed_twice l m2 m3 context t
    (tree_changed_twice l m1 m2 context t
    (changes_two l m1 context t x (child_word (other_of s)) inner y (h.apart x x_there).0 x_there low' (omega (arith, sides, low)) w.down)
    (changes_two m1 m2 context t y (child_word s) x p (h.apart y y_there).0 y_there low (omega (arith, sides, low')) w.up))
    (changes_parent m2 m3 context t inner x inner_away inner_there w.between))
    (changes_slot m3 m4 context t p x y p_there w.above)

-- the child that the code reads is that of the drawing
pub child_read : (l : Words) (context : ℕ) (k : Path) (s : Side) (c d : Bool) (a : Shape) (x : ℕ) (b : Shape) (y : ℕ) (e : Shape) →
    IsShape l context (plug k (before_turn s c d a x b y e)) → word_at l x (child_word (other_of s)) ≡ y
child_read l context k s c d a x b y e h = (parts l context k s c d a x b y e h).1.y_at

pub writes_at : (l : Words) (context : ℕ) (s : Side) (x y z inner p : ℕ) (m1 m2 m3 m4 : Words) → y ≡ z → TurnWrites l context s x y inner p m1 m2 m3 m4 → TurnWrites l context s x z inner p m1 m2 m3 m4
writes_at l context s x y z inner p m1 m2 m3 m4 e w = subst (λ (q : ℕ). TurnWrites l context s x q inner p m1 m2 m3 m4) e w

-- the rooms that a turn needs
pub record TurnRooms (l : Words) (context x : ℕ) (s : Side) : Type 0 where
  pub head : 8 ≤ length (l context)
  pub at : 5 ≤ length (l x)
  pub child : 5 ≤ length (l (word_at l x (child_word (other_of s))))
  pub inner : word_at l (word_at l x (child_word (other_of s))) (child_word s) ≢ context + 24 → 5 ≤ length (l (word_at l (word_at l x (child_word (other_of s))) (child_word s)))
  pub parent : word_at l x 3 ≢ 0 → 5 ≤ length (l (word_at l x 3))

pub turn_rooms : (l : Words) (context : ℕ) (k : Path) (s : Side) (c d : Bool) (a : Shape) (x : ℕ) (b : Shape) (y : ℕ) (e : Shape) →
    IsShape l context (plug k (before_turn s c d a x b y e)) → TurnRooms l context x s
turn_rooms l context k s c d a x b y e h =
    let nil = context + 24 in
    let P = (parts l context k s c d a x b y e h).1 in
    let p = (parts l context k s c d a x b y e h).0 in
    let child : 5 ≤ length (l y) = (P.live y (omega (arith, one-same y y refl))).3 in
    let inner = λ (ne : word_at l y (child_word s) ≢ nil). (P.live (word_at l y (child_word s)) (let j = hits_root l nil b (word_at l y (child_word s)) y P.b_lies ne in omega (arith, j))).3 in
    let parent = λ (ne : p ≢ 0). elim (around_parent l nil (word_at l context 0) k x p P.around) as (λ _. 5 ≤ length (l p)) [ inl n ↦ absurd (ne n) | inr j ↦ (P.live p (omega (arith, j))).3 ] in
    record {
      head = h.head;
      at = (P.live x (omega (arith, one-same x x refl))).3;
      child = subst (λ (q : ℕ). 5 ≤ length (l q)) (sym P.y_at) child;
      inner = subst (λ (q : ℕ). word_at l q (child_word s) ≢ nil → 5 ≤ length (l (word_at l q (child_word s)))) (sym P.y_at) inner;
      parent = subst (λ (q : ℕ). q ≢ 0 → 5 ≤ length (l q)) (sym P.parent) parent;
    }

pub turn_writes : (l : Words) (context : ℕ) (s far : Side) (x y inner p : ℕ) (m1 m2 m3 m4 : Words) → far ≡ other_of s →
    y ≡ word_at l x (child_word far) → inner ≡ word_at l y (child_word s) → p ≡ word_at l x 3 →
    SetsTwo l m1 x (child_word far) inner 3 y → SetsTwo m1 m2 y (child_word s) x 3 p → SetsParent m2 m3 (context + 24) inner x → Replaces m3 m4 context p x y →
    TurnWrites l context s x y inner p m1 m2 m3 m4
turn_writes l context s far x y inner p m1 m2 m3 m4 e ye ie pe d u b a = record {
  y_is = ye ∙ ap (λ (f : Side). word_at l x (child_word f)) e;
  inner_is = ie;
  p_is = pe;
  down = subst (λ (f : Side). SetsTwo l m1 x (child_word f) inner 3 y) e d;
  up = u;
  between = b;
  above = a;
}

-- the same rooms, by what the code has read
pub turn_rooms_read : (l : Words) (context x y inner p : ℕ) (s far : Side) → far ≡ other_of s → y ≡ word_at l x (child_word far) → inner ≡ word_at l y (child_word s) → p ≡ word_at l x 3 →
    TurnRooms l context x s → (5 ≤ length (l x)) × (5 ≤ length (l y)) × (inner ≢ context + 24 → 5 ≤ length (l inner)) × (p ≢ 0 → 5 ≤ length (l p))
turn_rooms_read l context x y inner p s far e ye ie pe r =
    let yo : y ≡ word_at l x (child_word (other_of s)) = ye ∙ ap (λ (f : Side). word_at l x (child_word f)) e in
    let io : inner ≡ word_at l (word_at l x (child_word (other_of s))) (child_word s) = ie ∙ ap (λ (q : ℕ). word_at l q (child_word s)) yo in (
      r.at,
      subst (λ (q : ℕ). 5 ≤ length (l q)) (sym yo) r.child,
      subst (λ (q : ℕ). q ≢ context + 24 → 5 ≤ length (l q)) (sym io) r.inner,
      subst (λ (q : ℕ). q ≢ 0 → 5 ≤ length (l q)) (sym pe) r.parent,
    )
