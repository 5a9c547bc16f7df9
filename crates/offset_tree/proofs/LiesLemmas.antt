-- Trees in words: what a change elsewhere leaves, and what a change of one link does.
use Rattle.std.proofs.Common.{ℕ, ◌≡◌, ◌≢◌, ◌+◌, ◌%◌, ◌<◌, ◌≤◌, Bool, sym, ap, subst, ◌∙◌, refl, arith, get_or}
use Rattle.zone_region.specs.Words.{Words, word_at}
use Rattle.offset_tree.specs.declared.side.Side.{Side}
use Rattle.offset_tree.specs.declared.side.Side.TheVariants.{Left, Right}
use Rattle.offset_tree.specs.Inside.Sides.{child_word, other_of}
use Rattle.offset_tree.specs.Inside.Shape.{Shape, leaf, node, branch, Path, top, step, plug, one, hits, hits_path}
use Rattle.offset_tree.specs.Inside.Links.{IsColoured, Lies, LiesAround}
use Rattle.offset_tree.proofs.ShapeLemmas.{one-same}

pub same_word : (m n : Words) (x i : ℕ) → n x ≡ m x → word_at n x i ≡ word_at m x i
same_word m n x i e = ap (λ ws. get_or ws i 0) e

pub Lies-same : (m n : Words) (nil : ℕ) (t : Shape) (o p : ℕ) → ((z : ℕ) → 0 < hits z t → n z ≡ m z) → Lies m nil t o p → Lies n nil t o p
Lies-same m n nil leaf o p same h = h
Lies-same m n nil (node c l x r) o p same h =
    let e = same x (omega (arith, one-same x x refl)) in (
      h.0,
      same_word m n x 3 e ∙ h.1,
      ap (λ w. w % 256) (same_word m n x 4 e) ∙ h.2,
      subst (λ (a : ℕ). Lies n nil l a x) (sym (same_word m n x 1 e)) (Lies-same m n nil l (word_at m x 1) x (λ z i. same z (omega (arith, i))) h.3),
      subst (λ (a : ℕ). Lies n nil r a x) (sym (same_word m n x 2 e)) (Lies-same m n nil r (word_at m x 2) x (λ z i. same z (omega (arith, i))) h.4),
    )

-- a node with one child on this side and one on the other
pub record IsBranch (m : Words) (nil : ℕ) (s : Side) (c : Bool) (near : Shape) (x : ℕ) (far : Shape) (o p : ℕ) : Type 0 where
  pub at : o ≡ x
  pub parent : word_at m x 3 ≡ p
  pub colour : IsColoured m x c
  pub on_side : Lies m nil near (word_at m x (child_word s)) x
  pub on_other : Lies m nil far (word_at m x (child_word (other_of s))) x

pub branch_of : (m : Words) (nil : ℕ) (s : Side) (c : Bool) (near : Shape) (x : ℕ) (far : Shape) (o p : ℕ) → Lies m nil (branch s c near x far) o p → IsBranch m nil s c near x far o p
branch_of m nil Left c near x far o p h = record { at = h.0; parent = h.1; colour = h.2; on_side = h.3; on_other = h.4 }
branch_of m nil Right c near x far o p h = record { at = h.0; parent = h.1; colour = h.2; on_side = h.4; on_other = h.3 }

pub Lies-branch : (m : Words) (nil : ℕ) (s : Side) (c : Bool) (near : Shape) (x : ℕ) (far : Shape) (o p : ℕ) → IsBranch m nil s c near x far o p → Lies m nil (branch s c near x far) o p
Lies-branch m nil Left c near x far o p b = (b.at, b.parent, b.colour, b.on_side, b.on_other)
Lies-branch m nil Right c near x far o p b = (b.at, b.parent, b.colour, b.on_other, b.on_side)

pub LiesAround-same : (m n : Words) (nil root : ℕ) (k : Path) (o p : ℕ) → ((z : ℕ) → 0 < hits_path z k → n z ≡ m z) → LiesAround m nil root k o p → LiesAround n nil root k o p
LiesAround-same m n nil root top o p same h = h
LiesAround-same m n nil root (step s c x far up) o p same h =
    let e = same x (omega (arith, one-same x x refl)) in (
      h.0,
      same_word m n x (child_word s) e ∙ h.1,
      ap (λ w. w % 256) (same_word m n x 4 e) ∙ h.2,
      subst (λ (a : ℕ). Lies n nil far a x) (sym (same_word m n x (child_word (other_of s)) e)) (Lies-same m n nil far (word_at m x (child_word (other_of s))) x (λ z i. same z (omega (arith, i))) h.3),
      subst (λ (a : ℕ). LiesAround n nil root up x a) (sym (same_word m n x 3 e)) (LiesAround-same m n nil root up x (word_at m x 3) (λ z i. same z (omega (arith, i))) h.4),
    )

-- a tree around a place and a tree in it make one tree, and back
pub Lies-plug : (m : Words) (nil root : ℕ) (k : Path) (t : Shape) (o p : ℕ) → LiesAround m nil root k o p → Lies m nil t o p → Lies m nil (plug k t) root 0
Lies-plug m nil root top t o p a h = subst (λ (q : ℕ). Lies m nil t root q) a.1 (subst (λ (q : ℕ). Lies m nil t q p) (sym a.0) h)
Lies-plug m nil root (step s c x far up) t o p a h =
    Lies-plug m nil root up (branch s c t x far) x (word_at m x 3) a.4
    (Lies-branch m nil s c t x far x (word_at m x 3) (record {
      at = refl;
      parent = refl;
      colour = a.2;
      on_side = subst (λ (q : ℕ). Lies m nil t q x) (sym a.1) (subst (λ (q : ℕ). Lies m nil t o q) a.0 h);
      on_other = a.3;
    }))

-- what lies in and around a place
pub record IsPlaced (m : Words) (nil root : ℕ) (k : Path) (t : Shape) (o p : ℕ) : Type 0 where
  pub around : LiesAround m nil root k o p
  pub lies : Lies m nil t o p

pub placed : (m : Words) (nil root : ℕ) (k : Path) (t : Shape) → Lies m nil (plug k t) root 0 → (o : ℕ) × (p : ℕ) × IsPlaced m nil root k t o p
placed m nil root top t h = (root, 0, record { around = (refl, refl); lies = h })
placed m nil root (step s c x far up) t h =
    let u = placed m nil root up (branch s c t x far) h in
    let b = branch_of m nil s c t x far u.0 u.1 u.2.lies in (
      word_at m x (child_word s),
      x,
      record {
        around = (refl, refl, b.colour, b.on_other, subst (λ (q : ℕ). LiesAround m nil root up x q) (sym b.parent) (subst (λ (q : ℕ). LiesAround m nil root up q u.1) b.at u.2.around));
        lies = b.on_side;
      },
    )

-- a tree under another parent
pub Lies-reparent : (m n : Words) (nil : ℕ) (t : Shape) (o p q : ℕ) → ((z : ℕ) → hits z t ≤ 1) → ((z : ℕ) → 0 < hits z t → z ≢ o → n z ≡ m z) →
    (0 < hits o t → (word_at n o 1 ≡ word_at m o 1) × (word_at n o 2 ≡ word_at m o 2) × (word_at n o 3 ≡ q) × (word_at n o 4 ≡ word_at m o 4)) →
    Lies m nil t o p → Lies n nil t o q
Lies-reparent m n nil leaf o p q tidy same here h = h
Lies-reparent m n nil (node c l x r) o p q tidy same here h =
    let e : one x x ≡ 1 = one-same x x refl in
    let w = subst (λ (y : ℕ). (word_at n y 1 ≡ word_at m y 1) × (word_at n y 2 ≡ word_at m y 2) × (word_at n y 3 ≡ q) × (word_at n y 4 ≡ word_at m y 4)) h.0 (here (subst (λ (y : ℕ). 0 < hits y (node c l x r)) (sym h.0) (omega (arith, e)))) in
    let apart = λ (z : ℕ) (i : 0 < hits z l + hits z r) (f : z ≡ o). let g : z ≡ x = f ∙ h.0 in let k : ⊥ = omega (arith, i, tidy z, one-same z x g) in k in (
      h.0,
      w.2,
      ap (λ v. v % 256) w.3 ∙ h.2,
      subst (λ (a : ℕ). Lies n nil l a x) (sym w.0) (Lies-same m n nil l (word_at m x 1) x (λ z i. same z (omega (arith, i)) (apart z (omega (arith, i)))) h.3),
      subst (λ (a : ℕ). Lies n nil r a x) (sym w.1) (Lies-same m n nil r (word_at m x 2) x (λ z i. same z (omega (arith, i)) (apart z (omega (arith, i)))) h.4),
    )
