-- Red and black trees: nodes on either side, and trees put into places.
use Rattle.std.proofs.Common.{ℕ, ◌≡◌, zero, suc, Bool, true, false, sym, ◌∙◌, refl}
use Rattle.offset_tree.specs.declared.side.Side.{Side}
use Rattle.offset_tree.specs.declared.side.Side.TheVariants.{Left, Right}
use Rattle.offset_tree.specs.Inside.Sides.{other_of}
use Rattle.offset_tree.specs.Inside.Shape.{Shape, branch, Path, top, step, plug}
use Rattle.offset_tree.specs.Inside.Balance.{red_of, IsBalanced, wants_black, IsPathBalanced}

pub branch-flip : (s : Side) (c : Bool) (near : Shape) (x : ℕ) (far : Shape) → branch (other_of s) c near x far ≡ branch s c far x near
branch-flip Left c near x far = refl
branch-flip Right c near x far = refl

pub red_of-branch : (s : Side) (c : Bool) (near : Shape) (x : ℕ) (far : Shape) → red_of (branch s c near x far) ≡ c
red_of-branch Left c near x far = refl
red_of-branch Right c near x far = refl

pub balanced_red : (s : Side) (near : Shape) (x : ℕ) (far : Shape) (h : ℕ) → red_of near ≡ false → red_of far ≡ false → IsBalanced near h → IsBalanced far h → IsBalanced (branch s true near x far) h
balanced_red Left near x far h n f a b = (n, f, a, b)
balanced_red Right near x far h n f a b = (f, n, b, a)

pub balanced_black : (s : Side) (near : Shape) (x : ℕ) (far : Shape) (h : ℕ) → IsBalanced near h → IsBalanced far h → IsBalanced (branch s false near x far) (suc h)
balanced_black Left near x far h a b = (a, b)
balanced_black Right near x far h a b = (b, a)

pub red_balanced : (s : Side) (near : Shape) (x : ℕ) (far : Shape) (h : ℕ) → IsBalanced (branch s true near x far) h → (red_of near ≡ false) × (red_of far ≡ false) × IsBalanced near h × IsBalanced far h
red_balanced Left near x far h b = b
red_balanced Right near x far h b = (b.1, b.0, b.3, b.2)

-- a tree that fits makes the whole balanced, with a black root
pub plug_balanced : (k : Path) (t : Shape) (h : ℕ) → IsPathBalanced k h → IsBalanced t h → (wants_black k ≡ true → red_of t ≡ false) → (g : ℕ) × IsBalanced (plug k t) g × (red_of (plug k t) ≡ false)
plug_balanced top t h p b w = (h, b, w refl)
plug_balanced (step s true x far up) t h p b w =
    plug_balanced up (branch s true t x far) h p.3 (balanced_red s t x far h (w refl) p.0 b p.1) (λ e. absurd (false_true (sym p.2 ∙ e))) where
      false_true : false ≡ true → ⊥
      false_true e = cc
plug_balanced (step s false x far up) t h p b w =
    plug_balanced up (branch s false t x far) (suc h) p.1 (balanced_black s t x far h b p.0) (λ e. red_of-branch s false t x far)

-- a place in a balanced tree, and what stands there
pub placed_balanced : (k : Path) (t : Shape) (g : ℕ) → IsBalanced (plug k t) g → (red_of (plug k t) ≡ false) → (h : ℕ) × IsPathBalanced k h × IsBalanced t h × (wants_black k ≡ true → red_of t ≡ false)
placed_balanced top t g b r = (g, tt, b, λ e. r)
placed_balanced (step s true x far up) t g b r =
    let u = placed_balanced up (branch s true t x far) g b r in
    let q = red_balanced s t x far u.0 u.2 in
    (u.0, (q.1, q.3, wants up u.3, u.1), q.2, λ e. q.0) where
      wants : (up : Path) → (wants_black up ≡ true → red_of (branch s true t x far) ≡ false) → wants_black up ≡ false
      wants up w = bool_cases (wants_black up) (λ e. let f : true ≡ false = sym (red_of-branch s true t x far) ∙ w e in cc) where
        bool_cases : (b : Bool) → (b ≡ true → ⊥) → b ≡ false
        bool_cases true n = absurd (n refl)
        bool_cases false n = refl
placed_balanced (step s false x far up) t g b r =
    let u = placed_balanced up (branch s false t x far) g b r in
    black_cases s t x far u.0 u.2 u.1 where
      black_cases : (s : Side) (t : Shape) (x : ℕ) (far : Shape) (h : ℕ) → IsBalanced (branch s false t x far) h → IsPathBalanced up h → (h : ℕ) × IsPathBalanced (step s false x far up) h × IsBalanced t h × (wants_black (step s false x far up) ≡ true → red_of t ≡ false)
      black_cases Left t x far zero b p = absurd b
      black_cases Left t x far (suc h) b p = (h, (b.1, p), b.0, λ e. cc)
      black_cases Right t x far zero b p = absurd b
      black_cases Right t x far (suc h) b p = (h, (b.0, p), b.1, λ e. cc)
