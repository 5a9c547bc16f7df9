-- Trees as they are drawn: where blocks stand.
use Rattle.std.proofs.Common.{ℕ, ◌≡◌, ◌≢◌, ◌+◌, Bool, ◌∷◌, ◌++◌, sym, ap, refl, arith, append_assoc}
use Rattle.std.proofs.lemmas.Grind.{common_steps}
use Rattle.offset_tree.specs.declared.side.Side.{Side}
use Rattle.offset_tree.specs.declared.side.Side.TheVariants.{Left, Right}
use Rattle.offset_tree.specs.Inside.Sides.{other_of}
use Rattle.offset_tree.specs.Inside.Shape.{Shape, branch, Path, top, step, plug, one, hits, hits_path, blocks_of}

pub one-same : (z x : ℕ) → z ≡ x → one z x ≡ 1
unfolding one
one-same z x e = grind (arith, common_steps)

pub one-other : (z x : ℕ) → z ≢ x → one z x ≡ 0
unfolding one
one-other z x ne = grind (arith, common_steps)

pub hits-branch : (z : ℕ) (s : Side) (c : Bool) (near : Shape) (x : ℕ) (far : Shape) → hits z (branch s c near x far) ≡ hits z near + (one z x + hits z far)
hits-branch z Left c near x far = refl
hits-branch z Right c near x far = omega arith

pub hits-plug : (z : ℕ) (k : Path) (t : Shape) → hits z (plug k t) ≡ hits z t + hits_path z k
hits-plug z top t = omega arith
hits-plug z (step s c x far up) t = omega (arith, hits-plug z up (branch s c t x far), hits-branch z s c t x far)

-- the blocks in order depend only on those of the part that is put in
pub blocks_of-branch : (s : Side) (c d : Bool) (t u : Shape) (x : ℕ) (far : Shape) → blocks_of t ≡ blocks_of u → blocks_of (branch s c t x far) ≡ blocks_of (branch s d u x far)
blocks_of-branch Left c d t u x far e = ap (λ xs. xs ++ x ∷ blocks_of far) e
blocks_of-branch Right c d t u x far e = ap (λ xs. blocks_of far ++ x ∷ xs) e

pub blocks_of-plug : (k : Path) (t u : Shape) → blocks_of t ≡ blocks_of u → blocks_of (plug k t) ≡ blocks_of (plug k u)
blocks_of-plug top t u e = e
blocks_of-plug (step s c x far up) t u e = blocks_of-plug up (branch s c t x far) (branch s c u x far) (blocks_of-branch s c c t u x far e)

-- a turn keeps the order
pub blocks_of-turn : (s : Side) (c d : Bool) (a : Shape) (x : ℕ) (b : Shape) (y : ℕ) (e : Shape) →
    blocks_of (branch s d (branch s c a x b) y e) ≡ blocks_of (branch (other_of s) c (branch s d b y e) x a)
blocks_of-turn Left c d a x b y e = append_assoc (blocks_of a) (x ∷ blocks_of b) (y ∷ blocks_of e)
blocks_of-turn Right c d a x b y e = sym (append_assoc (blocks_of e) (y ∷ blocks_of b) (x ∷ blocks_of a))
