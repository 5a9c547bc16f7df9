-- The numbers of the nine classes.
use Rattle.std.proofs.Common.{ℕ, ◌≡◌, ◌+◌, ◌*◌, ◌/◌, ◌<◌, ◌≤◌, Bool, true, ◌&&◌, leb, ltb, eqb, Some, None, refl, arith}
use Rattle.std.proofs.lemmas.Bool.{agree_below_at}
use Rattle.std.proofs.lemmas.Grind.{common_steps}
use Rattle.slab_model.specs.declared.shape.Shape.{Shape}
use Rattle.slab_model.specs.Geometry.{IsInLimits, class_size, class_of, pages_for, blocks_in_page, first_index, usable_blocks, start_of, pages_of, most_pages}

-- a class cuts a page into blocks, of which at least two can be granted
pub record Cuts (shape : Shape) (class : ℕ) : Type 0 where
  pub some : 0 < class_size class
  pub eights : 8 * (class_size class / 8) ≡ class_size class
  pub small : class_size class ≤ 2048
  pub whole : class_size class * blocks_in_page shape class ≡ 4096
  pub many : blocks_in_page shape class ≤ 512
  pub sum : first_index shape class + usable_blocks shape class ≡ blocks_in_page shape class
  pub two : 2 ≤ usable_blocks shape class

-- the same as a test, which computes at each class
cuts_test : (shape : Shape) → ℕ → Bool
cuts_test shape class = ltb 0 (class_size class) && (eqb (8 * (class_size class / 8)) (class_size class) && (leb (class_size class) 2048 && (eqb (class_size class * blocks_in_page shape class) 4096 && (leb (blocks_in_page shape class) 512 && (eqb (first_index shape class + usable_blocks shape class) (blocks_in_page shape class) && leb 2 (usable_blocks shape class))))))

cuts_tested : (shape : Shape) (class : ℕ) → class < 9 → cuts_test shape class ≡ true
unfolding cuts_test class_size blocks_in_page first_index usable_blocks
cuts_tested shape class low = agree_below_at (cuts_test shape) (λ _. true) 9 class refl low

pub cuts : (shape : Shape) (class : ℕ) → class < 9 → Cuts shape class
unfolding cuts_test
cuts shape class low = let test = cuts_tested shape class low in record {
  some = grind (arith, common_steps, test);
  eights = grind (arith, common_steps, test);
  small = grind (arith, common_steps, test);
  whole = grind (arith, common_steps, test);
  many = grind (arith, common_steps, test);
  sum = grind (arith, common_steps, test);
  two = grind (arith, common_steps, test);
}

-- the class of a request is one of the nine, and its blocks are large enough
pub class_of-some : (shape : Shape) (size class : ℕ) → class_of shape size ≡ Some class → (class < 9) × (size ≤ class_size class)
unfolding class_of class_size
class_of-some shape size class is = grind (arith, common_steps)

-- a request that no class serves
pub class_of-none : (shape : Shape) (size : ℕ) → class_of shape size ≡ None → 2048 < size
unfolding class_of
class_of-none shape size is = grind (arith, common_steps)

-- whole pages hold a request
pub pages_for-holds : (shape : Shape) (size : ℕ) → 0 < size → (0 < pages_for shape size) × (size ≤ 4096 * pages_for shape size)
unfolding pages_for
pages_for-holds shape size some = (omega arith, omega arith)

-- the pages of a zone lie behind its descriptors and end within it
pub record Zone (shape : Shape) : Type 0 where
  pub some : 4096 ≤ start_of shape
  pub eights : 4096 * (start_of shape / 4096) ≡ start_of shape
  pub last : start_of shape + 4096 * pages_of shape ≤ shape.bytes
  pub behind : 704 + 24 * pages_of shape ≤ start_of shape
  pub pages : 0 < pages_of shape
  pub many : pages_of shape ≤ 16384

pub zone : (shape : Shape) → IsInLimits shape → Zone shape
unfolding start_of pages_of most_pages
zone shape limits = let large = limits.large in let small = limits.small in record {
  some = omega (arith, large, small);
  eights = omega (arith, large, small);
  last = omega (arith, large, small);
  behind = omega (arith, large, small);
  pages = omega (arith, large, small);
  many = omega (arith, large, small);
}

-- the same in names that code can cite
pub class_known : (shape : Shape) (size class : ℕ) → class_of shape size ≡ Some class → class < 9
class_known shape size class is = (class_of-some shape size class is).0

pub pages_some : (shape : Shape) (size : ℕ) → 0 < size → 0 < pages_for shape size
pages_some shape size some = (pages_for-holds shape size some).0

pub first_below : (shape : Shape) (class : ℕ) → class < 9 → first_index shape class ≤ blocks_in_page shape class
first_below shape class known = let c = cuts shape class known in omega (arith, c.sum)
