-- The kinds of the nine classes.
use Rattle.std.proofs.Common.{ℕ, ◌≡◌, ◌+◌, ◌*◌, ◌<◌, ◌≤◌, Bool, true, ◌&&◌, ◌||◌, leb, ltb, eqb, refl, arith}
use Rattle.std.proofs.lemmas.Bool.{agree_below_at}
use Rattle.std.proofs.lemmas.Grind.{common_steps}
use Rattle.slab_model.specs.declared.shape.Shape.{Shape}
use Rattle.slab_model.specs.Geometry.{Kind, small, exact, big, kind_of, class_size, blocks_in_page, first_index, usable_blocks}
use Rattle.slab_pages.specs.Places.{bitmap_words}
use Rattle.slab_pages.specs.SlabLayout.{type_of}

many_blocks : (shape : Shape) (class : ℕ) → class < 9 → ltb 64 (blocks_in_page shape class) ≡ ltb class 3
unfolding blocks_in_page class_size
many_blocks shape class known = agree_below_at (λ c. ltb 64 (blocks_in_page shape c)) (λ c. ltb c 3) 9 class refl known

word_of_blocks : (shape : Shape) (class : ℕ) → class < 9 → eqb (blocks_in_page shape class) 64 ≡ eqb class 3
unfolding blocks_in_page class_size
word_of_blocks shape class known = agree_below_at (λ c. eqb (blocks_in_page shape c) 64) (λ c. eqb c 3) 9 class refl known

pub kind-small : (shape : Shape) (class : ℕ) → class < 3 → kind_of shape class ≡ small
unfolding kind_of
kind-small shape class low = let many = many_blocks shape class (omega arith) in grind (arith, common_steps, many)

pub kind-exact : (shape : Shape) (class : ℕ) → class ≡ 3 → kind_of shape class ≡ exact
unfolding kind_of
kind-exact shape class is = let many = many_blocks shape class (omega arith) in let word = word_of_blocks shape class (omega arith) in grind (arith, common_steps, many, word)

pub kind-big : (shape : Shape) (class : ℕ) → 3 < class → class < 9 → kind_of shape class ≡ big
unfolding kind_of
kind-big shape class high known = let many = many_blocks shape class known in let word = word_of_blocks shape class known in grind (arith, common_steps, many, word)

-- the numbers of a class, as a test that computes at each
numbers_test : Shape → ℕ → Bool
numbers_test shape class = leb (blocks_in_page shape class) (64 * bitmap_words shape class) && (leb (64 * bitmap_words shape class) (blocks_in_page shape class + 62) && (ltb (first_index shape class) 64 && (leb 2 (usable_blocks shape class) && (eqb (first_index shape class + usable_blocks shape class) (blocks_in_page shape class) && leb (bitmap_words shape class) 8))))

numbers_tested : (shape : Shape) (class : ℕ) → class < 9 → numbers_test shape class ≡ true
unfolding numbers_test class_size blocks_in_page first_index usable_blocks
numbers_tested shape class known = agree_below_at (numbers_test shape) (λ _. true) 9 class refl known

pub record Numbers (shape : Shape) (class : ℕ) : Type 0 where
  pub holds : blocks_in_page shape class ≤ 64 * bitmap_words shape class
  pub first : first_index shape class < 64
  pub two : 2 ≤ usable_blocks shape class
  pub sum : first_index shape class + usable_blocks shape class ≡ blocks_in_page shape class
  pub words : bitmap_words shape class ≤ 8

pub numbers : (shape : Shape) (class : ℕ) → class < 9 → Numbers shape class
unfolding numbers_test
numbers shape class known = let test = numbers_tested shape class known in record {
  holds = grind (arith, common_steps, test);
  first = grind (arith, common_steps, test);
  two = grind (arith, common_steps, test);
  sum = grind (arith, common_steps, test);
  words = grind (arith, common_steps, test);
}

-- the words of the bits of each kind
small_test : Shape → ℕ → Bool
small_test shape class = eqb (64 * bitmap_words shape class) (blocks_in_page shape class)

pub small_words : (shape : Shape) (class : ℕ) → class < 4 → 64 * bitmap_words shape class ≡ blocks_in_page shape class
unfolding small_test blocks_in_page class_size
small_words shape class low = let test = agree_below_at (small_test shape) (λ _. true) 4 class refl low in grind (arith, common_steps, test)

big_test : Shape → ℕ → Bool
big_test shape class = ltb class 3 || (eqb (bitmap_words shape class) 1 && (eqb (first_index shape class) 0 && (leb (blocks_in_page shape class) 64 && (leb (blocks_in_page shape class) 32 || eqb class 3))))

pub one_word : (shape : Shape) (class : ℕ) → 3 ≤ class → class < 9 → (bitmap_words shape class ≡ 1) × (first_index shape class ≡ 0) × (blocks_in_page shape class ≤ 64) × (3 < class → blocks_in_page shape class ≤ 32)
unfolding big_test blocks_in_page class_size first_index
one_word shape class high known = let test = agree_below_at (big_test shape) (λ _. true) 9 class refl known in (grind (arith, common_steps, test), grind (arith, common_steps, test), grind (arith, common_steps, test), grind (arith, common_steps, test))

-- the types of the kinds are the low two bits
pub types-few : (k : Kind) → type_of k < 4
types-few small = omega arith
types-few exact = omega arith
types-few big = omega arith
