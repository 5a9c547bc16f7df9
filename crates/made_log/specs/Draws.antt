-- The draws of a line from the generator.
use Rattle.std.specs.Prelude.{ℕ}
use Rattle.rand_core.specs.Pcg32Seed.{pcg32_seed}
use Rattle.rand_pcg.specs.Lcg.{Lcg}
use Rattle.rand_pcg.specs.Pcg.{pcg32, pcg32_of_seed}

-- the generator of a seed
abbrev pub generator_of : ℕ → Lcg
generator_of seed = pcg32_of_seed (pcg32_seed 16 seed)

-- a draw is the generator's next word of 32 bits
abbrev pub drawn : Lcg → ℕ
drawn generator = (pcg32 generator).0

-- the generator after a draw
abbrev pub after_draw : Lcg → Lcg
after_draw generator = (pcg32 generator).1

-- the first of the four draws of a line
abbrev pub first_draw : Lcg → ℕ
first_draw generator = drawn generator

-- the second
abbrev pub second_draw : Lcg → ℕ
second_draw generator = drawn (after_draw generator)

-- the third
abbrev pub third_draw : Lcg → ℕ
third_draw generator = drawn (after_draw (after_draw generator))

-- the fourth
abbrev pub fourth_draw : Lcg → ℕ
fourth_draw generator = drawn (after_draw (after_draw (after_draw generator)))

-- the generator after them
abbrev pub after_line : Lcg → Lcg
after_line generator = after_draw (after_draw (after_draw (after_draw generator)))
