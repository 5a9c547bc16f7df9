-- Binary digits, and what searches and insertions read.
use Rattle.std.proofs.Common.{ℕ, ◌≡◌, ◌≢◌, ◌+◌, ◌*◌, ◌/◌, ◌^◌, ◌<◌, ◌≤◌, zero, suc, sym, ap, subst, refl, arith, inl, inr}
use Rattle.std.proofs.Math.Nat.{mul-le-mul_right}
use Rattle.std.proofs.lemmas.Bool.{cases_eq, cases_lt, cases_order}
use Rattle.std.proofs.lemmas.Nat.{pow_below}
use Rattle.std.proofs.lemmas.Grind.{common_steps}
use Rattle.offset_tree.specs.Bounds.{bits_up_to, bits, search_cost}
use Rattle.offset_tree.specs.Laws.{DigitsLaw}

bits_up_to-more : (most n : ℕ) → n ≢ 0 → bits_up_to (suc most) n ≡ suc (bits_up_to most (n / 2))
bits_up_to-more most n h = grind (arith, common_steps)

bits_up_to-none : (most : ℕ) → bits_up_to most 0 ≡ 0
bits_up_to-none zero = refl
bits_up_to-none (suc most) = refl

pow-suc : (h : ℕ) → 2 ^ suc h ≡ 2 * 2 ^ h
pow-suc h = omega arith

pow-low : (h : ℕ) → 1 ≤ 2 ^ h
pow-low zero = omega arith
pow-low (suc h) = omega (arith, pow-suc h, pow-low h)

bits_up_to-low : (most n h : ℕ) → n ≤ most → 2 ^ h ≤ n → h < bits_up_to most n
bits_up_to-low zero n h le p = absurd (omega (arith, le, p, pow-low h))
bits_up_to-low (suc most) n zero le p = omega (arith, bits_up_to-more most n (λ e. omega (arith, e, p)))
bits_up_to-low (suc most) n (suc h) le p =
    let some : n ≢ 0 = λ e. omega (arith, e, p, pow-low (suc h)) in
    omega (arith, bits_up_to-more most n some, bits_up_to-low most (n / 2) h (omega (arith, le, some)) (omega (arith, p, pow-suc h)))

bits_up_to-high : (most n : ℕ) → n ≤ most → n ≢ 0 → 2 ^ bits_up_to most n ≤ 2 * n
bits_up_to-high zero n le some = absurd (some (omega (arith, le)))
bits_up_to-high (suc most) n le some =
    let more = bits_up_to-more most n some in
    subst (λ (k : ℕ). 2 ^ k ≤ 2 * n) (sym more) (elim (cases_eq (n / 2) 0) [
      | inl e ↦ let none : bits_up_to most (n / 2) ≡ 0 = subst (λ (k : ℕ). bits_up_to most k ≡ 0) (sym e) (bits_up_to-none most) in
          subst (λ (k : ℕ). 2 ^ suc k ≤ 2 * n) (sym none) (omega (arith, some))
      | inr half ↦ omega (arith, pow-suc (bits_up_to most (n / 2)), bits_up_to-high most (n / 2) (omega (arith, le, some)) half)
    ])

-- the greatest power of two that a number reaches has one digit less
bits-low : (n h : ℕ) → 2 ^ h ≤ n → h < bits n
unfolding bits
bits-low n h p = bits_up_to-low n n h (omega arith) p

-- and two to the number of its digits is at most twice the number
bits-high : (n : ℕ) → n ≢ 0 → 2 ^ bits n ≤ 2 * n
unfolding bits
bits-high n some = bits_up_to-high n n (omega arith) some

-- a tree of black height `h` has at least `2 ^ h - 1` blocks, and no way down of more than `2 * h`
pub search_cost-low : (n len h : ℕ) → 2 ^ h ≤ n + 1 → 2 * h * (5 + len / 8) + 1 ≤ search_cost n len
unfolding search_cost
search_cost-low n len h p =
    let b = bits-low (n + 1) h p in
    let small : 2 * h + 1 ≤ 2 * bits (n + 1) + 1 = omega (arith, b) in
    omega (arith, mul-le-mul_right (5 + len / 8) small)

pub searched : (n len h start used : ℕ) → 2 ^ h ≤ n + 1 → used ≤ start + 1 + 2 * h * (5 + len / 8) → used ≤ start + search_cost n len
searched n len h start used p u = omega (arith, u, search_cost-low n len h p)

pub put_in : (n len h depth start found used : ℕ) → 2 ^ h ≤ n + 1 → depth ≤ 2 * h → found ≤ start + 1 + search_cost n len → used ≤ found + (18 + 5 * depth) → used ≤ start + (3 * search_cost n len + 24)
put_in n len h depth start found used p d f u =
    let enough : 10 * h ≤ 2 * h * (5 + len / 8) = omega arith in
    omega (arith, d, f, u, enough, search_cost-low n len h p)

bits-above : (n : ℕ) → n < 2 ^ bits n
bits-above n = elim (cases_lt n (2 ^ bits n)) [ inl l ↦ l | inr ge ↦ absurd (omega (arith, bits-low n (bits n) ge)) ]

pub digits-law : DigitsLaw
digits-law n some = (bits-above n, bits-high n some)

-- more blocks have no fewer digits
bits-rises : (a b : ℕ) → a ≢ 0 → a ≤ b → bits a ≤ bits b
bits-rises a b some le =
    let high = bits-high a some in
    let low = bits-above b in
    let twice : 2 ^ suc (bits b) ≡ 2 * 2 ^ bits b = pow-suc (bits b) in
    elim (cases_order (bits a) (suc (bits b))) [
      | inl e ↦ absurd (let p : 2 ^ bits a ≡ 2 ^ suc (bits b) = ap (λ (x : ℕ). 2 ^ x) e in omega (arith, p, high, low, twice, le))
      | inr other ↦ elim other [ inl less ↦ omega (arith, less) | inr more ↦ absurd (omega (arith, pow_below (suc (bits b)) (bits a) more, high, low, twice, le)) ]
    ]

-- a search among more blocks costs no less
pub search_cost-rises : (n most len : ℕ) → n ≤ most → search_cost n len ≤ search_cost most len
unfolding search_cost
search_cost-rises n most len le =
    let b = bits-rises (n + 1) (most + 1) (λ e. omega (arith, e)) (omega (arith, le)) in
    let more : 2 * bits (n + 1) + 1 ≤ 2 * bits (most + 1) + 1 = omega (arith, b) in
    mul-le-mul_right (5 + len / 8) more
