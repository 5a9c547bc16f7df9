-- The lines of the made log, one after another, and their ranges.
use Rattle.std.proofs.Common.{ℕ, zero, suc, ◌≡◌, ◌+◌, ◌-◌, ◌*◌, ◌%◌, ◌<◌, ◌≤◌, ◌^◌, Bool, true, false, nat_eq, nat_lt, List, [], ◌∷◌, ◌++◌, length, sym, ap, refl, ◌∙◌, arith, append_assoc, append-nil}
use Rattle.std.specs.Prelude.{if◌then◌else◌, Some}
use Rattle.std.specs.List.{All}
use Rattle.std.proofs.lemmas.List.Elements.{All-nil, All-cons}
use Rattle.rand_pcg.specs.Lcg.{Lcg}
use Rattle.replay_log.specs.declared.line.Event.{Event}
use Rattle.replay_log.specs.declared.line.Event.TheVariants.{Start, Fail, Done}
use Rattle.replay_log.specs.declared.line.Line.{Line}
use Rattle.replay_log.specs.Limits.{IsEventOf, IsLineOf}
use Rattle.made_log.specs.Draws.{generator_of, first_draw, second_draw, third_draw, fourth_draw, after_line}
use Rattle.made_log.specs.MadeLog.{address_of, event_of, made_line, lines_from, made_lines}

-- ---- one after another

-- before the first line
pub lines-first : (seed count moment : ℕ) (lines : List Line) (g : Lcg) → lines ≡ [] → moment ≡ 1000000 → g ≡ generator_of seed → lines ++ lines_from (count - 0) 1 moment g ≡ made_lines seed count
lines-first seed count moment lines g none at is =
    let all : count - 0 ≡ count = omega arith in
    ap (λ (ls : List Line). ls ++ lines_from (count - 0) 1 moment g) none
    ∙ ap (λ (m : ℕ). lines_from (count - 0) 1 m g) at
    ∙ ap (λ (x : Lcg). lines_from (count - 0) 1 1000000 x) is
    ∙ ap (λ (n : ℕ). lines_from n 1 1000000 (generator_of seed)) all

-- one line more
lines-more : (lines whole : List Line) (left n before : ℕ) (g after : Lcg) (line : Line) → lines ++ lines_from (suc left) n before g ≡ whole → line ≡ made_line n before g → after ≡ after_line g
    → (lines ++ line ∷ []) ++ lines_from left (n + 1) line.moment after ≡ whole
lines-more lines whole left n before g after line had is ends =
    append_assoc lines (line ∷ []) (lines_from left (n + 1) line.moment after)
    ∙ ap (λ (x : Line). lines ++ x ∷ lines_from left (n + 1) x.moment after) is
    ∙ ap (λ (x : Lcg). lines ++ made_line n before g ∷ lines_from left (n + 1) (before + first_draw g % 50) x) ends
    ∙ had

pub lines-next : (lines new whole : List Line) (count number before : ℕ) (g after : Lcg) (line : Line) → number < count → lines ++ lines_from (count - number) (number + 1) before g ≡ whole → line ≡ made_line (number + 1) before g
    → after ≡ after_line g → new ≡ lines ++ line ∷ [] → new ++ lines_from (count - (number + 1)) (number + 1 + 1) line.moment after ≡ whole
lines-next lines new whole count number before g after line low had is ends pushed =
    let one_left : suc (count - (number + 1)) ≡ count - number = omega (arith, low) in
    ap (λ (ls : List Line). ls ++ lines_from (count - (number + 1)) (number + 1 + 1) line.moment after) pushed
    ∙ lines-more lines whole (count - (number + 1)) (number + 1) before g after line (ap (λ (n : ℕ). lines ++ lines_from n (number + 1) before g) one_left ∙ had) is ends

-- behind the last line
pub lines-all : (lines whole : List Line) (count number n before : ℕ) (g : Lcg) → count ≤ number → lines ++ lines_from (count - number) n before g ≡ whole → lines ≡ whole
lines-all lines whole count number n before g end had =
    let none : count - number ≡ 0 = omega (arith, end) in
    sym (append-nil lines) ∙ ap (λ (k : ℕ). lines ++ lines_from k n before g) (sym none) ∙ had

-- a line is at most 50 ms behind the moment before it
pub moment-next : (line : Line) (n before number : ℕ) (g : Lcg) → line ≡ made_line n before g → before ≤ 1000000 + 50 * number → line.moment ≤ 1000000 + 50 * (number + 1)
moment-next line n before number g is low =
    let at : line.moment ≡ before + first_draw g % 50 = ap (λ (x : Line). x.moment) is in
    omega (arith, at, low)

-- ---- their ranges

event-if : (fails : Bool) → IsEventOf 1 (if fails then Fail else Done)
event-if true = tt
event-if false = tt

event-is : (opens fails : Bool) (draw : ℕ) → IsEventOf 1 (if opens then Start (Some 0) (record { address = address_of draw; pairs = [] }) else if fails then Fail else Done)
event-is true fails draw = (omega arith, refl)
event-is false fails draw = event-if fails

line-in-limits : (number before : ℕ) (g : Lcg) → 1 ≤ number → number ≤ 131072 → before + 50 < 2 ^ 42 → IsLineOf 1 (made_line number before g)
line-in-limits number before g first last low = record {
  first = first;
  last = last;
  moment = omega (arith, low);
  conn = omega arith;
  event = event-is (nat_lt (third_draw g % 8) 5) (nat_eq (third_draw g % 8) 5) (fourth_draw g);
}

lines-in-limits : (count number before : ℕ) (g : Lcg) → 1 ≤ number → number + count ≤ 131073 → before + 50 * count < 2 ^ 42 → All (IsLineOf 1) (lines_from count number before g)
lines-in-limits zero number before g first last low = All-nil (IsLineOf 1)
lines-in-limits (suc count) number before g first last low =
    All-cons (IsLineOf 1) (made_line number before g) (lines_from count (number + 1) (before + first_draw g % 50) (after_line g))
    (line-in-limits number before g first (omega (arith, last)) (omega (arith, low)))
    (lines-in-limits count (number + 1) (before + first_draw g % 50) (after_line g) (omega arith) (omega (arith, last)) (omega (arith, low)))

-- each line of a made log is in its ranges
pub made-in-limits : (seed count : ℕ) → count ≤ 131072 → All (IsLineOf 1) (made_lines seed count)
made-in-limits seed count few = lines-in-limits count 1 1000000 (generator_of seed) (omega arith) (omega (arith, few)) (omega (arith, few))
