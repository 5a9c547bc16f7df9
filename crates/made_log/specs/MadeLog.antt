-- The made log: each line is drawn, one after another, from the generator of a seed.
use Rattle.std.specs.Prelude.{ℕ, zero, suc, ◌+◌, ◌/◌, ◌%◌, nat_eq, nat_lt, if◌then◌else◌, List, [], ◌∷◌, Some}
use Rattle.rand_pcg.specs.Lcg.{Lcg}
use Rattle.replay_log.specs.declared.line.Event.{Event}
use Rattle.replay_log.specs.declared.line.Event.TheVariants.{Start, Fail, Done}
use Rattle.replay_log.specs.declared.line.Line.{Line}
use Rattle.made_log.specs.Draws.{generator_of, first_draw, second_draw, third_draw, fourth_draw, after_line}

-- the address `10.0.X.Y` of a draw
abbrev pub address_of : ℕ → List ℕ
address_of draw = 10 ∷ 0 ∷ (draw / 256 % 4) ∷ (draw % 256) ∷ []

-- Of eight kinds, 0 to 4 open a request at the first location, 5 is a failure, and 6 and 7 are ends.
abbrev pub event_of : ℕ → ℕ → Event
event_of kind draw =
    if nat_lt kind 5 then Start (Some 0) (record { address = address_of draw; pairs = [] })
    else if nat_eq kind 5 then Fail
    else Done

-- a line of this number: it is 0 to 49 ms after the moment before it, on one of 64 connections
abbrev pub made_line : ℕ → ℕ → Lcg → Line
made_line number before generator = record {
  number = number;
  moment = before + first_draw generator % 50;
  conn = second_draw generator % 64;
  event = event_of (third_draw generator % 8) (fourth_draw generator);
}

-- so many lines, of which the first has this number
abbrev pub lines_from : ℕ → ℕ → ℕ → Lcg → List Line
lines_from zero number before generator = []
lines_from (suc count) number before generator =
    made_line number before generator ∷ lines_from count (number + 1) (before + first_draw generator % 50) (after_line generator)

-- the moment before the first line, in ms
abbrev pub first_moment : ℕ
first_moment = 1000000

-- The log of so many lines of a seed.
abbrev pub made_lines : ℕ → ℕ → List Line
made_lines seed count = lines_from count 1 first_moment (generator_of seed)
