-- The log of requests: `MOMENT CONN open LOCATION ADDRESS NAME=VALUE ..`, `MOMENT CONN fail` and `MOMENT CONN done`.
use Rattle.std.specs.Prelude.{ℕ, ◌-◌, ◌^◌, ◌++◌, List, [], ◌∷◌, codes, Option, Result, Ok, Err, if◌then◌else◌}
use Rattle.std.specs.List.{position}
use Rattle.zone_key.specs.Expr.{is_same}
use Rattle.zone_key.specs.declared.vars.Pair.{Pair}
use Rattle.zone_config.specs.declared.data.Level.{Level}
use Rattle.replay_log.specs.declared.line.Event.{Event}
use Rattle.replay_log.specs.declared.line.Event.TheVariants.{Start, Fail, Done}
use Rattle.replay_log.specs.declared.line.Line.{Line}
use Rattle.replay_log.specs.Lines.{Fault, parts, lines_of}
use Rattle.replay_log.specs.Words.{Locations, then_behind, ended, number_word, level_of, address_of, pair_of, is_given}

-- ---- an open

-- one variable more, which wasn't given before
abbrev pub with_pair : List Pair → Pair → Result (List Pair) ℕ
with_pair pairs pair = if is_given pair.name pairs then Err 9 else Ok (pairs ++ pair ∷ [])

-- the variables that words give, behind those that were given before
abbrev pub pairs_of : List Pair → List (List ℕ) → Result (List Pair) ℕ
pairs_of pairs [] = Ok pairs
pairs_of pairs (word ∷ words) =
    then_behind (then_behind (pair_of word) (λ pair. with_pair pairs pair)) (λ more. pairs_of more words)

-- an open at a level from an address
abbrev pub start_of : Option ℕ → List ℕ → List Pair → Result Event ℕ
start_of level address pairs = Ok (Start level (record { address = address; pairs = pairs }))

-- the address of an open, and the variables behind it
abbrev pub at_address : Option ℕ → List (List ℕ) → Result Event ℕ
at_address level [] = Err 6
at_address level (word ∷ words) =
    then_behind (address_of word) (λ address. then_behind (pairs_of [] words) (λ pairs. start_of level address pairs))

-- the level of an open, and what is behind it
abbrev pub at_level : Locations → List (List ℕ) → Result Event ℕ
at_level locations [] = Err 5
at_level locations (word ∷ words) = then_behind (level_of locations word) (λ level. at_address level words)

-- ---- a line

-- the event, and what is behind it
abbrev pub at_event : Locations → List (List ℕ) → Result Event ℕ
at_event locations [] = Err 4
at_event locations (word ∷ words) =
    if is_same word (codes "open") then at_level locations words
    else if is_same word (codes "fail") then ended Fail words
    else if is_same word (codes "done") then ended Done words
    else Err 4

-- a line of these numbers and an event
abbrev pub with_event : ℕ → ℕ → ℕ → Event → Result Line ℕ
with_event number moment conn event = Ok (record { number = number; moment = moment; conn = conn; event = event })

-- the connection, below 2^32, and what is behind it
abbrev pub at_conn : Locations → ℕ → ℕ → List (List ℕ) → Result Line ℕ
at_conn locations number moment [] = Err 3
at_conn locations number moment (word ∷ words) =
    then_behind (number_word 3 (2 ^ 32 - 1) word) (λ conn. then_behind (at_event locations words) (λ event. with_event number moment conn event))

-- the moment, below 2^42, and what is behind it
abbrev pub at_moment : Locations → ℕ → List (List ℕ) → Result Line ℕ
at_moment locations number [] = Err 2
at_moment locations number (word ∷ words) =
    then_behind (number_word 2 (2 ^ 42 - 1) word) (λ moment. at_conn locations number moment words)

-- what the line of a number says, or the kind of its first faulty word from the left
abbrev pub request_line : Locations → ℕ → List ℕ → Result Line ℕ
request_line locations number line = at_moment locations number (parts 32 line)

-- the number of the first location of a name
abbrev pub locations_in : List Level → Locations
locations_in levels name = position (λ (level : Level). is_same level.name name) levels

-- the requests of a log in a configuration with these locations, or its first fault
abbrev pub requests_of : List Level → List ℕ → Result (List Line) Fault
requests_of levels log = lines_of (request_line (locations_in levels)) log
