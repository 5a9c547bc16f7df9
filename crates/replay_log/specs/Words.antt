-- The words of a line: a location, an address, a variable with its value. A word that is none has the kind of its fault.
use Rattle.std.specs.Prelude.{ℕ, ◌+◌, Bool, ◌==◌, List, [], ◌∷◌, map, take, drop, codes, Option, Some, None, Result, Ok, Err, if◌then◌else◌}
use Rattle.std.specs.Option.{option_and_then}
use Rattle.std.specs.List.{list_any, position}
use Rattle.zone_outside.specs.Numbers.{is_empty, number_of}
use Rattle.zone_outside.specs.Coded.{decoded}
use Rattle.zone_key.specs.Expr.{is_same}
use Rattle.zone_key.specs.Printing.{is_other_name}
use Rattle.zone_key.specs.declared.vars.Pair.{Pair}
use Rattle.replay_log.specs.Lines.{parts}

-- what a word says, and then what is behind it; a fault of the word stands first
abbrev pub then_behind : {A B : Type 0} → Result A ℕ → (A → Result B ℕ) → Result B ℕ
then_behind (Ok said) behind = behind said
then_behind (Err kind) behind = Err kind

-- what a line says that is at its end after these words; or it has one too many
abbrev pub ended : {A : Type 0} → A → List (List ℕ) → Result A ℕ
ended said [] = Ok said
ended said (word ∷ words) = Err 10

-- what is there, or a fault of this kind
abbrev pub or_kind : {A : Type 0} → ℕ → Option A → Result A ℕ
or_kind kind None = Err kind
or_kind kind (Some found) = Ok found

-- a decimal number up to `most`
abbrev pub number_word : ℕ → ℕ → List ℕ → Result ℕ ℕ
number_word kind most word = or_kind kind (number_of most word)

-- the number of the location of a name, if there is one
abbrev pub Locations : Type 0
Locations = List ℕ → Option ℕ

-- the location that a word names in coded text; a word of no byte names none
abbrev pub location_of : Locations → List ℕ → Option ℕ
location_of locations word = if is_empty word then None else option_and_then locations (decoded word)

-- one of the locations
abbrev pub at_location : Option ℕ → Result (Option ℕ) ℕ
at_location None = Err 5
at_location (Some number) = Ok (Some number)

-- where a word places a request: in the server, or in the location of this number
abbrev pub level_of : Locations → List ℕ → Result (Option ℕ) ℕ
level_of locations word = if is_same word (codes "-") then Ok None else at_location (location_of locations word)

-- the kind of a word that is no address: 7 with a colon, as in IPv6, and 6 else
abbrev pub address_kind : List ℕ → ℕ
address_kind word = if list_any (λ c. c == 58) word then 7 else 6

-- four numbers, all there
abbrev pub four_of : List (Option ℕ) → Option (List ℕ)
four_of (Some a ∷ Some b ∷ Some c ∷ Some d ∷ []) = Some (a ∷ b ∷ c ∷ d ∷ [])
four_of _ = None

-- an address: four numbers up to 255, joined by dots
abbrev pub octets_of : List ℕ → Option (List ℕ)
octets_of word = four_of (map (number_of 255) (parts 46 word))

-- the four octets of an address, or the kind of its fault
abbrev pub address_of : List ℕ → Result (List ℕ) ℕ
address_of word = or_kind (address_kind word) (octets_of word)

-- a variable of this name, which isn't one of the address, and its value
abbrev pub named_pair : List ℕ → Option (List ℕ) → Result Pair ℕ
named_pair name None = Err 8
named_pair name (Some value) = if is_other_name name then Ok (record { name = name; value = value }) else Err 8

-- a variable whose name ends where a word has its `=`, and its coded value
abbrev pub pair_at : List ℕ → Option ℕ → Result Pair ℕ
pair_at word None = Err 8
pair_at word (Some at) = named_pair (take at word) (decoded (drop (at + 1) word))

-- a word NAME=VALUE, cut at its first `=`
abbrev pub pair_of : List ℕ → Result Pair ℕ
pair_of word = pair_at word (position (λ c. c == 61) word)

-- whether one of these variables has this name
abbrev pub is_given : List ℕ → List Pair → Bool
is_given name pairs = list_any (λ (pair : Pair). is_same pair.name name) pairs
