-- What the calls that read a log answer. Want of memory says nothing.
use Rattle.std.specs.Prelude.{ℕ, ◌≡◌, ◌<◌, ◌+◌, List, [], ◌∷◌, length, Option, None, Some, Result, Ok, Err}
use denote.Ref.{Bor}
use Rattle.std.specs.declared.vec.Vec.{Vec}
use Rattle.std.specs.declared.alloc.Global.{Global}
use Rattle.replay_log.specs.declared.fault.LineFault.{LineFault}
use Rattle.replay_log.specs.declared.fault.LineFault.TheVariants as in_line
use Rattle.replay_log.specs.declared.fault.LogFault.{LogFault}
use Rattle.replay_log.specs.declared.fault.LogFault.TheVariants as in_log
use Rattle.zone_outside.specs.Numbers.{number_of}
use Rattle.replay_log.specs.Lines.{Fault, parts}

-- what words say, or the kind of the first fault in them
abbrev pub Tells : {L : Type 0} → Result L ℕ → Result L LineFault → Type 0
Tells said (Ok value) = said ≡ Ok value
Tells said (Err (in_line.Kind kind)) = said ≡ Err kind
Tells said (Err in_line.NoMemory) = Unit {0}

-- what a log says, or its first fault
abbrev pub GivesLines : {L : Type 0} → Result (List L) Fault → Result (Vec L Global) LogFault → Type 0
GivesLines said (Ok lines) = said ≡ Ok lines.items
GivesLines said (Err (in_log.At line kind)) = said ≡ Err (record { line = line; kind = kind })
GivesLines said (Err in_log.NoMemory) = Unit {0}

-- the words of the rest of a line, or none where it is at its end
abbrev pub words_left : Option (Bor (List ℕ)) → List (List ℕ)
words_left None = []
words_left (Some rest) = parts 32 rest.now

-- how much is left of a line
abbrev pub left_size : Option (Bor (List ℕ)) → ℕ
left_size None = 0
left_size (Some rest) = length rest.now + 1

-- the first word that is left and those behind it, of which less is left, or that none is left
abbrev pub CutsWord : Option (Bor (List ℕ) × Option (Bor (List ℕ))) → Option (Bor (List ℕ)) → Type 0
CutsWord None words = words_left words ≡ []
CutsWord (Some next) words = (words_left words ≡ next.0.now ∷ words_left next.1) × (left_size next.1 < left_size words)

-- the parts behind the first one of a text, or none where it has no other
abbrev pub parts_left : ℕ → Option (Bor (List ℕ)) → List (List ℕ)
parts_left separator None = []
parts_left separator (Some rest) = parts separator rest.now

-- the number up to `most` that the first part is, if it is one
abbrev pub first_number : ℕ → List (List ℕ) → Option ℕ
first_number most [] = None
first_number most (word ∷ words) = number_of most word

-- a text starts with this number up to `most`, and these parts stand behind it
abbrev pub StartsNumber : ℕ → ℕ → List ℕ → ℕ × Option (Bor (List ℕ)) → Type 0
StartsNumber separator most text found =
    (word : List ℕ) × ((parts separator text ≡ word ∷ parts_left separator found.1) × (number_of most word ≡ Some found.0))

-- the number that a text starts with and what stands behind it, or that it starts with none
abbrev pub CutsNumber : ℕ → ℕ → List ℕ → Option (ℕ × Option (Bor (List ℕ))) → Type 0
CutsNumber separator most text None = first_number most (parts separator text) ≡ None
CutsNumber separator most text (Some found) = StartsNumber separator most text found

-- the number that the first word left is and the words behind it, or that it is none
abbrev pub NextNumber : ℕ → Option (Bor (List ℕ)) → Option (ℕ × Option (Bor (List ℕ))) → Type 0
NextNumber most words None = first_number most (words_left words) ≡ None
NextNumber most words (Some found) =
    (word : List ℕ) × ((words_left words ≡ word ∷ words_left found.1) × (number_of most word ≡ Some found.0))
