-- The log of keys: lines `MOMENT KEY`.
use Rattle.std.specs.Prelude.{ℕ, ◌-◌, ◌^◌, List, [], ◌∷◌, Option, Some, None, Result, Err, if◌then◌else◌}
use Rattle.zone_outside.specs.Coded.{decoded}
use Rattle.zone_outside.specs.Numbers.{is_empty}
use Rattle.replay_log.specs.declared.keys.KeyLine.{KeyLine}
use Rattle.replay_log.specs.Lines.{Fault, parts, lines_of}
use Rattle.replay_log.specs.Words.{then_behind, or_kind, number_word, ended}

-- a key has a byte
abbrev pub some_key : Option (List ℕ) → Option (List ℕ)
some_key None = None
some_key (Some key) = if is_empty key then None else Some key

-- the key that a word spells in coded text
abbrev pub key_of : List ℕ → Result (List ℕ) ℕ
key_of word = or_kind 12 (some_key (decoded word))

-- a line of a moment and a key, and the end behind it
abbrev pub with_key : ℕ → List (List ℕ) → List ℕ → Result KeyLine ℕ
with_key moment words key = ended (record { moment = moment; key = key }) words

-- the key, and what is behind it
abbrev pub at_key : ℕ → List (List ℕ) → Result KeyLine ℕ
at_key moment [] = Err 12
at_key moment (word ∷ words) = then_behind (key_of word) (λ key. with_key moment words key)

-- the moment, below 2^42, and what is behind it
abbrev pub key_words : List (List ℕ) → Result KeyLine ℕ
key_words [] = Err 2
key_words (word ∷ words) = then_behind (number_word 2 (2 ^ 42 - 1) word) (λ moment. at_key moment words)

-- what a line says, whatever its number, or the kind of its first faulty word from the left
abbrev pub key_line : ℕ → List ℕ → Result KeyLine ℕ
key_line number line = key_words (parts 32 line)

-- the keys of a log, or its first fault
abbrev pub keys_of : List ℕ → Result (List KeyLine) Fault
keys_of log = lines_of key_line log
