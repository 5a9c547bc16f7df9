-- What is printed of a zone after its history: how full it is, and its words.
use Rattle.std.specs.Prelude.{ℕ, ◌≢◌, ◌+◌, ◌^◌, ◌<◌, nat_eq, if◌then◌else◌, List, [], ◌∷◌, ◌++◌, length, codes, decimal}
use Rattle.std.specs.List.{All}
use Rattle.slab_model.specs.declared.stat.Stat.{Stat}
use Rattle.slab_model.specs.Geometry.{class_size}
use Rattle.decision_text.specs.Coding.{coded}
use Rattle.decision_text.specs.Hexadecimal.{hex_word}
use Rattle.decision_text.specs.HistoryText.{with_number}

-- ---- the tail

-- `slot SIZE total T used U reqs Q fails F`
abbrev pub slot_line : ℕ → Stat → List ℕ
slot_line class stat =
    with_number (codes "slot ") (class_size class) ++ with_number (codes " total ") stat.total ++ with_number (codes " used ") stat.used
    ++ with_number (codes " reqs ") stat.reqs ++ with_number (codes " fails ") stat.fails ++ codes "\n"

-- the line of a class that was asked for a block, and nothing of one that never was
abbrev pub slot_text : ℕ → Stat → List ℕ
slot_text class stat = if nat_eq stat.reqs 0 then [] else slot_line class stat

-- those of the classes from this one on
abbrev pub slots_text : ℕ → List Stat → List ℕ
slots_text class [] = []
slots_text class (stat ∷ stats) = slot_text class stat ++ slots_text (class + 1) stats

-- `pages P free F entries E`, and the classes that were asked for a block
abbrev pub tail_text : ℕ → ℕ → ℕ → List Stat → List ℕ
tail_text pages free entries stats =
    with_number (codes "pages ") pages ++ with_number (codes " free ") free ++ with_number (codes " entries ") entries ++ codes "\n" ++ slots_text 0 stats

-- ---- the words

-- words of 64 bits
abbrev pub AreWords : List ℕ → Type 0
AreWords words = All (λ (word : ℕ). word < 2 ^ 64) words

-- `w INDEX VALUE` for a word that isn't 0, and nothing for one that is
abbrev pub word_text : ℕ → ℕ → List ℕ
word_text index value = if nat_eq value 0 then [] else with_number (codes "w ") index ++ codes " " ++ hex_word value ++ codes "\n"

-- those of the words from this one on
abbrev pub words_text : ℕ → List ℕ → List ℕ
words_text index [] = []
words_text index (value ∷ values) = word_text index value ++ words_text (index + 1) values

-- `zone NAME words N`, and each word that isn't 0
abbrev pub image_text : List ℕ → List ℕ → List ℕ
image_text name words = codes "zone " ++ coded name ++ with_number (codes " words ") (length words) ++ codes "\n" ++ words_text 0 words

-- no word's line can stand here: the text doesn't begin with `w`
abbrev pub BeginsNoWord : List ℕ → Type 0
BeginsNoWord [] = Unit {0}
BeginsNoWord (c ∷ rest) = c ≢ 119
