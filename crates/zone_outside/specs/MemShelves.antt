-- Shelves in memory: texts by their names.
use Rattle.std.specs.Prelude.{ℕ, nat_eq, List, Option, find, map}
use Rattle.std.specs.Option.{option_map}
use Rattle.std.specs.Cmp.Lexicographic.{pointwise}
use Rattle.zone_outside.specs.MemSources.{SourceState, SourceText, source_of}
use Rattle.zone_outside.specs.declared.mem_shelf.MemFile.{MemFile}

-- a name, and the text that it names
pub record ShelfFile : Type 0 where
  pub name : List ℕ
  pub text : SourceText

-- a shelf in memory: its files, the numbers of the opens that fail, and its counts of opens and faults
pub record ShelfState : Type 0 where
  pub files : List ShelfFile
  pub failing : List ℕ
  pub opens : ℕ
  pub faults : ℕ

-- the text of the first file of this name
abbrev pub file_text : List ℕ → List ShelfFile → Option SourceText
file_text name files = option_map (λ file. file.text) (find (λ file. pointwise nat_eq file.name name) files)

-- the bytes of the first file of this name
abbrev pub text_named : List ℕ → List ShelfFile → Option (List ℕ)
text_named name files = option_map (λ text. text.bytes) (file_text name files)

-- the first file of this name, opened
abbrev pub source_named : List ℕ → List ShelfFile → Option SourceState
source_named name files = option_map (λ text. source_of name text) (file_text name files)

-- the name and the text of each file
abbrev pub files_of : List MemFile → List ShelfFile
files_of files = map (λ file. record { name = file.name.now; text = file.text }) files
