-- A search among files, and what it says of their names and bytes.
use Rattle.std.proofs.Common.{◌≡◌, ℕ, Bool, true, false, cond, nat_eq, List, [], ◌∷◌, Option, Some, None, Bor, refl}
use Rattle.std.specs.List.{find}
use Rattle.std.specs.Option.{option_copied, option_map}
use Rattle.std.specs.Cmp.Lexicographic.{pointwise}
use Rattle.zone_outside.specs.MemShelves.{file_text, files_of}
use Rattle.zone_outside.specs.declared.mem_shelf.MemFile.{MemFile}

abbrev has_name : List ℕ → MemFile → Bool
has_name name file = pointwise nat_eq file.name.now name

-- the first file of a name holds the text of that name
pub file_text-files : (name : List ℕ) (files : List MemFile) → option_map (λ file. file.text) (find (λ file. pointwise nat_eq file.name.now name) files) ≡ file_text name (files_of files)
file_text-files name [] = refl
file_text-files name (file ∷ files) =
    elim (has_name name file) as (λ b. option_map (λ (f : MemFile). f.text) (cond b (Some file) (find (has_name name) files)) ≡ option_map (λ f. f.text) (cond b (Some (record { name = file.name.now; text = file.text })) (find (λ f. pointwise nat_eq f.name name) (files_of files)))) [
      | true ↦ refl
      | false ↦ file_text-files name files
    ]

-- the text behind a reference is that of the file that it points to
pub text-copied : (found : Option (Bor MemFile)) → option_map (λ file. file.now.text) found ≡ option_map (λ file. file.text) (option_copied found)
text-copied None = refl
text-copied (Some file) = refl
