-- What a refused read of one more piece says of the whole text.
use Rattle.std.proofs.Common.{◌≡◌, ℕ, ◌+◌, ◌++◌, List, length, Option, ◌∙◌, length-append}
use Rattle.std.proofs.KnownBytes.{Consumes-trans}
use Rattle.std.specs.Io.KnownBytes.{Consumes}
use Rattle.zone_outside.specs.Answers.{IfTooLong, Loses}
use Rattle.zone_outside.specs.declared.transfer.ReadAnswer.{ReadAnswer}
use Rattle.zone_outside.specs.declared.transfer.ReadAnswer.TheVariants.{Fault, TooLong, NoMemory}

-- what was taken before and what the last read took, together
pub Loses-after : (answer : ReadAnswer) (a b c : Option (List ℕ)) (text : List ℕ) (n : ℕ) → Consumes a b text
    → IfTooLong answer ((bs : List ℕ) × Consumes b c bs × (length text + length bs ≡ n))
    → IfTooLong answer (Loses a c n)
Loses-after Fault a b c text n before last = tt
Loses-after NoMemory a b c text n before last = tt
Loses-after TooLong a b c text n before last =
    (text ++ last.0, Consumes-trans a b c text last.0 before last.1, length-append text last.0 ∙ last.2)
