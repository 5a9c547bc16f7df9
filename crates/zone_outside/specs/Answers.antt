-- What the answers of `read_all` say, each by its case.
use Rattle.std.specs.Prelude.{◌≡◌, ℕ, List, length, ⊤, Option, Result, IfErr, MatchResult}
use Rattle.std.specs.Io.KnownBytes.{Consumes}
use Rattle.zone_outside.specs.declared.transfer.ReadAnswer.{ReadAnswer}
use Rattle.zone_outside.specs.declared.transfer.ReadAnswer.TheVariants.{Fault, TooLong, NoMemory}

-- P, where a read failed
abbrev pub IfFault : ReadAnswer → Type 0 → Type 0
IfFault Fault P = P
IfFault TooLong P = ⊤
IfFault NoMemory P = ⊤

-- P, where the text is longer than the limit
abbrev pub IfTooLong : ReadAnswer → Type 0 → Type 0
IfTooLong Fault P = ⊤
IfTooLong TooLong P = P
IfTooLong NoMemory P = ⊤

-- P, where no read failed
abbrev pub IfNoFault : ReadAnswer → Type 0 → Type 0
IfNoFault Fault P = ⊤
IfNoFault TooLong P = P
IfNoFault NoMemory P = P

-- P, where the result is that a read failed
abbrev pub OnFault : {T : Type 0} → Result T ReadAnswer → Type 0 → Type 0
OnFault result P = IfErr result (λ answer. IfFault answer P)

-- P, where the result is that the text is longer than the limit
abbrev pub OnTooLong : {T : Type 0} → Result T ReadAnswer → Type 0 → Type 0
OnTooLong result P = IfErr result (λ answer. IfTooLong answer P)

-- P, where the result is any but that a read failed
abbrev pub UnlessFault : {T : Type 0} → Result T ReadAnswer → Type 0 → Type 0
UnlessFault result P = MatchResult result (λ _. P) (λ answer. IfNoFault answer P)

-- known bytes lost n bytes at their front
abbrev pub Loses : Option (List ℕ) → Option (List ℕ) → ℕ → Type 0
Loses old new n = (bs : List ℕ) × Consumes old new bs × (length bs ≡ n)
