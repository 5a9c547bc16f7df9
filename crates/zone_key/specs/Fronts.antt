-- What the reader of key expressions finds at the front of a text.
use Rattle.std.specs.Prelude.{ℕ, ◌≡◌, Bool, not, ◌==◌, List, [], ◌∷◌, Option, None, Some}
use denote.Ref.{Bor}
use Rattle.zone_key.specs.declared.expr.Part.{Part}
use Rattle.zone_key.specs.declared.expr.Part.TheVariants.{Plain}
use Rattle.zone_key.specs.declared.expr.Front.{Front}
use Rattle.zone_key.specs.declared.expr.Front.TheVariants as front
use Rattle.zone_key.specs.Expr.{after, parts_of, variable}

-- a byte of plain text
abbrev pub is_plain_byte : ℕ → Bool
is_plain_byte b = not (b == 36)

-- the part that stands there
abbrev pub front_part : Front → Part
front_part (front.Plain bytes) = Plain bytes.now
front_part (front.Variable name) = variable name.now

-- a variable's name and the text behind the variable make these parts, or nothing does
abbrev pub CutsVariable : Option (Bor (List ℕ) × Bor (List ℕ)) → Option (List Part) → Type 0
CutsVariable None parts = parts ≡ None
CutsVariable (Some cut) parts = parts ≡ after (variable cut.0.now ∷ []) (parts_of cut.1.now)

-- the front and the text behind it make these parts, or nothing does
abbrev pub CutsFront : Option (Front × Bor (List ℕ)) → Option (List Part) → Type 0
CutsFront None parts = parts ≡ None
CutsFront (Some cut) parts = parts ≡ after (front_part cut.0 ∷ []) (parts_of cut.1.now)
