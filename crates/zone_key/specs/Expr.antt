-- Key expressions: plain text and variables, as nginx's complex values are spelled.
use Rattle.std.specs.Prelude.{ℕ, Bool, ◌&&◌, ◌||◌, ◌==◌, nat_le, nat_eq, List, [], ◌∷◌, ◌++◌, length, codes, if◌then◌else◌, Option, None, Some, option_and_then}
use Rattle.std.specs.Option.{option_map}
use Rattle.std.specs.Char.{is_ascii_alphanumeric}
use Rattle.std.specs.Cmp.Lexicographic.{pointwise}
use Rattle.zone_key.specs.declared.expr.Part.{Part}
use Rattle.zone_key.specs.declared.expr.Part.TheVariants.{Plain, Named, Address, Binary}

-- a byte of a variable's name: a letter, a digit or `_`
abbrev pub is_name_byte : ℕ → Bool
is_name_byte b = is_ascii_alphanumeric b || b == 95

-- whether two texts are the same
abbrev pub is_same : List ℕ → List ℕ → Bool
is_same = pointwise nat_eq

-- the variable of a name
abbrev pub variable : List ℕ → Part
variable name =
    if is_same name (codes "remote_addr") then Address
    else if is_same name (codes "binary_remote_addr") then Binary
    else Named name

-- these parts before others, if there are others
abbrev pub after : List Part → Option (List Part) → Option (List Part)
after front parts = option_map (λ behind. front ++ behind) parts

-- a run of bytes, and the parts behind it
pub record Run : Type 0 where
  pub bytes : List ℕ
  pub behind : Option (List Part)

-- the run ends here
abbrev pub ends : Option (List Part) → Run
ends behind = record { bytes = []; behind = behind }

-- a byte in front of the rest of a run
abbrev pub kept : ℕ → Run → Run
kept b run = record { bytes = b ∷ run.bytes; behind = run.behind }

-- a run of plain text, and what is behind it
abbrev pub plain_part : Run → Option (List Part)
plain_part run = after (Plain run.bytes ∷ []) run.behind

-- the variable of a name, which has a byte, and what is behind the variable
abbrev pub variable_before : List ℕ → Option (List Part) → Option (List Part)
variable_before [] behind = None
variable_before (b ∷ bs) behind = after (variable (b ∷ bs) ∷ []) behind

-- a run that is a variable's name, and what is behind the variable
abbrev pub variable_part : Run → Option (List Part)
variable_part run = variable_before run.bytes run.behind

abbrev mutual
  -- where a part may begin
  pub parts_of : List ℕ → Option (List Part)
  parts_of [] = Some []
  parts_of (b ∷ bs) = if b == 36 then dollar bs else plain_part (kept b (plain bs))

  -- in plain text, which goes on up to a `$`
  pub plain : List ℕ → Run
  plain [] = ends (Some [])
  plain (b ∷ bs) = if b == 36 then ends (dollar bs) else kept b (plain bs)

  -- behind a `$`: a name, or a name in braces
  pub dollar : List ℕ → Option (List Part)
  dollar [] = None
  dollar (b ∷ bs) =
      if b == 123 then variable_part (braced bs)
      else if is_name_byte b then variable_part (kept b (named bs))
      else None

  -- in a name, which goes on as long as it may
  pub named : List ℕ → Run
  named [] = ends (Some [])
  named (b ∷ bs) =
      if is_name_byte b then kept b (named bs)
      else if b == 36 then ends (dollar bs)
      else ends (plain_part (kept b (plain bs)))

  -- in a name that a `}` ends
  pub braced : List ℕ → Run
  braced [] = ends None
  braced (b ∷ bs) =
      if b == 125 then ends (parts_of bs)
      else if is_name_byte b then kept b (braced bs)
      else ends None

-- at least one part, and at most so many as an expression has
abbrev pub is_count : ℕ → Bool
is_count n = nat_le 1 n && nat_le n 8

-- these parts, if they are not none and not too many
abbrev pub few_parts : List Part → Option (List Part)
few_parts parts = if is_count (length parts) then Some parts else None

-- The expression that a text spells. It spells none where a `$` has no name behind it, where it is empty,
-- and where it has more than 8 parts.
abbrev pub expr_of : List ℕ → Option (List Part)
expr_of text = option_and_then few_parts (parts_of text)
