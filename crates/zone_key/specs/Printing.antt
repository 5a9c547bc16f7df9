-- Expressions, and the canonical text of one.
use Rattle.std.specs.Prelude.{ℕ, ◌≤◌, Bool, true, false, not, ◌&&◌, ◌==◌, IsTrue, List, [], ◌∷◌, ◌++◌, length, codes}
use Rattle.std.specs.List.{list_all, flat_map}
use Rattle.zone_outside.specs.Numbers.{is_empty}
use Rattle.zone_key.specs.declared.expr.Part.{Part}
use Rattle.zone_key.specs.declared.expr.Part.TheVariants.{Plain, Named, Address, Binary}
use Rattle.zone_key.specs.Expr.{is_name_byte, is_same}

-- a name of a variable, but of the two that have parts of their own
abbrev pub is_other_name : List ℕ → Bool
is_other_name name =
    not (is_empty name) && list_all is_name_byte name
    && not (is_same name (codes "remote_addr")) && not (is_same name (codes "binary_remote_addr"))

-- a part that a text may spell: plain text has a byte, and no `$`
abbrev pub is_part : Part → Bool
is_part (Plain text) = not (is_empty text) && list_all (λ b. not (b == 36)) text
is_part (Named name) = is_other_name name
is_part Address = true
is_part Binary = true

-- plain text
abbrev pub is_plain : Part → Bool
is_plain (Plain text) = true
is_plain (Named name) = false
is_plain Address = false
is_plain Binary = false

-- parts that a text may spell, where plain text stands before them or not: no plain text follows plain text
abbrev pub are_parts : Bool → List Part → Bool
are_parts plain_before [] = true
are_parts plain_before (part ∷ parts) = is_part part && not (plain_before && is_plain part) && are_parts (is_plain part) parts

-- an expression: 1 to 8 parts that a text may spell
pub record IsExpr (parts : List Part) : Type 0 where
  pub spelled : IsTrue (are_parts false parts)
  pub some : 1 ≤ length parts
  pub few : length parts ≤ 8

-- a name behind a `$` and in braces
abbrev pub in_braces : List ℕ → List ℕ
in_braces name = 36 ∷ 123 ∷ name ++ 125 ∷ []

-- a part as a text spells it, each variable in braces
abbrev pub spelling : Part → List ℕ
spelling (Plain text) = text
spelling (Named name) = in_braces name
spelling Address = in_braces (codes "remote_addr")
spelling Binary = in_braces (codes "binary_remote_addr")

-- an expression as a text spells it
abbrev pub printed : List Part → List ℕ
printed parts = flat_map spelling parts
