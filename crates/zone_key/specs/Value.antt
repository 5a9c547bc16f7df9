-- The value of a key expression for one request.
use Rattle.std.specs.Prelude.{ℕ, List, [], find, map, unwrap_or, decimal}
use Rattle.std.specs.Option.{option_map}
use Rattle.std.specs.List.{flat_map, join_with_byte}
use Rattle.zone_key.specs.declared.expr.Part.{Part}
use Rattle.zone_key.specs.declared.expr.Part.TheVariants.{Plain, Named, Address, Binary}
use Rattle.zone_key.specs.declared.vars.Pair.{Pair}
use Rattle.zone_key.specs.declared.vars.Vars.{Vars}
use Rattle.zone_key.specs.Expr.{is_same}

-- the value of the first pair of this name, or nothing
abbrev pub named_value : List ℕ → List Pair → List ℕ
named_value name pairs = unwrap_or (option_map (λ (pair : Pair). pair.value) (find (λ (pair : Pair). is_same pair.name name) pairs)) []

-- an address in dotted decimal
abbrev pub dotted : List ℕ → List ℕ
dotted address = join_with_byte 46 (map decimal address)

-- the value of one part
abbrev pub part_value : Vars → Part → List ℕ
part_value vars (Plain text) = text
part_value vars (Named name) = named_value name vars.pairs
part_value vars Address = dotted vars.address
part_value vars Binary = vars.address

-- the values of the parts, one after another
abbrev pub value_of : List Part → Vars → List ℕ
value_of parts vars = flat_map (part_value vars) parts
