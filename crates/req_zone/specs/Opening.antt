-- When a zone can't be opened.
use Rattle.std.specs.Prelude.{ℕ, ◌<◌, ◌≤◌}
use Rattle.slab_model.specs.Geometry.{shape_of, least_zone}
use Rattle.req_zone.specs.declared.errors.OpenFault.{OpenFault}
use Rattle.req_zone.specs.declared.errors.OpenFault.TheVariants.{TooSmall, NoMemory}

-- what each fault says of a zone of so many bytes: it has fewer than eight pages, or it has as many and there was no memory for it
abbrev pub IsFaultOf : ℕ → OpenFault → Type 0
IsFaultOf bytes TooSmall = bytes < least_zone (shape_of bytes)
IsFaultOf bytes NoMemory = least_zone (shape_of bytes) ≤ bytes
