-- When an upstream's zone can't be opened.
use Rattle.std.specs.Prelude.{◌≡◌, ◌<◌, ◌≤◌, Some}
use Rattle.slab_model.specs.Geometry.{shape_of, least_zone}
use Rattle.peer_zone.specs.declared.calls.PeerSpec.{PeerSpec}
use Rattle.peer_zone.specs.declared.errors.OpenFault.{OpenFault}
use Rattle.peer_zone.specs.declared.errors.OpenFault.TheVariants.{TooSmall, Small, NoMemory}
use Rattle.peer_zone.specs.Opening.{refused_server}

-- the zone has eight pages
abbrev pub HasPages : PeerSpec → Type 0
HasPages spec = least_zone (shape_of spec.bytes) ≤ spec.bytes

-- what each fault says of what was to be opened: it has fewer than eight pages; or it has as many, and the record of this server is the first that is given no block; or there was no memory for it
abbrev pub IsFaultOf : PeerSpec → OpenFault → Type 0
IsFaultOf spec TooSmall = spec.bytes < least_zone (shape_of spec.bytes)
IsFaultOf spec (Small server) = HasPages spec × (refused_server spec ≡ Some server)
IsFaultOf spec NoMemory = HasPages spec
