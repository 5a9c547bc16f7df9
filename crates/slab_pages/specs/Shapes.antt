-- The shape of a zone that is cut into pages.
use Rattle.slab_model.specs.declared.shape.Shape.{Shape}
use Rattle.slab_pages.specs.declared.geometry.Geometry.{Geometry}

-- its bytes, and the size of its pages
abbrev pub shape_in : Geometry → Shape
shape_in geometry = record { bytes = geometry.bytes; page_shift = geometry.page_shift }
