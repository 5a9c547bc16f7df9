-- What a pool's words mean.
use Rattle.std.specs.Prelude.{◌≡◌}
use Rattle.slab_model.specs.State.{Slab}
use Rattle.slab_model.specs.Soundness.{IsSound}
use Rattle.slab_pages.specs.Places.{Image}
use Rattle.slab_pages.specs.SlabLayout.{LaysSlab}

-- the words of the zone lay out this slab, which is sound
pub record LaysPool (image : Image) (slab : Slab) : Type 0 where
  pub shape_is : slab.shape ≡ image.shape
  pub sound : IsSound slab
  pub laid : LaysSlab image.words slab
