-- Where the blocks of a page of a class begin.
use Rattle.std.proofs.Common.{ℕ, ◌≡◌, ◌+◌, ◌*◌, ◌<◌, ◌^◌, ap, arith}
use Rattle.slab_model.specs.Geometry.{class_size, blocks_in_page, page_offset}
use Rattle.slab_model.proofs.ClassLemmas.{zone, cuts}
use Rattle.slab_model.proofs.BlockLemmas.{block_end}
use Rattle.slab_pages.specs.Places.{Image}
use Rattle.slab_pool.specs.PoolSteps.{IsTaken}

pub block-fits : (image : Image) (page class index o s : ℕ) → IsTaken image page → class < 9 → index < blocks_in_page image.shape class → o ≡ page_offset image.shape page → s ≡ class_size class → (s * index < 2 ^ 64) × (o + s * index < 2 ^ 64)
block-fits image page class index o s t known low o_is s_is =
    let c = cuts image.shape class known in
    let z = zone image.shape t.limits in
    let end = block_end (class_size class) index (blocks_in_page image.shape class) c.whole low in
    let same = ap (λ n. n * index) s_is in
    (omega (arith, end, same), omega (arith, end, same, o_is, t.below, z.last, t.limits.small))
