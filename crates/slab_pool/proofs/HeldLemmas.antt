-- For callers: live blocks of a pool are what a structure can hold.
use Rattle.std.proofs.Common.{ℕ, ◌<◌, List, length, inl, inr, arith}
use Rattle.zone_region.specs.Members.{In, IsDistinct}
use Rattle.zone_region.specs.Holding.{HoldsBlocks}
use Rattle.slab_model.specs.State.{Slab}
use Rattle.slab_model.proofs.ClassLemmas.{zone}
use Rattle.slab_model.proofs.BlockLaws.{blocks-law}
use Rattle.slab_pages.specs.Places.{Image}
use Rattle.slab_pool.specs.Pool.{LaysPool}
use Rattle.slab_pool.specs.Live.{block_words}
use Rattle.slab_pool.proofs.BlockWords.{length-block, live-block}

-- distinct offsets at each of which a block is live: the blocks share no byte, and lie above offset 0 and below 2^63
pub holds-blocks : (image : Image) (slab : Slab) (xs : List ℕ) → LaysPool image slab → IsDistinct xs → ((x : ℕ) → In x xs → 0 < length (block_words image x)) → HoldsBlocks (block_words image) xs
holds-blocks image slab xs p distinct live =
    let law = blocks-law slab p.sound in
    let z = zone slab.shape p.sound.limits in
    let lies = λ (x : ℕ) (i : In x xs). law.1 x (live-block image slab x p (live x i)) in
    record {
      live = live;
      distinct = distinct;
      apart = λ x y i j ne. elim (law.0 x y (live-block image slab x p (live x i)) (live-block image slab y p (live y j)) ne) [
        | inl a ↦ inl (omega (arith, a, length-block image slab x p))
        | inr b ↦ inr (omega (arith, b, length-block image slab y p))
      ];
      above = λ x i. omega (arith, (lies x i).low, z.some);
      below = λ x i. omega (arith, (lies x i).inside, p.sound.limits.small, length-block image slab x p);
    }
