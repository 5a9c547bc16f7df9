use Rattle.std.proofs.Common.{◌≡◌, take}
use Rattle.slab_pages.specs.Opening.{put_all}
use Rattle.slab_pages.proofs.opening.put_words.Given as goal

abbrev pub invariant-loop-w : goal.invariant-loop-w
invariant-loop-w l = l.region ≡ put_all (take l.w-index l.entries) l.fn.region
