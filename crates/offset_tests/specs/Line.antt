-- Three blocks of the grid, some of them in a queue.
use Rattle.std.specs.Prelude.{ℕ, List, [], ◌∷◌}
use Rattle.zone_region.specs.Words.{Words}
use Rattle.zone_region.specs.Members.{In}
use Rattle.zone_region.specs.Holding.{HoldsBlocks}
use Rattle.offset_queue.specs.declared.queue.Queue.{Queue}
use Rattle.offset_queue.specs.Queue.{HasLinks, IsQueue}

-- the first three blocks of the grid, in a queue in which the last one is at the front
abbrev pub full : List ℕ
full = 8448 ∷ 8320 ∷ 8192 ∷ []

-- The three blocks can be entries of the queue.
pub record FitsLine (m : Words) (q : Queue) : Type 0 where
  pub holds : HoldsBlocks m (q.head.at ∷ full)
  pub room : HasLinks m q 5 full

-- The queue's list is `xs`, some of the three blocks.
pub record IsLine (m : Words) (q : Queue) (xs : List ℕ) : Type 0 where
  pub fits : FitsLine m q
  pub within : (x : ℕ) → In x xs → In x full
  pub queue : IsQueue m q 5 xs

-- Its list is some list.
pub record HasLine (m : Words) (q : Queue) : Type 0 where
  pub blocks : List ℕ
  pub line : IsLine m q blocks
