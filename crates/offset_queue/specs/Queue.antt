-- How a queue lies in words.
use Rattle.std.specs.Prelude.{ℕ, ◌≡◌, ◌≢◌, ◌+◌, ◌*◌, ◌^◌, ◌<◌, ◌≤◌, List, [], ◌∷◌, length}
use Rattle.zone_region.specs.Words.{Words, word_at}
use Rattle.zone_region.specs.Members.{In}
use Rattle.zone_region.specs.Holding.{HoldsBlocks}
use Rattle.offset_queue.specs.declared.queue.Queue.{Queue}

-- A joint is where two link words begin, previous and next: a block, and a word of it. A link holds the byte offset of a joint.
abbrev pub joint_offset : ℕ × ℕ → ℕ
joint_offset a = a.0 + 8 * a.1

-- The queue's own joint, in its head.
abbrev pub head_joint : Queue → ℕ × ℕ
head_joint q = (q.head.at, q.at)

-- The next link at `a` leads to `b`, and the previous link at `b` leads back.
pub record AreLinked (m : Words) (a b : ℕ × ℕ) : Type 0 where
  pub next : word_at m a.0 (a.1 + 1) ≡ joint_offset b
  pub prev : word_at m b.0 b.1 ≡ joint_offset a

-- From `a` the links go through these blocks in order to `z`, and back the same way. A block's links begin at word `link`.
abbrev pub IsChain : Words → ℕ → ℕ × ℕ → List ℕ → ℕ × ℕ → Type 0
IsChain m link a [] z = AreLinked m a z
IsChain m link a (x ∷ xs) z = AreLinked m a (x, link) × IsChain m link (x, link) xs z

-- From the head the links go through the blocks, front first, and back to the head.
abbrev pub LaysQueue : Words → Queue → ℕ → List ℕ → Type 0
LaysQueue m q link xs = IsChain m link (head_joint q) xs (head_joint q)

-- The head's block and the entries have room for their links.
pub record HasLinks (m : Words) (q : Queue) (link : ℕ) (xs : List ℕ) : Type 0 where
  pub head : q.at + 2 ≤ length (m q.head.at)
  pub entries : (x : ℕ) → In x xs → link + 2 ≤ length (m x)

-- The queue's list is `xs`, front first.
pub record IsQueue (m : Words) (q : Queue) (link : ℕ) (xs : List ℕ) : Type 0 where
  pub holds : HoldsBlocks m (q.head.at ∷ xs)
  pub room : HasLinks m q link xs
  pub lays : LaysQueue m q link xs

-- The head's block is live and has room for its links, above offset 0 and below 2^63.
pub record IsHead (m : Words) (q : Queue) : Type 0 where
  pub room : q.at + 2 ≤ length (m q.head.at)
  pub above : 0 < q.head.at
  pub below : q.head.at + 8 * length (m q.head.at) ≤ 2 ^ 63

-- The queue's list is `xs`, and the block could be one more entry.
pub record CanPush (m : Words) (q : Queue) (link b : ℕ) (xs : List ℕ) : Type 0 where
  pub holds : HoldsBlocks m (q.head.at ∷ b ∷ xs)
  pub room : HasLinks m q link (b ∷ xs)
  pub lays : LaysQueue m q link xs

-- Only link words of the head and of these blocks changed.
pub record ChangesLinks (old new : Words) (q : Queue) (link : ℕ) (xs : List ℕ) : Type 0 where
  pub lengths : (o : ℕ) → length (new o) ≡ length (old o)
  pub others : (o : ℕ) → o ≢ q.head.at → (In o xs → ⊥) → new o ≡ old o
  pub entries : (o i : ℕ) → o ≢ q.head.at → i ≢ link → i ≢ link + 1 → word_at new o i ≡ word_at old o i
  pub head : (i : ℕ) → i ≢ q.at → i ≢ q.at + 1 → word_at new q.head.at i ≡ word_at old q.head.at i
