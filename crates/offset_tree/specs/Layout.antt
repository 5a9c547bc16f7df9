-- How a tree of blocks lies in words.
use Rattle.std.specs.Prelude.{ℕ, ◌≡◌, ◌≢◌, ◌+◌, ◌*◌, ◌%◌, ◌^◌, ◌<◌, ◌≤◌, suc, Bool, true, false, List, [], ◌∷◌, ◌++◌, length}
use Rattle.zone_region.specs.Words.{Words, word_at}
use Rattle.offset_tree.specs.declared.tree.Tree.{Tree}
use Rattle.zone_region.specs.Members.{In}
use Rattle.zone_region.specs.Holding.{HoldsBlocks}
use Rattle.offset_tree.specs.Keys.{rank_of, key_of, HoldsKey, IsOrdered}
use Rattle.offset_tree.specs.Changes.{ChangesNodes}

-- The blocks lie at an offset under a parent, as a part of the tree whose top is red or black, with this many black
-- blocks on each way down: no blocks at the sentinel, or a block with those before it on its left and those after it
-- on its right. The children of a red block are black.
pub data LaysPart (m : Words) (nil : ℕ) : List ℕ → ℕ → ℕ → Bool → ℕ → Type 0 where
  empty : {p : ℕ} → LaysPart m nil [] nil p false 0
  red : {before after : List ℕ} {o p h : ℕ} → word_at m o 3 ≡ p → word_at m o 4 % 256 ≡ 1 →
      LaysPart m nil before (word_at m o 1) o false h → LaysPart m nil after (word_at m o 2) o false h → LaysPart m nil (before ++ o ∷ after) o p true h
  black : {before after : List ℕ} {o p h : ℕ} {l r : Bool} → word_at m o 3 ≡ p → word_at m o 4 % 256 ≡ 0 →
      LaysPart m nil before (word_at m o 1) o l h → LaysPart m nil after (word_at m o 2) o r h → LaysPart m nil (before ++ o ∷ after) o p false (suc h)

-- The blocks lie at the root word under parent 0, below a black root, in strictly increasing order of hash and key.
pub record LaysTree (m : Words) (t : Tree) (xs : List ℕ) : Type 0 where
  pub height : ℕ
  pub lies : LaysPart m (t.context.at + 24) xs (word_at m t.context.at 0) 0 false height
  pub ordered : IsOrdered m t.form xs

-- The context is live and has room for the root and the sentinel, above offset 0 and below 2^63.
pub record IsContext (m : Words) (t : Tree) : Type 0 where
  pub room : 8 ≤ length (m t.context.at)
  pub above : 0 < t.context.at
  pub below : t.context.at + 8 * length (m t.context.at) ≤ 2 ^ 63

-- The context has room for the root and the sentinel, and these blocks for their links and keys.
pub record HasNodes (m : Words) (t : Tree) (xs : List ℕ) : Type 0 where
  pub context : 8 ≤ length (m t.context.at)
  pub nodes : (x : ℕ) → In x xs → HoldsKey m t.form x

-- The tree's list of blocks is `xs`.
pub record IsTree (m : Words) (t : Tree) (xs : List ℕ) : Type 0 where
  pub holds : HoldsBlocks m (t.context.at ∷ xs)
  pub room : HasNodes m t xs
  pub lays : LaysTree m t xs

-- The tree's list is `xs`, and the block could be one more: it has this key, and no block of the tree has its hash and key.
pub record CanInsert (m : Words) (t : Tree) (b : ℕ) (key : List ℕ) (xs : List ℕ) : Type 0 where
  pub holds : HoldsBlocks m (t.context.at ∷ b ∷ xs)
  pub room : HasNodes m t (b ∷ xs)
  pub lays : LaysTree m t xs
  pub key_is : key_of m t.form b ≡ key
  pub other : (x : ℕ) → In x xs → rank_of m t.form x ≢ rank_of m t.form b

-- The list has the block at one place more.
pub record Inserted (m n : Words) (t : Tree) (b : ℕ) (xs : List ℕ) : Type 0 where
  pub before : List ℕ
  pub after : List ℕ
  pub is : xs ≡ before ++ after
  pub tree : IsTree n t (before ++ b ∷ after)
  pub changes : ChangesNodes m n t.context.at (before ++ b ∷ after)
