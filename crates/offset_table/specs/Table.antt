-- A table of nodes: a queue and a tree of the same blocks.
use Rattle.std.specs.Prelude.{ℕ, ◌≡◌, ◌≢◌, ◌⊎◌, ◌+◌, ◌*◌, ◌/◌, ◌^◌, ◌<◌, ◌≤◌, List, ◌∷◌, length}
use Rattle.zone_region.specs.Words.{Words, word_at}
use Rattle.zone_region.specs.Members.{In}
use Rattle.zone_region.specs.Holding.{HoldsBlocks}
use Rattle.offset_queue.specs.declared.queue.Queue.{Queue}
use Rattle.offset_queue.specs.Queue.{IsQueue}
use Rattle.offset_tree.specs.declared.tree.Form.{Form}
use Rattle.offset_tree.specs.declared.tree.Tree.{Tree}
use Rattle.offset_tree.specs.Keys.{Rank, rank_of, key_of, HoldsKey}
use Rattle.offset_tree.specs.Layout.{IsTree}
use Rattle.offset_table.specs.declared.table.Table.{Table}

-- the places of length and key in a request node
abbrev pub request_form : Form
request_form = record { len_at = 34; len_bytes = 2; key_at = 80 }

-- the tree of the table's nodes, by their keys
abbrev pub tree_of : Table → Tree
tree_of t = record { context = t.context; form = request_form }

-- the queue of the table's nodes, by their last use
abbrev pub queue_of : Table → Queue
queue_of t = record { head = t.context; at = 8 }

-- the hash and the key of a node
abbrev pub rank_at : Words → ℕ → Rank
rank_at m b = rank_of m request_form b

-- The table's nodes are `order`, the last used one first: a queue of them, and a tree of them in the order of their keys.
pub record IsTable (m : Words) (t : Table) (order : List ℕ) : Type 0 where
  pub sorted : List ℕ
  pub queue : IsQueue m (queue_of t) 5 order
  pub tree : IsTree m (tree_of t) sorted
  pub there : (x : ℕ) → In x order → In x sorted
  pub back : (x : ℕ) → In x sorted → In x order

-- The block could be one more node: it has this key, and no node has its hash and key.
pub record CanAdd (m : Words) (t : Table) (b : ℕ) (key : List ℕ) (order : List ℕ) : Type 0 where
  pub table : IsTable m t order
  pub holds : HoldsBlocks m (t.context.at ∷ b ∷ order)
  pub room : HoldsKey m request_form b
  pub key_is : key_of m request_form b ≡ key
  pub other : (x : ℕ) → In x order → rank_at m x ≢ rank_at m b

-- The context is live and has room for root, sentinel and head, above offset 0 and below 2^63.
pub record IsTableContext (m : Words) (t : Table) : Type 0 where
  pub room : 10 ≤ length (m t.context.at)
  pub above : 0 < t.context.at
  pub below : t.context.at + 8 * length (m t.context.at) ≤ 2 ^ 63

-- An empty table was made: words 0, 1 and 3 to 9 of the context are set, and nothing else changed.
pub record MakesTable (old new : Words) (t : Table) : Type 0 where
  pub lengths : (z : ℕ) → length (new z) ≡ length (old z)
  pub others : (z : ℕ) → z ≢ t.context.at → new z ≡ old z
  pub root : word_at new t.context.at 0 ≡ t.context.at + 24
  pub offset : word_at new t.context.at 1 ≡ t.context.at + 24
  pub sentinel : (i : ℕ) → 3 ≤ i → i ≤ 7 → word_at new t.context.at i ≡ 0
  pub prev : word_at new t.context.at 8 ≡ t.context.at + 64
  pub next : word_at new t.context.at 9 ≡ t.context.at + 64
  pub rest : (i : ℕ) → (i ≡ 2) ⊎ (10 ≤ i) → word_at new t.context.at i ≡ word_at old t.context.at i

-- Only links and colours of these nodes changed (words 1 to 3, 5 and 6, and the low byte of word 4), and the context's root and head.
pub record ChangesTable (old new : Words) (t : Table) (xs : List ℕ) : Type 0 where
  pub lengths : (z : ℕ) → length (new z) ≡ length (old z)
  pub others : (z : ℕ) → z ≢ t.context.at → (In z xs → ⊥) → new z ≡ old z
  pub nodes : (z i : ℕ) → z ≢ t.context.at → (i ≡ 0) ⊎ (7 ≤ i) → word_at new z i ≡ word_at old z i
  pub flags : (z : ℕ) → z ≢ t.context.at → word_at new z 4 / 256 ≡ word_at old z 4 / 256
  pub head : (i : ℕ) → i ≢ 0 → i ≢ 8 → i ≢ 9 → word_at new t.context.at i ≡ word_at old t.context.at i
