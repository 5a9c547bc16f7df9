-- A tree in blocks of a pool.
use Rattle.std.specs.Prelude.{ℕ, ◌≤◌, List, length}
use Rattle.slab_model.specs.State.{Slab}
use Rattle.slab_pages.specs.Places.{Image}
use Rattle.slab_pool.specs.Pool.{LaysPool}
use Rattle.slab_pool.specs.Live.{block_words}
use Rattle.offset_tree.specs.declared.tree.Tree.{Tree}
use Rattle.offset_tree.specs.Layout.{IsTree}

-- The pool's words lay out a slab, and the tree's list is some of its live blocks, at most `n`.
pub record HoldsTree (pool : Image) (t : Tree) (n : ℕ) : Type 0 where
  pub slab : Slab
  pub laid : LaysPool pool slab
  pub blocks : List ℕ
  pub tree : IsTree (block_words pool) t blocks
  pub few : length blocks ≤ n
