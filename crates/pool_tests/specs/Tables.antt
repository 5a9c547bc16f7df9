-- A table in blocks of a pool.
use Rattle.std.specs.Prelude.{ℕ, List}
use Rattle.slab_model.specs.State.{Slab}
use Rattle.slab_pages.specs.Places.{Image}
use Rattle.slab_pool.specs.Pool.{LaysPool}
use Rattle.slab_pool.specs.Live.{block_words}
use Rattle.offset_table.specs.declared.table.Table.{Table}
use Rattle.offset_table.specs.Table.{IsTable}

-- The pool's words lay out a slab, and the table's nodes are some of its live blocks, the last used one first.
pub record HoldsTable (pool : Image) (t : Table) : Type 0 where
  pub slab : Slab
  pub laid : LaysPool pool slab
  pub order : List ℕ
  pub table : IsTable (block_words pool) t order
