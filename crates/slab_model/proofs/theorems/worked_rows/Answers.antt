use Rattle.std.proofs.Common.{refl}
use Rattle.slab_model.specs.Geometry.{start_of, pages_of, most_pages, class_of, class_size, pages_for, blocks_in_page, first_index, usable_blocks}
use Rattle.slab_model.specs.Rows.{ZonesRow, NodesRow, SmallRow, LargeRow, RunsRow, MergeRow}
use Rattle.slab_model.specs.Grant.{grant}
use Rattle.slab_model.specs.Return.{give_back}
use Rattle.slab_model.proofs.theorems.worked_rows.Goals as goal

zones_row : ZonesRow
unfolding start_of pages_of most_pages
zones_row = (refl, refl, refl, refl, refl, refl, refl, refl, refl)

nodes_row : NodesRow
unfolding start_of pages_of most_pages class_of class_size pages_for blocks_in_page first_index usable_blocks grant
nodes_row = (refl, refl)

small_row : SmallRow
unfolding start_of pages_of most_pages class_of class_size pages_for blocks_in_page first_index usable_blocks grant
small_row = (refl, refl)

large_row : LargeRow
unfolding start_of pages_of most_pages class_of class_size pages_for blocks_in_page first_index usable_blocks grant
large_row = (refl, refl)

runs_row : RunsRow
unfolding start_of pages_of most_pages class_of class_size pages_for blocks_in_page first_index usable_blocks grant give_back
runs_row = (refl, refl, refl, refl, refl, refl)

merge_row : MergeRow
unfolding start_of pages_of most_pages class_of class_size pages_for blocks_in_page first_index usable_blocks grant give_back
merge_row = (refl, refl, refl)

pub returns : goal.returns
returns c = record { zones = zones_row; nodes = nodes_row; small = small_row; large = large_row; runs = runs_row; merge = merge_row }
