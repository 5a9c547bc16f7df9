use Rattle.std.proofs.Common.{refl}
use Rattle.slab_model.specs.Geometry.{start_of, pages_of, most_pages, class_of, class_size, pages_for, blocks_in_page, first_index, usable_blocks}
use Rattle.slab_model.specs.Grant.{grant}
use Rattle.peer_zone.specs.Rows.{CycleRow, TenCyclesRow, ReturnRow, SeventyRow, TriedRow, BackupRow, CheckedRow, DownRow, SingleRow, LeastRow, TiesRow, FullRow, SmallRow}
use Rattle.peer_zone.proofs.theorems.worked_rows.Goals as goal

cycle_row : CycleRow
unfolding start_of pages_of most_pages class_of class_size pages_for blocks_in_page first_index usable_blocks grant
cycle_row = (refl, refl)

ten_cycles_row : TenCyclesRow
unfolding start_of pages_of most_pages class_of class_size pages_for blocks_in_page first_index usable_blocks grant
ten_cycles_row = refl

return_row : ReturnRow
unfolding start_of pages_of most_pages class_of class_size pages_for blocks_in_page first_index usable_blocks grant
return_row = (refl, refl)

seventy_row : SeventyRow
unfolding start_of pages_of most_pages class_of class_size pages_for blocks_in_page first_index usable_blocks grant
seventy_row = (refl, refl)

ties_row : TiesRow
unfolding start_of pages_of most_pages class_of class_size pages_for blocks_in_page first_index usable_blocks grant
ties_row = refl

full_row : FullRow
unfolding start_of pages_of most_pages class_of class_size pages_for blocks_in_page first_index usable_blocks grant
full_row = refl

backup_row : BackupRow
unfolding start_of pages_of most_pages class_of class_size pages_for blocks_in_page first_index usable_blocks grant
backup_row = (refl, refl, refl, refl)

single_row : SingleRow
unfolding start_of pages_of most_pages class_of class_size pages_for blocks_in_page first_index usable_blocks grant
single_row = refl

least_row : LeastRow
unfolding start_of pages_of most_pages class_of class_size pages_for blocks_in_page first_index usable_blocks grant
least_row = refl

small_row : SmallRow
unfolding start_of pages_of most_pages class_of class_size pages_for blocks_in_page first_index usable_blocks grant
small_row = (refl, refl, refl, refl)

tried_row : TriedRow
unfolding start_of pages_of most_pages class_of class_size pages_for blocks_in_page first_index usable_blocks grant
tried_row = refl

checked_row : CheckedRow
unfolding start_of pages_of most_pages class_of class_size pages_for blocks_in_page first_index usable_blocks grant
checked_row = (refl, refl)

down_row : DownRow
unfolding start_of pages_of most_pages class_of class_size pages_for blocks_in_page first_index usable_blocks grant
down_row = (refl, refl)

pub returns : goal.returns
returns c = record {
  cycle = cycle_row;
  ten_cycles = ten_cycles_row;
  comes_back = return_row;
  seventy = seventy_row;
  tried = tried_row;
  backup = backup_row;
  checked = checked_row;
  down = down_row;
  single = single_row;
  least = least_row;
  ties = ties_row;
  full = full_row;
  small = small_row;
}
