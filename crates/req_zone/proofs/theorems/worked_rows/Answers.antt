use Rattle.std.proofs.Common.{refl}
use Rattle.slab_model.specs.Geometry.{start_of, pages_of, most_pages, class_of, class_size, pages_for, blocks_in_page, first_index, usable_blocks}
use Rattle.slab_model.specs.Grant.{grant}
use Rattle.slab_model.specs.Return.{give_back}
use Rattle.req_zone.specs.Rows.{OpenRow, HoldRow, BusyRow, SlowRow, BackRow, StaleRow, HeldRow, EvictRow, FullRow, LargeRow}
use Rattle.req_zone.proofs.theorems.worked_rows.Goals as goal

open_row : OpenRow
unfolding start_of pages_of most_pages class_of class_size pages_for blocks_in_page first_index usable_blocks grant
open_row = (refl, refl, refl, refl)

hold_row : HoldRow
unfolding start_of pages_of most_pages class_of class_size pages_for blocks_in_page first_index usable_blocks grant
hold_row = refl

busy_row : BusyRow
unfolding start_of pages_of most_pages class_of class_size pages_for blocks_in_page first_index usable_blocks grant
busy_row = refl

slow_row : SlowRow
unfolding start_of pages_of most_pages class_of class_size pages_for blocks_in_page first_index usable_blocks grant
slow_row = refl

back_row : BackRow
unfolding start_of pages_of most_pages class_of class_size pages_for blocks_in_page first_index usable_blocks grant
back_row = refl

stale_row : StaleRow
unfolding start_of pages_of most_pages class_of class_size pages_for blocks_in_page first_index usable_blocks grant give_back
stale_row = refl

held_row : HeldRow
unfolding start_of pages_of most_pages class_of class_size pages_for blocks_in_page first_index usable_blocks grant give_back
held_row = refl

evict_row : EvictRow
unfolding start_of pages_of most_pages class_of class_size pages_for blocks_in_page first_index usable_blocks grant give_back
evict_row = refl

full_row : FullRow
unfolding start_of pages_of most_pages class_of class_size pages_for blocks_in_page first_index usable_blocks grant give_back
full_row = refl

large_row : LargeRow
unfolding start_of pages_of most_pages class_of class_size pages_for blocks_in_page first_index usable_blocks grant
large_row = (refl, refl, refl)

pub returns : goal.returns
returns c = record { opened = open_row; hold = hold_row; busy = busy_row; slow = slow_row; back = back_row; stale = stale_row; held = held_row; evict = evict_row; full = full_row; large = large_row }
