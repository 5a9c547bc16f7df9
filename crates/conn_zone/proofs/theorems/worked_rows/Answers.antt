use Rattle.std.proofs.Common.{refl}
use Rattle.slab_model.specs.Geometry.{start_of, pages_of, most_pages, class_of, class_size, pages_for, blocks_in_page, first_index, usable_blocks}
use Rattle.slab_model.specs.Grant.{grant}
use Rattle.slab_model.specs.Return.{give_back}
use Rattle.conn_zone.specs.Rows.{OpenRow, OneAtOnceRow, FullRow}
use Rattle.conn_zone.proofs.theorems.worked_rows.Goals as goal

open_row : OpenRow
unfolding start_of pages_of most_pages class_of class_size pages_for blocks_in_page first_index usable_blocks grant give_back
open_row = (refl, refl, refl, refl)

one_at_once_row : OneAtOnceRow
unfolding start_of pages_of most_pages class_of class_size pages_for blocks_in_page first_index usable_blocks grant give_back
one_at_once_row = refl

full_row : FullRow
unfolding start_of pages_of most_pages class_of class_size pages_for blocks_in_page first_index usable_blocks grant give_back
full_row = (refl, refl)

pub returns : goal.returns
returns c = record { opened = open_row; one_at_once = one_at_once_row; full = full_row }
