use Rattle.std.proofs.Common.{refl}
use Rattle.offset_tree.specs.Bounds.{bits, search_cost}
use Rattle.offset_tree.specs.Laws.{ThousandRow}
use Rattle.offset_tree.proofs.theorems.worked_rows.Goals as goal

thousand_row : ThousandRow
unfolding search_cost bits
thousand_row = refl

pub returns : goal.returns
returns c = record { thousand = thousand_row }
