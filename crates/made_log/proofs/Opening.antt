-- The zones of the configuration can be opened: each server of the upstream is given a block.
use Rattle.std.proofs.Common.{◌≡◌, refl}
use Rattle.std.specs.Prelude.{None}
use Rattle.slab_model.specs.Geometry.{start_of, pages_of, most_pages, class_of, class_size, pages_for, blocks_in_page, first_index, usable_blocks}
use Rattle.slab_model.specs.Grant.{grant}
use Rattle.replay_share.specs.Opening.{refused_line}
use Rattle.made_log.specs.MadeConfig.{made_zones}

pub made-zones-open : refused_line made_zones ≡ None
unfolding start_of pages_of most_pages class_of class_size pages_for blocks_in_page first_index usable_blocks grant
made-zones-open = refl
