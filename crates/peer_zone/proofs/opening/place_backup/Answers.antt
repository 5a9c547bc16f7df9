use Rattle.std.proofs.Common.{◌<◌, length, arith}
use Rattle.std.proofs.lemmas.Bool.Decides.{nat_tests}
use Rattle.peer_zone.proofs.GrantLemmas.{backup-some}
use Rattle.peer_zone.proofs.opening.place_backup.Goals as goal

pub returns : goal.returns
returns c slab laid =
    let some : 0 < length c.args.servers.now = grind (arith, nat_tests, c.is_empty.ensures, c.if-is_empty.false) in
    let block = c.take_block-list.ensures slab laid in
    backup-some c.args.pool.now c.take_block-list.new.pool c.place_records.new.pool c.write_list.new.blocks slab c.args.number c.args.servers.now c.take_block-list.result.at c.in_ok-first.first some block (c.in_ok-first.ensures _ block.laid) c.write_list.ensures.held c.write_list.ensures.changes c.write_list.ensures.rest
