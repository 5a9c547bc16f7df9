use Rattle.std.proofs.Common.{◌≡◌, ◌+◌, length, arith, rules}
use Rattle.peer_zone.specs.Opening.{opened_zone, IsSpec}
use Rattle.peer_zone.proofs.RootLemmas.{opened-lays, has_pages, none_refused, opened_quiet}
use Rattle.peer_zone.proofs.object.PeerZone.open.Goals as goal

pub invariant_of-result : goal.invariant_of-result
invariant_of-result c =
    let is : IsSpec c.args.spec = search rules in
    let many : c.len.result + c.len-2.result ≡ length c.args.spec.primary + length c.args.spec.backup = omega (arith, c.len.ensures, c.len-2.ensures) in
    (opened_zone c.args.spec, opened-lays c.begin.new.pool c.args.spec c.in-Ok-begin.placed _ is c.in-Ok-begin.ensures many)

pub returns-in-Ok-begin-clause-laid : goal.returns-in-Ok-begin-clause-laid
returns-in-Ok-begin-clause-laid c =
    let is : IsSpec c.args.spec = search rules in
    let many : c.len.result + c.len-2.result ≡ length c.args.spec.primary + length c.args.spec.backup = omega (arith, c.len.ensures, c.len-2.ensures) in
    (has_pages c.args.spec is c.requires.page_shift, none_refused _ c.args.spec c.in-Ok-begin.placed c.in-Ok-begin.ensures, opened-lays c.begin.new.pool c.args.spec c.in-Ok-begin.placed _ is c.in-Ok-begin.ensures many)

pub returns-in-Ok-begin-clause-quiet : goal.returns-in-Ok-begin-clause-quiet
returns-in-Ok-begin-clause-quiet c =
    let is : IsSpec c.args.spec = search rules in
    opened_quiet _ c.args.spec c.in-Ok-begin.placed is c.in-Ok-begin.ensures
