use Rattle.std.proofs.Common.{◌≡◌, ap, arith}
use Rattle.peer_zone.specs.declared.numbers.PeerNumbers.{PeerNumbers}
use Rattle.peer_zone.specs.Choice.{freed}
use Rattle.peer_zone.specs.Numbers.{numbers_of}
use Rattle.peer_zone.proofs.RecordLemmas.{peer-below}
use Rattle.peer_zone.proofs.ChangeLemmas.{change-does, peer-room, peer-is, server-freed, same-freed}
use Rattle.peer_zone.proofs.choosing.free.Goals as goal

pub record_at-b-requires : goal.record_at-b-requires
record_at-b-requires g c = let r = c.requires in (r.0, r.1, r.3.laid, r.3.first_is, peer-below r.0 c.args.index r.2 r.3.there)

pub numbers_at-peer-requires : goal.numbers_at-peer-requires
numbers_at-peer-requires g c = let r = c.requires in peer-room (g.B.Blocks.words c.args.blocks.now) c.args.first c.args.index c.record_at-b.result.at r.0 r.1 r.2 c.record_at-b.ensures.block r.3

pub set_numbers-requires : goal.set_numbers-requires
set_numbers-requires g c = let r = c.requires in peer-room (g.B.Blocks.words c.args.blocks.now) c.args.first c.args.index c.record_at-b.result.at r.0 r.1 r.2 c.record_at-b.ensures.block r.3

pub freed-requires-clause-conns : goal.freed-requires-clause-conns
freed-requires-clause-conns g c =
    let r = c.requires in
    let is : c.numbers_at-peer.result ≡ numbers_of r.2 = peer-is (g.B.Blocks.words c.args.blocks.now) c.args.first c.args.index c.record_at-b.result.at c.numbers_at-peer.result r.0 r.1 r.2 c.record_at-b.ensures.block c.numbers_at-peer.ensures.value r.3 in
    let e : c.numbers_at-peer.result.conns ≡ r.2.conns = ap (λ (x : PeerNumbers). x.conns) is in let h = r.4.conns in omega (arith, e, h)

pub freed-requires-clause-fails : goal.freed-requires-clause-fails
freed-requires-clause-fails g c =
    let r = c.requires in
    let is : c.numbers_at-peer.result ≡ numbers_of r.2 = peer-is (g.B.Blocks.words c.args.blocks.now) c.args.first c.args.index c.record_at-b.result.at c.numbers_at-peer.result r.0 r.1 r.2 c.record_at-b.ensures.block c.numbers_at-peer.ensures.value r.3 in
    let e : c.numbers_at-peer.result.fails ≡ r.2.fails = ap (λ (x : PeerNumbers). x.fails) is in let h = r.4.fails in omega (arith, e, h)

pub returns-clause-does : goal.returns-clause-does
returns-clause-does g c = change-does (g.B.Blocks.words c.args.blocks.now) (g.B.Blocks.words c.set_numbers.new.blocks) (freed c.args.single c.args.failed c.args.now) (server-freed c.args.single c.args.failed c.args.now) (same-freed c.args.single c.args.failed c.args.now) c.args.first c.args.index c.record_at-b.result.at c.numbers_at-peer.result c.freed.result c.numbers_at-peer.ensures.value c.freed.ensures c.set_numbers.ensures.sets c.record_at-b.ensures.block
