use Rattle.std.proofs.Common.{◌≡◌, ◌^◌, sym, ap, subst, refl, arith, pos, ◌≤ℤ◌}
use Rattle.std.specs.Prelude.{neg_ℤ}
use Rattle.peer_zone.specs.declared.numbers.PeerNumbers.{PeerNumbers}
use Rattle.peer_zone.specs.Choice.{taken}
use Rattle.peer_zone.specs.Numbers.{numbers_of}
use Rattle.peer_zone.proofs.RecordLemmas.{peer-below}
use Rattle.peer_zone.proofs.ChangeLemmas.{change-does, peer-room, peer-is}
use Rattle.peer_zone.proofs.choosing.take.Goals as goal

pub record_at-b-requires : goal.record_at-b-requires
record_at-b-requires g c = let r = c.requires.there in (r.0, r.1, r.3.laid, r.3.first_is, peer-below r.0 c.args.index r.2 r.3.there)

pub numbers_at-peer-requires : goal.numbers_at-peer-requires
numbers_at-peer-requires g c = let r = c.requires.there in peer-room (g.B.Blocks.words c.args.blocks.now) c.args.first c.args.index c.record_at-b.result.at r.0 r.1 r.2 c.record_at-b.ensures.block r.3

pub set_numbers-requires : goal.set_numbers-requires
set_numbers-requires g c = let r = c.requires.there in peer-room (g.B.Blocks.words c.args.blocks.now) c.args.first c.args.index c.record_at-b.result.at r.0 r.1 r.2 c.record_at-b.ensures.block r.3

pub taken-requires-clause-low : goal.taken-requires-clause-low
taken-requires-clause-low g c =
    let r = c.requires.there in
    let is : c.numbers_at-peer.result ≡ numbers_of r.2 = peer-is (g.B.Blocks.words c.args.blocks.now) c.args.first c.args.index c.record_at-b.result.at c.numbers_at-peer.result r.0 r.1 r.2 c.record_at-b.ensures.block c.numbers_at-peer.ensures.value r.3 in
    let e : c.numbers_at-peer.result.current ≡ r.2.current = ap (λ (x : PeerNumbers). x.current) is in subst (λ z. neg_ℤ (pos (2 ^ 56)) ≤ℤ z) (sym e) r.4.low

pub taken-requires-clause-conns : goal.taken-requires-clause-conns
taken-requires-clause-conns g c =
    let r = c.requires.there in
    let is : c.numbers_at-peer.result ≡ numbers_of r.2 = peer-is (g.B.Blocks.words c.args.blocks.now) c.args.first c.args.index c.record_at-b.result.at c.numbers_at-peer.result r.0 r.1 r.2 c.record_at-b.ensures.block c.numbers_at-peer.ensures.value r.3 in
    let e : c.numbers_at-peer.result.conns ≡ r.2.conns = ap (λ (x : PeerNumbers). x.conns) is in let h = r.4.conns in omega (arith, e, h)

pub returns-clause-does : goal.returns-clause-does
returns-clause-does g c = change-does (g.B.Blocks.words c.args.blocks.now) (g.B.Blocks.words c.set_numbers.new.blocks) (taken c.args.total c.args.now) (λ q. refl) (λ q. refl) c.args.first c.args.index c.record_at-b.result.at c.numbers_at-peer.result c.taken.result c.numbers_at-peer.ensures.value c.taken.ensures c.set_numbers.ensures.sets c.record_at-b.ensures.block
