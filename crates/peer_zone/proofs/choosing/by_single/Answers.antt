use Rattle.std.proofs.Common.{◌≡◌, ap, refl, arith}
use Rattle.zone_region.specs.Words.{word_at}
use Rattle.peer_zone.specs.declared.numbers.PeerNumbers.{PeerNumbers}
use Rattle.peer_zone.proofs.RoundLemmas.{Visits, chain-room, chain-fits, light-fits}
use Rattle.peer_zone.proofs.ChangeLemmas.{single-out, single-in}
use Rattle.peer_zone.proofs.choosing.by_single.Goals as goal

pub numbers_at-peer-requires : goal.numbers_at-peer-requires
numbers_at-peer-requires g c = chain-room (g.B.Blocks.words c.args.blocks.now) c.args.first c.args.servers c.requires.there.0 c.requires.there.1 (omega (arith, c.if-servers-eq0.false)) c.requires.there.2

pub set_numbers-requires : goal.set_numbers-requires
set_numbers-requires g c = chain-room (g.B.Blocks.words c.args.blocks.now) c.args.first c.args.servers c.requires.there.0 c.requires.there.1 (omega (arith, c.if-servers-eq0.false)) c.requires.there.2

pub include-requires-clause-light : goal.include-requires-clause-light
include-requires-clause-light g c =
    let v : Visits (g.B.Blocks.words c.args.blocks.now) c.args.first (word_at (g.B.Blocks.words c.args.blocks.now) c.args.first 0) c.numbers_at-peer.result = record { next_is = refl; value = c.numbers_at-peer.ensures.value } in
    let f = chain-fits (g.B.Blocks.words c.args.blocks.now) c.args.first c.args.servers (word_at (g.B.Blocks.words c.args.blocks.now) c.args.first 0) c.numbers_at-peer.result c.requires.there.0 c.requires.there.1 (omega (arith, c.if-servers-eq0.false)) v c.requires.there.2 in
    light-fits c.numbers_at-peer.result f

pub taken_alone-requires : goal.taken_alone-requires
taken_alone-requires g c =
    let v : Visits (g.B.Blocks.words c.args.blocks.now) c.args.first (word_at (g.B.Blocks.words c.args.blocks.now) c.args.first 0) c.numbers_at-peer.result = record { next_is = refl; value = c.numbers_at-peer.ensures.value } in
    let f = chain-fits (g.B.Blocks.words c.args.blocks.now) c.args.first c.args.servers (word_at (g.B.Blocks.words c.args.blocks.now) c.args.first 0) c.numbers_at-peer.result c.requires.there.0 c.requires.there.1 (omega (arith, c.if-servers-eq0.false)) v c.requires.there.2 in
    let e : c.numbers_at-peer.result.conns ≡ f.p.conns = ap (λ (x : PeerNumbers). x.conns) f.is in
    let h = f.room.conns in
    omega (arith, e, h)

pub returns-then-not-include-clause-does : goal.returns-then-not-include-clause-does
returns-then-not-include-clause-does g c = single-out (g.B.Blocks.words c.args.blocks.now) c.args.takers.now c.args.first c.args.servers c.numbers_at-peer.result (omega (arith, c.if-servers-eq0.false)) c.numbers_at-peer.ensures.value (cc)

pub returns-clause-does : goal.returns-clause-does
returns-clause-does g c = single-in (g.B.Blocks.words c.args.blocks.now) (g.B.Blocks.words c.set_numbers.new.blocks) c.args.takers.now c.args.first c.args.servers c.numbers_at-peer.result c.taken_alone.result (omega (arith, c.if-servers-eq0.false)) c.numbers_at-peer.ensures.value (cc) c.taken_alone.ensures c.set_numbers.ensures.sets
