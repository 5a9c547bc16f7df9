use Rattle.std.proofs.Common.{ℕ, ◌-◌, List, arith, rules}
use Rattle.peer_zone.specs.declared.state.PeerRecord.{PeerRecord}
use Rattle.peer_zone.specs.CallSteps.{IsChain}
use Rattle.peer_zone.proofs.RoundLemmas.{Visits, chain-room, chain-rest, chain-fits, light-fits, least-does}
use Rattle.peer_zone.proofs.rounds.+least_busy.Goals as goal

pub next_of-next-requires : goal.next_of-next-requires
next_of-next-requires g t c = chain-room (g.B.Blocks.words c.args.blocks.now) c.args.first c.args.left c.requires.there.0 c.requires.there.1 (omega (arith, c.if-left-eq0.false)) c.requires.there.2

pub numbers_at-peer-requires : goal.numbers_at-peer-requires
numbers_at-peer-requires g t c = chain-room (g.B.Blocks.words c.args.blocks.now) c.args.first c.args.left c.requires.there.0 c.requires.there.1 (omega (arith, c.if-left-eq0.false)) c.requires.there.2

pub less_busy-better-requires-clause-light : goal.less_busy-better-requires-clause-light
less_busy-better-requires-clause-light g t c =
    let v : Visits (g.B.Blocks.words c.args.blocks.now) c.args.first c.next_of-next.result c.numbers_at-peer.result = record { next_is = c.next_of-next.ensures.value; value = c.numbers_at-peer.ensures.value } in
    light-fits c.numbers_at-peer.result (chain-fits (g.B.Blocks.words c.args.blocks.now) c.args.first c.args.left c.next_of-next.result c.numbers_at-peer.result c.requires.there.0 c.requires.there.1 (omega (arith, c.if-left-eq0.false)) v c.requires.there.2)

pub least_busy-requires : goal.least_busy-requires
least_busy-requires g t c κs within =
    let v : Visits (g.B.Blocks.words c.args.blocks.now) c.args.first c.next_of-next.result c.numbers_at-peer.result = record { next_is = c.next_of-next.ensures.value; value = c.numbers_at-peer.ensures.value } in
    let there : (qs : List PeerRecord) × (bs : List ℕ) × IsChain (g.B.Blocks.words c.args.blocks.now) c.next_of-next.result (c.args.left - 1) qs bs = chain-rest (g.B.Blocks.words c.args.blocks.now) c.args.first c.args.left c.next_of-next.result c.numbers_at-peer.result c.requires.there.0 c.requires.there.1 (omega (arith, c.if-left-eq0.false)) v c.requires.there.2 in
    search rules

pub returns-clause-is : goal.returns-clause-is
returns-clause-is g t c = least-does (g.B.Blocks.words c.args.blocks.now) c.args.takers.now c.args.index c.args.first c.args.left c.next_of-next.result c.numbers_at-peer.result c.args.best c.less_busy-better.result c.least_busy.result (omega (arith, c.if-left-eq0.false)) (record { next_is = c.next_of-next.ensures.value; value = c.numbers_at-peer.ensures.value }) c.less_busy-better.ensures.is c.least_busy.ensures.is
