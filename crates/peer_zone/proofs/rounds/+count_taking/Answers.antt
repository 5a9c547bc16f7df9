use Rattle.std.proofs.Common.{ℕ, ◌-◌, ◌∙◌, sym, true, false, List, arith, rules}
use Rattle.peer_zone.specs.declared.state.PeerRecord.{PeerRecord}
use Rattle.peer_zone.specs.CallSteps.{IsChain}
use Rattle.peer_zone.proofs.RoundLemmas.{Visits, chain-room, chain-rest, chain-fits, light-fits, count-does}
use Rattle.peer_zone.proofs.rounds.+count_taking.Goals as goal

pub next_of-next-requires : goal.next_of-next-requires
next_of-next-requires g t c = chain-room (g.B.Blocks.words c.args.blocks.now) c.args.first c.args.left c.requires.there.0 c.requires.there.1 (omega (arith, c.if-left-eq0.false)) c.requires.there.2

pub numbers_at-peer-requires : goal.numbers_at-peer-requires
numbers_at-peer-requires g t c = chain-room (g.B.Blocks.words c.args.blocks.now) c.args.first c.args.left c.requires.there.0 c.requires.there.1 (omega (arith, c.if-left-eq0.false)) c.requires.there.2

pub count_taking-behind-requires : goal.count_taking-behind-requires
count_taking-behind-requires g t c κs within =
    let v : Visits (g.B.Blocks.words c.args.blocks.now) c.args.first c.next_of-next.result c.numbers_at-peer.result = record { next_is = c.next_of-next.ensures.value; value = c.numbers_at-peer.ensures.value } in
    let there : (qs : List PeerRecord) × (bs : List ℕ) × IsChain (g.B.Blocks.words c.args.blocks.now) c.next_of-next.result (c.args.left - 1) qs bs = chain-rest (g.B.Blocks.words c.args.blocks.now) c.args.first c.args.left c.next_of-next.result c.numbers_at-peer.result c.requires.there.0 c.requires.there.1 (omega (arith, c.if-left-eq0.false)) v c.requires.there.2 in
    search rules

pub include-requires-clause-light : goal.include-requires-clause-light
include-requires-clause-light g t c =
    let v : Visits (g.B.Blocks.words c.args.blocks.now) c.args.first c.next_of-next.result c.numbers_at-peer.result = record { next_is = c.next_of-next.ensures.value; value = c.numbers_at-peer.ensures.value } in
    light-fits c.numbers_at-peer.result (chain-fits (g.B.Blocks.words c.args.blocks.now) c.args.first c.args.left c.next_of-next.result c.numbers_at-peer.result c.requires.there.0 c.requires.there.1 (omega (arith, c.if-left-eq0.false)) v c.requires.there.2)

pub returns-then-include-clause-is : goal.returns-then-include-clause-is
returns-then-include-clause-is g t c = count-does (g.B.Blocks.words c.args.blocks.now) c.args.takers.now c.args.index c.args.first c.args.left c.next_of-next.result c.count_taking-behind.result c.numbers_at-peer.result true (omega (arith, c.if-left-eq0.false)) (record { next_is = c.next_of-next.ensures.value; value = c.numbers_at-peer.ensures.value }) (sym c.if-include.true ∙ c.include.ensures) c.count_taking-behind.ensures.is

pub returns-else-include-clause-is : goal.returns-else-include-clause-is
returns-else-include-clause-is g t c = count-does (g.B.Blocks.words c.args.blocks.now) c.args.takers.now c.args.index c.args.first c.args.left c.next_of-next.result c.count_taking-behind.result c.numbers_at-peer.result false (omega (arith, c.if-left-eq0.false)) (record { next_is = c.next_of-next.ensures.value; value = c.numbers_at-peer.ensures.value }) (sym c.if-include.false ∙ c.include.ensures) c.count_taking-behind.ensures.is
