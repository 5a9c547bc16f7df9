use Rattle.std.proofs.Common.{ℕ, ◌≡◌, ◌-◌, ◌≤◌, sym, ap, subst, refl, List, length, arith, rules, ◌≤ℤ◌, pos, ◌^◌}
use Rattle.std.proofs.Common.{w64}
use Rattle.std.specs.Prelude.{FitsSigned}
use Rattle.std.proofs.lemmas.Int.{to_z-of_z}
use Rattle.peer_zone.specs.declared.state.PeerRecord.{PeerRecord}
use Rattle.peer_zone.specs.declared.numbers.PeerNumbers.{PeerNumbers}
use Rattle.peer_zone.specs.CallSteps.{IsChain}
use Rattle.peer_zone.proofs.RoundLemmas.{Visits, chain-room, chain-rest, chain-fits, light-fits, raise-skip, raise-take}
use Rattle.peer_zone.proofs.rounds.+raise_all.Goals as goal

pub next_of-next-requires : goal.next_of-next-requires
next_of-next-requires g t c = chain-room (g.B.Blocks.words c.args.blocks.now) c.args.first c.args.left c.requires.there.0 c.requires.there.1 (omega (arith, c.if-left-eq0.false)) c.requires.there.2

pub numbers_at-peer-requires : goal.numbers_at-peer-requires
numbers_at-peer-requires g t c = chain-room (g.B.Blocks.words c.args.blocks.now) c.args.first c.args.left c.requires.there.0 c.requires.there.1 (omega (arith, c.if-left-eq0.false)) c.requires.there.2

pub raise_all-later-requires : goal.raise_all-later-requires
raise_all-later-requires g t c κs within =
    let v : Visits (g.B.Blocks.words c.args.blocks.now) c.args.first c.next_of-next.result c.numbers_at-peer.result = record { next_is = c.next_of-next.ensures.value; value = c.numbers_at-peer.ensures.value } in
    let there : (qs : List PeerRecord) × (bs : List ℕ) × IsChain (g.B.Blocks.words c.args.blocks.now) c.next_of-next.result (c.args.left - 1) qs bs = chain-rest (g.B.Blocks.words c.args.blocks.now) c.args.first c.args.left c.next_of-next.result c.numbers_at-peer.result c.requires.there.0 c.requires.there.1 (omega (arith, c.if-left-eq0.false)) v c.requires.there.2 in
    search rules

pub include-requires-clause-light : goal.include-requires-clause-light
include-requires-clause-light g t c =
    let v : Visits (g.B.Blocks.words c.args.blocks.now) c.args.first c.next_of-next.result c.numbers_at-peer.result = record { next_is = c.next_of-next.ensures.value; value = c.numbers_at-peer.ensures.value } in
    light-fits c.numbers_at-peer.result (chain-fits (g.B.Blocks.words c.args.blocks.now) c.args.first c.args.left c.next_of-next.result c.numbers_at-peer.result c.requires.there.0 c.requires.there.1 (omega (arith, c.if-left-eq0.false)) v c.requires.there.2)

pub returns-then-not-include-clause-does : goal.returns-then-not-include-clause-does
returns-then-not-include-clause-does g t c = raise-skip (g.B.Blocks.words c.args.blocks.now) (g.B.Blocks.words c.raise_all-later.new.blocks) c.args.takers.now c.args.index c.args.first c.args.left c.next_of-next.result c.numbers_at-peer.result c.raise_all-later.result (omega (arith, c.if-left-eq0.false)) (record { next_is = c.next_of-next.ensures.value; value = c.numbers_at-peer.ensures.value }) (cc) c.raise_all-later.ensures.does

pub raised-raised-requires-clause-high : goal.raised-raised-requires-clause-high
raised-raised-requires-clause-high g t c =
    let v : Visits (g.B.Blocks.words c.args.blocks.now) c.args.first c.next_of-next.result c.numbers_at-peer.result = record { next_is = c.next_of-next.ensures.value; value = c.numbers_at-peer.ensures.value } in
    let f = chain-fits (g.B.Blocks.words c.args.blocks.now) c.args.first c.args.left c.next_of-next.result c.numbers_at-peer.result c.requires.there.0 c.requires.there.1 (omega (arith, c.if-left-eq0.false)) v c.requires.there.2 in
    let e : c.numbers_at-peer.result.current ≡ f.p.current = ap (λ (x : PeerNumbers). x.current) f.is in subst (λ z. z ≤ℤ pos (2 ^ 55)) (sym e) f.room.high

pub raised-raised-requires-clause-effective : goal.raised-raised-requires-clause-effective
raised-raised-requires-clause-effective g t c =
    let v : Visits (g.B.Blocks.words c.args.blocks.now) c.args.first c.next_of-next.result c.numbers_at-peer.result = record { next_is = c.next_of-next.ensures.value; value = c.numbers_at-peer.ensures.value } in
    let f = chain-fits (g.B.Blocks.words c.args.blocks.now) c.args.first c.args.left c.next_of-next.result c.numbers_at-peer.result c.requires.there.0 c.requires.there.1 (omega (arith, c.if-left-eq0.false)) v c.requires.there.2 in
    let e : c.numbers_at-peer.result.effective ≡ f.p.effective = ap (λ (x : PeerNumbers). x.effective) f.is in let w : c.numbers_at-peer.result.weight ≡ f.p.server.weight = ap (λ (x : PeerNumbers). x.weight) f.is in let r = f.room.effective in omega (arith, e, w, r)

pub raised-raised-requires-clause-weight : goal.raised-raised-requires-clause-weight
raised-raised-requires-clause-weight g t c =
    let v : Visits (g.B.Blocks.words c.args.blocks.now) c.args.first c.next_of-next.result c.numbers_at-peer.result = record { next_is = c.next_of-next.ensures.value; value = c.numbers_at-peer.ensures.value } in
    let f = chain-fits (g.B.Blocks.words c.args.blocks.now) c.args.first c.args.left c.next_of-next.result c.numbers_at-peer.result c.requires.there.0 c.requires.there.1 (omega (arith, c.if-left-eq0.false)) v c.requires.there.2 in
    let w : c.numbers_at-peer.result.weight ≡ f.p.server.weight = ap (λ (x : PeerNumbers). x.weight) f.is in let r = f.room.server.weight.1 in omega (arith, w, r)

pub set_numbers-requires : goal.set_numbers-requires
set_numbers-requires g t c =
    let v : Visits (g.B.Blocks.words c.args.blocks.now) c.args.first c.next_of-next.result c.numbers_at-peer.result = record { next_is = c.next_of-next.ensures.value; value = c.numbers_at-peer.ensures.value } in
    let there = chain-rest (g.B.Blocks.words c.args.blocks.now) c.args.first c.args.left c.next_of-next.result c.numbers_at-peer.result c.requires.there.0 c.requires.there.1 (omega (arith, c.if-left-eq0.false)) v c.requires.there.2 in
    let room : 13 ≤ length (g.B.Blocks.words c.args.blocks.now c.args.first) = chain-room (g.B.Blocks.words c.args.blocks.now) c.args.first c.args.left c.requires.there.0 c.requires.there.1 (omega (arith, c.if-left-eq0.false)) c.requires.there.2 in
    omega (arith, room, (c.raise_all-later.ensures.does there.0 there.1 there.2).changes.lengths c.args.first)

pub overflow_add-result : goal.overflow_add-result
overflow_add-result g t c =
    let v : Visits (g.B.Blocks.words c.args.blocks.now) c.args.first c.next_of-next.result c.numbers_at-peer.result = record { next_is = c.next_of-next.ensures.value; value = c.numbers_at-peer.ensures.value } in
    let f = chain-fits (g.B.Blocks.words c.args.blocks.now) c.args.first c.args.left c.next_of-next.result c.numbers_at-peer.result c.requires.there.0 c.requires.there.1 (omega (arith, c.if-left-eq0.false)) v c.requires.there.2 in
    let e : c.numbers_at-peer.result.effective ≡ f.p.effective = ap (λ (x : PeerNumbers). x.effective) f.is in let r = f.room.effective in let w = f.room.server.weight.1 in omega (arith, e, r, w, c.raise_all-later.ensures.few, c.requires.few)

pub returns-clause-few : goal.returns-clause-few
returns-clause-few g t c =
    let v : Visits (g.B.Blocks.words c.args.blocks.now) c.args.first c.next_of-next.result c.numbers_at-peer.result = record { next_is = c.next_of-next.ensures.value; value = c.numbers_at-peer.ensures.value } in
    let f = chain-fits (g.B.Blocks.words c.args.blocks.now) c.args.first c.args.left c.next_of-next.result c.numbers_at-peer.result c.requires.there.0 c.requires.there.1 (omega (arith, c.if-left-eq0.false)) v c.requires.there.2 in
    let e : c.numbers_at-peer.result.effective ≡ f.p.effective = ap (λ (x : PeerNumbers). x.effective) f.is in let r = f.room.effective in let w = f.room.server.weight.1 in omega (arith, e, r, w, c.raise_all-later.ensures.few, c.if-left-eq0.false)

pub returns-clause-does : goal.returns-clause-does
returns-clause-does g t c =
    let fits : FitsSigned w64 c.raised-raised.result.current = search rules in
    raise-take (g.B.Blocks.words c.args.blocks.now) (g.B.Blocks.words c.raise_all-later.new.blocks) (g.B.Blocks.words c.set_numbers.new.blocks) c.args.takers.now c.args.index c.args.first c.args.left c.next_of-next.result c.numbers_at-peer.result c.raised-raised.result c.raise_all-later.result _ c.nearer.result _ (to_z-of_z w64 c.raised-raised.result.current fits) (omega (arith, c.if-left-eq0.false)) (record { next_is = c.next_of-next.ensures.value; value = c.numbers_at-peer.ensures.value }) (cc) c.raised-raised.ensures c.raise_all-later.ensures.does c.set_numbers.ensures.sets c.nearer.ensures refl
