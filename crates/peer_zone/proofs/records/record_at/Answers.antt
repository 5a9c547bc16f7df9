use Rattle.std.proofs.Common.{◌≡◌, ◌≤◌, ◌∙◌, ap, sym, subst, length, get_or, arith}
use Rattle.zone_region.specs.Words.{word_at}
use Rattle.peer_zone.proofs.RecordLemmas.{record-room, record-next}
use Rattle.peer_zone.proofs.records.record_at.Goals as goal

pub next_of-at-requires : goal.next_of-at-requires
next_of-at-requires g c =
    let r = c.requires in
    let e : c.loop-passed.at ≡ get_or r.1 c.loop-passed._passed 0 = c.loop-passed.invariant.at r.0 r.1 r.2 r.3 r.4 in
    subst (λ x. 13 ≤ length (g.B.Blocks.words c.args.blocks.now x)) (sym e) (record-room (g.B.Blocks.words c.args.blocks.now) r.0 r.1 c.loop-passed._passed r.2 (omega (arith, r.4)))

pub loop-passed-preserved : goal.loop-passed-preserved
loop-passed-preserved g c =
    let m = g.B.Blocks.words c.args.blocks.now in
    record {
      at = λ ps ats laid first low.
          c.next_of-at.ensures.value
          ∙ ap (λ x. word_at m x 0) (c.loop-passed.invariant.at ps ats laid first low)
          ∙ record-next m ps ats c.loop-passed._passed laid (omega (arith, low))
          ∙ ap (λ k. get_or ats k 0) (omega arith);
      steps = omega arith;
    }
