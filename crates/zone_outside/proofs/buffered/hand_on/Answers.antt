-- A write takes the front of what is left of the piece.
use Rattle.std.proofs.Common.{ℕ, List, take, drop, subst, sym, ◌∙◌, arith}
use Rattle.std.proofs.KnownBytes.{Appends-trans}
use Rattle.std.proofs.Math.Seq.{take-add}
use Rattle.std.proofs.lemmas.Grind.{common_steps}
use Rattle.std.proofs.lemmas.List.{take_rest}
use Rattle.std.specs.Io.KnownBytes.{Appends}
use Rattle.zone_outside.proofs.buffered.hand_on.Goals as goal

pub loop-done-preserved : goal.loop-done-preserved
loop-done-preserved g c =
    let piece = c.args.piece.now in
    let done = c.loop-done.done in
    let n = c.in-Ok.count in
    let before = g.K.Sink.taken c.loop-done.to in
    let after = g.K.Sink.taken c.write.new.self in
    let took : Appends before after (take n (drop done piece)) =
    subst (λ (xs : List ℕ). Appends before after (take n xs)) (take_rest piece done) c.in-Ok.ensures.bytes in
    record {
      calm = c.in-Ok.ensures.calm ∙ c.loop-done.invariant.calm;
      within = grind (arith, common_steps);
      taken = subst (Appends _ _) (sym (take-add done n piece)) (Appends-trans _ _ _ _ _ c.loop-done.invariant.taken took);
    }
