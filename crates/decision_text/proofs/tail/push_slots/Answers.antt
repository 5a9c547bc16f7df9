use Rattle.std.proofs.Common.{◌∙◌, ◌++◌, List, ℕ, ap, arith}
use Rattle.slab_model.specs.declared.stat.Stat.{Stat}
use Rattle.decision_text.specs.TailText.{slots_text}
use Rattle.decision_text.proofs.TextLemmas.{slots_grow, take_whole}
use Rattle.decision_text.proofs.tail.push_slots.Goals as goal

pub loop-class-preserved : goal.loop-class-preserved
loop-class-preserved g c s laid =
    slots_grow c.args.text.now.items c.loop-class.text.items c.push_asked.new.text.items (g.V.ZoneView.stats_in s) c.loop-class.class c.stat_of.result
    (c.loop-class.invariant s laid) c.in_ok-push_asked.ensures (c.stat_of.ensures s laid)

pub returns : goal.returns
returns g c s laid few =
    let stats = g.V.ZoneView.stats_in s in
    c.loop-class.invariant s laid ∙ ap (λ (xs : List Stat). c.args.text.now.items ++ slots_text 0 xs) (take_whole stats c.loop-class.class (omega (arith, few, c.loop-class-test.false)))
