use Rattle.std.proofs.Common.{◌≡◌, [], ◌++◌, sym, ap, refl, ◌∙◌, subst, arith}
use Rattle.std.specs.Prelude.{All}
use Rattle.std.proofs.lemmas.List.{append-nil}
use Rattle.crossbeam_queue.specs.Passes.{view}
use Rattle.shared_zone.proofs.RuleKept.{ends, closes}
use Rattle.shared_zone.proofs.Lists.{all_mid, nil_list}
use Rattle.shared_zone.proofs.Calls.{all_kept}
use Rattle.shared_zone.proofs.zone.gather.Goals as goal

pub loop-pass-init : goal.loop-pass-init
loop-pass-init g c =
    let t = c.take-turn.ensures.took in
    let p = c.take-turn.ensures.seat in (
      (p.0 ∙ ap (λ s. s.zone.id.table) c.first.view_is ∙ c.requires.first, p.2 ∙ c.first.invariant.0),
      refl,
      ap (λ v. v.holding) t.view,
      refl,
      [],
      sym (append-nil c.args.others.items),
      ap (λ v. v.ended) t.view,
    )

pub absorb-requires-clause-queue : goal.absorb-requires-clause-queue
absorb-requires-clause-queue g c =
    let i = c.loop-pass.invariant in
    let P = λ (s : _). s.zone ≡ c.args.first.zone in
    let all = subst (λ l. All P l) (i.5 ∙ ap (λ l. l ++ i.4) c.in-Some.ensures.items) c.requires.others in
    (i.0, (ap (λ s. s.zone.id.table) c.pass.view_is ∙ ap (λ z. z.id.table) (all_mid P _ c.in-Some.pass i.4 all) ∙ c.requires.first, c.pass.invariant.0))

pub absorb-requires-clause-rule : goal.absorb-requires-clause-rule
absorb-requires-clause-rule g c =
    let i = c.loop-pass.invariant in
    let t = c.take-turn.ensures.took in
    ends _ _ _ _ _ _ _ (i.1 ∙ ap (λ v. v.start) t.view ∙ c.first.invariant.1.1) c.pass.invariant.1.1 i.2 c.pass.invariant.3 c.pass.invariant.4

pub learn_as-requires-clause-rule : goal.learn_as-requires-clause-rule
learn_as-requires-clause-rule g c =
    let i = c.loop-pass.invariant in
    let t = c.take-turn.ensures.took in
    closes _ _ _ _ (i.1 ∙ ap (λ v. v.start) t.view ∙ c.first.invariant.1.1) i.2

pub returns-clause-others : goal.returns-clause-others
returns-clause-others g c =
    let i = c.loop-pass.invariant in
    let t = c.take-turn.ensures.took in
    let none : c.loop-pass.others.items ≡ [] = nil_list c.loop-pass.others.items (omega (arith, c.loop-pass.others.ok.0, c.in_default.ensures.cases.0)) in
    all_kept c.take-turn.result.log (view c.loop-pass.seat) c.args.others.items i.4 (i.3 ∙ ap (λ v. v.seen) t.view) (i.5 ∙ ap (λ l. l ++ i.4) none) i.6 c.learn_as.ensures.rule.1

pub returns-clause-run : goal.returns-clause-run
returns-clause-run g c =
    let i = c.first.invariant.1 in
    record { start = i.0; start_is = ap (λ s. s.zone.start) (sym c.first.view_is) ∙ i.1; run = c.take-turn.ensures.took.good i.0 i.1 }
