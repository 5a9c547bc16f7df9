use Rattle.std.proofs.Common.{◌≡◌, ◌∙◌, ap, sym, false, true}
use Rattle.zone_config.specs.declared.data.Level.{Level}
use Rattle.request_script.specs.declared.progress.Progress.{Progress}
use Rattle.request_script.specs.Zones.{is_skipped}
use Rattle.request_script.specs.Progress.{level_of}
use Rattle.request_script.proofs.WalkLemmas.{reqs-asked, reqs-end, reqs-skipped}
use Rattle.request_script.proofs.reqs.walk_reqs.Goals as goal

pub limits-preserved : goal.limits-preserved
limits-preserved c =
    let are = c.as_slice-limits.ensures ∙ ap (λ (l : Level). l.req) c.level_at.ensures ∙ ap (λ (p : Progress). (level_of c.args.config.now p.opening).req) (sym c.limits.invariant.0) in
    let skipped : is_skipped 65535 c.in_ok-key.key ≡ true = sym c.is_skipped.ensures ∙ c.if-not-is_skipped.false in (
      c.limits.invariant.0,
      reqs-skipped c.args.config.now c.limits.progress c.limits.place c.as_slice-limits.result.now are _ c.limits-test.true (rw c.in_ok-key.ensures at skipped) ∙ c.limits.invariant.1,
    )

pub returns-then-not-is_skipped : goal.returns-then-not-is_skipped
returns-then-not-is_skipped c =
    let are = c.as_slice-limits.ensures ∙ ap (λ (l : Level). l.req) c.level_at.ensures ∙ ap (λ (p : Progress). (level_of c.args.config.now p.opening).req) (sym c.limits.invariant.0) in
    let asked : is_skipped 65535 c.in_ok-key.key ≡ false = sym c.is_skipped.ensures ∙ c.if-not-is_skipped.true in
    rw (c.in_ok-key.ensures, c.copy_of.ensures)
    (reqs-asked c.args.config.now c.limits.progress c.limits.place c.as_slice-limits.result.now are _ c.limits-test.true (rw c.in_ok-key.ensures at asked)
    ∙ c.limits.invariant.1)

pub returns : goal.returns
returns c =
    let are = c.as_slice-limits.ensures ∙ ap (λ (l : Level). l.req) c.level_at.ensures ∙ ap (λ (p : Progress). (level_of c.args.config.now p.opening).req) (sym c.limits.invariant.0) in
    let end = reqs-end c.args.config.now c.limits.progress c.limits.place c.as_slice-limits.result.now are c.limits-test.false ∙ c.limits.invariant.1 in
    rw (← end) c.walk_ends.ensures
