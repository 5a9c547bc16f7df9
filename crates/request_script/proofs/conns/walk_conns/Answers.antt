use Rattle.std.proofs.Common.{◌≡◌, ◌∙◌, ap, sym, false, true}
use Rattle.zone_config.specs.declared.data.Level.{Level}
use Rattle.request_script.specs.declared.progress.Progress.{Progress}
use Rattle.request_script.specs.Zones.{is_skipped}
use Rattle.request_script.specs.Progress.{behind_conns, level_of}
use Rattle.request_script.proofs.WalkLemmas.{conns-asked, conns-end, conns-skipped}
use Rattle.request_script.proofs.conns.walk_conns.Goals as goal

pub limits-preserved : goal.limits-preserved
limits-preserved c =
    let are = c.as_slice-limits.ensures ∙ ap (λ (l : Level). l.conn) c.level_at.ensures ∙ ap (λ (p : Progress). (level_of c.args.config.now p.opening).conn) (sym c.limits.invariant.0) in
    let skipped : is_skipped 255 c.in_ok-key.key ≡ true = sym c.is_skipped.ensures ∙ c.if-not-is_skipped.false in (
      c.limits.invariant.0,
      conns-skipped c.args.config.now c.limits.progress c.limits.place c.as_slice-limits.result.now are _ c.limits-test.true (rw c.in_ok-key.ensures at skipped) ∙ c.limits.invariant.1,
    )

pub returns-then-not-is_skipped : goal.returns-then-not-is_skipped
returns-then-not-is_skipped c =
    let are = c.as_slice-limits.ensures ∙ ap (λ (l : Level). l.conn) c.level_at.ensures ∙ ap (λ (p : Progress). (level_of c.args.config.now p.opening).conn) (sym c.limits.invariant.0) in
    let asked : is_skipped 255 c.in_ok-key.key ≡ false = sym c.is_skipped.ensures ∙ c.if-not-is_skipped.true in
    rw (c.in_ok-key.ensures, c.copy_of.ensures)
    (conns-asked c.args.config.now c.limits.progress c.limits.place c.as_slice-limits.result.now are _ c.limits-test.true (rw c.in_ok-key.ensures at asked)
    ∙ c.limits.invariant.1)

pub returns : goal.returns
returns c =
    let are = c.as_slice-limits.ensures ∙ ap (λ (l : Level). l.conn) c.level_at.ensures ∙ ap (λ (p : Progress). (level_of c.args.config.now p.opening).conn) (sym c.limits.invariant.0) in
    let p = c.limits.progress in
    c.after_conns.ensures
    ∙ ap (λ conns. behind_conns c.args.config.now p.opening p.said conns p.opened) c.conn_passed-conns.ensures
    ∙ conns-end c.args.config.now p c.limits.place c.as_slice-limits.result.now are c.limits-test.false
    ∙ c.limits.invariant.1
