use Rattle.std.proofs.Common.{List, ℕ, subst}
use Rattle.req_zone.specs.Object.{IsOpened, opened_zone}
use Rattle.req_zone.specs.Lays.{Lays}
use Rattle.zonereplay.proofs.one.open_zone.Goals as goal

pub returns-in-Ok : goal.returns-in-Ok
returns-in-Ok c =
    let named = c.in_ok-of.ensures in (
      subst (λ (name : List ℕ). Lays c.in-Ok.zone (opened_zone c.args.job.rate name c.args.job.bytes)) named c.in-Ok.ensures.laid.1,
      subst (λ (name : List ℕ). IsOpened (opened_zone c.args.job.rate name c.args.job.bytes)) named c.in-Ok.ensures.quiet,
    )
