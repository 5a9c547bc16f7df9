use Rattle.std.proofs.Common.{ℕ, List, Option, ap, sym, ◌∙◌}
use Rattle.std.specs.Option.{option_and_then, option_copied}
use Rattle.zone_config.specs.declared.data.Upstream.{Upstream}
use Rattle.zone_config.specs.Configuration.{peers_named}
use Rattle.zone_config.proofs.names.NamedUpstreams.zone_of.Goals as goal

-- src/names.rt:68:5
pub returns-in-Some : goal.returns-in-Some
returns-in-Some c =
    ap (λ found. option_and_then (λ (zone : Option ℕ). zone) (option_copied found)) (sym c.in-Some.is)
    ∙ ap (option_and_then (λ (zone : Option ℕ). zone)) c.get.ensures.value
    ∙ c.self.invariant c.in_ok-name.name c.args.name.now c.in_ok-name.ensures.ok
    ∙ ap (λ (us : List Upstream). peers_named us c.args.name.now) c.self.view_is

-- src/names.rt:66:5
pub returns : goal.returns
returns c =
    ap (λ found. option_and_then (λ (zone : Option ℕ). zone) (option_copied found)) (sym c.in-None.is)
    ∙ ap (option_and_then (λ (zone : Option ℕ). zone)) c.get.ensures.value
    ∙ c.self.invariant c.in_ok-name.name c.args.name.now c.in_ok-name.ensures.ok
    ∙ ap (λ (us : List Upstream). peers_named us c.args.name.now) c.self.view_is
