use Rattle.std.proofs.Common.{List, ℕ, ap, ◌∙◌}
use Rattle.std.specs.List.{list_any}
use Rattle.config_rules.specs.Names.{has_bytes}
use Rattle.config_rules.specs.Words.{is_same_name}
use Rattle.config_rules.proofs.Sets.{caseless}
use Rattle.config_rules.proofs.names.CaselessNames.has.Goals as goal

pub returns : goal.returns
returns c =
    c.has_bytes.ensures
    ∙ ap (λ (bytes : List ℕ). has_bytes bytes c.self.inside.known) (c.deref.ensures.value ∙ c.in_ok-bytes.ensures.ok)
    ∙ c.self.invariant _
    ∙ caseless c.args.name.now c.self.inside.names
    ∙ ap (λ (names : List (List ℕ)). list_any (is_same_name c.args.name.now) names) c.self.view_is
