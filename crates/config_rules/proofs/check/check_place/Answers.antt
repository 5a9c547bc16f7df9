use Rattle.std.proofs.Common.{◌+◌, ◌≤◌, List, sym, ◌∙◌, subst}
use Rattle.config_rules.specs.declared.argument.Argument.{Argument}
use Rattle.config_rules.specs.Arguments.{declared_size}
use Rattle.config_rules.specs.Rules.{Seen, bytes_or_none, first_said}
use Rattle.config_rules.specs.Views.{place_now}
use Rattle.config_rules.proofs.Fits.{zone_fits}
use Rattle.config_rules.proofs.check.check_place.Goals as goal

pub note-requires : goal.note-requires
note-requires c =
    let seen : Seen = record { text = c.args.text.now; earlier = c.args.earlier.now; kind = c.kind_at-kind.result; arguments = c.deref.result.now; place = place_now c.args.place.now } in
    let P : List Argument → Type 0 = λ args. c.args.earlier.now.zone_bytes + bytes_or_none (first_said declared_size args) ≤ 268435456 in
    subst P (c.deref.ensures.value ∙ sym c.deref-in-None.ensures.value)
    (zone_fits seen c.requires (sym c.in_ok-rule.ensures ∙ c.in-None.is))
