use Rattle.std.proofs.Common.{◌≡◌, ◌++◌, IfOk, sym, ◌∙◌, subst}
use Rattle.config_rules.specs.Rules.{Seen, form_rules, argument_rules, order_rules}
use Rattle.config_rules.specs.Views.{place_now}
use Rattle.config_rules.proofs.Fits.{front_broken, front_kept}
use Rattle.config_rules.proofs.rules.rule_of.Goals as goal

pub returns-in-Some : goal.returns-in-Some
returns-in-Some c =
    let seen : Seen = record { text = c.args.text.now; earlier = c.args.earlier.now; kind = c.args.kind; arguments = c.args.arguments.now; place = place_now c.args.place.now } in
    let form = sym (c.form_rule.ensures seen.text seen.earlier seen.arguments) ∙ c.in-Some.is in
    sym (front_broken (form_rules ++ argument_rules) order_rules seen c.in-Some.rule (front_broken form_rules argument_rules seen c.in-Some.rule form))

pub returns-in-Some-argument_rule : goal.returns-in-Some-argument_rule
returns-in-Some-argument_rule c =
    let seen : Seen = record { text = c.args.text.now; earlier = c.args.earlier.now; kind = c.args.kind; arguments = c.args.arguments.now; place = place_now c.args.place.now } in
    let form = sym (c.form_rule.ensures seen.text seen.earlier seen.arguments) ∙ c.in-None.is in
    let argument = sym (c.argument_rule.ensures seen.text seen.kind seen.place) ∙ c.in-Some-argument_rule.is in
    sym (front_broken (form_rules ++ argument_rules) order_rules seen c.in-Some-argument_rule.rule (front_kept form_rules argument_rules seen form ∙ argument))

pub returns-in-None-argument_rule : goal.returns-in-None-argument_rule
returns-in-None-argument_rule c =
    let seen : Seen = record { text = c.args.text.now; earlier = c.args.earlier.now; kind = c.args.kind; arguments = c.args.arguments.now; place = place_now c.args.place.now } in
    let form = sym (c.form_rule.ensures seen.text seen.earlier seen.arguments) ∙ c.in-None.is in
    let argument = sym (c.argument_rule.ensures seen.text seen.kind seen.place) ∙ c.in-None-argument_rule.is in
    subst (λ r. IfOk c.order_rule.result (λ rule. rule ≡ r))
    (sym (front_kept (form_rules ++ argument_rules) order_rules seen (front_kept form_rules argument_rules seen form ∙ argument)))
    c.order_rule.ensures
