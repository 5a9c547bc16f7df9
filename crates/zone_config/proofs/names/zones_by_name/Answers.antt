use Rattle.std.proofs.Common.{◌≡◌, ◌-◌, ◌<◌, List, ◌∷◌, suc, length, drop, ap, sym, ◌∙◌, subst, arith}
use Rattle.std.specs.Str.{str_to_ascii_lowercase}
use Rattle.std.proofs.Math.Seq.{drop-cons}
use Rattle.zone_config.specs.declared.data.Upstream.{Upstream}
use Rattle.zone_config.specs.Names.{FindsZones}
use Rattle.zone_config.proofs.ByName.{one_before}
use Rattle.zone_config.proofs.names.zones_by_name.Goals as goal

pub upstreams-preserved : goal.upstreams-preserved
upstreams-preserved c =
    let us = c.args.upstreams.now in
    let at = c.upstreams.at in
    let u = c.index-upstreams-at.result in
    let last : at - 1 < length us = omega arith in
    let after : suc (at - 1) ≡ at = omega arith in
    let split : drop (at - 1) us ≡ u ∷ drop at us = drop-cons us (at - 1) u last ∙ ap (λ (l : Upstream). l ∷ drop (suc (at - 1)) us) (sym c.index-upstreams-at.is) ∙ ap (λ n. u ∷ drop n us) after in
    record {
      within = omega arith;
      found = subst (λ (l : List Upstream). FindsZones c.insert.new.self l) (sym split)
          (one_before c.upstreams.zones c.insert.new.self c.in_ok-name.name u (drop at us) (c.in_ok-name.ensures.ok ∙ ap str_to_ascii_lowercase c.bytes.ensures) c.in_ok-insert.ensures.updates c.upstreams.invariant.found);
    }

pub returns : goal.returns
returns c =
    let none : c.upstreams.at ≡ 0 = omega arith in
    subst (λ n. FindsZones c.upstreams.zones (drop n c.args.upstreams.now)) none c.upstreams.invariant.found
