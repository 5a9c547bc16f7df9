use Rattle.std.proofs.Common.{◌≡◌, ℕ, ◌-◌, List, Some, cond, drop, ap, sym, ◌∙◌, arith}
use Rattle.std.specs.List.{position_from}
use Rattle.std.specs.Ordering.{nat_cmp}
use Rattle.std.specs.Str.{bytes_eq}
use Rattle.std.specs.Cmp.Lexicographic.{slice_cmp}
use Rattle.std.specs.BTreeMap.{get_by}
use Rattle.std.proofs.lemmas.Map.Text.{btree_map_updates_str}
use Rattle.zone_config.specs.declared.data.Level.{Level}
use Rattle.replay_log.proofs.LocationLemmas.{is_called, position_before, position_whole}
use Rattle.replay_log.proofs.locations.numbers_of.Goals as goal

pub levels-preserved : goal.levels-preserved
levels-preserved c = record {
  within = omega arith;
  found = λ name.
      btree_map_updates_str c.bytes.result.now c.levels.numbers c.insert.new.self _ c.in_ok-insert.ensures.updates name
      ∙ ap (λ (text : List ℕ). cond (bytes_eq text name) (Some (c.levels.at - 1)) (get_by (λ k. slice_cmp nat_cmp name k.now) c.levels.numbers)) c.bytes.ensures
      ∙ ap (λ (level : Level). cond (bytes_eq level.name name) (Some (c.levels.at - 1)) (get_by (λ k. slice_cmp nat_cmp name k.now) c.levels.numbers)) (sym c.index-levels-at.is)
      ∙ ap (cond (is_called name c.index-levels-at.result) (Some (c.levels.at - 1))) (c.levels.invariant.found name)
      ∙ sym (position_before c.args.levels.now c.levels.at c.index-levels-at.result name c.levels-test.true c.levels.invariant.within c.index-levels-at.is);
}

pub returns : goal.returns
returns c = λ name.
    let none : c.levels.at ≡ 0 = omega arith in
    c.levels.invariant.found name
    ∙ ap (λ n. position_from (is_called name) n (drop n c.args.levels.now)) none
    ∙ position_whole c.args.levels.now name
