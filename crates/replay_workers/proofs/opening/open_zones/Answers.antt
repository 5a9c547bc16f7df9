use Rattle.std.proofs.Common.{◌≡◌, ◌∙◌, ◌++◌, ◌∷◌, [], ◌+◌, List, map, take, vec_items, sym, ap, subst}
use Rattle.std.proofs.lemmas.List.{map-append, take_more}
use Rattle.std.proofs.lemmas.Option.{slice_get-get_or}
use Rattle.std.specs.Prelude.{Some}
use Rattle.zone_config.specs.declared.data.ZoneSpec.{ZoneSpec}
use Rattle.replay_workers.specs.declared.passes.Shared.{Shared}
use Rattle.replay_workers.specs.declared.passes.ZonePass.{ZonePass}
use Rattle.replay_workers.specs.Zones.{AreOpened}
use Rattle.replay_workers.proofs.NewPasses.{opened-more, none_refused}
use Rattle.replay_workers.proofs.opening.open_zones.Goals as goal

pub loop-spec-preserved : goal.loop-spec-preserved
loop-spec-preserved g c =
    let specs = c.args.specs.now in
    let i = c.loop-spec.spec-index in
    let spec = c.spec-item.result in
    let taken : take (i + 1) specs ≡ take i specs ++ spec ∷ [] = take_more specs i spec c.loop-spec-test.true ∙ ap (λ (x : ZoneSpec). take i specs ++ x ∷ []) (sym c.spec-item.is) in
    let columns : map vec_items c.push-in-loop-spec.new.self.items ≡ map vec_items c.loop-spec.columns.items ++ c.in_ok-zone.column.items ∷ [] =
    ap (map vec_items) c.in_ok-push-2.ensures.items ∙ map-append vec_items c.loop-spec.columns.items (c.in_ok-zone.column ∷ []) in
    let more = opened-more c.args.rooms.now (take i specs) c.loop-spec.zones.items (map vec_items c.loop-spec.columns.items) spec c.in_ok-zone.zone c.in_ok-zone.column.items c.loop-spec.invariant c.in_ok-zone.ensures in
    subst (λ (l : List ZoneSpec). AreOpened c.args.rooms.now l c.push.new.self.items (map vec_items c.push-in-loop-spec.new.self.items)) (sym taken)
    (subst (λ (l : List Shared). AreOpened c.args.rooms.now (take i specs ++ spec ∷ []) l (map vec_items c.push-in-loop-spec.new.self.items)) (sym c.in_ok-push.ensures.items)
    (subst (λ (l : List (List ZonePass)). AreOpened c.args.rooms.now (take i specs ++ spec ∷ []) (c.loop-spec.zones.items ++ c.in_ok-zone.zone ∷ []) l) (sym columns) more))

pub open_shared-requires-clause-opens : goal.open_shared-requires-clause-opens
open_shared-requires-clause-opens g c = none_refused c.args.specs.now c.loop-spec.spec-index c.spec-item.result c.requires.opens (slice_get-get_or c.args.specs.now c.loop-spec.spec-index c.spec-item.result c.loop-spec-test.true ∙ ap Some (sym c.spec-item.is))
