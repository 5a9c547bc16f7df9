use Rattle.std.proofs.Common.{ap, get_or}
use Rattle.replay_workers.specs.Passes.{Stand}
use Rattle.replay_workers.proofs.Asking.{found, may_call, has_asked, still_answers}
use Rattle.replay_workers.proofs.worker.WorkerAnswers.ask.Goals as goal

pub ask_zone-reply-requires : goal.ask_zone-reply-requires
ask_zone-reply-requires g c =
    let r = c.requires in
    let now = c.args.self.now in (
      r.0.place,
      (found r.0 now r.1 r.2 r.3 c.args.call r.4 r.5).spec,
      r.2,
      r.3,
      may_call r.0 now r.1 r.2 r.3 c.args.call r.4 r.5 c.self.inside.passes.items c.self.inside.zones.now c.zone_of-zone.result (get_or c.self.inside.zones.now c.zone_of-zone.result c.index-self-zone.result) c.index_mut.result.now
          (ap (λ (s : Stand). s.passes) c.self.view_is) (ap (λ (s : Stand). s.place.zones) c.self.view_is) c.zone_of-zone.ensures (ap (get_or c.self.inside.zones.now c.zone_of-zone.result) c.index-self-zone.is) c.index_mut.ensures.value,
    )

pub returns-clause-served : goal.returns-clause-served
returns-clause-served g c = λ start specs room asked h can.
    let now = c.args.self.now in
    let passes_are = ap (λ (s : Stand). s.passes) c.self.view_is in
    let may = may_call start now specs room asked c.args.call h can c.self.inside.passes.items c.self.inside.zones.now c.zone_of-zone.result (get_or c.self.inside.zones.now c.zone_of-zone.result c.index-self-zone.result) c.index_mut.result.now
    passes_are (ap (λ (s : Stand). s.place.zones) c.self.view_is) c.zone_of-zone.ensures (ap (get_or c.self.inside.zones.now c.zone_of-zone.result) c.index-self-zone.is) c.index_mut.ensures.value in
    let called = c.ask_zone-reply.ensures.called start.place (found start now specs room asked c.args.call h can).spec room asked may in
    still_answers start now specs room asked c.args.call h can _ c.ask_zone-reply.result (ap (λ (s : Stand). s.place) c.self.view_is)
    (has_asked start now specs room asked c.args.call h can c.self.inside.passes.items c.zone_of-zone.result c.ask_zone-reply.new.pass c.ask_zone-reply.result passes_are c.zone_of-zone.ensures called c.ask_zone-reply.ensures.kind)
