use Rattle.std.proofs.Common.{[], ◌∷◌, ◌++◌, sym, refl, ap, ◌∙◌, subst}
use Rattle.zone_object.specs.History.{entry}
use Rattle.shared_zone.specs.Rule.{Within}
use Rattle.shared_zone.proofs.Calls.{room_left, history_of}
use Rattle.shared_zone.proofs.Rooms.{short_of, within_more}
use Rattle.shared_zone.proofs.zone.SharedZone.call.Goals as goal

pub call-reply-requires-clause-room : goal.call-reply-requires-clause-room
call-reply-requires-clause-room g c =
    let t = c.take-turn.ensures.took in
    let mine = room_left _ _ _ _ c.pass.inside.number _ _ _ t c.pass.invariant.2 refl refl refl c.pass.view_is refl c.requires.room in
    short_of c.take-turn.result.rooms c.take-turn.result.log c.pass.inside.number t.within mine

pub give-requires-clause-run : goal.give-requires-clause-run
give-requires-clause-run g c =
    let i = c.pass.invariant.1 in
    let t = c.take-turn.ensures.took in
    (i.0, ap (λ v. v.start) t.view ∙ i.1, c.call-reply.ensures.run i.0 (t.good i.0 i.1))

pub give-requires-clause-entry : goal.give-requires-clause-entry
give-requires-clause-entry g c =
    let t = c.take-turn.ensures.took in
    let e = entry c.pass.inside.number c.args.call c.call-reply.result in
    (e, c.call-reply.ensures.log ∙ ap (λ l. l ++ e ∷ []) (sym (ap (λ v. v.seen) t.view)), sym c.pass.invariant.2 ∙ sym (ap (λ v. v.number) t.view))

pub give-requires-clause-within : goal.give-requires-clause-within
give-requires-clause-within g c =
    let t = c.take-turn.ensures.took in
    let e = entry c.pass.inside.number c.args.call c.call-reply.result in
    let mine = room_left _ _ _ _ c.pass.inside.number _ _ _ t c.pass.invariant.2 refl refl refl c.pass.view_is refl c.requires.room in
    let w : Within c.take-turn.result.rooms (c.take-turn.result.log ++ e ∷ []) = within_more c.take-turn.result.rooms c.take-turn.result.log e t.within mine in
    subst (λ r. Within r c.call-reply.new.self.log) (sym c.call-reply.ensures.rooms) (subst (λ l. Within c.take-turn.result.rooms l) (sym c.call-reply.ensures.log) w)

pub returns-clause-history : goal.returns-clause-history
returns-clause-history g c =
    let i = c.pass.invariant.1 in
    let t = c.take-turn.ensures.took in
    let o = g.S.ZoneObject in
    history_of o.is_quiet o.lays o.reply_of o.state_after o.permits _ i.0 c.call-reply.new.self.object c.call-reply.new.self.log _
    (ap (λ s. s.zone.start) (sym c.pass.view_is) ∙ i.1) (ap (λ v. v.seen) c.give.ensures.gave) (c.call-reply.ensures.run i.0 (t.good i.0 i.1))
