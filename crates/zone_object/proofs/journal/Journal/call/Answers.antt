use Rattle.std.proofs.Common.{◌<◌, length, sym, subst, arith}
use Rattle.zone_object.specs.History.{own, HasRun}
use Rattle.zone_object.proofs.Histories.{has_run-ready, has_run-apply}
use Rattle.zone_object.proofs.journal.Journal.call.Goals as goal

pub apply_uncounted-reply-requires : goal.apply_uncounted-reply-requires
apply_uncounted-reply-requires g c =
    let o = g.S.ZoneObject in
    let room : length c.self.inside.entries.items < c.self.inside.room = subst (λ j. length j.log < j.room) (sym c.self.view_is) c.requires.room in
    let may = subst (λ j. o.permits (own j.log c.args.who) c.args.call) (sym c.self.view_is) c.requires.permitted in
    has_run-ready o.is_quiet o.lays o.reply_of o.state_after o.permits o.ready g.met.S.ZoneObject.each_is_ready c.self.invariant.1.0 c.self.inside.object c.self.inside.entries.items c.args.who c.args.call c.self.invariant.1.1
    (omega (arith, c.self.ranges)) may

pub invariant_of-self : goal.invariant_of-self
invariant_of-self g c =
    let o = g.S.ZoneObject in
    let room : length c.self.inside.entries.items < c.self.inside.room = subst (λ j. length j.log < j.room) (sym c.self.view_is) c.requires.room in
    let may = subst (λ j. o.permits (own j.log c.args.who) c.args.call) (sym c.self.view_is) c.requires.permitted in
    let run = has_run-apply o.is_quiet o.lays o.reply_of o.state_after o.permits o.ready g.met.S.ZoneObject.each_is_ready c.self.invariant.1.0 c.self.inside.object c.apply_uncounted-reply.new.object c.self.inside.entries.items c.push_reserved.new.self.items c.args.who c.args.call c.apply_uncounted-reply.result
    c.self.invariant.1.1 (omega (arith, c.self.ranges)) may c.apply_uncounted-reply.ensures.reply c.apply_uncounted-reply.ensures.laid c.push_reserved.ensures.items in
    (omega (arith, c.self.invariant.0, c.push_reserved.ensures.capacity), (c.self.invariant.1.0, run))

pub returns-clause-run : goal.returns-clause-run
returns-clause-run g c s h =
    let o = g.S.ZoneObject in
    let room : length c.self.inside.entries.items < c.self.inside.room = subst (λ j. length j.log < j.room) (sym c.self.view_is) c.requires.room in
    let may = subst (λ j. o.permits (own j.log c.args.who) c.args.call) (sym c.self.view_is) c.requires.permitted in
    let before = subst (λ j. HasRun o.is_quiet o.lays o.reply_of o.state_after o.permits s j.object j.log) (sym c.self.view_is) h in
    has_run-apply o.is_quiet o.lays o.reply_of o.state_after o.permits o.ready g.met.S.ZoneObject.each_is_ready s c.self.inside.object c.apply_uncounted-reply.new.object c.self.inside.entries.items c.push_reserved.new.self.items c.args.who c.args.call c.apply_uncounted-reply.result
    before (omega (arith, c.self.ranges)) may c.apply_uncounted-reply.ensures.reply c.apply_uncounted-reply.ensures.laid c.push_reserved.ensures.items
