use Rattle.std.proofs.Common.{subst, sym, ap, ◌∙◌}
use Rattle.conn_zone.specs.declared.calls.ConnCall.{ConnCall}
use Rattle.conn_zone.specs.declared.calls.ConnCall.TheVariants.{Open, Close}
use Rattle.conn_zone.specs.Object.{answer_of, zone_after, Ready}
use Rattle.conn_zone.specs.Layout.{Zone, Lays}
use Rattle.conn_zone.proofs.zone.ConnZoneZoneObject.apply.Goals as goal

pub invariant_of-self : goal.invariant_of-self
invariant_of-self g c =
    let s = c.requires.0 in
    let l = subst (λ (z : Zone). Lays z s) (sym c.self.view_is) c.requires.1 in
    let ready = subst (λ (call : ConnCall). Ready s call) c.in-Open.is c.requires.2 in
    (zone_after s (Open c.in-Open.key c.in-Open.limit), record { laid = c.open_connection.ensures.laid s l.laid ready; name_is = l.name_is })

pub invariant_of-self-in-Close : goal.invariant_of-self-in-Close
invariant_of-self-in-Close g c =
    let s = c.requires.0 in
    let l = subst (λ (z : Zone). Lays z s) (sym c.self.view_is) c.requires.1 in
    let ready = subst (λ (call : ConnCall). Ready s call) c.in-Close.is c.requires.2 in
    (zone_after s (Close c.in-Close.at), record { laid = c.close_connection.ensures.laid s l.laid ready; name_is = l.name_is })

pub returns-in-Open-clause-reply : goal.returns-in-Open-clause-reply
returns-in-Open-clause-reply g c s l ready =
    let inside = subst (λ (z : Zone). Lays z s) (sym c.self.view_is) l in
    c.open_connection.ensures.reply s inside.laid (subst (λ (call : ConnCall). Ready s call) c.in-Open.is ready) ∙ sym (ap (λ (call : ConnCall). answer_of s call) c.in-Open.is)

pub returns-in-Close-clause-reply : goal.returns-in-Close-clause-reply
returns-in-Close-clause-reply g c s l ready =
    let inside = subst (λ (z : Zone). Lays z s) (sym c.self.view_is) l in
    c.close_connection.ensures.reply s inside.laid (subst (λ (call : ConnCall). Ready s call) c.in-Close.is ready) ∙ sym (ap (λ (call : ConnCall). answer_of s call) c.in-Close.is)
