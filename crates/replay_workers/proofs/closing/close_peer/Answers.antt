use Rattle.std.proofs.Common.{◌∙◌, ◌++◌, ◌∷◌, [], List, map, length, sym, ap, append_assoc, append-nil, arith}
use Rattle.std.proofs.lemmas.List.{map-append}
use Rattle.std.specs.Prelude.{slice_get}
use Rattle.replay_workers.specs.declared.passes.ZonePass.{ZonePass}
use Rattle.replay_workers.specs.declared.passes.ZonePass.TheVariants.{Req, Conn, Peer}
use Rattle.replay_workers.proofs.ColumnCells.{no_rows}
use Rattle.replay_workers.proofs.Ended.{next-at, not_peer_req, not_peer_conn, peer_some, peer_zone, peer_closed}
use Rattle.replay_workers.proofs.closing.close_peer.Goals as goal

pub loop-pass-init : goal.loop-pass-init
loop-pass-init g c = ap (λ l. map Peer l ++ c.into_iter-pass-iterator.result.rest.items) c.in_ok-passes.ensures.items ∙ c.into_iter-pass-iterator.ensures.into_iter_gives.0

pub loop-pass-preserved : goal.loop-pass-preserved
loop-pass-preserved g c =
    let rest = c.in-Some.ensures.steps.0 in
    let new = c.next.new.self.rest.items in
    ap (λ l. map Peer l ++ new) c.in_ok-push-in-Peer.ensures.items ∙ ap (λ (l : List ZonePass). l ++ new) (map-append Peer c.loop-pass.passes.items (c.in-Peer.pass ∷ [])) ∙ append_assoc (map Peer c.loop-pass.passes.items) (Peer c.in-Peer.pass ∷ []) new
    ∙ ap (λ (l : List ZonePass). map Peer c.loop-pass.passes.items ++ l) (sym (rest ∙ ap (λ (p : ZonePass). p ∷ new) c.in-Peer.is)) ∙ c.loop-pass.invariant

pub unreachable-requires : goal.unreachable-requires
unreachable-requires g c =
    let r = c.requires in
    let rest = c.in-Some.ensures.steps.0 in
    let at = sym (ap (λ (l : List ZonePass). slice_get l (length c.loop-pass.passes.items)) (ap (λ (l : List ZonePass). map Peer c.loop-pass.passes.items ++ l) (sym (rest ∙ ap (λ (p : ZonePass). p ∷ c.next.new.self.rest.items) c.in-Req.is)) ∙ c.loop-pass.invariant)) ∙ next-at Peer c.loop-pass.passes.items (Req c.in-Req.pass) c.next.new.self.rest.items in
    not_peer_req r.0 r.1 r.2 (length c.loop-pass.passes.items) r.3 c.in-Req.pass r.4 (r.7.each (length c.loop-pass.passes.items) (Req c.in-Req.pass) at)

pub unreachable-requires-in-Conn : goal.unreachable-requires-in-Conn
unreachable-requires-in-Conn g c =
    let r = c.requires in
    let rest = c.in-Some.ensures.steps.0 in
    let at = sym (ap (λ (l : List ZonePass). slice_get l (length c.loop-pass.passes.items)) (ap (λ (l : List ZonePass). map Peer c.loop-pass.passes.items ++ l) (sym (rest ∙ ap (λ (p : ZonePass). p ∷ c.next.new.self.rest.items) c.in-Conn.is)) ∙ c.loop-pass.invariant)) ∙ next-at Peer c.loop-pass.passes.items (Conn c.in-Conn.pass) c.next.new.self.rest.items in
    not_peer_conn r.0 r.1 r.2 (length c.loop-pass.passes.items) r.3 c.in-Conn.pass r.4 (r.7.each (length c.loop-pass.passes.items) (Conn c.in-Conn.pass) at)

pub close-zone-requires-clause-some : goal.close-zone-requires-clause-some
close-zone-requires-clause-some g c =
    let r = c.requires in
    let none = no_rows c.loop-pass.pass-iterator.rest.items (sym c.loop-pass.pass-iterator.rest.ok.0 ∙ c.in-None.ensures.steps.0) in
    let same = sym (append-nil (map Peer c.loop-pass.passes.items)) ∙ sym (ap (λ (l : List ZonePass). map Peer c.loop-pass.passes.items ++ l) none) ∙ c.loop-pass.invariant in
    omega (arith, c.loop-pass.passes.ok.0, peer_some c.args.zone r.0 r.1 r.2 r.3 c.args.column.items c.loop-pass.passes.items r.4 r.5 r.6 r.7 same)

pub close-zone-requires-clause-zone : goal.close-zone-requires-clause-zone
close-zone-requires-clause-zone g c =
    let r = c.requires in
    let none = no_rows c.loop-pass.pass-iterator.rest.items (sym c.loop-pass.pass-iterator.rest.ok.0 ∙ c.in-None.ensures.steps.0) in
    let same = sym (append-nil (map Peer c.loop-pass.passes.items)) ∙ sym (ap (λ (l : List ZonePass). map Peer c.loop-pass.passes.items ++ l) none) ∙ c.loop-pass.invariant in
    peer_zone c.args.zone r.0 r.1 r.2 r.3 c.args.column.items c.loop-pass.passes.items r.4 r.5 r.6 r.7 same

pub returns : goal.returns
returns g c = λ zones rooms z spec kind there some at.
    let none = no_rows c.loop-pass.pass-iterator.rest.items (sym c.loop-pass.pass-iterator.rest.ok.0 ∙ c.in-None.ensures.steps.0) in
    let same = sym (append-nil (map Peer c.loop-pass.passes.items)) ∙ sym (ap (λ (l : List ZonePass). map Peer c.loop-pass.passes.items ++ l) none) ∙ c.loop-pass.invariant in
    peer_closed c.args.zone zones rooms z spec c.args.column.items c.loop-pass.passes.items kind there some at same c.close-zone.result.0 c.close-zone.result.1 c.close-zone.ensures.run c.close-zone.ensures.passes c.close-zone.ensures.others
