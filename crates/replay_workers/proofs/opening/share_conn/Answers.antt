use Rattle.std.proofs.Common.{◌≡◌, ◌∙◌, ◌++◌, ◌∷◌, [], List, map, sym, ap, append_assoc, append-nil}
use Rattle.replay_workers.specs.declared.passes.ZonePass.{ZonePass}
use Rattle.replay_workers.specs.declared.passes.ZonePass.TheVariants.{Conn}
use Rattle.replay_workers.proofs.ColumnCells.{no_rows}
use Rattle.replay_workers.proofs.NewPasses.{conn_opens}
use Rattle.replay_workers.proofs.opening.share_conn.Goals as goal

pub loop-pass-init : goal.loop-pass-init
loop-pass-init g c = ap (λ (l : List ZonePass). l ++ map Conn c.into_iter-pass-iterator.result.rest.items) c.in_ok-column.ensures.items

pub loop-pass-preserved : goal.loop-pass-preserved
loop-pass-preserved g c =
    ap (λ (l : List ZonePass). l ++ map Conn c.next.new.self.rest.items) c.in_ok-push.ensures.items
    ∙ append_assoc c.loop-pass.column.items (Conn c.in-Some.pass ∷ []) (map Conn c.next.new.self.rest.items)
    ∙ sym (ap (λ l. c.loop-pass.column.items ++ map Conn l) c.in-Some.ensures.steps.0) ∙ c.loop-pass.invariant

pub returns : goal.returns
returns g c = λ spec new.
    let passes = c.in_ok-zone.passes in
    let none = no_rows c.loop-pass.pass-iterator.rest.items (sym c.loop-pass.pass-iterator.rest.ok.0 ∙ c.in-None.ensures.steps.0) in
    let same : map Conn passes.items ≡ c.loop-pass.column.items =
    ap (map Conn) (sym c.into_iter-pass-iterator.ensures.into_iter_gives.0) ∙ sym c.loop-pass.invariant ∙ ap (λ l. c.loop-pass.column.items ++ map Conn l) none ∙ append-nil c.loop-pass.column.items in
    conn_opens spec c.args.zone c.in_ok-zone.zone c.args.rooms.now passes.items c.loop-pass.column.items new (sym passes.ok.0 ∙ c.in_ok-zone.ensures.count) c.in_ok-zone.ensures.begins same
