use Rattle.std.proofs.Common.{◌≡◌, ◌∙◌, [], length, map, replicate, sym, ap, subst, arith, vec_items, vec_len}
use Rattle.std.proofs.lemmas.List.Elements.{All-weaker}
use Rattle.replay_workers.specs.Transposing.{filled}
use Rattle.replay_workers.proofs.ColumnCells.{AreWide, wide, is_transposed, no_rows}
use Rattle.replay_workers.proofs.transposing.transpose.Goals as goal

pub loop-row-init : goal.loop-row-init
loop-row-init g c =
    let end : c.loop.counter ≡ c.args.width = omega (arith, c.loop-test.false, c.loop.auto.counter-end) in
    let given = c.into_iter-row-iterator.ensures.into_iter_gives.0 in
    let all = wide vec_items c.args.rows.items c.args.width (All-weaker (λ row. vec_len row ≡ c.args.width) (λ row. length row.items ≡ c.args.width) (λ row is. sym row.ok.0 ∙ is) c.args.rows.items c.requires) in
    record {
      wide = subst (λ l. AreWide c.args.width (map vec_items l)) (sym given) all;
      count = c.loop.invariant.count ∙ end;
      filled = ap (λ l. filled l (map vec_items c.into_iter-row-iterator.result.rest.items)) c.loop.invariant.empty ∙ ap (λ n. filled (replicate n []) (map vec_items c.into_iter-row-iterator.result.rest.items)) end
          ∙ ap (λ l. filled (replicate c.args.width []) (map vec_items l)) given;
    }

pub add_row-requires : goal.add_row-requires
add_row-requires g c =
    let all = subst (λ l. AreWide c.args.width (map vec_items l)) c.in-Some.ensures.steps.0 c.loop-row.invariant.wide in
    c.in-Some.row.ok.0 ∙ all.0 ∙ sym c.loop-row.invariant.count

pub loop-row-preserved : goal.loop-row-preserved
loop-row-preserved g c =
    let rest = c.in-Some.ensures.steps.0 in
    let all = subst (λ l. AreWide c.args.width (map vec_items l)) rest c.loop-row.invariant.wide in
    record {
      wide = all.1;
      count = c.in_ok-add_row.ensures.count ∙ c.loop-row.invariant.count;
      filled = ap (λ l. filled l (map vec_items c.next.new.self.rest.items)) c.in_ok-add_row.ensures.rows ∙ sym (ap (λ l. filled (map vec_items c.loop-row.columns.items) (map vec_items l)) rest) ∙ c.loop-row.invariant.filled;
    }

pub returns-clause-cells : goal.returns-clause-cells
returns-clause-cells g c =
    let end = no_rows c.loop-row.row-iterator.rest.items (sym c.loop-row.row-iterator.rest.ok.0 ∙ c.in-None.ensures.steps.0) in
    let all = wide vec_items c.args.rows.items c.args.width (All-weaker (λ row. vec_len row ≡ c.args.width) (λ row. length row.items ≡ c.args.width) (λ row is. sym row.ok.0 ∙ is) c.args.rows.items c.requires) in
    is_transposed (map vec_items c.args.rows.items) (map vec_items c.loop-row.columns.items) c.args.width all
    (sym (ap (λ l. filled (map vec_items c.loop-row.columns.items) (map vec_items l)) end) ∙ c.loop-row.invariant.filled)
