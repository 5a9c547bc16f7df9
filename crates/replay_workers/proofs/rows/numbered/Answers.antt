use Rattle.std.proofs.Common.{◌≡◌, ◌∙◌, ◌++◌, ◌∷◌, [], List, map, vec_items, sym, ap, subst, append_assoc, arith}
use Rattle.std.specs.Prelude.{ℕ, Some, slice_get}
use Rattle.std.proofs.lemmas.List.{map-append}
use Rattle.replay_workers.specs.declared.passes.Row.{Row}
use Rattle.replay_workers.specs.Passes.{passes_of_row}
use Rattle.replay_workers.proofs.Turning.{numbers-more}
use Rattle.replay_workers.proofs.rows.numbered.Goals as goal

pub loop-passes-preserved : goal.loop-passes-preserved
loop-passes-preserved c =
    let old = c.loop-passes.invariant in
    let rows = c.loop-passes.numbered in
    let row : Row = record { number = c.loop-passes.number; passes = c.in-Some.passes } in
    let new = map vec_items c.next.new.self.rest.items in
    record {
      passes = ap (λ l. map passes_of_row l ++ new) c.in_ok-push.ensures.items ∙ ap (λ l. l ++ new) (map-append passes_of_row rows.items (row ∷ [])) ∙ append_assoc (map passes_of_row rows.items) (c.in-Some.passes.items ∷ []) new
          ∙ ap (λ l. map passes_of_row rows.items ++ map vec_items l) (sym c.in-Some.ensures.steps.0) ∙ old.passes;
      number = omega (arith, c.in_ok-push.ensures.len, old.number);
      numbers = subst (λ (l : List Row). (k : ℕ) (r : Row) → slice_get l k ≡ Some r → r.number ≡ k) (sym c.in_ok-push.ensures.items) (numbers-more rows.items row old.numbers (sym old.number ∙ rows.ok.0));
    }
