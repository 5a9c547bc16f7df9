use Rattle.std.proofs.Common.{◌≡◌, ◌∙◌, ap, inl, inr, w64, lit<, Bool, true, false, refl, rules}
use Rattle.std.proofs.lemmas.Int.{to_z-of_z}
use Rattle.std.specs.Int.{cast_signed, cast_unsigned, from_bool}
use Rattle.std.specs.Prelude.{FitsSigned}
use Rattle.peer_zone.specs.Words.{word_of_bool}
use Rattle.peer_zone.proofs.records.set_numbers.Goals as goal

as_word : (b : Bool) → from_bool b ≡ word_of_bool b
as_word true = refl
as_word false = refl

pub returns-clause-sets : goal.returns-clause-sets
returns-clause-sets g c =
    let w = c.write_words.ensures.writes in
    let fits : FitsSigned w64 c.args.n.current = search rules in
    let same : cast_signed w64 (cast_unsigned w64 c.args.n.current) ≡ c.args.n.current = to_z-of_z w64 c.args.n.current fits in
    record {
      lengths = w.lengths;
      others = w.others;
      next = w.outside 0 (inl (lit< tt));
      numbers = record {
        weight = w.written 0 (lit< tt);
        effective = w.written 1 (lit< tt);
        current = ap (λ x. cast_signed w64 x) (w.written 2 (lit< tt) ∙ c.cast_unsigned.ensures ∙ ap (λ z. cast_unsigned w64 z) same) ∙ same;
        conns = w.written 3 (lit< tt);
        max_conns = w.written 4 (lit< tt);
        fails = w.written 5 (lit< tt);
        max_fails = w.written 6 (lit< tt);
        fail_timeout = w.written 7 (lit< tt);
        checked = w.written 8 (lit< tt);
        accessed = w.written 9 (lit< tt);
        down = w.written 10 (lit< tt) ∙ c.from.ensures ∙ as_word c.args.n.down;
      };
      behind = λ i h. w.outside i (inr h);
    }
