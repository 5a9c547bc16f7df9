use Rattle.std.proofs.Common.{ℕ, ◌≡◌, ◌++◌, ◌^◌, ◌<◌, List, ap, arith, get_or, subst, sym, ◌∙◌}
use Rattle.std.proofs.lemmas.List.{get_or_default}
use borrow.Author.Count.{below_more}
use Rattle.decision_text.specs.TailText.{words_text}
use Rattle.decision_text.proofs.TextLemmas.{words_grow, take_whole}
use Rattle.decision_text.proofs.tail.push_words.Goals as goal

pub loop-index-preserved : goal.loop-index-preserved
loop-index-preserved g c =
    let image = g.V.ZoneView.image c.args.zone.now in
    let small : c.word_at.result < 2 ^ 64 = omega arith in
    record {
      grown = words_grow c.args.text.now.items c.loop-index.text.items c.push_word.new.text.items image c.loop-index.index c.word_at.result
          (omega (arith, c.loop-index-test.true, c.words-index-end.ensures)) c.loop-index.invariant.grown c.in_ok-push_word.ensures c.word_at.ensures;
      wide = below_more (λ (k : ℕ). get_or image k 0 < 2 ^ 64) c.loop-index.index c.loop-index.invariant.wide (subst (λ (n : ℕ). n < 2 ^ 64) c.word_at.ensures small);
    }

pub returns-clause-text : goal.returns-clause-text
returns-clause-text g c =
    let image = g.V.ZoneView.image c.args.zone.now in
    c.loop-index.invariant.grown ∙ ap (λ (ws : List ℕ). c.args.text.now.items ++ words_text 0 ws) (take_whole image c.loop-index.index (omega (arith, c.loop-index-test.false, c.words-index-end.ensures)))

pub returns-clause-wide : goal.returns-clause-wide
returns-clause-wide g c k d low =
    let image = g.V.ZoneView.image c.args.zone.now in
    subst (λ (n : ℕ). n < 2 ^ 64) (get_or_default image k 0 d low) (c.loop-index.invariant.wide k (omega (arith, low, c.loop-index-test.false, c.words-index-end.ensures)))
