use Rattle.std.proofs.Common.{ℕ, ◌≡◌, ◌++◌, ◌<◌, ◌^◌, take, get_or}
use Rattle.decision_text.specs.TailText.{words_text}
use Rattle.decision_text.proofs.tail.push_words.Given as goal

abbrev pub invariant-loop-index : goal.invariant-loop-index
invariant-loop-index g l = record {
  grown : l.text.items ≡ l.initial.text.items ++ words_text 0 (take l.index (g.V.ZoneView.image l.zone));
  wide : (k : ℕ) → k < l.index → get_or (g.V.ZoneView.image l.zone) k 0 < 2 ^ 64;
}
