use Rattle.std.proofs.Common.{◌≡◌, ℕ, [], List}
use Rattle.std.specs.Option.{is_some}
use Rattle.std.specs.Ordering.{nat_cmp}
use Rattle.std.specs.Cmp.Lexicographic.{slice_cmp}
use Rattle.std.specs.BTreeMap.{get_by}
use Rattle.replay_log.specs.Words.{is_given}
use Rattle.replay_log.specs.Requests.{pairs_of}
use Rattle.replay_log.specs.Reading.{words_left, left_size}
use Rattle.replay_log.proofs.requests.read_pairs.Given as goal

abbrev pub invariant-words : goal.invariant-words
invariant-words l = record {
  said : pairs_of [] (words_left l.words) ≡ pairs_of l.pairs (words_left l.left);
  known : (name : List ℕ) → is_some (get_by (λ k. slice_cmp nat_cmp name k.now) l.names) ≡ is_given name l.pairs;
}

abbrev pub decreases-words : goal.decreases-words
decreases-words l = left_size l.left
