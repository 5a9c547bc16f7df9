use Rattle.std.proofs.Common.{◌≡◌, ℕ, Bool, true, false, List, [], ◌∷◌, ◌++◌, Ok, ap, sym, ◌∙◌}
use Rattle.std.specs.Option.{is_some}
use Rattle.std.specs.Ordering.{nat_cmp}
use Rattle.std.specs.Cmp.Lexicographic.{slice_cmp}
use Rattle.std.specs.BTreeMap.{get_by}
use Rattle.std.proofs.lemmas.Map.Text.{btree_map_updates_str}
use Rattle.zone_key.specs.declared.vars.Pair.{Pair}
use Rattle.replay_log.specs.Words.{pair_of, is_given}
use Rattle.replay_log.specs.Requests.{pairs_of}
use Rattle.replay_log.specs.Reading.{words_left}
use Rattle.replay_log.proofs.PairLemmas.{pairs_more, given_more}
use Rattle.replay_log.proofs.requests.read_pairs.Goals as goal

pub words-preserved : goal.words-preserved
words-preserved c =
    let pairs = c.words.pairs in
    let pair = c.in_ok-pair.pair in
    let key = c.in-Some-cut_pair.name.now in
    let fresh : is_given key pairs ≡ false = sym (c.words.invariant.known key) ∙ ap is_some (sym c.in_ok-insert.ensures.old) ∙ sym c.is_some.ensures ∙ c.if-is_some.false in
    let new : is_given pair.name pairs ≡ false = ap (λ (name : List ℕ). is_given name pairs) c.in_ok-pair.ensures.name ∙ fresh in
    let is : pair_of c.in-Some.word.now ≡ Ok pair = c.in-Some-cut_pair.ensures ∙ c.in_ok-pair.ensures.value in
    record {
      said = c.words.invariant.said ∙ ap (λ (ws : List (List ℕ)). pairs_of pairs ws) c.in-Some.ensures.0
          ∙ pairs_more pairs c.in-Some.word.now (words_left c.in-Some.behind) pair is new
          ∙ ap (λ (ps : List Pair). pairs_of ps (words_left c.in-Some.behind)) (sym c.in_ok-push.ensures.ok);
      known = λ name.
          ap is_some (btree_map_updates_str key c.words.names c.insert.new.self _ c.in_ok-insert.ensures.updates name)
          ∙ given_more pairs pair key name (get_by (λ k. slice_cmp nat_cmp name k.now) c.words.names) _ c.in_ok-pair.ensures.name (c.words.invariant.known name)
          ∙ ap (λ (ps : List Pair). is_given name ps) (sym c.in_ok-push.ensures.ok);
    }
