use Rattle.std.proofs.Common.{ℕ, length, map, take, subst, sym}
use Rattle.std.proofs.lemmas.List.{length_push}
use Rattle.std.proofs.lemmas.Slice.Zip.{zip_turn, zip_end}
use Rattle.replay_workers.specs.Columns.{IsRunOf, log_left}
use Rattle.replay_text.proofs.Served.{as-many, one-at}
use Rattle.replay_text.proofs.WordsLemmas.{HasWords, AddsZone, no-words, words-grow, words-whole}
use Rattle.replay_text.proofs.left.push_histories_with_words.Goals as goal

pub loop-spec-init : goal.loop-spec-init
loop-spec-init c = no-words c.args.text.now.items

pub push_history_with_words-requires : goal.push_history_with_words-requires
push_history_with_words-requires c =
    let turn = zip_turn c.args.specs.now c.args.left.now c.loop-spec.yielded c.into_iter-spec-iterator.result c.loop-spec.spec-iterator c.next.new.self c.next.result (cc) (cc) c.loop-spec.yielded_by (c.in-Some.spec, c.in-Some.zone) c.in-Some.is c.next.ensures.steps in
    (c.requires.0, one-at (IsRunOf c.requires.0) c.args.specs.now c.args.left.now (length c.loop-spec.yielded) c.in-Some.spec.now c.in-Some.zone.now c.requires.1 turn.0 turn.1 (turn.2 c.in-Some.spec.now) (turn.3 c.in-Some.zone.now))

pub loop-spec-preserved : goal.loop-spec-preserved
loop-spec-preserved c =
    let turn = zip_turn c.args.specs.now c.args.left.now c.loop-spec.yielded c.into_iter-spec-iterator.result c.loop-spec.spec-iterator c.next.new.self c.next.result (cc) (cc) c.loop-spec.yielded_by (c.in-Some.spec, c.in-Some.zone) c.in-Some.is c.next.ensures.steps in
    let got = c.in_ok-push_history_with_words.ensures in
    let adds : AddsZone c.loop-spec.text.items c.push_history_with_words.new.text.items c.in-Some.spec.now (log_left c.in-Some.zone.now) = record { words = got.0; is = got.1; grown = got.2 } in
    subst (λ (n : ℕ). HasWords c.args.text.now.items c.push_history_with_words.new.text.items (take n c.args.specs.now) (map log_left (take n c.args.left.now))) (sym (length_push c.loop-spec.yielded (c.in-Some.spec, c.in-Some.zone)))
    (words-grow log_left c.args.text.now.items c.loop-spec.text.items c.push_history_with_words.new.text.items c.args.specs.now c.args.left.now (length c.loop-spec.yielded) c.in-Some.spec.now c.in-Some.zone.now
    turn.0 turn.1 (turn.2 c.in-Some.spec.now) (turn.3 c.in-Some.zone.now) c.loop-spec.invariant adds)

pub returns : goal.returns
returns c =
    let end = zip_end c.args.specs.now c.args.left.now c.loop-spec.yielded c.into_iter-spec-iterator.result c.loop-spec.spec-iterator c.next.new.self c.next.result (cc) (cc) c.loop-spec.yielded_by c.in-None.is c.next.ensures.steps in
    let all = words-whole log_left c.args.text.now.items c.loop-spec.text.items c.args.specs.now c.args.left.now (length c.loop-spec.yielded) (as-many (IsRunOf c.requires.0) c.args.specs.now c.args.left.now c.requires.1) end c.loop-spec.invariant in
    (all.images, all.are, all.grown)
