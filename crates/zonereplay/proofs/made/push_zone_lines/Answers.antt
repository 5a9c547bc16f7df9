use Rattle.std.proofs.Common.{◌≡◌, ◌++◌, ℕ, length, map, take, subst, sym, append-nil}
use Rattle.std.proofs.lemmas.List.{length_push}
use Rattle.std.proofs.lemmas.Slice.Zip.{zip_turn, zip_end}
use Rattle.replay_share.specs.Journals.{IsJournalOf, log_of}
use Rattle.replay_text.proofs.Served.{one-at}
use Rattle.made_log.specs.Summary.{zone_lines}
use Rattle.zonereplay.proofs.MadeLemmas.{zones-grow, zones-whole}
use Rattle.zonereplay.proofs.made.push_zone_lines.Goals as goal

pub loop-spec-init : goal.loop-spec-init
loop-spec-init c = sym (append-nil c.args.text.now.items)

pub push_zone_summary-requires : goal.push_zone_summary-requires
push_zone_summary-requires c =
    let turn = zip_turn c.args.specs.now c.args.zones.now c.loop-spec.yielded c.into_iter-spec-iterator.result c.loop-spec.spec-iterator c.next.new.self c.next.result (cc) (cc) c.loop-spec.yielded_by (c.in-Some.spec, c.in-Some.journal) c.in-Some.is c.next.ensures.steps in
    (c.requires.0, one-at (IsJournalOf c.requires.0) c.args.specs.now c.args.zones.now (length c.loop-spec.yielded) c.in-Some.spec.now c.in-Some.journal.now c.requires.2.each turn.0 turn.1 (turn.2 c.in-Some.spec.now) (turn.3 c.in-Some.journal.now))

pub loop-spec-preserved : goal.loop-spec-preserved
loop-spec-preserved c =
    let turn = zip_turn c.args.specs.now c.args.zones.now c.loop-spec.yielded c.into_iter-spec-iterator.result c.loop-spec.spec-iterator c.next.new.self c.next.result (cc) (cc) c.loop-spec.yielded_by (c.in-Some.spec, c.in-Some.journal) c.in-Some.is c.next.ensures.steps in
    let served = one-at (IsJournalOf c.requires.0) c.args.specs.now c.args.zones.now (length c.loop-spec.yielded) c.in-Some.spec.now c.in-Some.journal.now c.requires.2.each turn.0 turn.1 (turn.2 c.in-Some.spec.now) (turn.3 c.in-Some.journal.now) in
    subst (λ (n : ℕ). c.push_zone_summary.new.text.items ≡ c.args.text.now.items ++ zone_lines (take n c.args.specs.now) (map log_of (take n c.args.zones.now))) (sym (length_push c.loop-spec.yielded (c.in-Some.spec, c.in-Some.journal)))
    (zones-grow c.args.text.now.items c.loop-spec.text.items c.push_zone_summary.new.text.items c.args.specs.now c.args.zones.now (length c.loop-spec.yielded) c.in-Some.spec.now c.in-Some.journal.now
    turn.0 turn.1 (turn.2 c.in-Some.spec.now) (turn.3 c.in-Some.journal.now) c.loop-spec.invariant (c.in_ok-push_zone_summary.ensures c.requires.0 served))

pub returns : goal.returns
returns c room asked serves =
    let end = zip_end c.args.specs.now c.args.zones.now c.loop-spec.yielded c.into_iter-spec-iterator.result c.loop-spec.spec-iterator c.next.new.self c.next.result (cc) (cc) c.loop-spec.yielded_by c.in-None.is c.next.ensures.steps in
    zones-whole c.args.text.now.items c.loop-spec.text.items room c.args.specs.now c.args.zones.now (length c.loop-spec.yielded) serves.each end c.loop-spec.invariant
