use Rattle.std.proofs.Common.{◌≡◌, ◌∙◌, ◌++◌, List, map, sym, ap, subst}
use Rattle.std.specs.Prelude.{IfOk}
use Rattle.std.specs.List.{All}
use Rattle.std.proofs.lemmas.List.{map-append}
use Rattle.std.proofs.lemmas.List.Elements.{All-append}
use Rattle.replay_workers.specs.declared.passes.Played.{Played}
use Rattle.replay_workers.specs.Passes.{HasWorked, number_of_row, number_of_played}
use Rattle.replay_workers.specs.Tasks.{task_of}
use Rattle.replay_workers.proofs.Turning.{split-back}
use Rattle.replay_workers.proofs.work.+fn-work-join+arg2+fn-work-join+arg3+work.Goals as goal

pub returns-clause-worked : goal.returns-clause-worked
returns-clause-worked g n c =
    let P = HasWorked (task_of c.args.config.now c.args.lines.now c.args.workers c.args.zones.now c.args.rooms.now) in
    let one : All P c.in_ok-first.first.items = subst (λ r. IfOk r (λ done. All P done.items)) c.in_ok-first.was c.join-first.ensures.first.0 in
    let two : All P c.in_ok-second.second.items = subst (λ r. IfOk r (λ done. All P done.items)) c.in_ok-second.was c.join-first.ensures.second.0 in
    subst (λ (l : List Played). All P l) (sym c.in_ok-append.ensures.items) (All-append P c.in_ok-first.first.items c.in_ok-second.second.items one two)

pub returns-clause-numbers : goal.returns-clause-numbers
returns-clause-numbers g n c =
    let one : map number_of_played c.in_ok-first.first.items ≡ map number_of_row c.split_off.new.self.items = subst (λ r. IfOk r (λ done. map number_of_played done.items ≡ map number_of_row c.split_off.new.self.items)) c.in_ok-first.was c.join-first.ensures.first.1 in
    let two : map number_of_played c.in_ok-second.second.items ≡ map number_of_row c.in_ok-rest.rest.items = subst (λ r. IfOk r (λ done. map number_of_played done.items ≡ map number_of_row c.in_ok-rest.rest.items)) c.in_ok-second.was c.join-first.ensures.second.1 in
    ap (map number_of_played) c.in_ok-append.ensures.items ∙ map-append number_of_played c.in_ok-first.first.items c.in_ok-second.second.items
    ∙ ap (λ l. l ++ map number_of_played c.in_ok-second.second.items) one ∙ ap (λ l. map number_of_row c.split_off.new.self.items ++ l) two
    ∙ sym (map-append number_of_row c.split_off.new.self.items c.in_ok-rest.rest.items)
    ∙ ap (map number_of_row) (split-back c.args.rows.items c.split_off.new.self.items c.in_ok-rest.rest.items _ c.in_ok-rest.ensures.items c.in_ok-rest.ensures.tail)
