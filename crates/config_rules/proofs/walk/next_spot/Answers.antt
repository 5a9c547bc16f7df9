use Rattle.std.proofs.Common.{◌≡◌, ◌++◌, ◌∷◌, [], List, take, get_or, sym, ◌∙◌, ap, subst}
use Rattle.std.specs.Option.{option_map}
use Rattle.config_rules.specs.declared.walk.Frame.{Frame}
use Rattle.config_rules.specs.Views.{scope_now}
use Rattle.config_rules.specs.Walking.{places_left}
use Rattle.config_rules.proofs.Walks.{places_left-push, frame_done, step_by, step_in}
use Rattle.config_rules.proofs.walk.next_spot.Goals as goal
use Rattle.config_rules.proofs.walk.next_spot.Goals.{in-Some-scope_within+in_ok-push-2, in_default-scope_within}

pub frames-preserved : goal.frames-preserved
frames-preserved c =
    sym (ap (λ ps. ps ++ places_left c.pop.new.self.items) (frame_done c.in-Some.frame c.if-at-scope.false))
    ∙ sym (places_left-push c.pop.new.self.items c.in-Some.frame)
    ∙ sym (ap places_left c.in-Some.ensures.items)
    ∙ c.frames.invariant

pub returns-then-at-scope : goal.returns-then-at-scope
returns-then-at-scope c =
    let f : Frame = c.in-Some.frame in
    let Left : List Frame → Type 0 = λ frames. places_left (c.pop.new.self.items ++ f ∷ [])
    ≡ record { scope = scope_now f.scope; before = take f.at f.scope.block.now; directive = get_or f.scope.block.now f.at c.index-scope-at.result } ∷ places_left frames in
    sym c.frames.invariant ∙ ap places_left c.in-Some.ensures.items
    ∙ elim c.match-scope_within.branch [
      | in-Some-scope_within+in_ok-push-2 w ↦
          let within = sym c.scope_within.ensures ∙ ap (option_map scope_now) w.in-Some-scope_within.is in
          let frames = ap (λ v. v.items) w.stack-is ∙ w.in_ok-push-2.ensures.items
          ∙ ap (λ fs. fs ++ record { scope = w.in-Some-scope_within.inner; at = 0 } ∷ []) c.in_ok-push.ensures.items in
          subst Left (sym frames) (step_in c.pop.new.self.items f c.index-scope-at.result w.in-Some-scope_within.inner c.if-at-scope.true c.index-scope-at.is within)
      | in_default-scope_within w ↦
          let within = sym c.scope_within.ensures ∙ ap (option_map scope_now) w.in_default-scope_within.is in
          let frames = ap (λ v. v.items) w.stack-is ∙ c.in_ok-push.ensures.items in
          subst Left (sym frames) (step_by c.pop.new.self.items f c.index-scope-at.result c.if-at-scope.true c.index-scope-at.is within)
    ]
