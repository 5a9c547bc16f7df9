use Rattle.std.proofs.Common.{◌≡◌, true, sym, subst}
use Rattle.directive_text.specs.Internals.Progress.{Progress}
use Rattle.directive_text.proofs.Trees.{progress-open}
use Rattle.directive_text.proofs.builder.Builder.open.Goals as goal

pub returns : goal.returns
returns c =
    let pending = subst (λ (n : Progress). n.pending ≡ true) (sym c.self.view_is) c.requires in
    rw (c.in_ok-push.ensures.items, c.replace-before.ensures.value, c.replace-before.ensures.after, c.new.ensures.items, c.in_ok-words.ensures.same, c.in_ok-words.ensures.rest, ← c.self.view_is)
    (progress-open c.self.inside.open.items _ c.self.inside.line pending)
