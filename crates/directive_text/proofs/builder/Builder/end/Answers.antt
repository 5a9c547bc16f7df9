use Rattle.std.proofs.Common.{◌≡◌, true, sym, subst}
use Rattle.directive_text.specs.Internals.Progress.{Progress}
use Rattle.directive_text.proofs.Trees.{progress-end}
use Rattle.directive_text.proofs.builder.Builder.end.Goals as goal

pub returns : goal.returns
returns c =
    let pending = subst (λ (n : Progress). n.pending ≡ true) (sym c.self.view_is) c.requires in
    rw (c.in_ok-push.ensures.items, c.in_ok-words.ensures.same, c.in_ok-words.ensures.rest, ← c.self.view_is)
    (progress-end c.self.inside.open.items c.self.inside.done.items c.self.inside.line c.self.inside.words.items pending)
