use Rattle.std.proofs.Common.{◌≡◌, false, sym, subst}
use Rattle.directive_text.specs.Internals.Progress.{Progress}
use Rattle.directive_text.proofs.Trees.{progress-close}
use Rattle.directive_text.proofs.builder.Builder.close.Goals as goal

pub returns-in_ok-push : goal.returns-in_ok-push
returns-in_ok-push c =
    let pending = subst (λ (n : Progress). n.pending ≡ false) (sym c.self.view_is) c.requires.pending in
    rw (c.in_ok-push.ensures.items, c.in_ok-exactly.ensures.same, c.replace-inner.ensures.value, c.replace-inner.ensures.after, ← c.self.view_is, c.in-Some.ensures.items)
    (progress-close c.pop.new.self.items c.in-Some.frame c.self.inside.done.items c.self.inside.line c.self.inside.words.items pending)
