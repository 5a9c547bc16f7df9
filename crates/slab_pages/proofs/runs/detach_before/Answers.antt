use Rattle.std.proofs.Common.{ℕ, ◌≡◌, ◌⊎◌, List, subst, arith, inl, inr, ◌∙◌}
use Rattle.slab_model.specs.declared.runs.Run.{Run}
use Rattle.slab_pages.specs.RunSteps.{Detaches, IsBefore}
use Rattle.slab_pages.proofs.EdgeLemmas.{before_none, before_zero, before_first}
use Rattle.slab_pages.proofs.runs.detach_before.Goals as goal

-- a page that isn't the first of the zone
later : (count : ℕ) (words : List ℕ) (runs : List Run) (page : ℕ) → (page ≡ 0 → ⊥) → (page ≡ 0) ⊎ IsBefore count words runs page → IsBefore count words runs page
later count words runs page ne before = elim before [ inl e ↦ absurd (ne e) | inr b ↦ b ]

pub returns-then-page-eq0 : goal.returns-then-page-eq0
returns-then-page-eq0 c = λ count runs h before free. before_none count _ runs c.args.page h free (before_zero count _ runs c.args.page h c.if-page-eq0.true)

pub detach-requires : goal.detach-requires
detach-requires c =
    let w = c.requires in
    let e = c.in-Some.ensures w.0 w.1 w.2 (later w.0 _ w.1 c.args.page c.if-page-eq0.false w.3) in
    (w.0, w.1, w.2, (before_first w.0 _ w.1 c.args.page c.in-Some.first w.2 e.0 e.1).0)

pub returns-in-None : goal.returns-in-None
returns-in-None c = λ count runs h before free. before_none count _ runs c.args.page h free (c.in-None.ensures count runs h (later count _ runs c.args.page c.if-page-eq0.false before))

pub returns-in-Some : goal.returns-in-Some
returns-in-Some c = λ count runs h before free.
    let e = c.in-Some.ensures count runs h (later count _ runs c.args.page c.if-page-eq0.false before) in
    let f = before_first count _ runs c.args.page c.in-Some.first h e.0 e.1 in
    let d = c.detach.ensures count runs h f.0 in
    (d.pages_are ∙ f.1, subst (λ (k : ℕ). Detaches count runs c.args.region.now c.detach.new.region k c.detach.result) (omega (arith, d.pages_are, f.1, e.1)) d)
