use Rattle.std.proofs.Common.{ℕ, ◌≡◌, ◌∷◌, [], ◌++◌, inl, inr, sym, ap, subst, ◌∙◌}
use Rattle.offset_queue.proofs.Joints.{back_found}
use Rattle.offset_queue.proofs.Queues.{last_cases}
use Rattle.offset_queue.proofs.queue.Queue.last.Goals as goal

pub prev-requires : goal.prev-requires
prev-requires g c = (c.requires.0, c.requires.1, inl c.head_of.ensures)

pub returns-then-back-self : goal.returns-then-back-self
returns-then-back-self g c = λ xs h.
    let e = ap (λ (a : ℕ × ℕ). a.0) (back_found _ _ _ xs _ _ h c.head_of.ensures c.prev.ensures) in
    elim (last_cases _ _ _ xs h) [ inl none ↦ none.0 | inr some ↦ absurd (some.2 (sym e ∙ c.if-back-self.true)) ]

pub returns-else-back-self : goal.returns-else-back-self
returns-else-back-self g c = λ xs h.
    let e = ap (λ (a : ℕ × ℕ). a.0) (back_found _ _ _ xs _ _ h c.head_of.ensures c.prev.ensures) in
    elim (last_cases _ _ _ xs h) [
      | inl none ↦ absurd (c.if-back-self.false (e ∙ none.1))
      | inr some ↦ (some.0, subst (λ (b : ℕ). xs ≡ some.0 ++ b ∷ []) (sym e) some.1)
    ]
