-- Some of three blocks in a queue.
use Rattle.std.proofs.Common.{ℕ, true, false, ◌≡◌, List, [], ◌∷◌, ◌++◌, length, Some, None, MatchOption, arith, inl, inr, subst, sym, refl}
use Rattle.std.specs.Option.{is_some}
use Rattle.std.specs.declared.option.Option.{Option}
use Rattle.zone_region.specs.declared.blocks.Block.{Block}
use Rattle.zone_region.specs.Words.{Words}
use Rattle.zone_region.specs.Members.{In, IsDistinct}
use Rattle.zone_region.proofs.HoldingLemmas.{holds_some, holds_kept}
use Rattle.zone_region.proofs.MembersLemmas.{In-more, In-middle}
use Rattle.offset_queue.specs.declared.queue.Queue.{Queue}
use Rattle.offset_queue.specs.Queue.{IsHead, IsQueue, CanPush, ChangesLinks}
use Rattle.offset_queue.proofs.Keeping.{can_push}
use Rattle.offset_tests.specs.Line.{full, FitsLine, IsLine, HasLine}

pub head_of : (m : Words) (q : Queue) → FitsLine m q → IsHead m q
head_of m q h = record { room = h.room.head; above = h.holds.above q.head.at (inl refl); below = h.holds.below q.head.at (inl refl) }

-- one more of the three can be put in
pub can_push_three : (m : Words) (q : Queue) (b : ℕ) (xs : List ℕ) → IsLine m q xs → In b full → (In b xs → ⊥) → CanPush m q 5 b xs
can_push_three m q b xs l one absent =
    let inside = λ (x : ℕ) (i : In x (b ∷ xs)). elim i as (λ _. In x full) [ inl e ↦ subst (λ (z : ℕ). In z full) (sym e) one | inr j ↦ l.within x j ] in
    let up = λ (x : ℕ) (i : In x (q.head.at ∷ b ∷ xs)). elim i as (λ _. In x (q.head.at ∷ full)) [ inl e ↦ inl e | inr j ↦ inr (inside x j) ] in
    let distinct : IsDistinct (q.head.at ∷ b ∷ xs) = (λ i. l.fits.holds.distinct.0 (inside q.head.at i), (absent, l.queue.holds.distinct.1)) in
    can_push m q 5 b xs (holds_some m (q.head.at ∷ full) (q.head.at ∷ b ∷ xs) distinct up l.fits.holds) (l.fits.room.entries b one) l.queue

fits_kept : (m n : Words) (q : Queue) → ((o : ℕ) → length (n o) ≡ length (m o)) → FitsLine m q → FitsLine n q
fits_kept m n q same f = record {
  holds = holds_kept m n (q.head.at ∷ full) (λ x i. same x) f.holds;
  room = record { head = omega (arith, same q.head.at, f.room.head); entries = λ x i. omega (arith, same x, f.room.entries x i) };
}

-- an empty queue
pub line_start : (m n : Words) (q : Queue) → FitsLine m q → IsQueue n q 5 [] → ChangesLinks m n q 5 [] → IsLine n q []
line_start m n q f queue c = record { fits = fits_kept m n q c.lengths f; within = λ x i. absurd i; queue = queue }

pub line_with : (m n : Words) (q : Queue) (b : ℕ) (xs : List ℕ) → IsLine m q xs → In b full → IsQueue n q 5 (b ∷ xs) → ChangesLinks m n q 5 (b ∷ xs) → IsLine n q (b ∷ xs)
line_with m n q b xs l one queue c = record {
  fits = fits_kept m n q c.lengths l.fits;
  within = λ x i. elim i [ inl e ↦ subst (λ (z : ℕ). In z full) (sym e) one | inr j ↦ l.within x j ];
  queue = queue;
}

pub line_without : (m n : Words) (q : Queue) (ys : List ℕ) (b : ℕ) (zs : List ℕ) → IsLine m q (ys ++ b ∷ zs) → IsQueue n q 5 (ys ++ zs) → ChangesLinks m n q 5 (ys ++ b ∷ zs) → IsLine n q (ys ++ zs)
line_without m n q ys b zs l queue c = record {
  fits = fits_kept m n q c.lengths l.fits;
  within = λ x i. l.within x (In-more x ys b zs i);
  queue = queue;
}

pub line_moved : (m n : Words) (q : Queue) (ys : List ℕ) (b : ℕ) (zs : List ℕ) → IsLine m q (ys ++ b ∷ zs) → IsQueue n q 5 (b ∷ ys ++ zs) → ChangesLinks m n q 5 (ys ++ b ∷ zs) → IsLine n q (b ∷ ys ++ zs)
line_moved m n q ys b zs l queue c = record {
  fits = fits_kept m n q c.lengths l.fits;
  within = λ x i. elim i [ inl e ↦ subst (λ (z : ℕ). In z full) (sym e) (l.within b (In-middle ys b zs)) | inr j ↦ l.within x (In-more x ys b zs j) ];
  queue = queue;
}

pub not_second : In 8320 (8192 ∷ []) → ⊥
not_second i = elim i [ inl e ↦ omega (arith, e) | inr none ↦ none ]

pub not_third : In 8448 (8320 ∷ 8192 ∷ []) → ⊥
not_third i = elim i [ inl e ↦ omega (arith, e) | inr j ↦ elim j [ inl e ↦ omega (arith, e) | inr none ↦ none ] ]

-- without a block at the back the queue is empty
pub line_emptied : (m : Words) (q : Queue) (h : HasLine m q) (back : Option Block) → is_some back ≡ false → MatchOption back (h.blocks ≡ []) (λ b. (ys : List ℕ) × (h.blocks ≡ ys ++ b.at ∷ [])) → IsLine m q []
line_emptied m q h None none e = subst (λ (xs : List ℕ). IsLine m q xs) e h.line
line_emptied m q h (Some b) none e = absurd (no none) where
  no : true ≡ false → ⊥
  no tf = cc
