-- For callers: what a change of other words leaves of a queue, and when a block can be put in.
use Rattle.std.proofs.Common.{ℕ, ◌≡◌, ◌+◌, ◌*◌, ◌^◌, ◌<◌, ◌≤◌, List, ◌∷◌, length, inl, inr, ap, subst, sym, refl, arith, get_or}
use Rattle.zone_region.specs.Words.{Words, word_at}
use Rattle.zone_region.specs.Members.{In}
use Rattle.zone_region.specs.Granting.{GrantsWords, ReturnsWords}
use Rattle.zone_region.specs.Holding.{HoldsBlocks}
use Rattle.zone_region.proofs.GrantingLemmas.{granted_same, returned_same}
use Rattle.zone_region.proofs.HoldingLemmas.{holds_kept}
use Rattle.offset_queue.specs.declared.queue.Queue.{Queue}
use Rattle.offset_queue.specs.Queue.{head_joint, IsHead, IsQueue, CanPush}
use Rattle.offset_queue.proofs.Chains.{chain_kept}

-- the lengths of the head's block and of these, and their link words stay
pub record KeepsQueue (m n : Words) (q : Queue) (link : ℕ) (xs : List ℕ) : Type 0 where
  pub lengths : (z : ℕ) → In z (q.head.at ∷ xs) → length (n z) ≡ length (m z)
  pub head_prev : word_at n q.head.at q.at ≡ word_at m q.head.at q.at
  pub head_next : word_at n q.head.at (q.at + 1) ≡ word_at m q.head.at (q.at + 1)
  pub prevs : (z : ℕ) → In z xs → word_at n z link ≡ word_at m z link
  pub nexts : (z : ℕ) → In z xs → word_at n z (link + 1) ≡ word_at m z (link + 1)

pub kept_queue : (m n : Words) (q : Queue) (link : ℕ) (xs : List ℕ) → KeepsQueue m n q link xs → IsQueue m q link xs → IsQueue n q link xs
kept_queue m n q link xs k h = record {
  holds = holds_kept m n (q.head.at ∷ xs) k.lengths h.holds;
  room = record {
    head = omega (arith, k.lengths q.head.at (inl refl), h.room.head);
    entries = λ x i. omega (arith, k.lengths x (inr i), h.room.entries x i);
  };
  lays = chain_kept m n link (head_joint q) xs (head_joint q) k.head_next k.head_prev (λ x i. (k.prevs x i, k.nexts x i)) h.lays;
}

-- all the words of the head's block and of these blocks stay
pub kept_blocks : (m n : Words) (q : Queue) (link : ℕ) (xs : List ℕ) → ((z : ℕ) → In z (q.head.at ∷ xs) → n z ≡ m z) → KeepsQueue m n q link xs
kept_blocks m n q link xs same = record {
  lengths = λ z i. ap (λ ws. length ws) (same z i);
  head_prev = same_at_block q.head.at q.at (same q.head.at (inl refl));
  head_next = same_at_block q.head.at (q.at + 1) (same q.head.at (inl refl));
  prevs = λ z i. same_at_block z link (same z (inr i));
  nexts = λ z i. same_at_block z (link + 1) (same z (inr i));
} where
  same_at_block : (z i : ℕ) → n z ≡ m z → word_at n z i ≡ word_at m z i
  same_at_block z i e = ap (λ ws. get_or ws i 0) e

-- a grant of a block leaves a queue
pub granted_queue : (m n : Words) (at count : ℕ) (q : Queue) (link : ℕ) (xs : List ℕ) → GrantsWords m n at count → IsQueue m q link xs → IsQueue n q link xs
granted_queue m n at count q link xs g h =
    kept_queue m n q link xs (kept_blocks m n q link xs (granted_same m n at count (q.head.at ∷ xs) g h.holds.live)) h

-- and so does the return of a block that isn't the head's or an entry
pub returned_queue : (m n : Words) (at : ℕ) (q : Queue) (link : ℕ) (xs : List ℕ) → ReturnsWords m n at → (In at (q.head.at ∷ xs) → ⊥) → IsQueue m q link xs → IsQueue n q link xs
returned_queue m n at q link xs r out h =
    kept_queue m n q link xs (kept_blocks m n q link xs (returned_same m n at (q.head.at ∷ xs) r out)) h

-- a new block with room for two links, above offset 0 and below 2^63, can hold a head
pub granted_head : (m n : Words) (q : Queue) (count : ℕ) → GrantsWords m n q.head.at count → q.at + 2 ≤ count → 0 < q.head.at → q.head.at + 8 * count ≤ 2 ^ 63 → IsHead n q
granted_head m n q count g room above below = record {
  room = omega (arith, g.long, room);
  above = above;
  below = omega (arith, g.long, below);
}

-- a live block of no queue with room for its links can be put in
pub can_push : (m : Words) (q : Queue) (link b : ℕ) (xs : List ℕ) → HoldsBlocks m (q.head.at ∷ b ∷ xs) → link + 2 ≤ length (m b) → IsQueue m q link xs → CanPush m q link b xs
can_push m q link b xs holds room h = record {
  holds = holds;
  room = record {
    head = h.room.head;
    entries = λ x i. elim i [ inl e ↦ subst (λ (z : ℕ). link + 2 ≤ length (m z)) (sym e) room | inr j ↦ h.room.entries x j ];
  };
  lays = h.lays;
}
