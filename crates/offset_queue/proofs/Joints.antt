-- The joints of a queue: where they stand, what is beside them, and what linking two of them leaves.
use Rattle.std.proofs.Common.{ℕ, ◌≡◌, ◌≢◌, ◌+◌, ◌*◌, ◌^◌, ◌≤◌, List, [], ◌∷◌, ◌++◌, length, inl, inr, sym, ap, subst, ◌∙◌, refl, arith}
use Rattle.std.proofs.lemmas.Grind.{common_steps}
use Rattle.zone_region.specs.Words.{Words, word_at}
use Rattle.zone_region.specs.Members.{In, IsDistinct}
use Rattle.zone_region.specs.Holding.{HoldsBlocks}
use Rattle.zone_region.proofs.MembersLemmas.{In-append_left, In-append_right, In-split}
use Rattle.offset_queue.specs.declared.queue.Queue.{Queue}
use Rattle.offset_queue.specs.Queue.{joint_offset, head_joint, AreLinked, HasLinks, IsQueue, ChangesLinks}
use Rattle.offset_queue.specs.Inside.{IsJoint, joint_from, Joins}
use Rattle.offset_queue.proofs.Chains.{front_of, back_of, chain_front, chain_back, chain_split, back_in}

-- the block of a joint is one of the queue's
pub joint_in : (q : Queue) (link : ℕ) (xs : List ℕ) (a : ℕ × ℕ) → IsJoint q link xs a → In a.0 (q.head.at ∷ xs)
joint_in q link xs a i = elim i [ inl e ↦ inl (ap (λ (p : ℕ × ℕ). p.0) e) | inr k ↦ inr k.0 ]

pub joint_room : (m : Words) (q : Queue) (link : ℕ) (xs : List ℕ) (a : ℕ × ℕ) → HasLinks m q link xs → IsJoint q link xs a → a.1 + 2 ≤ length (m a.0)
joint_room m q link xs a h i = elim i [
  | inl e ↦ subst (λ (p : ℕ × ℕ). p.1 + 2 ≤ length (m p.0)) (sym e) h.head
  | inr k ↦ subst (λ (j : ℕ). j + 2 ≤ length (m a.0)) (sym k.1) (h.entries a.0 k.0)
]

pub joint_ends : (m : Words) (q : Queue) (link : ℕ) (xs : List ℕ) (a : ℕ × ℕ) → HoldsBlocks m (q.head.at ∷ xs) → IsJoint q link xs a → a.0 + 8 * length (m a.0) ≤ 2 ^ 63
joint_ends m q link xs a h i = h.below a.0 (joint_in q link xs a i)

-- two joints of one block are one
pub joint_alone : (q : Queue) (link : ℕ) (xs : List ℕ) (a b : ℕ × ℕ) → IsDistinct (q.head.at ∷ xs) → IsJoint q link xs a → IsJoint q link xs b → a.0 ≡ b.0 → a.1 ≡ b.1
joint_alone q link xs a b d i j e = elim i [
  | inl h ↦ elim j [
    | inl k ↦ ap (λ (p : ℕ × ℕ). p.1) h ∙ sym (ap (λ (p : ℕ × ℕ). p.1) k)
    | inr k ↦ absurd (d.0 (subst (λ (n : ℕ). In n xs) (sym e ∙ ap (λ (p : ℕ × ℕ). p.0) h) k.0))
  ]
  | inr h ↦ elim j [
    | inl k ↦ absurd (d.0 (subst (λ (n : ℕ). In n xs) (e ∙ ap (λ (p : ℕ × ℕ). p.0) k) h.0))
    | inr k ↦ h.1 ∙ sym k.1
  ]
]

pub joint_more : (q : Queue) (link : ℕ) (xs ys : List ℕ) (a : ℕ × ℕ) → ((x : ℕ) → In x xs → In x ys) → IsJoint q link xs a → IsJoint q link ys a
joint_more q link xs ys a into i = elim i [ inl e ↦ inl e | inr k ↦ inr (into a.0 k.0, k.1) ]

-- an entry's links don't stand where the head's do
pub entry_offset : (m : Words) (q : Queue) (link : ℕ) (xs : List ℕ) (x : ℕ) → HoldsBlocks m (q.head.at ∷ xs) → HasLinks m q link xs → In x xs → joint_offset (x, link) ≢ joint_offset (head_joint q)
entry_offset m q link xs x h r i e =
    let ne : x ≢ q.head.at = λ f. h.distinct.0 (subst (λ (n : ℕ). In n xs) f i) in
    elim (h.apart x q.head.at (inr i) (inl refl) ne) [
      | inl a ↦ omega (arith, e, a, r.entries x i, r.head)
      | inr b ↦ omega (arith, e, b, r.entries x i, r.head)
    ]

-- the joint that a link leads to is found by its offset
pub joint_from_offset : (m : Words) (q : Queue) (link : ℕ) (xs : List ℕ) (a : ℕ × ℕ) → HoldsBlocks m (q.head.at ∷ xs) → HasLinks m q link xs → IsJoint q link xs a → joint_from q link (joint_offset a) ≡ a
joint_from_offset m q link xs a h r i = elim i [
  | inl e ↦ subst (λ (p : ℕ × ℕ). joint_from q link (joint_offset p) ≡ p) (sym e) (from_head q link)
  | inr k ↦
      let e : a ≡ (a.0, link) = ap (λ (j : ℕ). let p : ℕ × ℕ = (a.0, j) in p) k.1 in
      subst (λ (p : ℕ × ℕ). joint_from q link (joint_offset p) ≡ p) (sym e) (from_entry q link a.0 (entry_offset m q link xs a.0 h r k.0))
] where
  from_head : (q : Queue) (link : ℕ) → joint_from q link (joint_offset (head_joint q)) ≡ head_joint q
  from_head q link = grind (arith, common_steps)

  from_entry : (q : Queue) (link x : ℕ) → joint_offset (x, link) ≢ joint_offset (head_joint q) → joint_from q link (joint_offset (x, link)) ≡ (x, link)
  from_entry q link x ne = grind (arith, common_steps)

-- an offset that isn't the head's leaves room for an entry's block before its links
pub entry_above : (q : Queue) (link : ℕ) (xs : List ℕ) (a : ℕ × ℕ) (o : ℕ) → IsJoint q link xs a → o ≡ joint_offset a → o ≢ joint_offset (head_joint q) → 8 * link ≤ o
entry_above q link xs a o i e ne = elim i [
  | inl h ↦ absurd (ne (e ∙ ap (λ (p : ℕ × ℕ). joint_offset p) h))
  | inr k ↦ omega (arith, e, k.1)
]

pub head_below : (m : Words) (q : Queue) (link : ℕ) (xs : List ℕ) → HoldsBlocks m (q.head.at ∷ xs) → HasLinks m q link xs → joint_offset (head_joint q) + 16 ≤ 2 ^ 63
head_below m q link xs h r = omega (arith, r.head, h.below q.head.at (inl refl))

-- the joints beside a joint
pub front_joint : (q : Queue) (link : ℕ) (xs zs : List ℕ) → ((x : ℕ) → In x zs → In x xs) → IsJoint q link xs (front_of link zs (head_joint q))
front_joint q link xs [] into = inl refl
front_joint q link xs (z ∷ zs) into = inr (into z (inl refl), refl)

pub back_joint : (q : Queue) (link : ℕ) (xs ys : List ℕ) → ((x : ℕ) → In x ys → In x xs) → IsJoint q link xs (back_of link (head_joint q) ys)
back_joint q link xs [] into = inl refl
back_joint q link xs (y ∷ ys) into =
    let r = back_in link y ys in inr (into (back_of link (y, link) ys).0 (subst (λ (p : ℕ × ℕ). In p.0 (y ∷ ys)) (sym r.1) r.2), ap (λ (p : ℕ × ℕ). p.1) r.1)

pub after_entry : (m : Words) (q : Queue) (link : ℕ) (ys : List ℕ) (b : ℕ) (zs : List ℕ) → IsQueue m q link (ys ++ b ∷ zs) → AreLinked m (b, link) (front_of link zs (head_joint q))
after_entry m q link ys b zs h = chain_front m link (b, link) zs (head_joint q) (chain_split m link (head_joint q) ys b zs (head_joint q) h.lays).1

pub before_entry : (m : Words) (q : Queue) (link : ℕ) (ys : List ℕ) (b : ℕ) (zs : List ℕ) → IsQueue m q link (ys ++ b ∷ zs) → AreLinked m (back_of link (head_joint q) ys) (b, link)
before_entry m q link ys b zs h = chain_back m link (head_joint q) ys (b, link) (chain_split m link (head_joint q) ys b zs (head_joint q) h.lays).0

pub next_joint : (m : Words) (q : Queue) (link : ℕ) (xs : List ℕ) (a : ℕ × ℕ) → IsQueue m q link xs → IsJoint q link xs a → (b : ℕ × ℕ) × IsJoint q link xs b × AreLinked m a b
next_joint m q link xs a h i = elim i [
  | inl e ↦ (front_of link xs (head_joint q), front_joint q link xs xs (λ x j. j), subst (λ (p : ℕ × ℕ). AreLinked m p (front_of link xs (head_joint q))) (sym e) (chain_front m link (head_joint q) xs (head_joint q) h.lays))
  | inr k ↦
      let s = In-split a.0 xs k.0 in
      let w = after_entry m q link s.0 a.0 s.1 (subst (λ (zs : List ℕ). IsQueue m q link zs) s.2 h) in (
        front_of link s.1 (head_joint q),
        front_joint q link xs s.1 (λ x j. subst (λ (zs : List ℕ). In x zs) (sym s.2) (In-append_right x s.0 (a.0 ∷ s.1) (inr j))),
        subst (λ (j : ℕ). AreLinked m (a.0, j) (front_of link s.1 (head_joint q))) (sym k.1) w,
      )
]

pub prev_joint : (m : Words) (q : Queue) (link : ℕ) (xs : List ℕ) (b : ℕ × ℕ) → IsQueue m q link xs → IsJoint q link xs b → (a : ℕ × ℕ) × IsJoint q link xs a × AreLinked m a b
prev_joint m q link xs b h i = elim i [
  | inl e ↦ (back_of link (head_joint q) xs, back_joint q link xs xs (λ x j. j), subst (λ (p : ℕ × ℕ). AreLinked m (back_of link (head_joint q) xs) p) (sym e) (chain_back m link (head_joint q) xs (head_joint q) h.lays))
  | inr k ↦
      let s = In-split b.0 xs k.0 in
      let w = before_entry m q link s.0 b.0 s.1 (subst (λ (zs : List ℕ). IsQueue m q link zs) s.2 h) in (
        back_of link (head_joint q) s.0,
        back_joint q link xs s.0 (λ x j. subst (λ (zs : List ℕ). In x zs) (sym s.2) (In-append_left x s.0 (b.0 ∷ s.1) j)),
        subst (λ (j : ℕ). AreLinked m (back_of link (head_joint q) s.0) (b.0, j)) (sym k.1) w,
      )
]

-- what linking `a` to `b` leaves of another joint's links
pub keeps_next : (m n : Words) (q : Queue) (link : ℕ) (xs : List ℕ) (a b c : ℕ × ℕ) → IsDistinct (q.head.at ∷ xs) → IsJoint q link xs b → IsJoint q link xs c → Joins m n a b → c.0 ≢ a.0 → word_at n c.0 (c.1 + 1) ≡ word_at m c.0 (c.1 + 1)
keeps_next m n q link xs a b c d j k w ne = w.words c.0 (c.1 + 1) (λ e. absurd (ne e)) (λ e f. omega (arith, f, joint_alone q link xs c b d k j e))

pub keeps_prev : (m n : Words) (q : Queue) (link : ℕ) (xs : List ℕ) (a b c : ℕ × ℕ) → IsDistinct (q.head.at ∷ xs) → IsJoint q link xs a → IsJoint q link xs c → Joins m n a b → c.0 ≢ b.0 → word_at n c.0 c.1 ≡ word_at m c.0 c.1
keeps_prev m n q link xs a b c d i k w ne = w.words c.0 c.1 (λ e f. omega (arith, f, joint_alone q link xs c a d k i e)) (λ e. absurd (ne e))

-- only links of the queue's joints changed
pub joins_links : (m n : Words) (q : Queue) (link : ℕ) (xs : List ℕ) (a b : ℕ × ℕ) → IsDistinct (q.head.at ∷ xs) → IsJoint q link xs a → IsJoint q link xs b → Joins m n a b → ChangesLinks m n q link xs
joins_links m n q link xs a b d i j w = record {
  lengths = w.lengths;
  others = λ o ne out. w.blocks o (outside a i o ne out) (outside b j o ne out);
  entries = λ o k ne k0 k1. w.words o k (λ e f. omega (arith, f, k1, entry a i o ne e)) (λ e f. omega (arith, f, k0, entry b j o ne e));
  head = λ k h0 h1. w.words q.head.at k (λ e f. omega (arith, f, h1, joint_alone q link xs a (head_joint q) d i (inl refl) (sym e))) (λ e f. omega (arith, f, h0, joint_alone q link xs b (head_joint q) d j (inl refl) (sym e)));
} where
  outside : (c : ℕ × ℕ) → IsJoint q link xs c → (o : ℕ) → o ≢ q.head.at → (In o xs → ⊥) → o ≢ c.0
  outside c k o ne out e = elim (joint_in q link xs c k) [ inl h ↦ ne (e ∙ h) | inr t ↦ out (subst (λ (n : ℕ). In n xs) (sym e) t) ]

  entry : (c : ℕ × ℕ) → IsJoint q link xs c → (o : ℕ) → o ≢ q.head.at → o ≡ c.0 → c.1 ≡ link
  entry c k o ne e = elim k [ inl h ↦ absurd (ne (e ∙ ap (λ (p : ℕ × ℕ). p.0) h)) | inr t ↦ t.1 ]

-- equal joints
pub joins_at : (m n : Words) (a b c d : ℕ × ℕ) → a ≡ c → b ≡ d → Joins m n a b → Joins m n c d
joins_at m n a b c d e f w = subst (λ (p : ℕ × ℕ). Joins m n p d) e (subst (λ (p : ℕ × ℕ). Joins m n a p) f w)

-- what comes after the head and before it, where what `next` and `prev` find is known
pub front_found : (m : Words) (q : Queue) (link : ℕ) (xs : List ℕ) (head found : ℕ × ℕ) → IsQueue m q link xs → head ≡ head_joint q →
    ((ys : List ℕ) (b : ℕ × ℕ) → IsQueue m q link ys → IsJoint q link ys b → AreLinked m head b → found ≡ b) → found ≡ front_of link xs (head_joint q)
front_found m q link xs head found h e next =
    next xs (front_of link xs (head_joint q)) h (front_joint q link xs xs (λ x i. i)) (subst (λ (a : ℕ × ℕ). AreLinked m a (front_of link xs (head_joint q))) (sym e) (chain_front m link (head_joint q) xs (head_joint q) h.lays))

pub back_found : (m : Words) (q : Queue) (link : ℕ) (xs : List ℕ) (head found : ℕ × ℕ) → IsQueue m q link xs → head ≡ head_joint q →
    ((ys : List ℕ) (a : ℕ × ℕ) → IsQueue m q link ys → IsJoint q link ys a → AreLinked m a head → found ≡ a) → found ≡ back_of link (head_joint q) xs
back_found m q link xs head found h e prev =
    prev xs (back_of link (head_joint q) xs) h (back_joint q link xs xs (λ x i. i)) (subst (λ (a : ℕ × ℕ). AreLinked m (back_of link (head_joint q) xs) a) (sym e) (chain_back m link (head_joint q) xs (head_joint q) h.lays))
