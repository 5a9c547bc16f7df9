-- What each call leaves of a queue.
use Rattle.std.proofs.Common.{ℕ, ◌≡◌, ◌≢◌, ◌⊎◌, List, [], ◌∷◌, ◌++◌, length, inl, inr, sym, ap, subst, ◌∙◌, refl, arith}
use Rattle.zone_region.specs.Words.{Words}
use Rattle.zone_region.specs.Members.{In}
use Rattle.zone_region.proofs.HoldingLemmas.{holds_some, holds_kept, holds_one}
use Rattle.zone_region.proofs.MembersLemmas.{In-append_left, In-append_right, In-more, In-moved, In-middle, IsDistinct-split, IsDistinct-moved}
use Rattle.offset_queue.specs.declared.queue.Queue.{Queue}
use Rattle.offset_queue.specs.Queue.{head_joint, AreLinked, HasLinks, IsHead, IsQueue, CanPush, ChangesLinks}
use Rattle.offset_queue.specs.Inside.{IsJoint, Joins}
use Rattle.offset_queue.proofs.Chains.{front_of, back_of, chain_split, chain_joined, chain_onward, linked_kept}
use Rattle.offset_queue.proofs.Joints.{joint_more, front_joint, back_joint, keeps_next, keeps_prev, joins_links}

-- blocks that keep their lengths keep room for their links, and so do fewer of them
pub room_kept : (m n : Words) (q : Queue) (link : ℕ) (xs ys : List ℕ) → ((o : ℕ) → length (n o) ≡ length (m o)) → ((x : ℕ) → In x ys → In x xs) → HasLinks m q link xs → HasLinks n q link ys
room_kept m n q link xs ys same into h = record { head = omega (arith, same q.head.at, h.head); entries = λ x i. omega (arith, same x, h.entries x (into x i)) }

pub changes_twice : (l m n : Words) (q : Queue) (link : ℕ) (xs : List ℕ) → ChangesLinks l m q link xs → ChangesLinks m n q link xs → ChangesLinks l n q link xs
changes_twice l m n q link xs a b = record {
  lengths = λ o. b.lengths o ∙ a.lengths o;
  others = λ o ne no. b.others o ne no ∙ a.others o ne no;
  entries = λ o i ne s t. b.entries o i ne s t ∙ a.entries o i ne s t;
  head = λ i s t. b.head i s t ∙ a.head i s t;
}

-- changes at some blocks are changes at more
pub changes_more : (m n : Words) (q : Queue) (link : ℕ) (xs ys : List ℕ) → ((x : ℕ) → In x xs → In x ys) → ChangesLinks m n q link xs → ChangesLinks m n q link ys
changes_more m n q link xs ys into h = record { lengths = h.lengths; others = λ o ne no. h.others o ne (λ i. no (into o i)); entries = h.entries; head = h.head }

-- the head alone, linked to itself
pub made_empty : (m n : Words) (q : Queue) (link : ℕ) → IsHead m q → Joins m n (head_joint q) (head_joint q) → IsQueue n q link []
made_empty m n q link h w = record {
  holds = holds_kept m n (q.head.at ∷ []) (λ x i. w.lengths x) (holds_one m q.head.at (omega (arith, h.room)) h.above h.below);
  room = record { head = omega (arith, w.lengths q.head.at, h.room); entries = λ x none. absurd none };
  lays = w.linked;
}

-- a member taken out: its neighbours were linked to each other
pub removed : (m n : Words) (q : Queue) (link : ℕ) (ys : List ℕ) (b : ℕ) (zs : List ℕ) → IsQueue m q link (ys ++ b ∷ zs) →
    Joins m n (back_of link (head_joint q) ys) (front_of link zs (head_joint q)) → IsQueue n q link (ys ++ zs)
removed m n q link ys b zs h w =
    let head = head_joint q in
    let d = (IsDistinct-split (q.head.at ∷ ys) b zs h.holds.distinct).0 in
    let whole = h.holds.distinct in
    let xs = ys ++ b ∷ zs in
    let parts = chain_split m link head ys b zs head h.lays in
    let back = back_joint q link xs ys (λ x i. In-append_left x ys (b ∷ zs) i) in
    let front = front_joint q link xs zs (λ x i. In-append_right x ys (b ∷ zs) (inr i)) in
    let joint = λ (c : ℕ × ℕ) (i : IsJoint q link (ys ++ zs) c). joint_more q link (ys ++ zs) xs c (λ x j. In-more x ys b zs j) i in
    record {
      holds = holds_some n (q.head.at ∷ xs) (q.head.at ∷ ys ++ zs) d (λ x i. elim i [ inl e ↦ inl e | inr j ↦ inr (In-more x ys b zs j) ]) (holds_kept m n (q.head.at ∷ xs) (λ x i. w.lengths x) h.holds);
      room = room_kept m n q link xs (ys ++ zs) w.lengths (λ x i. In-more x ys b zs i) h.room;
      lays = chain_joined m n link head ys (b, link) (b, link) zs head d d.0 w.linked
          (λ c i ne. keeps_next m n q link xs _ _ c whole front (joint c i) w ne)
          (λ c i ne. keeps_prev m n q link xs _ _ c whole back (joint c i) w ne) parts.0 parts.1;
    }

pub removed_changes : (m n : Words) (q : Queue) (link : ℕ) (ys : List ℕ) (b : ℕ) (zs : List ℕ) → IsQueue m q link (ys ++ b ∷ zs) →
    Joins m n (back_of link (head_joint q) ys) (front_of link zs (head_joint q)) → ChangesLinks m n q link (ys ++ b ∷ zs)
removed_changes m n q link ys b zs h w =
    joins_links m n q link (ys ++ b ∷ zs) _ _ h.holds.distinct (back_joint q link (ys ++ b ∷ zs) ys (λ x i. In-append_left x ys (b ∷ zs) i)) (front_joint q link (ys ++ b ∷ zs) zs (λ x i. In-append_right x ys (b ∷ zs) (inr i))) w

-- the queue as it stands while a block can be put in
pub unpushed : (m : Words) (q : Queue) (link b : ℕ) (xs : List ℕ) → CanPush m q link b xs → IsQueue m q link xs
unpushed m q link b xs h = record {
  holds = holds_some m (q.head.at ∷ b ∷ xs) (q.head.at ∷ xs) (λ i. h.holds.distinct.0 (inr i), h.holds.distinct.1.1) (λ x i. elim i [ inl e ↦ inl e | inr j ↦ inr (inr j) ]) h.holds;
  room = record { head = h.room.head; entries = λ x i. h.room.entries x (inr i) };
  lays = h.lays;
}

-- the new entry was linked to the front, and then the head to the new entry
pub record Pushes (l m n : Words) (q : Queue) (link b : ℕ) (xs : List ℕ) : Type 0 where
  pub front : Joins l m (b, link) (front_of link xs (head_joint q))
  pub entry : Joins m n (head_joint q) (b, link)

pub pushed : (l m n : Words) (q : Queue) (link b : ℕ) (xs : List ℕ) → CanPush l q link b xs → Pushes l m n q link b xs → IsQueue n q link (b ∷ xs)
pushed l m n q link b xs h w =
    let head = head_joint q in
    let d = h.holds.distinct in
    let away : b ≢ q.head.at = λ e. d.0 (inl (sym e)) in
    let front = front_joint q link (b ∷ xs) xs (λ x i. inr i) in
    let entry : IsJoint q link (b ∷ xs) (b, link) = inr (inl refl, refl) in
    let same = λ (x : ℕ) (i : In x (q.head.at ∷ b ∷ xs)). w.entry.lengths x ∙ w.front.lengths x in
    let apart = λ (c : ℕ × ℕ) (i : IsJoint q link xs c) (e : c.0 ≡ b). elim i as (λ _. ⊥) [ inl f ↦ away (sym e ∙ ap (λ (p : ℕ × ℕ). p.0) f) | inr j ↦ d.1.0 (subst (λ (k : ℕ). In k xs) e j.0) ] in
    let joint = λ (c : ℕ × ℕ) (i : IsJoint q link xs c). joint_more q link xs (b ∷ xs) c (λ x j. inr j) i in
    let first : AreLinked n (b, link) (front_of link xs head) = linked_kept m n (b, link) (front_of link xs head) (record {
      next = keeps_next m n q link (b ∷ xs) head (b, link) (b, link) d entry entry w.entry away;
      prev = keeps_prev m n q link (b ∷ xs) head (b, link) (front_of link xs head) d (inl refl) front w.entry (apart (front_of link xs head) (front_joint q link xs xs (λ x i. i)));
    }) w.front.linked in
    record {
      holds = holds_kept l n (q.head.at ∷ b ∷ xs) same h.holds;
      room = room_kept l n q link (b ∷ xs) (b ∷ xs) (λ o. w.entry.lengths o ∙ w.front.lengths o) (λ x i. i) h.room;
      lays = (
        w.entry.linked,
        chain_onward l n link (b, link) head xs head d.1.1 (λ i. d.0 (inr i)) first
            (λ x i. let c = joint (x, link) (inr (i, refl)) in keeps_next m n q link (b ∷ xs) head (b, link) (x, link) d entry c w.entry (λ e. d.0 (inr (subst (λ (k : ℕ). In k xs) e i)))
            ∙ keeps_next l m q link (b ∷ xs) (b, link) (front_of link xs head) (x, link) d front c w.front (λ e. d.1.0 (subst (λ (k : ℕ). In k xs) e i)))
            (λ c i ne. keeps_prev m n q link (b ∷ xs) head (b, link) c d (inl refl) (joint c i) w.entry (apart c i)
            ∙ keeps_prev l m q link (b ∷ xs) (b, link) (front_of link xs head) c d entry (joint c i) w.front ne) h.lays,
      );
    }

pub pushed_changes : (l m n : Words) (q : Queue) (link b : ℕ) (xs : List ℕ) → CanPush l q link b xs → Pushes l m n q link b xs → ChangesLinks l n q link (b ∷ xs)
pushed_changes l m n q link b xs h w =
    let d = h.holds.distinct in
    let entry : IsJoint q link (b ∷ xs) (b, link) = inr (inl refl, refl) in
    changes_twice l m n q link (b ∷ xs) (joins_links l m q link (b ∷ xs) (b, link) (front_of link xs (head_joint q)) d entry (front_joint q link (b ∷ xs) xs (λ x i. inr i)) w.front)
    (joins_links m n q link (b ∷ xs) (head_joint q) (b, link) d (inl refl) entry w.entry)

-- a block that was taken out can be put in again
pub can_return : (l m : Words) (q : Queue) (link : ℕ) (ys : List ℕ) (b : ℕ) (zs : List ℕ) → IsQueue l q link (ys ++ b ∷ zs) → ChangesLinks l m q link (ys ++ b ∷ zs) → IsQueue m q link (ys ++ zs) → CanPush m q link b (ys ++ zs)
can_return l m q link ys b zs h ch left =
    let d = IsDistinct-moved ys b zs h.holds.distinct.1 in
    record {
      holds = holds_some m (q.head.at ∷ ys ++ b ∷ zs) (q.head.at ∷ b ∷ ys ++ zs) (λ i. h.holds.distinct.0 (In-moved q.head.at ys b zs i), d) (λ x i. elim i [ inl e ↦ inl e | inr j ↦ inr (In-moved x ys b zs j) ])
          (holds_kept l m (q.head.at ∷ ys ++ b ∷ zs) (λ x i. ch.lengths x) h.holds);
      room = room_kept l m q link (ys ++ b ∷ zs) (b ∷ ys ++ zs) ch.lengths (λ x i. In-moved x ys b zs i) h.room;
      lays = left.lays;
    }

-- a list that isn't empty ends with its last block
split_back : (link y : ℕ) (ys : List ℕ) → (zs : List ℕ) × (y ∷ ys ≡ zs ++ (back_of link (y, link) ys).0 ∷ [])
split_back link y [] = ([], refl)
split_back link y (z ∷ zs) = let r = split_back link z zs in (y ∷ r.0, ap (λ ws. y ∷ ws) r.1)

-- the joint before the head's is the last block's, and the head's own exactly where the list is empty
pub last_cases : (m : Words) (q : Queue) (link : ℕ) (xs : List ℕ) → IsQueue m q link xs →
    ((xs ≡ []) × ((back_of link (head_joint q) xs).0 ≡ q.head.at)) ⊎ ((ys : List ℕ) × (xs ≡ ys ++ (back_of link (head_joint q) xs).0 ∷ []) × ((back_of link (head_joint q) xs).0 ≢ q.head.at))
last_cases m q link [] h = inl (refl, refl)
last_cases m q link (y ∷ ys) h =
    let s = split_back link y ys in
    inr (s.0, s.1, λ e. h.holds.distinct.0 (subst (λ (k : ℕ). In k (y ∷ ys)) e (subst (λ (ws : List ℕ). In (back_of link (y, link) ys).0 ws) (sym s.1) (In-middle s.0 (back_of link (y, link) ys).0 []))))
