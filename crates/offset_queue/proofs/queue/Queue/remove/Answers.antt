use Rattle.std.proofs.Common.{ℕ, List, ◌∷◌, ◌++◌, refl, inr, sym, subst}
use Rattle.zone_region.proofs.MembersLemmas.{In-split, In-append_left, In-append_right}
use Rattle.offset_queue.specs.Queue.{head_joint, IsQueue, ChangesLinks}
use Rattle.offset_queue.specs.Inside.{IsJoint, Joins}
use Rattle.offset_queue.proofs.Chains.{front_of, back_of}
use Rattle.offset_queue.proofs.Joints.{joint_room, joint_ends, joint_alone, prev_joint, next_joint, front_joint, back_joint, before_entry, after_entry, joins_at}
use Rattle.offset_queue.proofs.Queues.{removed, removed_changes}
use Rattle.offset_queue.proofs.queue.Queue.remove.Given as given
use Rattle.offset_queue.proofs.queue.Queue.remove.Goals as goal
use Rattle.offset_queue.proofs.queue.Queue.remove.Goals.{After-join}

pub prev-before-requires : goal.prev-before-requires
prev-before-requires g c = (c.requires.0, c.requires.1, inr (c.requires.2, refl))

pub next-after-requires : goal.next-after-requires
next-after-requires g c = (c.requires.0, c.requires.1, inr (c.requires.2, refl))

pub join-requires : goal.join-requires
join-requires g c =
    let q = c.args.self.now in
    let xs = c.requires.0 in
    let h = c.requires.1 in
    let entry : IsJoint q c.args.link xs (c.args.b.at, c.args.link) = inr (c.requires.2, refl) in
    let p = prev_joint _ _ _ _ _ h entry in
    let n = next_joint _ _ _ _ _ h entry in
    let before = subst (λ (a : ℕ × ℕ). IsJoint q c.args.link xs a) (sym (c.prev-before.ensures xs p.0 h p.1 p.2)) p.1 in
    let after = subst (λ (a : ℕ × ℕ). IsJoint q c.args.link xs a) (sym (c.next-after.ensures xs n.0 h n.1 n.2)) n.1 in
    record {
      first = joint_room _ _ _ _ _ h.room before;
      second = joint_room _ _ _ _ _ h.room after;
      one = joint_alone _ _ _ _ _ h.holds.distinct before after;
      first_ends = joint_ends _ _ _ _ _ h.holds before;
      second_ends = joint_ends _ _ _ _ _ h.holds after;
    }

-- the neighbours were linked to each other
neighbours : (g : given.Over) (c : After-join g) (ys zs : List ℕ) → IsQueue (g.B.Blocks.words c.args.blocks.now) c.args.self.now c.args.link (ys ++ c.args.b.at ∷ zs) →
    Joins (g.B.Blocks.words c.args.blocks.now) (g.B.Blocks.words c.join.new.blocks) (back_of c.args.link (head_joint c.args.self.now) ys) (front_of c.args.link zs (head_joint c.args.self.now))
neighbours g c ys zs h =
    let xs = ys ++ c.args.b.at ∷ zs in
    let back = back_joint c.args.self.now c.args.link xs ys (λ x i. In-append_left x ys (c.args.b.at ∷ zs) i) in
    let front = front_joint c.args.self.now c.args.link xs zs (λ x i. In-append_right x ys (c.args.b.at ∷ zs) (inr i)) in
    joins_at _ _ _ _ _ _ (c.prev-before.ensures xs _ h back (before_entry _ _ _ ys _ zs h)) (c.next-after.ensures xs _ h front (after_entry _ _ _ ys _ zs h)) c.join.ensures.joins

pub returns-clause-lays : goal.returns-clause-lays
returns-clause-lays g c = λ ys zs h. removed _ _ _ _ ys _ zs h (neighbours g c ys zs h)

pub returns-clause-changes : goal.returns-clause-changes
returns-clause-changes g c = λ xs h i.
    let s = In-split c.args.b.at xs i in
    let h' = subst (λ (ws : List ℕ). IsQueue (g.B.Blocks.words c.args.blocks.now) c.args.self.now c.args.link ws) s.2 h in
    subst (λ (ws : List ℕ). ChangesLinks (g.B.Blocks.words c.args.blocks.now) (g.B.Blocks.words c.join.new.blocks) c.args.self.now c.args.link ws) (sym s.2)
    (removed_changes _ _ _ _ s.0 _ s.1 h' (neighbours g c s.0 s.1 h'))
