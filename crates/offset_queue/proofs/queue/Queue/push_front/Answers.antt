use Rattle.std.proofs.Common.{ℕ, List, ◌∷◌, refl, inl, inr, sym, subst}
use Rattle.offset_queue.specs.Queue.{CanPush}
use Rattle.offset_queue.specs.Inside.{IsJoint}
use Rattle.offset_queue.proofs.Joints.{joint_room, joint_ends, joint_alone, front_joint, front_found, joins_at}
use Rattle.offset_queue.proofs.Queues.{Pushes, unpushed, pushed, pushed_changes}
use Rattle.offset_queue.proofs.queue.Queue.push_front.Given as given
use Rattle.offset_queue.proofs.queue.Queue.push_front.Goals as goal
use Rattle.offset_queue.proofs.queue.Queue.push_front.Goals.{After-join-2}

-- it was linked to the new entry, and that to the head
joined : (g : given.Over) (c : After-join-2 g) (xs : List ℕ) → CanPush (g.B.Blocks.words c.args.blocks.now) c.args.self.now c.args.link c.args.b.at xs →
    Pushes (g.B.Blocks.words c.args.blocks.now) (g.B.Blocks.words c.join.new.blocks) (g.B.Blocks.words c.join-2.new.blocks) c.args.self.now c.args.link c.args.b.at xs
joined g c xs h = record {
  front = joins_at _ _ _ _ _ _ refl (front_found _ _ _ xs _ _ (unpushed _ _ _ _ _ h) c.head_of-head.ensures c.next-front.ensures) c.join.ensures.joins;
  entry = joins_at _ _ _ _ _ _ c.head_of-head.ensures refl c.join-2.ensures.joins;
}

pub next-front-requires : goal.next-front-requires
next-front-requires g c = (c.requires.0, unpushed _ _ _ _ _ c.requires.1, inl c.head_of-head.ensures)

pub join-requires : goal.join-requires
join-requires g c =
    let q = c.args.self.now in
    let xs = c.requires.0 in
    let h = c.requires.1 in
    let entry : IsJoint q c.args.link (c.args.b.at ∷ xs) (c.args.b.at, c.args.link) = inr (inl refl, refl) in
    let front = subst (λ (a : ℕ × ℕ). IsJoint q c.args.link (c.args.b.at ∷ xs) a) (sym (front_found _ _ _ xs _ _ (unpushed _ _ _ _ _ h) c.head_of-head.ensures c.next-front.ensures)) (front_joint q c.args.link (c.args.b.at ∷ xs) xs (λ x i. inr i)) in
    record {
      first = joint_room _ q c.args.link (c.args.b.at ∷ xs) _ h.room entry;
      second = joint_room _ q c.args.link (c.args.b.at ∷ xs) _ h.room front;
      one = joint_alone q c.args.link (c.args.b.at ∷ xs) _ _ h.holds.distinct entry front;
      first_ends = joint_ends _ q c.args.link (c.args.b.at ∷ xs) _ h.holds entry;
      second_ends = joint_ends _ q c.args.link (c.args.b.at ∷ xs) _ h.holds front;
    }

pub returns-clause-lays : goal.returns-clause-lays
returns-clause-lays g c = λ xs h. pushed _ _ _ _ _ _ xs h (joined g c xs h)

pub returns-clause-changes : goal.returns-clause-changes
returns-clause-changes g c = λ xs h. pushed_changes _ _ _ _ _ _ xs h (joined g c xs h)
