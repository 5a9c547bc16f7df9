use Rattle.std.proofs.Common.{ℕ, List, ◌∷◌, ◌++◌, sym, subst}
use Rattle.zone_region.proofs.MembersLemmas.{In-split, In-middle, In-moved}
use Rattle.offset_queue.specs.Queue.{IsQueue, ChangesLinks}
use Rattle.offset_queue.proofs.Queues.{can_return, changes_twice, changes_more}
use Rattle.offset_queue.proofs.queue.Queue.move_front.Goals as goal

pub push_front-requires : goal.push_front-requires
push_front-requires g c =
    let s = In-split c.args.b.at c.requires.0 c.requires.2 in
    let h = subst (λ (xs : List ℕ). IsQueue (g.B.Blocks.words c.args.blocks.now) c.args.self.now c.args.link xs) s.2 c.requires.1 in
    (s.0 ++ s.1, can_return _ _ _ _ s.0 _ s.1 h (c.remove.ensures.changes _ h (In-middle s.0 _ s.1)) (c.remove.ensures.lays s.0 s.1 h))

pub returns-clause-lays : goal.returns-clause-lays
returns-clause-lays g c = λ ys zs h. c.push_front.ensures.lays (ys ++ zs) (can_return _ _ _ _ ys _ zs h (c.remove.ensures.changes _ h (In-middle ys _ zs)) (c.remove.ensures.lays ys zs h))

pub returns-clause-changes : goal.returns-clause-changes
returns-clause-changes g c = λ xs w i.
    let s = In-split c.args.b.at xs i in
    let m = g.B.Blocks.words c.args.blocks.now in
    let h = subst (λ (zs : List ℕ). IsQueue m c.args.self.now c.args.link zs) s.2 w in
    let second = c.push_front.ensures.changes (s.0 ++ s.1) (can_return _ _ _ _ s.0 _ s.1 h (c.remove.ensures.changes _ h (In-middle s.0 _ s.1)) (c.remove.ensures.lays s.0 s.1 h)) in
    subst (λ (zs : List ℕ). ChangesLinks m (g.B.Blocks.words c.push_front.new.blocks) c.args.self.now c.args.link zs) (sym s.2)
    (changes_twice _ _ _ _ _ (s.0 ++ c.args.b.at ∷ s.1) (c.remove.ensures.changes _ h (In-middle s.0 _ s.1))
    (changes_more _ _ _ _ (c.args.b.at ∷ s.0 ++ s.1) (s.0 ++ c.args.b.at ∷ s.1) (λ x j. In-moved x s.0 _ s.1 j) second))
