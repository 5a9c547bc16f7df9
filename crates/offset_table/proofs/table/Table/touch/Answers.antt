use Rattle.std.proofs.Common.{◌∷◌, ◌++◌, sym, subst}
use Rattle.zone_region.proofs.MembersLemmas.{In-middle}
use Rattle.offset_queue.specs.declared.queue.Queue.{Queue}
use Rattle.offset_queue.specs.Queue.{IsQueue, ChangesLinks}
use Rattle.offset_table.proofs.Tables.{touched}
use Rattle.offset_table.proofs.table.Table.touch.Goals as goal

pub returns-clause-lays : goal.returns-clause-lays
returns-clause-lays g c = λ ys zs h.
    let m = g.B.Blocks.words c.args.blocks.now in
    let n = g.B.Blocks.words c.move_front.new.blocks in
    let old = ys ++ c.args.b.at ∷ zs in
    let e = c.queue-queue.ensures in
    let queue = subst (λ (q : Queue). IsQueue m q 5 old) (sym e) h.queue in
    touched m n _ ys _ zs h (subst (λ (q : Queue). IsQueue n q 5 (c.args.b.at ∷ ys ++ zs)) e (c.move_front.ensures.lays ys zs queue))
    (subst (λ (q : Queue). ChangesLinks m n q 5 old) e (c.move_front.ensures.changes old queue (In-middle ys _ zs)))
