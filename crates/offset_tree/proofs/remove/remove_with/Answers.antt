use Rattle.std.proofs.Common.{ℕ, List, sym, subst}
use Rattle.offset_tree.specs.Layout.{IsTree}
use Rattle.offset_tree.specs.Changes.{ChangesNodes}
use Rattle.zone_region.proofs.MembersLemmas.{In-split}
use Rattle.offset_tree.proofs.Drawing.{drawn, ends_of}
use Rattle.offset_tree.proofs.RemovedLemmas.{removed_tree}
use Rattle.offset_tree.proofs.remove.remove_with.Goals as goal

pub unlink-requires-clause-ends : goal.unlink-requires-clause-ends
unlink-requires-clause-ends g c = ends_of _ _ _ c.requires.there.1.holds c.requires.there.1.room

pub unlink-requires-clause-there : goal.unlink-requires-clause-there
unlink-requires-clause-there g c =
    let s = In-split c.args.b.at c.requires.there.0 c.requires.there.2 in
    let m = g.B.Blocks.words c.args.blocks.now in
    let h = subst (λ (xs : List ℕ). IsTree m c.args.t.now xs) s.2 c.requires.there.1 in
    (s.0, s.1, (drawn _ _ _ h).settled)

pub returns-clause-removed : goal.returns-clause-removed
returns-clause-removed g c = λ before after h.
    let s = (drawn _ _ _ h).settled in
    removed_tree _ _ _ c.args.b.at before after c.requires.form h (c.unlink.ensures.settled before after s) (c.unlink.ensures.changes before after s)

pub returns-clause-changes : goal.returns-clause-changes
returns-clause-changes g c = λ xs w i.
    let s = In-split c.args.b.at xs i in
    let m = g.B.Blocks.words c.args.blocks.now in
    let h = subst (λ (zs : List ℕ). IsTree m c.args.t.now zs) s.2 w in
    subst (λ (zs : List ℕ). ChangesNodes m (g.B.Blocks.words c.unlink.new.blocks) c.args.t.now.context.at zs) (sym s.2) (c.unlink.ensures.changes s.0 s.1 (drawn _ _ _ h).settled)
