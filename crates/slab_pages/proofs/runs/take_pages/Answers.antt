use Rattle.std.proofs.Common.{◌≡◌, ◌-◌, ◌≤◌, get_or, arith, inl, ◌∙◌}
use Rattle.slab_model.specs.Runs.{page_total}
use Rattle.slab_pages.specs.Places.{pfree_word}
use Rattle.slab_pages.proofs.EdgeLemmas.{listed_in}
use Rattle.slab_pages.proofs.CutLemmas.{first_fit-from}
use Rattle.slab_pages.proofs.GiveLemmas.{taken, taken_total}
use Rattle.slab_pages.proofs.runs.take_pages.Goals as goal

pub mark_used-requires-clause-small : goal.mark_used-requires-clause-small
mark_used-requires-clause-small c =
    let w = c.requires.laid in
    let fit = first_fit-from w.0 c.args.n w.1 c.args.first c.requires.some w.2.sound w.3 in
    omega (arith, fit, (listed_in w.0 _ w.1 c.args.first w.2 (omega (arith, fit, c.requires.some))).small)

pub mark_used-requires-clause-room : goal.mark_used-requires-clause-room
mark_used-requires-clause-room c =
    let w = c.requires.laid in
    let fit = first_fit-from w.0 c.args.n w.1 c.args.first c.requires.some w.2.sound w.3 in
    omega (arith, fit, (listed_in w.0 _ w.1 c.args.first w.2 (omega (arith, fit, c.requires.some))).room, (c.cut.ensures w.0 w.1 w.2 w.3).kept.same_length)

pub overflow_sub-free : goal.overflow_sub-free
overflow_sub-free c =
    let w = c.requires.laid in
    let is : c.load-free.result ≡ page_total w.1 = c.load-free.ensures ∙ c.mark_used.ensures.others pfree_word (inl (omega arith)) ∙ (c.cut.ensures w.0 w.1 w.2 w.3).free ∙ w.4 in
    omega (arith, is, taken_total c.args.n c.args.first w.1 w.3)

pub returns : goal.returns
returns c = λ count runs h found counted.
    let re = c.cut.ensures count runs h found in
    let same : c.load-free.result ≡ get_or c.args.region.now pfree_word 0 = c.load-free.ensures ∙ c.mark_used.ensures.others pfree_word (inl (omega arith)) ∙ re.free in
    let enough : c.args.n ≤ c.load-free.result = omega (arith, same ∙ counted, taken_total c.args.n c.args.first runs found) in
    taken count c.args.first c.args.n runs _ _ _ _ (c.load-free.result - c.args.n) c.requires.some h found re c.mark_used.ensures c.store.ensures (omega (arith, same, enough))
