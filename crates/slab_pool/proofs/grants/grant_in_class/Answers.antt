use Rattle.std.proofs.Common.{ℕ, List, Some, sym, subst}
use Rattle.slab_model.specs.State.{list_of}
use Rattle.slab_model.specs.Grant.{grant_from_list, granted_offset}
use Rattle.slab_pool.specs.PoolSteps.{Answers}
use Rattle.slab_pool.proofs.ClassGrants.{pool-list}
use Rattle.slab_pool.proofs.grants.grant_in_class.Goals as goal

pub first_page-requires-clause-list : goal.first_page-requires-clause-list
first_page-requires-clause-list c = let w = c.requires.laid in (list_of w.0 c.args.class, pool-list _ w.0 c.args.class w.1 c.requires.known)

pub grant_in_page-requires-clause-laid : goal.grant_in_page-requires-clause-laid
grant_in_page-requires-clause-laid c = let w = c.requires.laid in let h = c.in-Some.ensures (list_of w.0 c.args.class) (pool-list _ w.0 c.args.class w.1 c.requires.known) in (w.0, h.0, w.1, h.1)

pub grant_in_new_page-requires-clause-laid : goal.grant_in_new_page-requires-clause-laid
grant_in_new_page-requires-clause-laid c = let w = c.requires.laid in (w.0, w.1, c.in-None.ensures (list_of w.0 c.args.class) (pool-list _ w.0 c.args.class w.1 c.requires.known))

pub returns-in-Some-clause-granted : goal.returns-in-Some-clause-granted
returns-in-Some-clause-granted c = λ slab p.
    let h = c.in-Some.ensures (list_of slab c.args.class) (pool-list _ slab c.args.class p c.requires.known) in
    subst (λ (ps : List ℕ). Answers (grant_from_list slab c.args.class ps) (Some c.grant_in_page.result.at) c.grant_in_page.new.pages) (sym h.1) (c.grant_in_page.ensures.granted slab h.0 p h.1)

pub returns-in-None-clause-granted : goal.returns-in-None-clause-granted
returns-in-None-clause-granted c = λ slab p.
    let h = c.in-None.ensures (list_of slab c.args.class) (pool-list _ slab c.args.class p c.requires.known) in
    subst (λ (ps : List ℕ). Answers (grant_from_list slab c.args.class ps) (granted_offset c.grant_in_new_page.result) c.grant_in_new_page.new.pages) (sym h) (c.grant_in_new_page.ensures.granted slab p h)
