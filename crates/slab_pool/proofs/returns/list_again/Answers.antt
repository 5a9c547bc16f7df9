use Rattle.std.proofs.Common.{arith}
use Rattle.slab_model.specs.State.{list_of, stat_of}
use Rattle.slab_pool.proofs.ListLemmas.{taken-later, taken-runs}
use Rattle.slab_pool.proofs.ClassGrants.{links-stat}
use Rattle.slab_pool.proofs.ClassReturns.{cleared-known, cleared-taken, cleared-list, cleared-stat, full-out, listed-back}
use Rattle.slab_pool.proofs.returns.list_again.Goals as goal

pub push-requires-clause-known : goal.push-requires-clause-known
push-requires-clause-known c = let w = c.requires in cleared-known w.0 w.1 c.args.class c.args.page w.3 w.2 _ w.4

pub push-requires-clause-taken : goal.push-requires-clause-taken
push-requires-clause-taken c = let w = c.requires in cleared-taken w.0 w.1 c.args.class c.args.page w.3 w.2 _ w.4

pub push-requires-clause-list : goal.push-requires-clause-list
push-requires-clause-list c =
    let w = c.requires in
    let known = cleared-known w.0 w.1 c.args.class c.args.page w.3 w.2 _ w.4 in
    (list_of w.1 c.args.class, cleared-list w.0 w.1 c.args.class c.args.page w.3 w.2 _ w.4, full-out w.1 c.args.class c.args.page w.2 w.4.laid.sound known w.4.is w.5)

pub count_return-requires-clause-known : goal.count_return-requires-clause-known
count_return-requires-clause-known c = let w = c.requires in cleared-known w.0 w.1 c.args.class c.args.page w.3 w.2 _ w.4

pub count_return-requires-clause-runs : goal.count_return-requires-clause-runs
count_return-requires-clause-runs c = let w = c.requires in taken-runs _ c.args.page (taken-later _ _ _ c.push.ensures.runs (cleared-taken w.0 w.1 c.args.class c.args.page w.3 w.2 _ w.4))

pub count_return-requires-clause-enough : goal.count_return-requires-clause-enough
count_return-requires-clause-enough c =
    let w = c.requires in
    let known = cleared-known w.0 w.1 c.args.class c.args.page w.3 w.2 _ w.4 in
    let u = c.push.ensures.pushes (list_of w.1 c.args.class) (cleared-list w.0 w.1 c.args.class c.args.page w.3 w.2 _ w.4) (full-out w.1 c.args.class c.args.page w.2 w.4.laid.sound known w.4.is w.5) in
    let s = cleared-stat w.0 w.1 c.args.class c.args.page w.3 w.2 _ w.4 in
    (stat_of w.1 c.args.class, links-stat c.args.class c.args.page c.args.class (list_of w.1 c.args.class) (stat_of w.1 c.args.class) _ _ known known u.changes s.0, omega arith, s.2)

pub returns : goal.returns
returns c = λ before slab used index first left h left_is full.
    let known = cleared-known before slab c.args.class c.args.page index used _ h in
    let u = c.push.ensures.pushes (list_of slab c.args.class) (cleared-list before slab c.args.class c.args.page index used _ h) (full-out slab c.args.class c.args.page used h.laid.sound known h.is full) in
    listed-back before slab c.args.class c.args.page index used c.args.pages.now c.push.new.pages c.count_return.new.pages first left h left_is full c.push.ensures.runs u c.count_return.ensures.runs c.count_return.ensures.changes c.count_return.ensures.counts
