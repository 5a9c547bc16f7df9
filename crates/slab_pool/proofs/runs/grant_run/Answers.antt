use Rattle.slab_pool.proofs.RunLemmas.{pool-runs, keeps-pages, run-granted, run-refused, fit-room}
use Rattle.slab_pool.proofs.runs.grant_run.Goals as goal

pub page_offset-requires : goal.page_offset-requires
page_offset-requires c = let p = c.requires.laid.1 in fit-room _ _ _ _ p c.requires.some (c.in-Some.ensures.page _ (pool-runs _ _ p))

pub returns-in-None-clause-laid : goal.returns-in-None-clause-laid
returns-in-None-clause-laid c = λ slab p. run-refused _ _ slab _ p (c.in-None.ensures.page _ (pool-runs _ _ p)) c.in-None.ensures.none

pub returns-in-Some-clause-laid : goal.returns-in-Some-clause-laid
returns-in-Some-clause-laid c = λ slab p. let r = pool-runs _ _ p in run-granted _ _ slab _ _ p c.requires.some (c.in-Some.ensures.page _ r) (c.in-Some.ensures.laid _ r) c.in-Some.ensures.used (c.in-Some.ensures.kept _ r) c.in-Some.ensures.shape

pub returns-in-Some-clause-kept : goal.returns-in-Some-clause-kept
returns-in-Some-clause-kept c = let r = pool-runs _ _ c.requires.laid.1 in keeps-pages _ _ _ r.sound (c.in-Some.ensures.kept _ r) c.in-Some.ensures.shape
