use Rattle.std.proofs.Common.{ℕ, ◌+◌, ◌≤◌, length, subst}
use Rattle.offset_tree.specs.Bounds.{search_cost}
use Rattle.req_zone.specs.Words.{blocks_in}
use Rattle.req_zone.proofs.StepLemmas.{order_laid, count_blocks, match_more, is_missing, is_found}
use Rattle.req_zone.proofs.words.ReqWords.find.Goals as goal

pub find-requires : goal.find-requires
find-requires g c = (blocks_in c.requires.laid.0.table, order_laid c.args.self.now c.requires.laid.0 c.requires.laid.1)

pub returns-clause-found : goal.returns-clause-found
returns-clause-found g c s h =
    match_more c.find.result _ _ _ _ (is_missing c.args.self.now s c.args.hash c.args.key.now h c.requires.hash) (λ b. is_found c.args.self.now s c.args.hash c.args.key.now b h)
    (c.find.ensures.found (blocks_in s.table) (order_laid c.args.self.now s h))

pub returns-clause-cost : goal.returns-clause-cost
returns-clause-cost g c s h =
    subst (λ (n : ℕ). c.find.new.steps ≤ c.args.steps.now + search_cost n (length c.args.key.now)) (count_blocks s) (c.find.ensures.cost (blocks_in s.table) (order_laid c.args.self.now s h))
