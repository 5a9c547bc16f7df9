use Rattle.std.proofs.Common.{[], ◌∷◌}
use Rattle.offset_tests.proofs.LineLemmas.{not_second, not_third}
use Rattle.offset_tests.proofs.line.fill.Goals as goal

pub push-requires-clause-there : goal.push-requires-clause-there
push-requires-clause-there g c = ([], c.requires, λ i. i)

pub push-requires-2-clause-there : goal.push-requires-2-clause-there
push-requires-2-clause-there g c = (8192 ∷ [], c.push.ensures [] c.requires (λ i. i), not_second)

pub push-requires-3-clause-there : goal.push-requires-3-clause-there
push-requires-3-clause-there g c = (8320 ∷ 8192 ∷ [], c.push-2.ensures (8192 ∷ []) (c.push.ensures [] c.requires (λ i. i)) not_second, not_third)

pub returns : goal.returns
returns g c =
    let two = c.push-2.ensures (8192 ∷ []) (c.push.ensures [] c.requires (λ i. i)) not_second in
    c.push-3.ensures (8320 ∷ 8192 ∷ []) two not_third
