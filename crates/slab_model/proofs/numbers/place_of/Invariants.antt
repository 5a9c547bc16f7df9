use Rattle.std.proofs.Common.{◌≡◌, ◌+◌, drop}
use Rattle.slab_model.specs.Inside.{place_in}
use Rattle.slab_model.proofs.numbers.place_of.Given as goal

abbrev pub invariant-loop-number : goal.invariant-loop-number
invariant-loop-number l = (l.place ≡ l.number-index) × (l.place + place_in l.n (drop l.number-index l.numbers) ≡ place_in l.n l.numbers)
