use Rattle.std.proofs.Common.{◌%◌, eqb, ap}
use Rattle.std.proofs.lemmas.Nat.Bits.{shr_and_one}
use Rattle.slab_pool.proofs.RefusalLemmas.{used-read}
use Rattle.slab_pool.proofs.bits.is_used.Goals as goal

pub returns : goal.returns
returns c = λ used h. used-read _ _ c.args.page c.args.class c.args.index c.bits.result used _ h c.requires.low c.requires.high c.bits.ensures.value (ap (λ n. eqb n 1) (shr_and_one c.bits.result (c.args.index % 64)))
