-- A store of blocks, as the tables of the zones see it: a grant and a give back over any kind of state.
use Rattle.std.specs.Prelude.{ℕ, Option}
use Rattle.slab_model.specs.State.{Slab}
use Rattle.slab_model.specs.Grant.{grant}
use Rattle.slab_model.specs.Return.{give_back}

-- what a store gives for so many bytes, with the store afterwards, and the store after a block comes back
pub record BlockStore (S : Type 0) : Type 0 where
  pub grant : S → ℕ → Option ℕ × S
  pub give_back : S → ℕ → S

-- the slab as a store of blocks
abbrev pub slab_store : BlockStore Slab
slab_store = record { grant = grant; give_back = give_back }
