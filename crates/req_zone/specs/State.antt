-- A table and the store that its blocks come from.
use Rattle.std.specs.Prelude.{List, [], ◌∷◌}
use Rattle.slab_model.specs.Store.{BlockStore}
use Rattle.req_zone.specs.declared.state.ReqEntry.{ReqEntry}

-- a table and the store that its blocks come from
pub record State (S : Type 0) : Type 0 where
  pub table : List ReqEntry
  pub memory : S

-- the store after the blocks of these entries came back, in the list's order
abbrev pub give_all : {S : Type 0} → BlockStore S → S → List ReqEntry → S
give_all store state [] = state
give_all store state (entry ∷ entries) = give_all store (store.give_back state entry.block) entries
