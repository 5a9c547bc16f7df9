-- A table and the store that its blocks come from.
use Rattle.std.specs.Prelude.{List}
use Rattle.conn_zone.specs.declared.state.ConnEntry.{ConnEntry}

-- a table and the store that its blocks come from
pub record State (S : Type 0) : Type 0 where
  pub table : List ConnEntry
  pub memory : S
