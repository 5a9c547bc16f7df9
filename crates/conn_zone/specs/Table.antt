-- The table of a connection zone: a list of entries, newest first.
use Rattle.std.specs.Prelude.{ℕ, Bool, nat_eq, List, [], ◌∷◌, ◌++◌, Option, find, if◌then◌else◌}
use Rattle.std.specs.Str.{bytes_eq}
use Rattle.conn_zone.specs.declared.state.ConnEntry.{ConnEntry}

-- the entry is that of this key
abbrev pub has_key : List ℕ → ConnEntry → Bool
has_key key entry = bytes_eq key entry.key

-- the entry's node is the block at this offset
abbrev pub is_at : ℕ → ConnEntry → Bool
is_at at entry = nat_eq entry.block at

-- the entry of this key
abbrev pub entry_of : List ℕ → List ConnEntry → Option ConnEntry
entry_of key table = find (has_key key) table

-- the entry of the block at this offset
abbrev pub entry_at : ℕ → List ConnEntry → Option ConnEntry
entry_at at table = find (is_at at) table

-- the entry with so many connections
abbrev pub with_count : ℕ → ConnEntry → ConnEntry
with_count count entry = record { key = entry.key; block = entry.block; count = count }

-- these entries in the place of the first that passes the test
abbrev pub replace_first : (ConnEntry → Bool) → List ConnEntry → List ConnEntry → List ConnEntry
replace_first test entries [] = []
replace_first test entries (entry ∷ rest) = if test entry then entries ++ rest else entry ∷ replace_first test entries rest
