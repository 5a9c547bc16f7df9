-- The table of a request zone: a list of entries, newest first.
use Rattle.std.specs.Prelude.{ℕ, Bool, ◌&&◌, nat_le, List, Option, find}
use Rattle.std.specs.List.{remove, position_or_len}
use Rattle.std.specs.Int.{abs_diff}
use Rattle.std.specs.Str.{bytes_eq}
use Rattle.req_zone.specs.declared.state.ReqEntry.{ReqEntry}
use Rattle.req_zone.specs.Amount.{allowance}

-- the entry is that of this key
abbrev pub has_key : List ℕ → ReqEntry → Bool
has_key key entry = bytes_eq key entry.key

-- the entry of this key
abbrev pub entry_of : List ℕ → List ReqEntry → Option ReqEntry
entry_of key table = find (has_key key) table

-- the table without the entry of this key
abbrev pub others : List ℕ → List ReqEntry → List ReqEntry
others key table = remove table (position_or_len (has_key key) table)

-- at least a minute lies between the entry's moment and `now`, and by then its excess is used up
abbrev pub is_stale : ℕ → ℕ → ReqEntry → Bool
is_stale rate now entry = nat_le 60000 (abs_diff now entry.last) && nat_le entry.excess (allowance rate (abs_diff now entry.last))
