-- What a call leaves whole, and what it gives and takes.
use Rattle.std.proofs.Common.{ℕ, zero, ◌≡◌, ◌+◌, ◌-◌, ◌<◌, Bool, true, false, cond, eqb, leb, List, [], ◌∷◌, length, Option, Some, None, refl, subst, arith}
use Rattle.std.specs.List.{All}
use Rattle.std.proofs.lemmas.Bool.{leb-true, leb-false, eqb-true, eqb-false}
use Rattle.std.proofs.lemmas.List.Elements.{All-nil, All-cons}
use Rattle.slab_model.specs.State.{Slab}
use Rattle.slab_model.specs.Grant.{grant}
use Rattle.slab_model.specs.Return.{give_back}
use Rattle.slab_model.specs.Store.{slab_store}
use Rattle.conn_zone.specs.declared.state.ConnEntry.{ConnEntry}
use Rattle.conn_zone.specs.declared.state.ConnState.{ConnState}
use Rattle.conn_zone.specs.declared.calls.ConnCall.{ConnCall}
use Rattle.conn_zone.specs.declared.calls.ConnCall.TheVariants.{Open, Close}
use Rattle.conn_zone.specs.declared.calls.ConnReply.{ConnReply}
use Rattle.conn_zone.specs.declared.calls.ConnReply.TheVariants.{Opened, AtLimit, Closed}
use Rattle.conn_zone.specs.Table.{has_key, is_at, entry_of, entry_at, with_count, replace_first}
use Rattle.conn_zone.specs.State.{State}
use Rattle.conn_zone.specs.Step.{node_size, new_entry, after_grant, open_as, close_as}
use Rattle.conn_zone.specs.Object.{parts_of, with_parts, answer_of, zone_after, IsKey, IsCount, once_at, given_by, back_by, count_at, Ready, CanAnswer, CanOpen, CanClose}
use Rattle.conn_zone.specs.Holding.{IsWhole, IsEntry}
use Rattle.conn_zone.specs.Proving.Tables.{found_passes, found_all, replaced_sum, replaced_all, count_weight, counts_more, sum_one, missing_count, same_block}
use Rattle.conn_zone.specs.Proving.Wholes.{whole_counted, whole_new, whole_none, whole_left}

-- the zone stays whole, and an entry's connections move by what the call gives and takes back there
pub record Moves (s after : ConnState) (call : ConnCall) (reply : ConnReply) : Type 0 where
  pub whole : IsWhole after
  pub entries : All IsEntry after.table
  pub count : (at : ℕ) → count_at at after.table + back_by at call ≡ count_at at s.table + given_by at reply

-- ---- open

-- what an open of a key with an entry comes to, at the limit or not
abbrev pub found_as : List ℕ → ConnState → ConnEntry → Bool → ConnReply × State Slab
found_as key s e limited = cond limited (AtLimit e.count, parts_of s) (Opened e.block (e.count + 1), record { table = replace_first (has_key key) (with_count (e.count + 1) e ∷ []) s.table; memory = s.slab })

one_more : (at : ℕ) (e : ConnEntry) → count_weight at (with_count (e.count + 1) e) ≡ count_weight at e + once_at at e.block
one_more at e = go (eqb e.block at) where
  go : (b : Bool) → cond b (e.count + 1) 0 ≡ cond b e.count 0 + cond b 1 0
  go true = refl
  go false = refl

moves_found : (s : ConnState) (key : List ℕ) (limit : ℕ) (e : ConnEntry) → IsWhole s → All IsEntry s.table → IsCount limit → entry_of key s.table ≡ Some e → (limited : Bool) → leb limit e.count ≡ limited
    → Moves s (with_parts s (found_as key s e limited).1) (Open key limit) (found_as key s e limited).0
moves_found s key limit e whole entries range found true is = record { whole = whole; entries = entries; count = λ at. refl }
moves_found s key limit e whole entries range found false is =
    let new = with_count (e.count + 1) e in
    let below : e.count < limit = leb-false limit e.count is in
    let had : IsEntry e = found_all IsEntry (has_key key) s.table e found entries in
    let has : IsEntry new = record { key = had.key; count = (omega arith, omega (arith, below, range.1)) } in
    record {
      whole = whole_counted s (has_key key) e (e.count + 1) whole found;
      entries = replaced_all IsEntry (has_key key) (new ∷ []) s.table (All-cons IsEntry new [] has (All-nil IsEntry)) entries;
      count = λ at.
          let sums = replaced_sum (count_weight at) (has_key key) (new ∷ []) s.table e found in
          let one = sum_one (count_weight at) new in
          let more = one_more at e in
          omega (arith, sums, one, more);
    }

-- what an open of a key without an entry comes to, with a block or without
abbrev pub missing_as : List ℕ → ConnState → Option ℕ → ConnReply × State Slab
missing_as key s block = after_grant key s.table block (grant s.slab (node_size + length key)).1

moves_missing : (s : ConnState) (key : List ℕ) (limit : ℕ) → IsWhole s → All IsEntry s.table → IsKey key → entry_of key s.table ≡ None → (block : Option ℕ) → (grant s.slab (node_size + length key)).0 ≡ block
    → Moves s (with_parts s (missing_as key s block).1) (Open key limit) (missing_as key s block).0
moves_missing s key limit whole entries range missing None is = record { whole = whole_none s (node_size + length key) whole (omega arith) is; entries = entries; count = λ at. refl }
moves_missing s key limit whole entries range missing (Some at) is =
    let new = new_entry key at in
    let has : IsEntry new = record { key = range; count = (omega arith, omega arith) } in
    record {
      whole = whole_new s key at whole missing is;
      entries = All-cons IsEntry new s.table has entries;
      count = λ other. let more = counts_more other new s.table in omega (arith, more);
    }

moves_open : (s : ConnState) (key : List ℕ) (limit : ℕ) → IsWhole s → All IsEntry s.table → IsKey key → IsCount limit → (found : Option ConnEntry) → entry_of key s.table ≡ found
    → Moves s (with_parts s (open_as slab_store key limit (parts_of s) found).1) (Open key limit) (open_as slab_store key limit (parts_of s) found).0
moves_open s key limit whole entries range limits None is = moves_missing s key limit whole entries range is (grant s.slab (node_size + length key)).0 refl
moves_open s key limit whole entries range limits (Some e) is = moves_found s key limit e whole entries limits is (leb limit e.count) refl

-- ---- close

-- what a close comes to that leaves so many connections, none or some
abbrev pub left_as : ConnState → ℕ → ConnEntry → ℕ → Bool → ConnReply × State Slab
left_as s at e left last = (
  Closed left,
  cond last
      (record { table = replace_first (is_at at) [] s.table; memory = give_back s.slab at })
      (record { table = replace_first (is_at at) (with_count left e ∷ []) s.table; memory = s.slab }),
)

-- the entry's connections there
own_count : (at : ℕ) (e : ConnEntry) → e.block ≡ at → (other left : ℕ) → left + 1 ≡ e.count → count_weight other (with_count left e) + once_at other at ≡ count_weight other e
own_count at e own other left is = subst (λ (n : ℕ). count_weight other (with_count left e) + once_at other n ≡ count_weight other e) own (go (eqb e.block other)) where
  go : (b : Bool) → cond b left 0 + cond b 1 0 ≡ cond b e.count 0
  go true = is
  go false = refl

no_count : (other : ℕ) (e : ConnEntry) → count_weight other (with_count 0 e) ≡ 0
no_count other e = go (eqb e.block other) where
  go : (b : Bool) → cond b zero zero ≡ zero
  go true = refl
  go false = refl

moves_left : (s : ConnState) (at : ℕ) (e : ConnEntry) → IsWhole s → All IsEntry s.table → entry_at at s.table ≡ Some e → (left : ℕ) → left + 1 ≡ e.count → (last : Bool) → eqb left 0 ≡ last
    → Moves s (with_parts s (left_as s at e left last).1) (Close at) (left_as s at e left last).0
moves_left s at e whole entries found left is true last = record {
  whole = whole_left s at e whole found;
  entries = replaced_all IsEntry (is_at at) [] s.table (All-nil IsEntry) entries;
  count = λ other.
      let sums = replaced_sum (count_weight other) (is_at at) [] s.table e found in
      let nothing : count_at other [] ≡ 0 = refl in
      let zero_left : left ≡ 0 = eqb-true left 0 last in
      let own = own_count at e (same_block at e (found_passes (is_at at) s.table e found)) other 0 (omega (arith, zero_left, is)) in
      let none = no_count other e in
      omega (arith, sums, nothing, own, none);
}
moves_left s at e whole entries found left is false last =
    let new = with_count left e in
    let had : IsEntry e = found_all IsEntry (is_at at) s.table e found entries in
    let most = had.count.1 in
    let some = eqb-false left 0 last in
    let has : IsEntry new = record { key = had.key; count = (omega (arith, some), omega (arith, most, is)) } in
    record {
      whole = whole_counted s (is_at at) e left whole found;
      entries = replaced_all IsEntry (is_at at) (new ∷ []) s.table (All-cons IsEntry new [] has (All-nil IsEntry)) entries;
      count = λ other.
          let sums = replaced_sum (count_weight other) (is_at at) (new ∷ []) s.table e found in
          let one = sum_one (count_weight other) new in
          let own = own_count at e (same_block at e (found_passes (is_at at) s.table e found)) other left is in
          omega (arith, sums, one, own);
    }

moves_close : (s : ConnState) (at : ℕ) → IsWhole s → All IsEntry s.table → 0 < count_at at s.table → (found : Option ConnEntry) → entry_at at s.table ≡ found
    → Moves s (with_parts s (close_as slab_store at (parts_of s) found).1) (Close at) (close_as slab_store at (parts_of s) found).0
moves_close s at whole entries some None is = absurd (let none = missing_count at s.table is in omega (arith, none, some))
moves_close s at whole entries some (Some e) is =
    let had : IsEntry e = found_all IsEntry (is_at at) s.table e is entries in
    let one = had.count.0 in
    moves_left s at e whole entries is (e.count - 1) (omega (arith, one)) (eqb (e.count - 1) 0) refl

-- ---- each call

pub moves : (s : ConnState) (call : ConnCall) → IsWhole s → All IsEntry s.table → Ready s call → Moves s (zone_after s call) call (answer_of s call)
moves s (Open key limit) whole entries ready = moves_open s key limit whole entries ready.asked.0 ready.asked.1 (entry_of key s.table) refl
moves s (Close at) whole entries ready = moves_close s at whole entries ready.asked (entry_at at s.table) refl

-- ---- the replies

can_open : (s : ConnState) (key : List ℕ) (limit : ℕ) → All (λ (e : ConnEntry). IsCount e.count) s.table → IsCount limit → (found : Option ConnEntry) → entry_of key s.table ≡ found → CanOpen limit (open_as slab_store key limit (parts_of s) found).0
can_open s key limit counts range None is = new (grant s.slab (node_size + length key)).0 where
  new : (block : Option ℕ) → CanOpen limit (missing_as key s block).0
  new None = tt
  new (Some at) = (omega arith, range.0)
can_open s key limit counts range (Some e) is = known (leb limit e.count) refl where
  known : (limited : Bool) → leb limit e.count ≡ limited → CanOpen limit (found_as key s e limited).0
  known true limited = (leb-true limit e.count limited, (found_all (λ (e : ConnEntry). IsCount e.count) (has_key key) s.table e is counts).1)
  known false limited = let below : e.count < limit = leb-false limit e.count limited in (omega arith, omega (arith, below))

can_close : (s : ConnState) (at : ℕ) → All (λ (e : ConnEntry). IsCount e.count) s.table → (found : Option ConnEntry) → entry_at at s.table ≡ found → CanClose (close_as slab_store at (parts_of s) found).0
can_close s at counts None is = omega arith
can_close s at counts (Some e) is = let had = found_all (λ (e : ConnEntry). IsCount e.count) (is_at at) s.table e is counts in let some = had.0 in let most = had.1 in omega (arith, some, most)

pub answers : (s : ConnState) (call : ConnCall) → Ready s call → CanAnswer s call (answer_of s call)
answers s (Open key limit) ready = can_open s key limit ready.counts ready.asked.1 (entry_of key s.table) refl
answers s (Close at) ready = can_close s at ready.counts (entry_at at s.table) refl
