-- The request zone as an object: its states, what its calls answer and change, what it permits, what a call needs and costs.
use Rattle.std.specs.Prelude.{◌≡◌, ℕ, ◌+◌, ◌*◌, ◌^◌, ◌<◌, ◌≤◌, Bool, true, false, nat_eq, List, [], length, sum_by, Option, unwrap_or, if◌then◌else◌}
use Rattle.std.specs.List.{All}
use Rattle.zone_object.specs.declared.object.Entry.{Entry}
pub use Rattle.slab_model.specs.Blocks.{once_at}
use Rattle.slab_model.specs.State.{Slab, fresh_slab}
use Rattle.slab_model.specs.Geometry.{IsInLimits, shape_of}
use Rattle.slab_model.specs.Grant.{grant}
use Rattle.slab_model.specs.Store.{slab_store}
use Rattle.offset_tree.specs.Bounds.{search_cost}
use Rattle.req_zone.specs.declared.state.ReqEntry.{ReqEntry}
use Rattle.req_zone.specs.declared.state.ReqState.{ReqState}
use Rattle.req_zone.specs.declared.calls.ReqCall.{ReqCall}
use Rattle.req_zone.specs.declared.calls.ReqCall.TheVariants.{Check, Account, Release}
use Rattle.req_zone.specs.declared.calls.ReqReply.{ReqReply}
use Rattle.req_zone.specs.declared.calls.ReqReply.TheVariants.{Pass, Again, Busy, NoRoom, Accounted, Released}
use Rattle.req_zone.specs.Amount.{IsRate, IsMoment, greatest_burst}
use Rattle.req_zone.specs.State.{State}
use Rattle.req_zone.specs.Step.{step}

-- ---- the states

-- the bytes of the zone's context
abbrev pub context_size : ℕ
context_size = 80

-- the bytes of the block of a zone's name: the words " in limit_req zone ", the name in quotes and a 0 byte
abbrev pub name_size : List ℕ → ℕ
name_size name = 22 + length name

-- the slab of a fresh zone, once its context's block is granted
abbrev pub with_context : ℕ → Option ℕ × Slab
with_context bytes = grant (fresh_slab (shape_of bytes)) context_size

-- and once the block of its name is
abbrev pub with_name : ℕ → List ℕ → Option ℕ × Slab
with_name bytes name = grant (with_context bytes).1 (name_size name)

-- a zone of this rate, this name and so many bytes that was just opened
abbrev pub opened_zone : ℕ → List ℕ → ℕ → ReqState
opened_zone rate name bytes = record {
  rate = rate;
  name = name;
  table = [];
  slab = (with_name bytes name).1;
  context = unwrap_or (with_context bytes).0 0;
  name_block = unwrap_or (with_name bytes name).0 0;
}

-- a zone's name has 1 to 255 bytes
abbrev pub IsName : List ℕ → Type 0
IsName name = (0 < length name) × (length name < 256)

-- the state is that of a zone of so many bytes that was just opened
pub record IsOpenedAs (s : ReqState) (bytes : ℕ) : Type 0 where
  pub rate : IsRate s.rate
  pub name : IsName s.name
  pub limits : IsInLimits (shape_of bytes)
  pub fresh : s ≡ opened_zone s.rate s.name bytes

-- a history begins where a zone was just opened
abbrev pub IsOpened : ReqState → Type 0
IsOpened s = (bytes : ℕ) × IsOpenedAs s bytes

-- ---- the steps

-- the table with the slab that its blocks come from
abbrev pub parts_of : ReqState → State Slab
parts_of s = record { table = s.table; memory = s.slab }

-- the zone with other parts: its rate, its name and its own two blocks stay
abbrev pub with_parts : ReqState → State Slab → ReqState
with_parts s parts = record { rate = s.rate; name = s.name; table = parts.table; slab = parts.memory; context = s.context; name_block = s.name_block }

-- what a call is answered
abbrev pub answer_of : ReqState → ReqCall → ReqReply
answer_of s call = (step slab_store s.rate (parts_of s) call).0

-- the zone after a call
abbrev pub zone_after : ReqState → ReqCall → ReqState
zone_after s call = with_parts s (step slab_store s.rate (parts_of s) call).1

-- ---- what a caller may ask

-- a key has 1 to 65,535 bytes
abbrev pub IsKey : List ℕ → Type 0
IsKey key = (0 < length key) × (length key < 2 ^ 16)

-- what a check is asked lies in its ranges
pub record IsAsked (key : List ℕ) (now burst : ℕ) : Type 0 where
  pub named : IsKey key
  pub early : IsMoment now
  pub small : burst ≤ greatest_burst

-- the holds on the entry of block `at` that a reply gives
abbrev pub given_by : ℕ → ReqReply → ℕ
given_by at (Again excess block) = once_at at block
given_by at reply = 0

-- the holds on the entry of block `at` that a call gives back
abbrev pub back_by : ℕ → ReqCall → ℕ
back_by at (Check key now burst last) = 0
back_by at (Account block now) = once_at at block
back_by at (Release block) = once_at at block

-- for the history of any object `X` that is such a zone
module _ {X : Type 0} where
  -- the holds that an entry of the history gave its caller
  abbrev pub given : ℕ → Entry X ReqState ReqCall ReqReply → ℕ
  given at e = given_by at e.reply

  -- the holds that its caller gave back by it
  abbrev pub back : ℕ → Entry X ReqState ReqCall ReqReply → ℕ
  back at e = back_by at e.call

  -- the caller was given a hold on the entry of block `at` more often than it gave it back
  abbrev pub HoldsEntry : List (Entry X ReqState ReqCall ReqReply) → ℕ → Type 0
  HoldsEntry mine at = sum_by (back at) mine < sum_by (given at) mine

  -- a check in its ranges; an account or a release of a hold that the caller has
  abbrev pub Permits : List (Entry X ReqState ReqCall ReqReply) → ReqCall → Type 0
  Permits mine (Check key now burst last) = IsAsked key now burst
  Permits mine (Account at now) = IsMoment now × HoldsEntry mine at
  Permits mine (Release at) = HoldsEntry mine at

-- ---- what a call needs, what it can answer and what it costs

-- how many requests hold the entry of block `at`
abbrev pub holds_at : ℕ → List ReqEntry → ℕ
holds_at at table = sum_by (λ (entry : ReqEntry). if nat_eq entry.block at then entry.count else 0) table

-- the numbers of an entry leave room for one call more
pub record HasRoom (entry : ReqEntry) : Type 0 where
  pub excess : entry.excess < 2 ^ 51
  pub last : IsMoment entry.last
  pub count : entry.count < 2 ^ 32

-- what the call itself needs: its ranges, and an entry that is held
abbrev pub IsReadyAt : List ReqEntry → ReqCall → Type 0
IsReadyAt table (Check key now burst last) = IsAsked key now burst
IsReadyAt table (Account at now) = IsMoment now × (0 < holds_at at table)
IsReadyAt table (Release at) = 0 < holds_at at table

-- what a call needs in this state
pub record Ready (s : ReqState) (call : ReqCall) : Type 0 where
  pub room : All HasRoom s.table
  pub asked : IsReadyAt s.table call

-- an excess that a reply carries
abbrev pub IsExcess : ℕ → Type 0
IsExcess excess = excess < 2 ^ 52

-- an excess within the burst
abbrev pub IsInBurst : ℕ → ℕ → Type 0
IsInBurst burst excess = (excess ≤ burst) × IsExcess excess

-- a check is answered by its kind of limit, by busy above the burst, or by the number of entries that left without making room
abbrev pub CanCheck : ℕ → ℕ → Bool → ReqReply → Type 0
CanCheck entries burst true (Pass excess) = IsInBurst burst excess
CanCheck entries burst false (Pass excess) = ⊥
CanCheck entries burst true (Again excess at) = ⊥
CanCheck entries burst false (Again excess at) = IsInBurst burst excess
CanCheck entries burst last (Busy excess) = (burst < excess) × IsExcess excess
CanCheck entries burst last (NoRoom evicted) = evicted ≤ entries
CanCheck entries burst last (Accounted excess) = ⊥
CanCheck entries burst last Released = ⊥

-- an account is answered by the excess that the entry then has
abbrev pub CanAccount : ReqReply → Type 0
CanAccount (Accounted excess) = IsExcess excess
CanAccount reply = ⊥

-- a release has one answer
abbrev pub CanRelease : ReqReply → Type 0
CanRelease Released = Unit {0}
CanRelease reply = ⊥

-- what a call can be answered in this state
abbrev pub CanAnswer : ReqState → ReqCall → ReqReply → Type 0
CanAnswer s (Check key now burst last) reply = CanCheck (length s.table) burst last reply
CanAnswer s (Account at now) reply = CanAccount reply
CanAnswer s (Release at) reply = CanRelease reply

-- the steps that a call counts at most: a few searches of the tree, and a few words besides
abbrev pub cost_of : ReqState → ReqCall → ℕ
cost_of s (Check key now burst last) = 4 * search_cost (length s.table) (length key) + 64
cost_of s (Account at now) = 32
cost_of s (Release at) = 32
