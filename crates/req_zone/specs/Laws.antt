-- What holds of every call of a request zone.
use Rattle.std.specs.Prelude.{◌≡◌, ℕ, ◌+◌, ◌<◌, ◌≤◌, ◌↔◌, Bool, true, false, ◌&&◌, nat_eq, List, [], ◌∷◌, ◌++◌, length, map, find, reverse, Some, None, if◌then◌else◌}
use Rattle.std.specs.List.{All, Contains}
use Rattle.zone_region.specs.Members.{In, IsDistinct}
use Rattle.slab_model.specs.Blocks.{live_bytes, IsLive}
use Rattle.slab_model.specs.Geometry.{IsInLimits, shape_of}
use Rattle.slab_model.specs.Grant.{grant}
use Rattle.slab_model.specs.Return.{give_back}
use Rattle.slab_model.specs.Store.{slab_store}
use Rattle.req_zone.specs.declared.state.ReqEntry.{ReqEntry}
use Rattle.req_zone.specs.declared.state.ReqState.{ReqState}
use Rattle.req_zone.specs.declared.calls.ReqCall.{ReqCall}
use Rattle.req_zone.specs.declared.calls.ReqCall.TheVariants.{Check}
use Rattle.req_zone.specs.declared.calls.ReqReply.TheVariants.{Pass, Again, Busy, NoRoom}
use Rattle.req_zone.specs.Amount.{IsRate, amount_of}
use Rattle.req_zone.specs.Table.{entry_of, others, is_stale}
use Rattle.req_zone.specs.Expiry.{stale_leaving, first_leaving, forced_leaving, evict}
use Rattle.req_zone.specs.Step.{node_size, stored, with_count, new_entry, new_reply}
use Rattle.req_zone.specs.Object.{context_size, name_size, IsName, with_context, with_name, opened_zone, IsOpened, parts_of, with_parts, answer_of, zone_after, holds_at, Ready, CanAnswer}
use Rattle.req_zone.specs.Holding.{IsWhole}

-- ---- busy

-- the key has an entry, and one request more makes its amount greater than the burst
pub record IsAboveBurst (s : ReqState) (key : List ℕ) (now burst excess : ℕ) (entry : ReqEntry) : Type 0 where
  pub found : entry_of key s.table ≡ Some entry
  pub above : burst < excess
  pub amount : excess ≡ amount_of s.rate entry.excess entry.last now

-- busy is answered exactly where the amount is above the burst
abbrev pub BusyLaw : Type 0
BusyLaw = (s : ReqState) (key : List ℕ) (now burst : ℕ) (last : Bool) (excess : ℕ) → (answer_of s (Check key now burst last) ≡ Busy excess) ↔ ((entry : ReqEntry) × IsAboveBurst s key now burst excess entry)

-- the same zone with another table
abbrev pub with_table : ReqState → List ReqEntry → ReqState
with_table s table = with_parts s (record { table = table; memory = s.slab })

-- and then the entry stands at the front, and all else is as before
abbrev pub BusyKeepsLaw : Type 0
BusyKeepsLaw = (s : ReqState) (key : List ℕ) (now burst : ℕ) (last : Bool) (excess : ℕ) (entry : ReqEntry) → IsAboveBurst s key now burst excess entry → zone_after s (Check key now burst last) ≡ with_table s (entry ∷ others key s.table)

-- ---- within the burst

-- the key has an entry, and one request more makes its amount at most the burst
pub record IsWithinBurst (s : ReqState) (key : List ℕ) (now burst excess : ℕ) (entry : ReqEntry) : Type 0 where
  pub found : entry_of key s.table ≡ Some entry
  pub within : excess ≤ burst
  pub amount : excess ≡ amount_of s.rate entry.excess entry.last now

-- the last limit then passes the request, stores the amount, and the entry comes to the front
abbrev pub PassLaw : Type 0
PassLaw = (s : ReqState) (key : List ℕ) (now burst excess : ℕ) (entry : ReqEntry) → IsWithinBurst s key now burst excess entry → (answer_of s (Check key now burst true) ≡ Pass excess) × (zone_after s (Check key now burst true) ≡ with_table s (stored excess now entry ∷ others key s.table))

-- and an earlier one holds the entry
abbrev pub AgainLaw : Type 0
AgainLaw = (s : ReqState) (key : List ℕ) (now burst excess : ℕ) (entry : ReqEntry) → IsWithinBurst s key now burst excess entry → (answer_of s (Check key now burst false) ≡ Again excess entry.block) × (zone_after s (Check key now burst false) ≡ with_table s (with_count (entry.count + 1) entry ∷ others key s.table))

-- ---- expiry, one entry after another

-- the zone once stale entries left, so many at most
abbrev pub stale_expired : ℕ → ℕ → ReqState → ReqState
stale_expired most now s = with_parts s (evict slab_store (parts_of s) (stale_leaving s.rate now most (reverse s.table)))

-- the zone after the first expiry
abbrev pub first_expired : ReqState → ℕ → ReqState
first_expired s now = with_parts s (evict slab_store (parts_of s) (first_leaving s.rate now s.table))

-- the zone after the forced expiry
abbrev pub forced_expired : ReqState → ℕ → ReqState
forced_expired s now = with_parts s (evict slab_store (parts_of s) (forced_leaving s.rate now s.table))

-- the zone once its oldest entry left: the newer ones, and the slab with its block given back
abbrev pub oldest_left : ReqState → List ReqEntry → ReqEntry → ReqState
oldest_left s newer oldest = with_parts s (record { table = newer; memory = give_back s.slab oldest.block })

-- the first expiry lets up to two stale entries leave
abbrev pub FirstStepLaw : Type 0
FirstStepLaw = (s : ReqState) (now : ℕ) → first_expired s now ≡ stale_expired 2 now s

-- the oldest entry leaves where it is stale and no request holds it, and then the others may
abbrev pub StaleStepLaw : Type 0
StaleStepLaw = (s : ReqState) (now most : ℕ) (newer : List ReqEntry) (oldest : ReqEntry) → s.table ≡ newer ++ oldest ∷ [] → stale_expired (1 + most) now s ≡ (if nat_eq oldest.count 0 && is_stale s.rate now oldest then stale_expired most now (oldest_left s newer oldest) else s)

-- the forced expiry lets the oldest entry leave, stale or not, where no request holds it, and then up to two stale ones
abbrev pub ForcedStepLaw : Type 0
ForcedStepLaw = (s : ReqState) (now : ℕ) (newer : List ReqEntry) (oldest : ReqEntry) → s.table ≡ newer ++ oldest ∷ [] → forced_expired s now ≡ (if nat_eq oldest.count 0 then stale_expired 2 now (oldest_left s newer oldest) else s)

-- nothing changes where none may leave or there is none
abbrev pub NoneExpiresLaw : Type 0
NoneExpiresLaw = (s : ReqState) (now : ℕ) → (stale_expired 0 now s ≡ s) × (s.table ≡ [] → (most : ℕ) → stale_expired most now s ≡ s) × (s.table ≡ [] → forced_expired s now ≡ s)

-- ---- a missing key

-- the zone once its slab was asked for so many bytes
abbrev pub asked_for : ReqState → ℕ → ReqState
asked_for s size = with_parts s (record { table = s.table; memory = (grant s.slab size).1 })

-- the zone before its slab is asked a second time
abbrev pub before_second : ReqState → ℕ → ℕ → ReqState
before_second s now size = forced_expired (asked_for (first_expired s now) size) now

-- the zone with a new entry of the key, in a block that its slab gives
abbrev pub admitted : ReqState → List ℕ → ℕ → Bool → ℕ → ReqState
admitted s key now last at = with_parts s (record { table = new_entry key now last at ∷ s.table; memory = (grant s.slab (node_size + length key)).1 })

-- the check of a missing key puts it in where the slab has a block after the first expiry
abbrev pub FirstRoomLaw : Type 0
FirstRoomLaw = (s : ReqState) (key : List ℕ) (now burst : ℕ) (last : Bool) (at : ℕ) → entry_of key s.table ≡ None → (grant (first_expired s now).slab (node_size + length key)).0 ≡ Some at
    → (answer_of s (Check key now burst last) ≡ new_reply last at) × (zone_after s (Check key now burst last) ≡ admitted (first_expired s now) key now last at)

-- or else where it has one after the forced expiry
abbrev pub SecondRoomLaw : Type 0
SecondRoomLaw = (s : ReqState) (key : List ℕ) (now burst : ℕ) (last : Bool) (at : ℕ) → entry_of key s.table ≡ None → (grant (first_expired s now).slab (node_size + length key)).0 ≡ None → (grant (before_second s now (node_size + length key)).slab (node_size + length key)).0 ≡ Some at
    → (answer_of s (Check key now burst last) ≡ new_reply last at) × (zone_after s (Check key now burst last) ≡ admitted (before_second s now (node_size + length key)) key now last at)

-- the key is missing, and the slab has no block for its node before and after the forced expiry
pub record HasNoRoom (s : ReqState) (key : List ℕ) (now evicted : ℕ) : Type 0 where
  pub missing : entry_of key s.table ≡ None
  pub before : (grant (first_expired s now).slab (node_size + length key)).0 ≡ None
  pub after : (grant (before_second s now (node_size + length key)).slab (node_size + length key)).0 ≡ None
  pub left : evicted ≡ first_leaving s.rate now s.table + forced_leaving s.rate now (first_expired s now).table

-- no room is answered exactly there
abbrev pub NoRoomLaw : Type 0
NoRoomLaw = (s : ReqState) (key : List ℕ) (now burst : ℕ) (last : Bool) (evicted : ℕ) → (answer_of s (Check key now burst last) ≡ NoRoom evicted) ↔ HasNoRoom s key now evicted

-- and what both expiries removed stays removed
abbrev pub NoRoomLeavesLaw : Type 0
NoRoomLeavesLaw = (s : ReqState) (key : List ℕ) (now burst : ℕ) (last : Bool) (evicted : ℕ) → HasNoRoom s key now evicted → zone_after s (Check key now burst last) ≡ asked_for (before_second s now (node_size + length key)) (node_size + length key)

-- ---- entries that are held

-- the table has an entry of this one's key in this one's block
pub record IsStillIn (table : List ReqEntry) (entry : ReqEntry) : Type 0 where
  pub kept : ReqEntry
  pub there : Contains table kept
  pub key : kept.key ≡ entry.key
  pub block : kept.block ≡ entry.block

-- an entry that is held is never evicted
abbrev pub HeldStaysLaw : Type 0
HeldStaysLaw = (s : ReqState) (call : ReqCall) (entry : ReqEntry) → Contains s.table entry → 0 < entry.count → IsStillIn (zone_after s call).table entry

-- the first entry of block `at` is held
pub record IsHeldBy (table : List ReqEntry) (at : ℕ) (entry : ReqEntry) : Type 0 where
  pub found : find (λ (e : ReqEntry). nat_eq e.block at) table ≡ Some entry
  pub block : entry.block ≡ at
  pub held : 0 < entry.count

-- in a whole zone a block that is held is that of an entry with a count above 0
abbrev pub HeldEntryLaw : Type 0
HeldEntryLaw = (s : ReqState) (at : ℕ) → IsWhole s → 0 < holds_at at s.table → (entry : ReqEntry) × IsHeldBy s.table at entry

-- ---- the blocks of a zone

-- the blocks of a zone: of its context, of its name, and of its entries, newest first
abbrev pub blocks_of : ReqState → List ℕ
blocks_of s = s.context ∷ s.name_block ∷ map (λ (entry : ReqEntry). entry.block) s.table

-- the blocks of a whole zone differ, and they are the live blocks of its slab
abbrev pub WholeLaw : Type 0
WholeLaw = (s : ReqState) → IsWhole s → IsDistinct (blocks_of s) × ((at : ℕ) → In at (blocks_of s) ↔ IsLive s.slab at)

-- each block has the bytes that it was granted for
pub record HasSpace (s : ReqState) : Type 0 where
  pub context : context_size ≤ live_bytes s.slab s.context
  pub name : name_size s.name ≤ live_bytes s.slab s.name_block
  pub nodes : All (λ (entry : ReqEntry). node_size + length entry.key ≤ live_bytes s.slab entry.block) s.table

-- as in every whole zone
abbrev pub SpaceLaw : Type 0
SpaceLaw = (s : ReqState) → IsWhole s → HasSpace s

-- a zone stays whole when its oldest entry leaves
abbrev pub OldestWholeLaw : Type 0
OldestWholeLaw = (s : ReqState) (newer : List ReqEntry) (oldest : ReqEntry) → IsWhole s → s.table ≡ newer ++ oldest ∷ [] → IsWhole (oldest_left s newer oldest)

-- when its slab gives nothing
abbrev pub AskedWholeLaw : Type 0
AskedWholeLaw = (s : ReqState) (size : ℕ) → IsWhole s → 0 < size → (grant s.slab size).0 ≡ None → IsWhole (asked_for s size)

-- when an entry comes
abbrev pub AdmittedWholeLaw : Type 0
AdmittedWholeLaw = (s : ReqState) (key : List ℕ) (now : ℕ) (last : Bool) (at : ℕ) → IsWhole s → entry_of key s.table ≡ None → (grant s.slab (node_size + length key)).0 ≡ Some at → IsWhole (admitted s key now last at)

-- and with each ready call
abbrev pub CallWholeLaw : Type 0
CallWholeLaw = (s : ReqState) (call : ReqCall) → IsWhole s → Ready s call → IsWhole (zone_after s call)

-- what opening a zone makes: the slab gives both blocks, and a history may begin there
pub record Opens (rate : ℕ) (name : List ℕ) (bytes : ℕ) : Type 0 where
  pub context : (with_context bytes).0 ≡ Some (opened_zone rate name bytes).context
  pub name_block : (with_name bytes name).0 ≡ Some (opened_zone rate name bytes).name_block
  pub whole : IsWhole (opened_zone rate name bytes)
  pub quiet : IsOpened (opened_zone rate name bytes)

-- each zone within the limits opens so
abbrev pub OpenLaw : Type 0
OpenLaw = (rate : ℕ) (name : List ℕ) (bytes : ℕ) → IsRate rate → IsName name → IsInLimits (shape_of bytes) → Opens rate name bytes

-- ---- the laws of an object

-- what a ready call is answered is a reply that it can be given
abbrev pub AnswerLaw : Type 0
AnswerLaw = (s : ReqState) (call : ReqCall) → Ready s call → CanAnswer s call (answer_of s call)

-- a zone that was just opened is known by its rate, its name and its shape
abbrev pub StartLaw : Type 0
StartLaw = (s t : ReqState) → IsOpened s → IsOpened t → s.rate ≡ t.rate → s.name ≡ t.name → s.slab.shape ≡ t.slab.shape → s ≡ t
