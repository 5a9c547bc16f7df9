-- What a shared zone, its passes and its notes are seen as, and what calls make of them.
use Rattle.std.specs.Prelude.{◌≡◌, ℕ, ◌<◌, Option, Some, List, [], ◌++◌, length, nat_le, slice_get, slice_index, if◌then◌else◌}
use Rattle.atomic_table.specs.Seated.{TableId}
use Rattle.zone_object.specs.declared.object.Entry.{Entry}
use Rattle.zone_object.specs.History.{own, IsHistory, HasRun}

-- which zone it is
pub record ZoneId : Type 0 where
  pub table : TableId

-- a zone: which one, the state at which its history began, and how many calls each of its passes has room for
pub record Zone (St : Type 0) : Type 0 where
  pub id : ZoneId
  pub start : Option St
  pub rooms : List ℕ

-- a pass: its zone, its number, and the history that it has seen
pub record Caller (St E : Type 0) : Type 0 where
  pub zone : Zone St
  pub number : ℕ
  pub seen : List E

-- a note: its zone, and the history that its pass had seen
pub record Sight (St E : Type 0) : Type 0 where
  pub zone : Zone St
  pub seen : List E

module _ {E : Type 0} where
  -- the history begins with these entries
  abbrev pub StartsWith : List E → List E → Type 0
  StartsWith log seen = (rest : List E) × (log ≡ seen ++ rest)

  -- the longer of two histories
  abbrev pub longer : List E → List E → List E
  longer a b = if nat_le (length a) (length b) then b else a

module _ {X St C R : Type 0} where
  -- the calls that the pass has made
  abbrev pub made : Caller St (Entry X St C R) → List (Entry X St C R)
  made pass = own pass.seen pass.number

  -- the pass has room for another call
  abbrev pub HasRoom : Caller St (Entry X St C R) → Type 0
  HasRoom pass = length (made pass) < slice_index pass.zone.rooms pass.number

  -- it is the same pass, whatever it has seen since
  pub record IsSameCaller (old new : Caller St (Entry X St C R)) : Type 0 where
    pub zone : new.zone ≡ old.zone
    pub number : new.number ≡ old.number

  -- the history begins with all that the pass has seen, and has just the pass's own calls of its number
  pub record Keeps (log : List (Entry X St C R)) (pass : Caller St (Entry X St C R)) : Type 0 where
    pub begins : StartsWith log pass.seen
    pub own_is : own log pass.number ≡ made pass

  -- pass number `number` of a zone that has just been opened
  abbrev pub newcomer : ZoneId → St → List ℕ → ℕ → Caller St (Entry X St C R)
  newcomer id start rooms number = record { zone = record { id = id; start = Some start; rooms = rooms }; number = number; seen = [] }

  module _ (is_quiet : St → Type 0) (lays : X → St → Type 0) where
    -- a zone that has just been opened: it begins at a quiet state that the object lays out, and its passes have seen nothing
    pub record Begins (object : X) (id : ZoneId) (rooms : List ℕ) (passes : List (Caller St (Entry X St C R))) : Type 0 where
      pub start : St
      pub quiet : is_quiet start
      pub laid : lays object start
      pub passes_are : (number : ℕ) → number < length rooms → slice_get passes number ≡ Some (newcomer id start rooms number)

  module _ (is_quiet : St → Type 0) (reply_of : St → C → R) (state_after : St → C → St) (permits : List (Entry X St C R) → C → Type 0) where
    -- a legal and well-formed history from the zone's start
    pub record IsHistoryOf (zone : Zone St) (log : List (Entry X St C R)) : Type 0 where
      pub start : St
      pub start_is : zone.start ≡ Some start
      pub history : IsHistory is_quiet reply_of state_after permits start log

  module _ (is_quiet : St → Type 0) (lays : X → St → Type 0) (reply_of : St → C → R) (state_after : St → C → St) (permits : List (Entry X St C R) → C → Type 0) where
    -- the object has run this history from the zone's start
    pub record HasRunOf (zone : Zone St) (object : X) (log : List (Entry X St C R)) : Type 0 where
      pub start : St
      pub start_is : zone.start ≡ Some start
      pub run : HasRun is_quiet lays reply_of state_after permits start object log
