-- The rule of the queue that carries a zone's turn.
use Rattle.std.specs.Prelude.{◌≡◌, ℕ, ◌+◌, ◌<◌, ◌≤◌, ◌⊎◌, true, false, Some, None, option_map, unwrap_or, List, [], ◌∷◌, length, slice_index, All}
use mathlib.Core.Option.{some}
use lib.ListN.{get_elem?}
use Rattle.zone_object.specs.declared.object.Entry.{Entry}
use Rattle.zone_object.specs.History.{own, HasRun}
use Rattle.shared_zone.specs.declared.rule.View.{View}
use Rattle.shared_zone.specs.Callers.{StartsWith, longer}

-- what the turn carries: the object, the rooms of the passes, and the log of all calls
pub record Carried (X E : Type 0) : Type 0 where
  pub object : X
  pub rooms : List ℕ
  pub log : List E

-- what the rule says there is: the zone's start, rooms and history, the place of the pass of each number, the next number, and the place of the pass that has the turn
pub record Plan (St E : Type 0) : Type 0 where
  pub start : St
  pub rooms : List ℕ
  pub log : List E
  pub seat : ℕ → ℕ
  pub next : ℕ
  pub keeper : ℕ

module _ {X St C R : Type 0} where
  -- no caller has made more calls than it has room for, and one without a room has made none
  abbrev pub Within : List ℕ → List (Entry X St C R) → Type 0
  Within rooms log = (who : ℕ) → length (own log who) ≤ slice_index rooms who

  -- the view of a pass: its number is its own, and it has seen all entries of that number
  pub record Lives (seat : ℕ → ℕ) (next : ℕ) (log : List (Entry X St C R)) (place : ℕ) (v : View X St C R) : Type 0 where
    pub seat_is : seat v.number ≡ place
    pub number : v.number < next
    pub seen : own log v.number ≡ own v.seen v.number
    pub before : own log v.number ≡ own v.before v.number

  -- what a pass had seen that ended
  pub record Ended (log : List (Entry X St C R)) (pass : ℕ × List (Entry X St C R)) : Type 0 where
    pub begins : StartsWith log pass.1
    pub own_is : own log pass.0 ≡ own pass.1 pass.0

  -- the view of the pass that has the turn: the queue is empty, and it has seen the whole history
  pub record Holds (p : Plan St (Entry X St C R)) (items : List (Carried X (Entry X St C R))) (place : ℕ) (v : View X St C R) : Type 0 where
    pub empty : items ≡ []
    pub keeper : place ≡ p.keeper
    pub live : v.live ≡ true
    pub log : v.seen ≡ p.log
    pub ended : All (Ended p.log) v.ended

  -- a view of this zone: what it keeps begins the history
  pub record Knows (p : Plan St (Entry X St C R)) (items : List (Carried X (Entry X St C R))) (place : ℕ) (v : View X St C R) (start : St) : Type 0 where
    pub start_is : start ≡ p.start
    pub rooms : v.rooms ≡ p.rooms
    pub seen : StartsWith p.log v.seen
    pub before : StartsWith p.log v.before
    pub met : StartsWith p.log v.met
    pub live : v.live ≡ true → Lives p.seat p.next p.log place v
    pub opens : (number : ℕ) → v.next ≡ Some number → (place ≡ 0) × (number ≡ p.next)
    pub holds : v.holding ≡ true → Holds p items place v

  -- a view of this zone, or one that knows no zone and is no pass
  pub record Sees (p : Plan St (Entry X St C R)) (items : List (Carried X (Entry X St C R))) (place : ℕ) (v : View X St C R) : Type 0 where
    pub spent : v.start ≡ None → v.live ≡ false
    pub knows : (start : St) → v.start ≡ Some start → Knows p items place v start

  -- the pass at this place has the turn
  abbrev pub IsOut : ℕ → List (View X St C R) → Type 0
  IsOut keeper views = (v : View X St C R) × (get_elem? views keeper ≡ some v) × (v.holding ≡ true)

  abbrev pub AllSee : Plan St (Entry X St C R) → List (Carried X (Entry X St C R)) → List (View X St C R) → Type 0
  AllSee p items views = (place : ℕ) (v : View X St C R) → get_elem? views place ≡ some v → Sees p items place v

  module _ (is_quiet : St → Type 0) (lays : X → St → Type 0) (reply_of : St → C → R) (state_after : St → C → St) (permits : List (Entry X St C R) → C → Type 0) where
    -- the object that the turn carries has run the turn's log from this state
    abbrev pub HasRunLog : St → Carried X (Entry X St C R) → Type 0
    HasRunLog start x = HasRun is_quiet lays reply_of state_after permits start x.object x.log

  module _ (Good : St → Carried X (Entry X St C R) → Type 0) where
    -- the turn lies in the queue, with the zone's history
    pub record Rests (p : Plan St (Entry X St C R)) (x : Carried X (Entry X St C R)) : Type 0 where
      pub rooms : x.rooms ≡ p.rooms
      pub log : x.log ≡ p.log
      pub good : Good p.start x

    -- it lies there alone, or a pass has it
    abbrev pub Lies : Plan St (Entry X St C R) → List (Carried X (Entry X St C R)) → List (View X St C R) → Type 0
    Lies p [] views = IsOut p.keeper views
    Lies p (x ∷ xs) views = Rests p x × (xs ≡ [])

    -- a zone that has been opened
    pub record IsOpen (items : List (Carried X (Entry X St C R))) (views : List (View X St C R)) : Type 0 where
      pub plan : Plan St (Entry X St C R)
      pub lies : Lies plan items views
      pub within : Within plan.rooms plan.log
      pub early : (who : ℕ) → plan.next ≤ who → own plan.log who ≡ []
      pub see : AllSee plan items views

  -- ---- the views and their steps

  -- the first view, before the turn lies in the queue
  abbrev pub blank : View X St C R
  blank = record { start = None; rooms = []; number = 0; next = None; live = true; holding = false; seen = []; before = []; met = []; ended = [] }

  -- the view of a pass or a note that was taken in
  abbrev pub spent : View X St C R
  spent = record blank { live = false }

  -- the view of the opener, which is no pass and makes the passes
  abbrev pub opener : St → List ℕ → View X St C R
  opener start rooms = record { start = Some start; rooms = rooms; number = 0; next = Some 0; live = false; holding = false; seen = []; before = []; met = []; ended = [] }

  -- the opener makes the next pass, which is seen as `made_by`
  abbrev pub maker : View X St C R → View X St C R
  maker v = record v { next = option_map (λ n. n + 1) v.next }

  abbrev pub made_by : View X St C R → View X St C R
  made_by v = record { start = v.start; rooms = v.rooms; number = unwrap_or v.next 0; next = None; live = true; holding = false; seen = []; before = []; met = []; ended = [] }

  -- a pass that takes the turn, in which this log lies, and one that gives it back
  abbrev pub taker : View X St C R → List (Entry X St C R) → View X St C R
  taker v log = record v { holding = true; seen = log; before = log; met = []; ended = [] }

  abbrev pub giver : View X St C R → List (Entry X St C R) → View X St C R
  giver v log = record v { holding = false; seen = log; before = log; met = []; ended = [] }

  -- a copy of what a pass has seen
  abbrev pub noted : View X St C R → View X St C R
  noted v = record { start = v.start; rooms = v.rooms; number = v.number; next = None; live = false; holding = false; seen = v.seen; before = []; met = []; ended = [] }

  -- a pass that meets a note
  abbrev pub meeter : View X St C R → View X St C R → View X St C R
  meeter v w = record v { seen = longer v.seen w.seen; before = v.seen; met = w.seen }

  -- a pass that holds the turn and takes in one that ends
  abbrev pub ender : View X St C R → View X St C R → View X St C R
  ender v w = record v { ended = (w.number, w.seen) ∷ v.ended }

  -- ---- what the steps tell

  module _ (Good : St → Carried X (Entry X St C R) → Type 0) where
    -- the rule: nothing has happened yet, or the zone is open
    abbrev pub InTurn : List (Carried X (Entry X St C R)) → List (View X St C R) → Type 0
    InTurn items views = ((items ≡ []) × (views ≡ blank ∷ [])) ⊎ IsOpen Good items views

    -- the first push: the zone begins
    pub record Opens (x : Carried X (Entry X St C R)) (w : View X St C R) : Type 0 where
      pub start : St
      pub good : Good start x
      pub view : w ≡ opener start x.rooms

    -- a pop that takes the turn
    pub record Takes (v : View X St C R) (x : Carried X (Entry X St C R)) (w : View X St C R) : Type 0 where
      pub view : w ≡ taker v x.log
      pub good : (start : St) → v.start ≡ Some start → Good start x
      pub rooms : v.rooms ≡ x.rooms
      pub begins : StartsWith x.log v.seen
      pub own_is : own x.log v.number ≡ own v.seen v.number
      pub within : Within x.rooms x.log

  -- the look of a pass that has met a note: of both histories one begins the other
  pub record Meets (v : View X St C R) : Type 0 where
    pub either : StartsWith v.before v.met ⊎ StartsWith v.met v.before
    pub own_is : own v.seen v.number ≡ own v.before v.number

  -- the look of the pass that closes the zone
  abbrev pub Closes : View X St C R → Type 0
  Closes v = All (Ended v.seen) v.ended
