-- Histories of an object's calls, oldest entry first.
use Rattle.std.specs.Prelude.{◌≡◌, ◌==◌, ℕ, ◌<◌, ◌^◌, Bool, List, [], ◌∷◌, ◌++◌, length, filter}
use Rattle.zone_object.specs.declared.object.Entry.{Entry}

-- an object, how many calls there is memory for, and the calls that it was given
pub record Recorded (X E : Type 0) : Type 0 where
  pub object : X
  pub room : ℕ
  pub log : List E

module _ {X St C R : Type 0} where
  -- a call that this caller made, and what it was answered
  abbrev pub entry : ℕ → C → R → Entry X St C R
  entry who call reply = record { caller = who; call = call; reply = reply }

  -- the entry is this caller's
  abbrev pub is_of : ℕ → Entry X St C R → Bool
  is_of who e = e.caller == who

  -- this caller's entries, in their order
  abbrev pub own : List (Entry X St C R) → ℕ → List (Entry X St C R)
  own log who = filter (is_of who) log

  module _ (state_after : St → C → St) where
    -- the state after the calls of a history
    abbrev pub run : St → List (Entry X St C R) → St
    run s [] = s
    run s (e ∷ es) = run (state_after s e.call) es

    -- this holds of each entry and the state that its call found
    abbrev pub AtEach : (St → Entry X St C R → Type 0) → St → List (Entry X St C R) → Type 0
    AtEach Holds s [] = Unit {0}
    AtEach Holds s (e ∷ es) = Holds s e × AtEach Holds (state_after s e.call) es

  -- each reply is the object's at its place
  abbrev pub IsLegal : (St → C → R) → (St → C → St) → St → List (Entry X St C R) → Type 0
  IsLegal reply_of state_after start log = AtEach state_after (λ s e. e.reply ≡ reply_of s e.call) start log

  -- each call is ready at its place
  abbrev pub IsReady : (St → C → St) → (St → C → Type 0) → St → List (Entry X St C R) → Type 0
  IsReady state_after ready start log = AtEach state_after (λ s e. ready s e.call) start log

  -- each reply is one that its call can be given at its place
  abbrev pub IsAnswered : (St → C → St) → (St → C → R → Type 0) → St → List (Entry X St C R) → Type 0
  IsAnswered state_after can_answer start log = AtEach state_after (λ s e. can_answer s e.call e.reply) start log

  module _ (permits : List (Entry X St C R) → C → Type 0) where
    -- after the entries `before`, each call is permitted by its caller's own entries before it
    abbrev pub IsPermitted : List (Entry X St C R) → List (Entry X St C R) → Type 0
    IsPermitted before [] = Unit {0}
    IsPermitted before (e ∷ es) = permits (own before e.caller) e.call × IsPermitted (before ++ e ∷ []) es

    -- fewer than 2^32 entries, each call permitted by its caller's own entries before it
    abbrev pub IsWellFormed : List (Entry X St C R) → Type 0
    IsWellFormed log = (length log < 2 ^ 32) × IsPermitted [] log

  module _ (is_quiet : St → Type 0) (reply_of : St → C → R) (state_after : St → C → St) (permits : List (Entry X St C R) → C → Type 0) where
    -- a legal and well-formed history from a quiet state
    pub record IsHistory (start : St) (log : List (Entry X St C R)) : Type 0 where
      pub begun : is_quiet start
      pub legal : IsLegal reply_of state_after start log
      pub formed : IsWellFormed permits log

  module _ (is_quiet : St → Type 0) (lays : X → St → Type 0) (reply_of : St → C → R) (state_after : St → C → St) (permits : List (Entry X St C R) → C → Type 0) where
    -- the object has run this history from this state: it lays out the state after it
    pub record HasRun (start : St) (object : X) (log : List (Entry X St C R)) : Type 0 where
      pub history : IsHistory is_quiet reply_of state_after permits start log
      pub laid : lays object (run state_after start log)
