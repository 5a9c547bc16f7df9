-- The laws of a share's calls.
use Rattle.std.specs.Prelude.{ℕ, ◌+◌, ◌*◌, ◌<◌, ◌≤◌, List, [], ◌∷◌, ◌++◌, length, Option, slice_get}
use Rattle.std.specs.List.{All}
use Rattle.zone_config.specs.declared.data.Config.{Config}
use Rattle.zone_config.specs.declared.data.ZoneSpec.{ZoneSpec}
use Rattle.zone_config.specs.Conditions.{IsConfig}
use Rattle.replay_log.specs.declared.line.Line.{Line}
use Rattle.replay_log.specs.Limits.{IsLineOf}
use Rattle.request_script.specs.declared.active.Active.{Active}
use Rattle.request_script.specs.declared.call.ZoneCall.{ZoneCall}
use Rattle.request_script.specs.declared.call.ZoneReply.{ZoneReply}
use Rattle.request_script.specs.declared.decision.Decision.{Decision}
use Rattle.request_script.specs.Turn.{Turn, Exchange, Leads}
use Rattle.request_script.specs.Turn.Turn.{asks, decides}
use Rattle.request_script.specs.RequestSteps.{turn_of}
use Rattle.request_script.specs.Drive.{Table, with_active, nothing_active, Drives}
use Rattle.request_script.specs.Permitted.{MayAsk, IsOfKind, zone_of, calls_to}

-- ---- what a turn asks, whatever it is answered

-- P holds of each call of a turn and of the exchanges that led to it.
abbrev pub AtEachCall : (List Exchange → ZoneCall → Type 0) → Turn → Type 0
AtEachCall P turn = (since : List Exchange) (call : ZoneCall) (next : ZoneReply → Turn) → Leads turn since (asks call next) → P since call

-- after what was asked before the turn, each of its calls is permitted
abbrev pub Permits : List Exchange → Turn → Type 0
Permits past = AtEachCall (λ since call. MayAsk (past ++ since) call)

-- the zone of each call is there, and of its kind
abbrev pub AsksKinds : List ZoneSpec → Turn → Type 0
AsksKinds zones = AtEachCall (λ since call. IsOfKind (slice_get zones (zone_of call)) call)

-- before each call fewer than so many went to its zone, those before the turn among them
abbrev pub LeavesRoom : List Exchange → ℕ → Turn → Type 0
LeavesRoom past room = AtEachCall (λ since call. calls_to (zone_of call) (past ++ since) < room)

-- a turn asks at most so many times
abbrev pub AsksAtMost : ℕ → Turn → Type 0
AsksAtMost most = AtEachCall (λ since call. length since < most)

-- ---- what holds of a share

-- P holds of the lines of a share that were decided, of a next line, of what the lines asked and of the turn of the next one,
-- whatever was answered.
abbrev pub AtNextLine : (Config → List Line → Line → List Exchange → Turn → Type 0) → Type 0
AtNextLine P = (config : Config) (lines : List Line) (next : Line) (asked : List Exchange) (decisions : List Decision) (table : Table) → IsConfig config
    → Drives config nothing_active lines asked decisions table → P config lines next asked (turn_of config (table next.conn) next)

-- Each call that a share asks is permitted by what it asked before and was answered.
abbrev pub PermitsLaw : Type 0
PermitsLaw = AtNextLine (λ config lines next asked turn. All (IsLineOf (length config.locations)) lines → IsLineOf (length config.locations) next → Permits asked turn)

-- Each call that a share asks goes to a zone that is there and of its kind.
abbrev pub KindsLaw : Type 0
KindsLaw = AtNextLine (λ config lines next asked turn. AsksKinds config.zones turn)

-- A line is decided after at most 32 calls.
abbrev pub EndsLaw : Type 0
EndsLaw = AtNextLine (λ config lines next asked turn. AsksAtMost 32 turn)

-- A share makes at most 3 calls to each zone for each of its lines.
abbrev pub RoomsLaw : Type 0
RoomsLaw = (config : Config) (lines : List Line) (asked : List Exchange) (decisions : List Decision) (table : Table) (zone : ℕ) → IsConfig config
    → Drives config nothing_active lines asked decisions table → calls_to zone asked ≤ 3 * length lines

-- Each zone has room for the next call where it has room for 3 calls for each line, the present one among them.
abbrev pub RoomLeftLaw : Type 0
RoomLeftLaw = AtNextLine (λ config lines next asked turn. LeavesRoom asked (3 * (length lines + 1)) turn)

-- ---- how a share goes on

-- A reply to the call that is asked leads to what follows it.
abbrev pub ExchangeLaw : Type 0
ExchangeLaw = (turn : Turn) (since : List Exchange) (call : ZoneCall) (next : ZoneReply → Turn) (reply : ZoneReply)
    → Leads turn since (asks call next) → Leads turn (since ++ record { call = call; reply = reply } ∷ []) (next reply)

-- A line that is decided follows the lines before it.
abbrev pub LineLaw : Type 0
LineLaw = (config : Config) (first : Table) (lines : List Line) (asked : List Exchange) (decisions : List Decision) (table : Table) (next : Line) (since : List Exchange) (decision : Decision) (active : Option Active)
    → Drives config first lines asked decisions table → Leads (turn_of config (table next.conn) next) since (decides decision active)
    → Drives config first (lines ++ next ∷ []) (asked ++ since) (decisions ++ decision ∷ []) (with_active table next.conn active)
