-- The lines of a share, one after another, and what they ask of the zones.
use Rattle.std.specs.Prelude.{ℕ, nat_eq, List, [], ◌∷◌, ◌++◌, Option, Some, None, if◌then◌else◌}
use Rattle.std.specs.List.{filter_map}
use Rattle.zone_config.specs.declared.data.Config.{Config}
use Rattle.replay_log.specs.declared.line.Line.{Line}
use Rattle.req_zone.specs.declared.calls.ReqCall.{ReqCall}
use Rattle.req_zone.specs.declared.calls.ReqReply.{ReqReply}
use Rattle.conn_zone.specs.declared.calls.ConnCall.{ConnCall}
use Rattle.conn_zone.specs.declared.calls.ConnReply.{ConnReply}
use Rattle.peer_zone.specs.declared.calls.PeerCall.{PeerCall}
use Rattle.peer_zone.specs.declared.calls.PeerReply.{PeerReply}
use Rattle.request_script.specs.declared.active.Active.{Active}
use Rattle.request_script.specs.declared.call.ZoneCall.{ZoneCall}
use Rattle.request_script.specs.declared.call.ZoneCall.TheVariants as to
use Rattle.request_script.specs.declared.call.ZoneReply.{ZoneReply}
use Rattle.request_script.specs.declared.call.ZoneReply.TheVariants as from
use Rattle.request_script.specs.declared.decision.Decision.{Decision}
use Rattle.request_script.specs.Turn.{Exchange, Leads}
use Rattle.request_script.specs.Turn.Turn.{decides}
use Rattle.request_script.specs.RequestSteps.{turn_of}

-- the active request of each connection, if it has one
abbrev pub Table : Type 0
Table = ℕ → Option Active

-- at first no connection has one
abbrev pub nothing_active : Table
nothing_active conn = None

-- a table with another active request, or none, for one connection
abbrev pub with_active : Table → ℕ → Option Active → Table
with_active table conn active other = if nat_eq conn other then active else table other

-- The lines of a share from this table on: what they asked, in program order, what was decided of each, and the table behind them.
pub data Drives (config : Config) : Table → List Line → List Exchange → List Decision → Table → Type 0 where
  at_end : (table : Table) → Drives config table [] [] [] table
  line : (table : Table) (line : Line) (lines : List Line) (asked more : List Exchange) (decision : Decision) (active : Option Active) (decisions : List Decision) (last : Table)
      → Leads (turn_of config (table line.conn) line) asked (decides decision active)
      → Drives config (with_active table line.conn active) lines more decisions last
      → Drives config table (line ∷ lines) (asked ++ more) (decision ∷ decisions) last

-- ---- what was asked of one zone

-- a call and a reply of one zone
pub record Made (C R : Type 0) : Type 0 where
  pub call : C
  pub reply : R

-- the exchange with request zone z, if it is one
abbrev pub req_made : ℕ → ZoneCall → ZoneReply → Option (Made ReqCall ReqReply)
req_made z (to.Req zone call) (from.Req reply) = if nat_eq zone z then Some (record { call = call; reply = reply }) else None
req_made z _ _ = None

-- the exchange with connection zone z, if it is one
abbrev pub conn_made : ℕ → ZoneCall → ZoneReply → Option (Made ConnCall ConnReply)
conn_made z (to.Conn zone call) (from.Conn reply) = if nat_eq zone z then Some (record { call = call; reply = reply }) else None
conn_made z _ _ = None

-- the exchange with upstream zone z, if it is one
abbrev pub peer_made : ℕ → ZoneCall → ZoneReply → Option (Made PeerCall PeerReply)
peer_made z (to.Peer zone call) (from.Peer reply) = if nat_eq zone z then Some (record { call = call; reply = reply }) else None
peer_made z _ _ = None

-- the calls to one zone, with their replies, in the order in which they were made
abbrev pub req_part : ℕ → List Exchange → List (Made ReqCall ReqReply)
req_part z asked = filter_map (λ (e : Exchange). req_made z e.call e.reply) asked

-- the calls of connection zone `z` among these, with their replies
abbrev pub conn_part : ℕ → List Exchange → List (Made ConnCall ConnReply)
conn_part z asked = filter_map (λ (e : Exchange). conn_made z e.call e.reply) asked

-- the calls of upstream's zone `z` among these, with their replies
abbrev pub peer_part : ℕ → List Exchange → List (Made PeerCall PeerReply)
peer_part z asked = filter_map (λ (e : Exchange). peer_made z e.call e.reply) asked
