-- The opening of a configuration's zones.
use Rattle.std.specs.Prelude.{ℕ, ◌≡◌, List, [], ◌∷◌, Option, Some, None, IsSome, Result, Ok, Err}
use Rattle.zone_object.specs.History.{Recorded}
use Rattle.zone_config.specs.declared.data.ReqData.{ReqData}
use Rattle.zone_config.specs.declared.data.ConnData.{ConnData}
use Rattle.zone_config.specs.declared.data.PeerData.{PeerData}
use Rattle.zone_config.specs.declared.data.ZoneSpec.{ZoneSpec}
use Rattle.zone_config.specs.declared.data.ZoneSpec.TheVariants.{Req, Conn, Peer}
use Rattle.req_zone.specs.declared.words.ReqWords.{ReqWords}
use Rattle.req_zone.specs.Object as req
use Rattle.req_zone.specs.Lays as req_words
use Rattle.conn_zone.specs.Object as conn
use Rattle.conn_zone.specs.Layout as conn_words
use Rattle.peer_zone.specs.declared.words.PeerWords.{PeerWords}
use Rattle.peer_zone.specs.Opening as opening
use Rattle.peer_zone.specs.Lays as peer_words
use Rattle.request_script.specs.ZoneSpecs.{peer_spec}
use Rattle.replay_share.specs.declared.journal.ZoneJournal.{ZoneJournal}
use Rattle.replay_share.specs.declared.opening.OpeningFault.{OpeningFault}
use Rattle.replay_share.specs.declared.opening.OpeningFault.TheVariants.{Refused, NoMemory}
use Rattle.replay_share.specs.Logs.{ReqEntry, ConnEntry, PeerEntry, HasPart, req_opened, conn_opened, peer_opened}
use Rattle.replay_share.specs.Journals.{RunsReq, RunsConn, RunsPeer, IsJournalOf, Serves, log_of}

-- a line, where a server is refused a block
abbrev pub line_if_refused : ℕ → Option ℕ → Option ℕ
line_if_refused line None = None
line_if_refused line (Some server) = Some line

-- the line of a zone that has no block for a server of its upstream
abbrev pub refused_at : ZoneSpec → Option ℕ
refused_at (Req spec key) = None
refused_at (Conn spec key) = None
refused_at (Peer spec line) = line_if_refused line (opening.refused_server (peer_spec spec))

-- the first of two that is there
abbrev pub first_of : Option ℕ → Option ℕ → Option ℕ
first_of None second = second
first_of (Some line) second = Some line

-- The line of the first zone that has no block for a server.
abbrev pub refused_line : List ZoneSpec → Option ℕ
refused_line [] = None
refused_line (spec ∷ specs) = first_of (refused_at spec) (refused_line specs)

-- ---- what an opening answers; want of memory says nothing

-- a journal of which nothing was asked yet
pub record IsFresh (spec : ZoneSpec) (room : ℕ) (journal : ZoneJournal) : Type 0 where
  pub kept : IsJournalOf room spec journal
  pub nothing : (z : ℕ) → HasPart [] 0 z (log_of journal)

-- a zone of each kind that lays out the state of one that was just opened
pub record IsNewReq (spec : ReqData) (zone : ReqWords) : Type 0 where
  pub quiet : req.IsOpened (req_opened spec)
  pub laid : req_words.Lays zone (req_opened spec)

-- a connection zone as it is opened
pub record IsNewConn (spec : ConnData) (zone : conn_words.Zone) : Type 0 where
  pub quiet : conn.IsOpened (conn_opened spec)
  pub laid : conn_words.Lays zone (conn_opened spec)

-- an upstream's zone as it is opened
pub record IsNewPeer (spec : PeerData) (zone : PeerWords) : Type 0 where
  pub quiet : opening.IsOpened (peer_opened spec)
  pub laid : peer_words.Lays zone (peer_opened spec)

-- an upstream's zone, or that it has no block for a server
abbrev pub OpensPeer : PeerData → ℕ → Result PeerWords OpeningFault → Type 0
OpensPeer spec line (Ok zone) = IsNewPeer spec zone × (opening.refused_server (peer_spec spec) ≡ None)
OpensPeer spec line (Err (Refused at)) = IsSome (opening.refused_server (peer_spec spec)) × (at ≡ line)
OpensPeer spec line (Err NoMemory) = Unit {0}

-- a zone of each kind with its journal, of which nothing was asked yet
abbrev pub BeginsReq : ReqData → ℕ → Recorded ReqWords ReqEntry → Type 0
BeginsReq spec room journal = RunsReq spec room journal × (journal.log ≡ [])

-- the journal of a connection zone that was just opened
abbrev pub BeginsConn : ConnData → ℕ → Recorded conn_words.Zone ConnEntry → Type 0
BeginsConn spec room journal = RunsConn spec room journal × (journal.log ≡ [])

-- the journal of an upstream's zone that was just opened, or the fault of its directive's line
abbrev pub BeginsPeer : PeerData → ℕ → ℕ → Result (Recorded PeerWords PeerEntry) OpeningFault → Type 0
BeginsPeer spec line room (Ok journal) = RunsPeer spec room journal × (journal.log ≡ []) × (opening.refused_server (peer_spec spec) ≡ None)
BeginsPeer spec line room (Err (Refused at)) = IsSome (opening.refused_server (peer_spec spec)) × (at ≡ line)
BeginsPeer spec line room (Err NoMemory) = Unit {0}

-- any zone
abbrev pub OpensZone : ZoneSpec → ℕ → Result ZoneJournal OpeningFault → Type 0
OpensZone spec room (Ok journal) = IsFresh spec room journal × (refused_at spec ≡ None)
OpensZone spec room (Err (Refused at)) = refused_at spec ≡ Some at
OpensZone spec room (Err NoMemory) = Unit {0}

-- All zones: their journals, of which nothing was asked yet, or the line of the first that has no block for a server.
abbrev pub OpensZones : List ZoneSpec → ℕ → Result (List ZoneJournal) OpeningFault → Type 0
OpensZones zones room (Ok journals) = Serves journals zones room [] × (refused_line zones ≡ None)
OpensZones zones room (Err (Refused at)) = refused_line zones ≡ Some at
OpensZones zones room (Err NoMemory) = Unit {0}
