-- What an opened zone begins with, and all zones together.
use Rattle.std.proofs.Common.{ℕ, zero, suc, ◌≡◌, ◌+◌, ◌<◌, ◌≤◌, List, [], ◌∷◌, ◌++◌, length, map, take, drop, get_or, subst, sym, ap, refl, ◌∙◌, arith}
use Rattle.std.specs.Prelude.{Option, Some, None, IfSome, slice_get}
use Rattle.std.specs.List.{All}
use Rattle.std.proofs.Math.Seq.{take-length, drop-length}
use Rattle.std.proofs.lemmas.List.{take_more, drop_more}
use Rattle.std.proofs.lemmas.List.Elements.{All-nil, All-map, All-weaker}
use Rattle.zone_object.specs.History.{Recorded, HasRun}
use Rattle.zone_config.specs.declared.data.PeerData.{PeerData}
use Rattle.zone_config.specs.declared.data.ServerData.{ServerData}
use Rattle.zone_config.specs.declared.data.ZoneSpec.{ZoneSpec}
use Rattle.zone_config.specs.Conditions as config
use Rattle.peer_zone.specs.declared.calls.PeerSpec.{PeerSpec}
use Rattle.peer_zone.specs.declared.words.PeerWords.{PeerWords}
use Rattle.peer_zone.specs.Object as peer
use Rattle.peer_zone.specs.Opening as opening
use Rattle.peer_zone.specs.Lays as peer_words
use Rattle.peer_zone.specs.declared.state.PeerState.{PeerState}
use Rattle.req_zone.specs.declared.words.ReqWords.{ReqWords}
use Rattle.req_zone.specs.declared.state.ReqState.{ReqState}
use Rattle.req_zone.specs.Object as req
use Rattle.req_zone.specs.Lays as req_words
use Rattle.conn_zone.specs.declared.state.ConnState.{ConnState}
use Rattle.conn_zone.specs.Object as conn
use Rattle.conn_zone.specs.Layout as conn_words
use Rattle.zone_config.specs.declared.data.ReqData.{ReqData}
use Rattle.zone_config.specs.declared.data.ConnData.{ConnData}
use Rattle.request_script.specs.ZoneSpecs.{peer_spec, server_of}
use Rattle.replay_share.specs.declared.journal.ZoneJournal.{ZoneJournal}
use Rattle.replay_share.specs.Logs.{IsAt, ReqEntry, ConnEntry, PeerEntry, HasPart, req_opened, conn_opened, peer_opened}
use Rattle.replay_share.specs.Journals.{RunsReq, RunsConn, RunsPeer, IsJournalOf, Serves, log_of}
use Rattle.replay_share.specs.Opening.{IsNewReq, IsNewConn, IsNewPeer, IsFresh, refused_at, refused_line, first_of}

-- ---- an upstream's zone

server : (d : ServerData) → config.IsServer d → peer.IsServer (server_of d)
server d h = record {
  address = (omega (arith, h.address.0), omega (arith, h.address.1));
  weight = (omega (arith, h.weight.0), omega (arith, h.weight.1));
  max_conns = h.max_conns;
  max_fails = h.max_fails;
  fail_timeout = h.fail_timeout;
}

-- the servers of a configuration are servers of a zone
pub servers : (given : List ServerData) → All config.IsServer given → All peer.IsServer (map server_of given)
servers given h = All-map peer.IsServer server_of given (All-weaker config.IsServer (λ (d : ServerData). peer.IsServer (server_of d)) server given h)

-- ---- a zone that has just been opened, with its journal

pub fresh_req : (given : ReqData) (room : ℕ) (zone : ReqWords) (journal : Recorded ReqWords ReqEntry) → IsNewReq given zone → journal ≡ record { object = zone; room = room; log = [] }
    → ((s : ReqState) → req.IsOpened s → req_words.Lays zone s → HasRun req.IsOpened req_words.Lays req.answer_of req.zone_after req.Permits s journal.object journal.log) → RunsReq given room journal × (journal.log ≡ [])
fresh_req given room zone journal new is ran =
    let empty : journal.log ≡ [] = ap (λ (j : Recorded ReqWords ReqEntry). j.log) is in (
      record {
        room_is = ap (λ (j : Recorded ReqWords ReqEntry). j.room) is;
        ran = ran (req_opened given) new.quiet new.laid;
        mine = subst (λ (l : List ReqEntry). All (λ (e : ReqEntry). e.caller < 1) l) (sym empty) (All-nil (λ (e : ReqEntry). e.caller < 1));
      },
      empty,
    )

pub fresh_conn : (given : ConnData) (room : ℕ) (zone : conn_words.Zone) (journal : Recorded conn_words.Zone ConnEntry) → IsNewConn given zone → journal ≡ record { object = zone; room = room; log = [] }
    → ((s : ConnState) → conn.IsOpened s → conn_words.Lays zone s → HasRun conn.IsOpened conn_words.Lays conn.answer_of conn.zone_after conn.Permits s journal.object journal.log) → RunsConn given room journal × (journal.log ≡ [])
fresh_conn given room zone journal new is ran =
    let empty : journal.log ≡ [] = ap (λ (j : Recorded conn_words.Zone ConnEntry). j.log) is in (
      record {
        room_is = ap (λ (j : Recorded conn_words.Zone ConnEntry). j.room) is;
        ran = ran (conn_opened given) new.quiet new.laid;
        mine = subst (λ (l : List ConnEntry). All (λ (e : ConnEntry). e.caller < 1) l) (sym empty) (All-nil (λ (e : ConnEntry). e.caller < 1));
      },
      empty,
    )

pub fresh_peer : (given : PeerData) (room : ℕ) (zone : PeerWords) (journal : Recorded PeerWords PeerEntry) → IsNewPeer given zone → journal ≡ record { object = zone; room = room; log = [] }
    → ((s : PeerState) → opening.IsOpened s → peer_words.Lays zone s → HasRun opening.IsOpened peer_words.Lays peer.answer_of peer.zone_after peer.Permits s journal.object journal.log) → RunsPeer given room journal × (journal.log ≡ [])
fresh_peer given room zone journal new is ran =
    let empty : journal.log ≡ [] = ap (λ (j : Recorded PeerWords PeerEntry). j.log) is in (
      record {
        room_is = ap (λ (j : Recorded PeerWords PeerEntry). j.room) is;
        ran = ran (peer_opened given) new.quiet new.laid;
        mine = subst (λ (l : List PeerEntry). All (λ (e : PeerEntry). e.caller < 1) l) (sym empty) (All-nil (λ (e : PeerEntry). e.caller < 1));
      },
      empty,
    )

-- the state is that of what was asked, where the specification of an upstream's zone is known by another name
pub new_peer : (given : PeerData) (spec : PeerSpec) (zone : PeerWords) → spec ≡ peer_spec given → opening.IsOpened (opening.opened_zone spec) → peer_words.Lays zone (opening.opened_zone spec) → opening.refused_server spec ≡ None
    → IsNewPeer given zone × (opening.refused_server (peer_spec given) ≡ None)
new_peer given spec zone is quiet laid none = (
  record {
    quiet = subst (λ (s : PeerSpec). opening.IsOpened (opening.opened_zone s)) is quiet;
    laid = subst (λ (s : PeerSpec). peer_words.Lays zone (opening.opened_zone s)) is laid;
  },
  ap opening.refused_server (sym is) ∙ none,
)

-- ---- all zones

-- each zone has a journal of which nothing was asked
abbrev pub AreFresh : ℕ → List ZoneSpec → List ZoneJournal → Type 0
AreFresh room [] [] = Unit {0}
AreFresh room (spec ∷ specs) (journal ∷ journals) = IsFresh spec room journal × AreFresh room specs journals
AreFresh room _ _ = ⊥

pub fresh-push : (room : ℕ) (specs : List ZoneSpec) (journals : List ZoneJournal) (spec : ZoneSpec) (journal : ZoneJournal) → AreFresh room specs journals → IsFresh spec room journal → AreFresh room (specs ++ spec ∷ []) (journals ++ journal ∷ [])
fresh-push room [] [] spec journal h one = (one, tt)
fresh-push room (s ∷ ss) (j ∷ js) spec journal h one = (h.0, fresh-push room ss js spec journal h.1 one)
fresh-push room [] (j ∷ js) spec journal h one = elim h [ ]
fresh-push room (s ∷ ss) [] spec journal h one = elim h [ ]

at_each : (room : ℕ) (specs : List ZoneSpec) (journals : List ZoneJournal) → AreFresh room specs journals → (i z : ℕ) → IsAt (IsJournalOf room) (slice_get specs z) (slice_get journals z)
at_each room [] [] h i z = tt
at_each room (s ∷ ss) (j ∷ js) h i zero = h.0.kept
at_each room (s ∷ ss) (j ∷ js) h i (suc z) = at_each room ss js h.1 i z
at_each room [] (j ∷ js) h i z = elim h [ ]
at_each room (s ∷ ss) [] h i z = elim h [ ]

part_of : (room : ℕ) (specs : List ZoneSpec) (journals : List ZoneJournal) → AreFresh room specs journals → (z i : ℕ) → IfSome (slice_get (map log_of journals) i) (HasPart [] 0 z)
part_of room [] [] h z i = tt
part_of room (s ∷ ss) (j ∷ js) h z zero = h.0.nothing z
part_of room (s ∷ ss) (j ∷ js) h z (suc i) = part_of room ss js h.1 z i
part_of room [] (j ∷ js) h z i = elim h [ ]
part_of room (s ∷ ss) [] h z i = elim h [ ]

pub fresh-serves : (room : ℕ) (specs : List ZoneSpec) (journals : List ZoneJournal) → AreFresh room specs journals → Serves journals specs room []
fresh-serves room specs journals h = record {
  each = λ z. at_each room specs journals h z z;
  parts = λ z. part_of room specs journals h z z;
  kinds = All-nil _;
}

-- the line that is refused among the zones from one on that has its block
pub refused-rest : (spec : ZoneSpec) (specs : List ZoneSpec) → refused_at spec ≡ None → refused_line (spec ∷ specs) ≡ refused_line specs
refused-rest spec specs none = rw none refl

pub refused-here : (spec : ZoneSpec) (specs : List ZoneSpec) (line : ℕ) → refused_at spec ≡ Some line → refused_line (spec ∷ specs) ≡ Some line
refused-here spec specs line is = rw is refl

-- ---- one zone after another

pub opens-more : (room : ℕ) (zones : List ZoneSpec) (i : ℕ) (zone : ZoneSpec) (journals new : List ZoneJournal) (journal : ZoneJournal) → i < length zones → zone ≡ get_or zones i zone
    → AreFresh room (take i zones) journals → refused_line zones ≡ refused_line (drop i zones) → IsFresh zone room journal → refused_at zone ≡ None → new ≡ journals ++ journal ∷ []
    → AreFresh room (take (i + 1) zones) new × (refused_line zones ≡ refused_line (drop (i + 1) zones))
opens-more room zones i zone journals new journal low is fresh rest one none new_is =
    let taken : take (i + 1) zones ≡ take i zones ++ zone ∷ [] = take_more zones i zone low ∙ ap (λ (z : ZoneSpec). take i zones ++ z ∷ []) (sym is) in
    let left : drop i zones ≡ zone ∷ drop (i + 1) zones = drop_more zones i zone low ∙ ap (λ (z : ZoneSpec). z ∷ drop (i + 1) zones) (sym is) in (
      subst (λ (l : List ZoneJournal). AreFresh room (take (i + 1) zones) l) (sym new_is)
          (subst (λ (l : List ZoneSpec). AreFresh room l (journals ++ journal ∷ [])) (sym taken) (fresh-push room (take i zones) journals zone journal fresh one)),
      rest ∙ ap refused_line left ∙ refused-rest zone (drop (i + 1) zones) none,
    )

pub opens-all : (room : ℕ) (zones : List ZoneSpec) (i : ℕ) (journals : List ZoneJournal) → length zones ≤ i → i ≤ length zones → AreFresh room (take i zones) journals → refused_line zones ≡ refused_line (drop i zones)
    → Serves journals zones room [] × (refused_line zones ≡ None)
opens-all room zones i journals past within fresh rest =
    let end : i ≡ length zones = omega (arith, past, within) in (
      fresh-serves room zones journals (subst (λ (l : List ZoneSpec). AreFresh room l journals) (ap (λ (n : ℕ). take n zones) end ∙ take-length zones) fresh),
      rest ∙ ap (λ (n : ℕ). refused_line (drop n zones)) end ∙ ap refused_line (drop-length zones),
    )
