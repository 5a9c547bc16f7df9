-- That the line of a call tells the call: what can be printed, and what a text of such lines tells.
use Rattle.std.specs.Prelude.{ℕ, ◌≡◌, ◌^◌, ◌<◌, List, ◌++◌}
use Rattle.hex.specs.Hex.{IsBytes}
use Rattle.req_zone.specs.declared.calls.ReqCall.{ReqCall}
use Rattle.req_zone.specs.declared.calls.ReqCall.TheVariants.{Check, Account, Release}
use Rattle.req_zone.specs.declared.calls.ReqReply.{ReqReply}
use Rattle.req_zone.specs.declared.calls.ReqReply.TheVariants as req
use Rattle.conn_zone.specs.declared.calls.ConnCall.{ConnCall}
use Rattle.conn_zone.specs.declared.calls.ConnCall.TheVariants.{Open, Close}
use Rattle.conn_zone.specs.declared.calls.ConnReply.{ConnReply}
use Rattle.conn_zone.specs.declared.calls.ConnReply.TheVariants as conn
use Rattle.peer_zone.specs.declared.calls.PeerCall.{PeerCall}
use Rattle.peer_zone.specs.declared.calls.PeerCall.TheVariants.{Choose, Free}
use Rattle.peer_zone.specs.declared.calls.PeerReply.{PeerReply}
use Rattle.peer_zone.specs.declared.calls.PeerReply.TheVariants as peer
use Rattle.zone_config.specs.declared.data.Config.{Config}
use Rattle.replay_log.specs.declared.line.Line.{Line}
use Rattle.request_script.specs.declared.decision.Decision.{Decision}
use Rattle.decision_text.specs.DecisionText.{decision_text}
use Rattle.decision_text.specs.HistoryText.{entry_line, req_call_words, req_reply_words, conn_call_words, conn_reply_words, peer_call_words, peer_reply_words}

-- ---- what the program's types hold: numbers of 64 bits, and keys of bytes

-- a number of 64 bits
abbrev pub IsNumber : ℕ → Type 0
IsNumber n = n < 2 ^ 64

-- the numbers and the key of a request zone's call
abbrev pub HasReqNumbers : ReqCall → Type 0
HasReqNumbers (Check key now burst last) = IsBytes key × IsNumber now × IsNumber burst
HasReqNumbers (Account at now) = IsNumber at × IsNumber now
HasReqNumbers (Release at) = IsNumber at

-- the numbers of its replies
abbrev pub AnswersReqNumbers : ReqReply → Type 0
AnswersReqNumbers (req.Pass excess) = IsNumber excess
AnswersReqNumbers (req.Again excess at) = IsNumber excess × IsNumber at
AnswersReqNumbers (req.Busy excess) = IsNumber excess
AnswersReqNumbers (req.NoRoom evicted) = IsNumber evicted
AnswersReqNumbers (req.Accounted excess) = IsNumber excess
AnswersReqNumbers req.Released = Unit {0}

-- the numbers and the key of a connection zone's call
abbrev pub HasConnNumbers : ConnCall → Type 0
HasConnNumbers (Open key limit) = IsBytes key × IsNumber limit
HasConnNumbers (Close at) = IsNumber at

-- the numbers of its replies
abbrev pub AnswersConnNumbers : ConnReply → Type 0
AnswersConnNumbers (conn.Opened at count) = IsNumber at × IsNumber count
AnswersConnNumbers (conn.AtLimit count) = IsNumber count
AnswersConnNumbers conn.NoRoom = Unit {0}
AnswersConnNumbers (conn.Closed count) = IsNumber count

-- the numbers of an upstream zone's call
abbrev pub HasPeerNumbers : PeerCall → Type 0
HasPeerNumbers (Choose list tried now) = IsNumber list × IsNumber tried × IsNumber now
HasPeerNumbers (Free list index failed now) = IsNumber list × IsNumber index × IsNumber now

-- the numbers of its replies
abbrev pub AnswersPeerNumbers : PeerReply → Type 0
AnswersPeerNumbers (peer.Peer index) = IsNumber index
AnswersPeerNumbers peer.NoPeer = Unit {0}
AnswersPeerNumbers peer.Freed = Unit {0}

-- ---- what is told

-- a call at a place of a history: the worker that made it, what it asked and what it was answered
pub record Placed (C R : Type 0) : Type 0 where
  pub place : ℕ
  pub worker : ℕ
  pub call : C
  pub reply : R

module _ {C R : Type 0} (HasNumbers : C → Type 0) (AnswersNumbers : R → Type 0) where
  -- its numbers are those of the program's types
  pub record IsPrintable (p : Placed C R) : Type 0 where
    pub place : IsNumber p.place
    pub worker : IsNumber p.worker
    pub call : HasNumbers p.call
    pub reply : AnswersNumbers p.reply

  module _ (call_words : C → List ℕ) (reply_words : R → List ℕ) where
    -- the line of a call at its place
    abbrev pub placed_line : Placed C R → List ℕ
    placed_line p = entry_line p.place p.worker (call_words p.call) (reply_words p.reply)

    -- Two equal texts that begin with the lines of two calls have the same call at the same place by the same worker with
    -- the same answer, and go on alike.
    abbrev pub LineTellsItsCall : Type 0
    LineTellsItsCall = (one other : Placed C R) (first second : List ℕ) → IsPrintable one → IsPrintable other → placed_line one ++ first ≡ placed_line other ++ second → (one ≡ other) × (first ≡ second)

-- that of each kind of zone
abbrev pub ReqLineTellsItsCall : Type 0
ReqLineTellsItsCall = LineTellsItsCall HasReqNumbers AnswersReqNumbers req_call_words req_reply_words

-- two calls of a connection zone with one line are one call with one reply
abbrev pub ConnLineTellsItsCall : Type 0
ConnLineTellsItsCall = LineTellsItsCall HasConnNumbers AnswersConnNumbers conn_call_words conn_reply_words

-- two calls of an upstream's zone with one line are one call with one reply
abbrev pub PeerLineTellsItsCall : Type 0
PeerLineTellsItsCall = LineTellsItsCall HasPeerNumbers AnswersPeerNumbers peer_call_words peer_reply_words

-- ---- decisions

-- Two equal texts that begin with the lines of two decisions have the same line there, and go on alike.
abbrev pub DecisionLineIsOneLine : Type 0
DecisionLineIsOneLine = (config : Config) (line other : Line) (decision another : Decision) (first second : List ℕ) → decision_text config line decision ++ first ≡ decision_text config other another ++ second
    → (decision_text config line decision ≡ decision_text config other another) × (first ≡ second)
