-- The history of a zone as it is printed: a line that begins it, and a line for each call with its answer.
use Rattle.std.specs.Prelude.{ℕ, Bool, true, false, List, ◌++◌, codes, decimal}
use Rattle.req_zone.specs.declared.calls.ReqCall.{ReqCall}
use Rattle.req_zone.specs.declared.calls.ReqCall.TheVariants.{Check, Account, Release}
use Rattle.req_zone.specs.declared.calls.ReqReply.{ReqReply}
use Rattle.req_zone.specs.declared.calls.ReqReply.TheVariants as req
use Rattle.conn_zone.specs.declared.calls.ConnCall.{ConnCall}
use Rattle.conn_zone.specs.declared.calls.ConnCall.TheVariants.{Open, Close}
use Rattle.conn_zone.specs.declared.calls.ConnReply.{ConnReply}
use Rattle.conn_zone.specs.declared.calls.ConnReply.TheVariants as conn
use Rattle.peer_zone.specs.declared.calls.PeerCall.{PeerCall}
use Rattle.peer_zone.specs.declared.calls.PeerCall.TheVariants.{Choose, Free}
use Rattle.peer_zone.specs.declared.calls.PeerReply.{PeerReply}
use Rattle.peer_zone.specs.declared.calls.PeerReply.TheVariants as peer
use Rattle.decision_text.specs.Coding.{coded}
use Rattle.decision_text.specs.Hexadecimal.{hex_bytes, hex_word}

-- `zone NAME KIND calls=N`, with blanks around the kind
abbrev pub zone_head : List ℕ → List ℕ → ℕ → List ℕ
zone_head name kind calls = codes "zone " ++ coded name ++ kind ++ codes "calls=" ++ decimal calls ++ codes "\n"

-- a number behind a word and its blank
abbrev pub with_number : List ℕ → ℕ → List ℕ
with_number word number = word ++ decimal number

-- the line of an entry: its place in the history from 1, the worker that made the call, what was asked and what was answered
abbrev pub entry_line : ℕ → ℕ → List ℕ → List ℕ → List ℕ
entry_line place worker asked answered = with_number (decimal place ++ codes " ") worker ++ codes " " ++ asked ++ answered ++ codes "\n"

-- ---- request zones

-- whether the check is that of the last limit
abbrev pub last_word : Bool → List ℕ
last_word true = codes " 1"
last_word false = codes " 0"

-- a call of a request zone
abbrev pub req_call_words : ReqCall → List ℕ
req_call_words (Check key now burst last) = codes "check " ++ hex_bytes key ++ with_number (codes " ") now ++ with_number (codes " ") burst ++ last_word last
req_call_words (Account at now) = with_number (codes "account ") at ++ with_number (codes " ") now
req_call_words (Release at) = with_number (codes "release ") at

-- what a request zone answers
abbrev pub req_reply_words : ReqReply → List ℕ
req_reply_words (req.Pass excess) = with_number (codes " ok ") excess
req_reply_words (req.Again excess at) = with_number (codes " again ") excess ++ with_number (codes " ") at
req_reply_words (req.Busy excess) = with_number (codes " busy ") excess
req_reply_words (req.NoRoom evicted) = with_number (codes " noroom ") evicted
req_reply_words (req.Accounted excess) = with_number (codes " accounted ") excess
req_reply_words req.Released = codes " released"

-- ---- connection zones

-- a call of a connection zone
abbrev pub conn_call_words : ConnCall → List ℕ
conn_call_words (Open key limit) = codes "open " ++ hex_bytes key ++ with_number (codes " ") limit
conn_call_words (Close at) = with_number (codes "close ") at

-- what a connection zone answers
abbrev pub conn_reply_words : ConnReply → List ℕ
conn_reply_words (conn.Opened at count) = with_number (codes " opened ") at ++ with_number (codes " ") count
conn_reply_words (conn.AtLimit count) = with_number (codes " atlimit ") count
conn_reply_words conn.NoRoom = codes " noroom"
conn_reply_words (conn.Closed count) = with_number (codes " closed ") count

-- ---- upstream zones

-- how a try of a server ended
abbrev pub end_word : Bool → List ℕ
end_word true = codes " failed"
end_word false = codes " good"

-- a call of an upstream's zone
abbrev pub peer_call_words : PeerCall → List ℕ
peer_call_words (Choose list tried now) = with_number (codes "choose ") list ++ codes " " ++ hex_word tried ++ with_number (codes " ") now
peer_call_words (Free list index failed now) = with_number (codes "free ") list ++ with_number (codes " ") index ++ end_word failed ++ with_number (codes " ") now

-- what an upstream's zone answers
abbrev pub peer_reply_words : PeerReply → List ℕ
peer_reply_words (peer.Peer index) = with_number (codes " peer ") index
peer_reply_words peer.NoPeer = codes " nopeer"
peer_reply_words peer.Freed = codes " freed"
