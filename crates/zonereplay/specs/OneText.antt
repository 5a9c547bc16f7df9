-- The text of `one`: a line for each key of the log.
use Rattle.std.specs.Prelude.{ℕ, ◌+◌, Bool, true, nat_lt, if◌then◌else◌, List, [], ◌∷◌, ◌++◌, length, Option, None, Some, codes, decimal}
use Rattle.std.specs.List.{concat}
use Rattle.req_zone.specs.declared.rules.Allowed.TheVariants.{Above}
use Rattle.req_zone.specs.declared.calls.ReqReply.{ReqReply}
use Rattle.req_zone.specs.declared.calls.ReqReply.TheVariants.{Pass, Busy, NoRoom}
use Rattle.req_zone.specs.Amount.{delay_of}
use Rattle.req_zone.specs.declared.calls.ReqCall.{ReqCall}
use Rattle.req_zone.specs.declared.calls.ReqCall.TheVariants.{Check}
use Rattle.req_zone.specs.declared.state.ReqState.{ReqState}
use Rattle.req_zone.specs.Object.{opened_zone, answer_of, zone_after}
use Rattle.decision_text.specs.Amounts.{thousandths}
use Rattle.replay_log.specs.declared.keys.KeyLine.{KeyLine}
use Rattle.zonereplay.specs.Words.{OneJob}

-- the excess that a request is delayed for
abbrev pub delayed_excess : ReqReply → ℕ
delayed_excess (Pass excess) = excess
delayed_excess reply = 0

-- what a check by the last limit says; it has no other replies than these three
abbrev pub reply_words : ℕ → ReqReply → List ℕ
reply_words rate (Pass excess) = codes " ok " ++ thousandths excess ++ codes " " ++ decimal (delay_of excess (Above 0) rate)
reply_words rate (Busy excess) = codes " busy " ++ thousandths excess
reply_words rate (NoRoom evicted) = codes " noroom " ++ decimal evicted
reply_words rate reply = []

-- what is said of a key: what its check says, or that it was too long to be checked
abbrev pub key_words : ℕ → Option ReqReply → List ℕ
key_words rate None = codes " skip"
key_words rate (Some reply) = reply_words rate reply

-- the line of the n-th key
abbrev pub key_line : ℕ → ℕ → Option ReqReply → List ℕ
key_line n rate reply = decimal n ++ key_words rate reply ++ codes "\n"

-- ---- a log

-- a key is checked against the burst, as the last limit
abbrev pub check_of : OneJob → KeyLine → ReqCall
check_of job line = Check line.key line.moment job.burst true

-- the key has more bytes than a zone takes
abbrev pub is_long : KeyLine → Bool
is_long line = nat_lt 65535 (length line.key)

-- what a zone answers to the check of a key; none where the key is too long, which is passed over
abbrev pub reply_to : OneJob → ReqState → KeyLine → Option ReqReply
reply_to job s line = if is_long line then None else Some (answer_of s (check_of job line))

-- the zone afterwards
abbrev pub after_key : OneJob → ReqState → KeyLine → ReqState
after_key job s line = if is_long line then s else zone_after s (check_of job line)

-- the lines of the keys from the n-th on, in a zone of this state
abbrev pub key_lines : OneJob → ℕ → ReqState → List KeyLine → List (List ℕ)
key_lines job n s [] = []
key_lines job n s (line ∷ lines) = key_line n job.rate (reply_to job s line) ∷ key_lines job (n + 1) (after_key job s line) lines

-- the zone of `one`, which was just opened
abbrev pub zone_of : OneJob → ReqState
zone_of job = opened_zone job.rate (codes "one") job.bytes

-- the text of `one`: a line for each key of the log, in order
abbrev pub one_text : OneJob → List KeyLine → List ℕ
one_text job keys = concat (key_lines job 1 (zone_of job) keys)
