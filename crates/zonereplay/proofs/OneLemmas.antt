-- The zone of `one` over the keys of a log.
use Rattle.std.proofs.Common.{ℕ, ◌≡◌, ◌+◌, ◌<◌, ◌≤◌, ◌^◌, true, cond, List, [], ◌∷◌, ◌++◌, length, Option, Some, None, Result, Ok, Err, arith, ap, sym, subst, ◌∙◌, refl, length-append, append_assoc, append-nil}
use Rattle.std.specs.List.{concat}
use Rattle.std.proofs.lemmas.Bool.{lt-ltb, le-ltb}
use Rattle.zone_object.specs.declared.object.Entry.{Entry}
use Rattle.zone_object.specs.History.{entry, run}
use Rattle.zone_object.proofs.Histories.{run-append, has_run-nil, has_run-snoc, ready_next}
use Rattle.req_zone.specs.declared.calls.ReqCall.{ReqCall}
use Rattle.req_zone.specs.declared.calls.ReqCall.TheVariants.{Check}
use Rattle.req_zone.specs.declared.calls.ReqReply.{ReqReply}
use Rattle.req_zone.specs.declared.calls.ReqReply.TheVariants.{Pass, Again, Busy, NoRoom, Accounted, Released}
use Rattle.req_zone.specs.declared.state.ReqState.{ReqState}
use Rattle.req_zone.specs.declared.words.ReqWords.{ReqWords}
use Rattle.req_zone.specs.Object.{IsOpened, answer_of, zone_after, Permits, Ready, IsAsked, CanCheck}
use Rattle.req_zone.specs.ObjectLaws.{ready-law}
use Rattle.req_zone.specs.Proving.Answers.{answer-law}
use Rattle.req_zone.specs.Lays.{Lays}
use Rattle.replay_log.specs.declared.fault.LogFault.{LogFault}
use Rattle.replay_log.specs.declared.fault.LogFault.TheVariants.{At, NoMemory}
use Rattle.replay_log.specs.declared.keys.KeyLine.{KeyLine}
use Rattle.replay_log.specs.Lines.{Fault, parts, before_rest, lines_from}
use Rattle.replay_log.specs.Keys.{key_line as says_key, keys_of}
use Rattle.replay_log.specs.Next.{GivesNext}
use Rattle.zonereplay.specs.Words.{OneJob}
use Rattle.zonereplay.specs.OneText.{delayed_excess, check_of, reply_to, after_key, zone_of, key_line, key_lines, one_text}
use Rattle.zonereplay.specs.Checking.{HasAnswered}
use Rattle.zonereplay.specs.OneKeys.{TellsKeys}

-- a zone that was just opened has answered nothing
pub opened_answered : (zone : ReqWords) (s : ReqState) → IsOpened s → Lays zone s → HasAnswered zone s 0 s
opened_answered zone s quiet laid = record { log = []; ran = has_run-nil IsOpened Lays answer_of zone_after Permits s zone quiet laid; state = refl; few = omega arith }

-- it lays out the state that it is said to be in
pub answered_laid : (zone : ReqWords) (start s : ReqState) (calls : ℕ) → HasAnswered zone start calls s → Lays zone s
answered_laid zone start s calls h = subst (Lays zone) h.state h.ran.laid

-- a check in its ranges is ready
pub answered_ready : (zone : ReqWords) (start s : ReqState) (calls : ℕ) (key : List ℕ) (now burst : ℕ) → HasAnswered zone start calls s → calls + 1 < 2 ^ 32 → IsAsked key now burst → Ready s (Check key now burst true)
answered_ready zone start s calls key now burst h short asked =
    let few = h.few in
    subst (λ (t : ReqState). Ready t (Check key now burst true)) h.state
    (ready_next IsOpened answer_of zone_after Permits Ready ready-law start h.log 0 (Check key now burst true) h.ran.history (omega (arith, few, short)) asked)

-- and is one call more
pub answered_more : (zone after : ReqWords) (start s : ReqState) (calls : ℕ) (key : List ℕ) (now burst : ℕ) → HasAnswered zone start calls s → calls + 1 < 2 ^ 32 → IsAsked key now burst
    → Lays after (zone_after s (Check key now burst true)) → HasAnswered after start (calls + 1) (zone_after s (Check key now burst true))
answered_more zone after start s calls key now burst h short asked laid =
    let few = h.few in
    let call : ReqCall = Check key now burst true in
    let there : ReqState = run zone_after start h.log in
    let e : Entry ReqWords ReqState ReqCall ReqReply = entry 0 call (answer_of there call) in
    let became : Lays after (zone_after there call) = subst (λ (t : ReqState). Lays after (zone_after t call)) (sym h.state) laid in
    record {
      log = h.log ++ e ∷ [];
      ran = has_run-snoc IsOpened Lays answer_of zone_after Permits start zone after h.log e h.ran became refl (omega (arith, few, short)) asked;
      state = run-append zone_after start h.log (e ∷ []) ∙ ap (λ (t : ReqState). zone_after t call) h.state;
      few = omega (arith, few, length-append h.log (e ∷ []));
    }

-- no call more is as few
pub answered_still : (zone : ReqWords) (start s : ReqState) (calls : ℕ) → HasAnswered zone start calls s → HasAnswered zone start (calls + 1) s
answered_still zone start s calls h = let few = h.few in record { log = h.log; ran = h.ran; state = h.state; few = omega (arith, few) }

within : (entries burst : ℕ) (reply : ReqReply) → CanCheck entries burst true reply → delayed_excess reply < 2 ^ 52
within entries burst (Pass excess) can = can.1
within entries burst (Again excess at) can = absurd can
within entries burst (Busy excess) can = omega arith
within entries burst (NoRoom evicted) can = omega arith
within entries burst (Accounted excess) can = absurd can
within entries burst Released can = absurd can

-- what is delayed is small
pub delayed_small : (s : ReqState) (key : List ℕ) (now burst : ℕ) → Ready s (Check key now burst true) → delayed_excess (answer_of s (Check key now burst true)) < 2 ^ 52
delayed_small s key now burst ready = within (length s.table) burst (answer_of s (Check key now burst true)) (answer-law s (Check key now burst true) ready)

-- ---- one key

-- a key that is too long is passed over
pub long_reply : (job : OneJob) (s : ReqState) (line : KeyLine) → 65535 < length line.key → reply_to job s line ≡ None
long_reply job s line long = ap (λ b. cond b None (Some (answer_of s (check_of job line)))) (lt-ltb 65535 (length line.key) long)

pub long_after : (job : OneJob) (s : ReqState) (line : KeyLine) → 65535 < length line.key → after_key job s line ≡ s
long_after job s line long = ap (λ b. cond b s (zone_after s (check_of job line))) (lt-ltb 65535 (length line.key) long)

-- another one is checked
pub short_reply : (job : OneJob) (s : ReqState) (line : KeyLine) → length line.key ≤ 65535 → reply_to job s line ≡ Some (answer_of s (check_of job line))
short_reply job s line short = ap (λ b. cond b None (Some (answer_of s (check_of job line)))) (le-ltb 65535 (length line.key) short)

pub short_after : (job : OneJob) (s : ReqState) (line : KeyLine) → length line.key ≤ 65535 → after_key job s line ≡ zone_after s (check_of job line)
short_after job s line short = ap (λ b. cond b s (zone_after s (check_of job line))) (le-ltb 65535 (length line.key) short)

-- ---- the text

-- the text has one line more
pub text_more : (job : OneJob) (n : ℕ) (s : ReqState) (line : KeyLine) (lines : List KeyLine) (text old new : List ℕ) (reply : Option ReqReply)
    → text ≡ old ++ concat (key_lines job n s (line ∷ lines)) → reply ≡ reply_to job s line → new ≡ old ++ key_line n job.rate reply
    → text ≡ new ++ concat (key_lines job (n + 1) (after_key job s line) lines)
text_more job n s line lines text old new reply was is grew =
    let later = concat (key_lines job (n + 1) (after_key job s line) lines) in
    was ∙ ap (λ r. old ++ (key_line n job.rate r ++ later)) (sym is) ∙ sym (append_assoc old (key_line n job.rate reply) later) ∙ ap (λ (t : List ℕ). t ++ later) (sym grew)

-- ---- a log, key by key

-- the log leads to this text and to what is left of it, from the n-th line on in a zone of this state
abbrev pub Leads : OneJob → Result (List KeyLine) Fault → ℕ → ReqState → Result (List KeyLine) Fault → List ℕ → Type 0
Leads job said n s (Ok left) text = (keys : List KeyLine) × (said ≡ Ok keys) × (one_text job keys ≡ text ++ concat (key_lines job n s left))
Leads job said n s (Err fault) text = said ≡ Err fault

-- from its beginning on
pub leads_first : (job : OneJob) (said : Result (List KeyLine) Fault) → Leads job said 1 (zone_of job) said []
leads_first job (Ok keys) = (keys, refl, refl)
leads_first job (Err fault) = refl

-- by one key more
pub leads_more : (job : OneJob) (said : Result (List KeyLine) Fault) (n : ℕ) (s : ReqState) (line : KeyLine) (left : Result (List KeyLine) Fault) (old new : List ℕ) (reply : Option ReqReply)
    → Leads job said n s (before_rest n (Ok line) left) old → reply ≡ reply_to job s line → new ≡ old ++ key_line n job.rate reply
    → Leads job said (n + 1) (after_key job s line) left new
leads_more job said n s line (Ok lines) old new reply was is grew = (was.0, was.1, text_more job n s line lines (one_text job was.0) old new reply was.2 is grew)
leads_more job said n s line (Err fault) old new reply was is grew = was

-- to its end
pub leads_end : (job : OneJob) (log : List ℕ) (n : ℕ) (s : ReqState) (rest text : List ℕ) → length rest ≡ 0
    → Leads job (keys_of log) n s (lines_from says_key n (parts 10 rest)) text → TellsKeys job log (Ok text)
leads_end job log n s [] text none was = (was.0, was.1, sym (was.2 ∙ append-nil text))
leads_end job log n s (c ∷ cs) text none was = absurd (omega (arith, none))

-- or to its first fault
pub leads_fault : (job : OneJob) (log : List ℕ) (n : ℕ) (s : ReqState) (rest text : List ℕ) (fault : LogFault)
    → Leads job (keys_of log) n s (lines_from says_key n (parts 10 rest)) text → GivesNext says_key n rest (Err fault) → TellsKeys job log (Err fault)
leads_fault job log n s rest text (At line kind) was is = subst (λ (left : Result (List KeyLine) Fault). Leads job (keys_of log) n s left text) is was
leads_fault job log n s rest text NoMemory was is = tt
