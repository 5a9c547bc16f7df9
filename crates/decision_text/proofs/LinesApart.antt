-- The line of a decision has one line feed, at its end.
use Rattle.std.proofs.Common.{ℕ, zero, suc, ◌≡◌, ◌≢◌, ◌+◌, ◌%◌, ◌/◌, Bool, true, false, cond, ◌&&◌, ◌==◌, not, List, [], ◌∷◌, ◌++◌, sym, ap, ◌∙◌, refl, arith, append_assoc}
use Rattle.std.specs.Prelude.{nat_eq, nat_lt, Option, Some, None, codes, decimal}
use Rattle.std.specs.Fmt.{digits, digit_glyph, digits_onto}
use Rattle.std.specs.List.{flat_map}
use Rattle.std.proofs.lemmas.Bool.Decides.{nat_tests}
use Rattle.zone_config.specs.declared.data.Config.{Config}
use Rattle.zone_config.specs.declared.data.ServerData.{ServerData}
use Rattle.zone_config.specs.declared.data.ZoneSpec.{ZoneSpec}
use Rattle.zone_config.specs.Configuration.{zone_name}
use Rattle.zone_outside.specs.Coded.{is_plain}
use Rattle.replay_log.specs.declared.line.Line.{Line}
use Rattle.request_script.specs.declared.decision.ConnStatus.{ConnStatus}
use Rattle.request_script.specs.declared.decision.ConnStatus.TheVariants as conn
use Rattle.request_script.specs.declared.decision.Decision.{Decision}
use Rattle.request_script.specs.declared.decision.Decision.TheVariants.{Started, Busy, NextPeer, FailGateway, Ended, IdleFail, IdleDone}
use Rattle.request_script.specs.declared.decision.Excess.{Excess}
use Rattle.request_script.specs.declared.decision.Excess.TheVariants as excess
use Rattle.request_script.specs.declared.decision.Outcome.{Outcome}
use Rattle.request_script.specs.declared.decision.Outcome.TheVariants.{Pass, Limited, Gateway}
use Rattle.request_script.specs.declared.decision.PeerAt.{PeerAt}
use Rattle.request_script.specs.declared.decision.ReqStatus.{ReqStatus}
use Rattle.request_script.specs.declared.decision.ReqStatus.TheVariants as req
use Rattle.std.specs.Prelude.{slice_get}
use Rattle.decision_text.specs.Amounts.{thousandths}
use Rattle.decision_text.specs.Coding.{hex_digit, coded_byte, coded}
use Rattle.decision_text.specs.DecisionText.{name_word, servers_beside, address_word, server_word, outcome_word, req_word, by_word, excess_word, req_words, conn_word, peer_word, decision_words, decision_text}
use Rattle.decision_text.proofs.ImageLemmas.{Lacks, cut_at, lacks-append}

-- ---- texts without a line feed

-- nowhere a line feed
abbrev pub IsInLine : List ℕ → Type 0
IsInLine text = Lacks 10 text

-- the same, as a test
abbrev is_in_line : List ℕ → Bool
is_in_line [] = true
is_in_line (c ∷ cs) = not (nat_eq c 10) && is_in_line cs

first-half : (a b : Bool) → (a && b) ≡ true → a ≡ true
first-half true b e = refl
first-half false b e = e

second-half : (a b : Bool) → (a && b) ≡ true → b ≡ true
second-half true b e = e
second-half false b e = absurd (grind (arith, e))

-- a text that passes the test
tested : (text : List ℕ) → is_in_line text ≡ true → IsInLine text
tested [] e = tt
tested (c ∷ cs) e =
    let one : not (nat_eq c 10) ≡ true = first-half (not (nat_eq c 10)) (is_in_line cs) e in
    (λ is. grind (arith, nat_tests, one, is), tested cs (second-half (not (nat_eq c 10)) (is_in_line cs) e))

-- two texts beside each other
both-in-line : (a b : List ℕ) → IsInLine a → IsInLine b → IsInLine (a ++ b)
both-in-line a b p q = lacks-append 10 a b p q

-- ---- numbers

glyph : (d : ℕ) → digit_glyph false d ≢ 10
glyph d = by (nat_lt d 10) where
  by : (t : Bool) → cond t (48 + d) (87 + d) ≢ 10
  by true = λ e. omega (arith, e)
  by false = λ e. omega (arith, e)

digits-in-line : (k n : ℕ) (acc : List ℕ) → IsInLine acc → IsInLine (digits_onto k 10 false n acc)
digits-in-line zero n acc h = h
digits-in-line (suc k) n acc h = by (n / 10 == 0) (digits-in-line k (n / 10) (digit_glyph false (n % 10) ∷ acc) (glyph (n % 10), h)) where
  by : (t : Bool) → IsInLine (digits_onto k 10 false (n / 10) (digit_glyph false (n % 10) ∷ acc)) → IsInLine (cond t (digit_glyph false (n % 10) ∷ acc) (digits_onto k 10 false (n / 10) (digit_glyph false (n % 10) ∷ acc)))
  by true more = (glyph (n % 10), h)
  by false more = more

number-in-line : (n : ℕ) → IsInLine (decimal n)
unfolding digits
number-in-line n = digits-in-line 64 n [] tt

thousandths-in-line : (n : ℕ) → IsInLine (thousandths n)
thousandths-in-line n =
    let digit : (m : ℕ) → 48 + m ≢ 10 = λ m e. omega (arith, e) in
    both-in-line (decimal (n / 1000)) (46 ∷ (48 + n / 100 % 10) ∷ (48 + n / 10 % 10) ∷ (48 + n % 10) ∷ []) (number-in-line (n / 1000))
    (λ e. absurd (omega (arith, e)), (digit (n / 100 % 10), (digit (n / 10 % 10), (digit (n % 10), tt))))

-- ---- names

hex-in-line : (n : ℕ) → hex_digit n ≢ 10
hex-in-line n = by (nat_lt n 10) where
  by : (t : Bool) → cond t (48 + n) (55 + n) ≢ 10
  by true = λ e. omega (arith, e)
  by false = λ e. omega (arith, e)

byte-in-line : (b : ℕ) → IsInLine (coded_byte b)
byte-in-line b = by (is_plain b) (b == 37) refl where
  escaped : IsInLine (37 ∷ hex_digit (b / 16) ∷ hex_digit (b % 16) ∷ [])
  escaped = (λ e. absurd (omega (arith, e)), (hex-in-line (b / 16), (hex-in-line (b % 16), tt)))

  by : (plain percent : Bool) → is_plain b ≡ plain → IsInLine (cond (plain && not percent) (b ∷ []) (37 ∷ hex_digit (b / 16) ∷ hex_digit (b % 16) ∷ []))
  by true true p = escaped
  by true false p = (λ is. let no : true ≡ false = sym p ∙ ap is_plain is in absurd (grind (arith, no)), tt)
  by false percent p = escaped

coded-in-line : (name : List ℕ) → IsInLine (coded name)
coded-in-line [] = tt
coded-in-line (b ∷ bs) = both-in-line (coded_byte b) (coded bs) (byte-in-line b) (coded-in-line bs)

name-in-line : (zone : Option ZoneSpec) → IsInLine (name_word zone)
name-in-line None = tt
name-in-line (Some zone) = coded-in-line (zone_name zone)

address-in-line : (server : Option ServerData) → IsInLine (address_word server)
address-in-line None = tt
address-in-line (Some server) = coded-in-line server.address

server-in-line : (zones : List ZoneSpec) (peer : PeerAt) → IsInLine (server_word zones peer)
server-in-line zones peer = address-in-line (slice_get (servers_beside zones peer) peer.index)

-- ---- the words of a decision

outcome-in-line : (outcome : Outcome) → IsInLine (outcome_word outcome)
outcome-in-line Pass = tested (codes "pass") refl
outcome-in-line (Limited status) = number-in-line status
outcome-in-line Gateway = tested (codes "502") refl

req-in-line : (status : ReqStatus) → IsInLine (req_word status)
req-in-line req.Unset = tested (codes "-") refl
req-in-line req.Passed = tested (codes "PASSED") refl
req-in-line req.Delayed = tested (codes "DELAYED") refl
req-in-line req.Rejected = tested (codes "REJECTED") refl
req-in-line req.DelayedDry = tested (codes "DELAYED_DRY_RUN") refl
req-in-line req.RejectedDry = tested (codes "REJECTED_DRY_RUN") refl

by-in-line : (zones : List ZoneSpec) (by : Option ℕ) → IsInLine (by_word zones by)
by-in-line zones None = tested (codes "-") refl
by-in-line zones (Some zone) = name-in-line (slice_get zones zone)

excess-in-line : (e : Excess) → IsInLine (excess_word e)
excess-in-line excess.Unset = tested (codes "-") refl
excess-in-line (excess.Amount value) = thousandths-in-line value
excess-in-line excess.Full = tested (codes "full") refl

conn-in-line : (zones : List ZoneSpec) (status : ConnStatus) → IsInLine (conn_word zones status)
conn-in-line zones conn.Unset = tested (codes "-") refl
conn-in-line zones conn.Passed = tested (codes "PASSED") refl
conn-in-line zones (conn.Rejected zone) = both-in-line (codes "REJECTED:") (name_word (slice_get zones zone)) (tested (codes "REJECTED:") refl) (name-in-line (slice_get zones zone))
conn-in-line zones (conn.RejectedDry zone) = both-in-line (codes "REJECTED_DRY_RUN:") (name_word (slice_get zones zone)) (tested (codes "REJECTED_DRY_RUN:") refl) (name-in-line (slice_get zones zone))

peer-in-line : (zones : List ZoneSpec) (peer : Option PeerAt) → IsInLine (peer_word zones peer)
peer-in-line zones None = tested (codes "-") refl
peer-in-line zones (Some peer) = server-in-line zones peer

-- a text, a word behind it, and what follows the word
with-word : (a w b : List ℕ) → IsInLine a → is_in_line w ≡ true → IsInLine b → IsInLine (a ++ w ++ b)
with-word a w b p is q = both-in-line (a ++ w) b (both-in-line a w p (tested w is)) q

limits-in-line : (zones : List ZoneSpec) (status : ReqStatus) (delay : ℕ) (by : Option ℕ) (e : Excess) → IsInLine (req_words zones status delay by e)
limits-in-line zones status delay by e =
    let first = both-in-line (codes " req=") (req_word status) (tested (codes " req=") refl) (req-in-line status) in
    let second = with-word (codes " req=" ++ req_word status) (codes " delay=") (decimal delay) first refl (number-in-line delay) in
    let third = with-word (codes " req=" ++ req_word status ++ codes " delay=" ++ decimal delay) (codes " by=") (by_word zones by) second refl (by-in-line zones by) in
    with-word (codes " req=" ++ req_word status ++ codes " delay=" ++ decimal delay ++ codes " by=" ++ by_word zones by) (codes " excess=") (excess_word e) third refl (excess-in-line e)

words-in-line : (zones : List ZoneSpec) (decision : Decision) → IsInLine (decision_words zones decision)
words-in-line zones Busy = tested (codes "open busy") refl
words-in-line zones (Started outcome status delay by e conns peer) =
    let first = both-in-line (codes "open ") (outcome_word outcome) (tested (codes "open ") refl) (outcome-in-line outcome) in
    let second = both-in-line (codes "open " ++ outcome_word outcome) (req_words zones status delay by e) first (limits-in-line zones status delay by e) in
    let third = with-word (codes "open " ++ outcome_word outcome ++ req_words zones status delay by e) (codes " conn=") (conn_word zones conns) second refl (conn-in-line zones conns) in
    with-word (codes "open " ++ outcome_word outcome ++ req_words zones status delay by e ++ codes " conn=" ++ conn_word zones conns) (codes " peer=") (peer_word zones peer) third refl (peer-in-line zones peer)
words-in-line zones (NextPeer peer) = both-in-line (codes "fail next peer=") (server_word zones peer) (tested (codes "fail next peer=") refl) (server-in-line zones peer)
words-in-line zones FailGateway = tested (codes "fail 502") refl
words-in-line zones IdleFail = tested (codes "fail idle") refl
words-in-line zones Ended = tested (codes "done end") refl
words-in-line zones IdleDone = tested (codes "done idle") refl

-- ---- the line

-- the line without its end
abbrev body : Config → Line → Decision → List ℕ
body config line decision = decimal line.number ++ codes " " ++ decimal line.conn ++ codes " " ++ decision_words config.zones decision

body-in-line : (config : Config) (line : Line) (decision : Decision) → IsInLine (body config line decision)
body-in-line config line decision =
    let numbers = with-word (decimal line.number) (codes " ") (decimal line.conn) (number-in-line line.number) refl (number-in-line line.conn) in
    with-word (decimal line.number ++ codes " " ++ decimal line.conn) (codes " ") (decision_words config.zones decision) numbers refl (words-in-line config.zones decision)

-- two equal texts that begin with the lines of decisions have the same line there, and go on alike
pub decision-before : (config : Config) (line other : Line) (decision another : Decision) (x y : List ℕ) → decision_text config line decision ++ x ≡ decision_text config other another ++ y
    → (decision_text config line decision ≡ decision_text config other another) × (x ≡ y)
decision-before config line other decision another x y e =
    let one = body config line decision in
    let two = body config other another in
    let cut = cut_at 10 one two x y (body-in-line config line decision) (body-in-line config other another) (sym (append_assoc one (10 ∷ []) x) ∙ e ∙ append_assoc two (10 ∷ []) y) in
    (ap (λ (t : List ℕ). t ++ 10 ∷ []) cut.0, cut.1)
