-- The lines of calls read back.
use Rattle.std.proofs.Common.{ℕ, ◌≡◌, ◌<◌, ◌≤◌, Bool, true, false, List, [], ◌∷◌, ◌++◌, drop, sym, ap, ◌∙◌, refl, arith, append_assoc}
use Rattle.std.specs.Prelude.{nat_eq, if◌then◌else◌, slice_index, decimal}
use Rattle.hex.specs.Hex.{IsBytes}
use Rattle.req_zone.specs.declared.calls.ReqCall.{ReqCall}
use Rattle.req_zone.specs.declared.calls.ReqCall.TheVariants.{Check, Account, Release}
use Rattle.req_zone.specs.declared.calls.ReqReply.{ReqReply}
use Rattle.req_zone.specs.declared.calls.ReqReply.TheVariants as req
use Rattle.conn_zone.specs.declared.calls.ConnCall.{ConnCall}
use Rattle.conn_zone.specs.declared.calls.ConnCall.TheVariants.{Open, Close}
use Rattle.conn_zone.specs.declared.calls.ConnReply.{ConnReply}
use Rattle.conn_zone.specs.declared.calls.ConnReply.TheVariants as conn
use Rattle.peer_zone.specs.declared.calls.PeerCall.{PeerCall}
use Rattle.peer_zone.specs.declared.calls.PeerCall.TheVariants.{Choose, Free}
use Rattle.peer_zone.specs.declared.calls.PeerReply.{PeerReply}
use Rattle.peer_zone.specs.declared.calls.PeerReply.TheVariants as peer
use Rattle.decision_text.specs.Hexadecimal.{hex_bytes, hex_word}
use Rattle.decision_text.specs.HistoryText.{req_call_words, req_reply_words, conn_call_words, conn_reply_words, peer_call_words, peer_reply_words}
use Rattle.decision_text.specs.Telling.{IsNumber, Placed, IsPrintable, HasReqNumbers, AnswersReqNumbers, HasConnNumbers, AnswersConnNumbers, HasPeerNumbers, AnswersPeerNumbers, placed_line, LineTellsItsCall, ReqLineTellsItsCall, ConnLineTellsItsCall, PeerLineTellsItsCall}
use Rattle.decision_text.proofs.Reading.{IsWord, behind, behind-is, number, number-is, behind-number, bytes, bytes-are, behind-bytes, wide, wide-is, behind-wide}

-- ---- one kind of zone

-- how a call and an answer are read back: each from the first byte of its first word, with what follows its last word's end
record Reads {C R : Type 0} (HasNumbers : C → Type 0) (AnswersNumbers : R → Type 0) (call_words : C → List ℕ) (reply_words : R → List ℕ) : Type 0 where
  call_in : List ℕ → C × List ℕ
  reply_in : List ℕ → R × List ℕ
  call-is : (c : C) (x : List ℕ) → HasNumbers c → call_in (call_words c ++ 32 ∷ x) ≡ (c, x)
  reply-is : (r : R) (x : List ℕ) → AnswersNumbers r → reply_in (drop 1 (reply_words r ++ 10 ∷ x)) ≡ (r, x)
  blank : (r : R) (x : List ℕ) → reply_words r ++ 10 ∷ x ≡ 32 ∷ drop 1 (reply_words r ++ 10 ∷ x)

module _ {C R : Type 0} {HasNumbers : C → Type 0} {AnswersNumbers : R → Type 0} {call_words : C → List ℕ} {reply_words : R → List ℕ} (reads : Reads HasNumbers AnswersNumbers call_words reply_words) where
  abbrev placed : ℕ → ℕ → C × List ℕ → Placed C R × List ℕ
  placed place worker c =
      let r = reads.reply_in c.1 in
      (record { place = place; worker = worker; call = c.0; reply = r.0 }, r.1)

  abbrev line_in : List ℕ → Placed C R × List ℕ
  line_in t = placed (number t) (number (behind t)) (reads.call_in (behind (behind t)))

  line-is : (p : Placed C R) (x : List ℕ) → IsPrintable HasNumbers AnswersNumbers p → line_in (placed_line HasNumbers AnswersNumbers call_words reply_words p ++ x) ≡ (p, x)
  line-is p x is =
      let answered : List ℕ = reply_words p.reply ++ 10 ∷ x in
      let asked : List ℕ = call_words p.call ++ answered in
      let from_worker : List ℕ = decimal p.worker ++ 32 ∷ asked in
      let text : List ℕ = decimal p.place ++ 32 ∷ from_worker in
      let form : placed_line HasNumbers AnswersNumbers call_words reply_words p ++ x ≡ text = simp append_assoc in
      let place_is : number text ≡ p.place = number-is p.place 32 from_worker is.place (omega arith) in
      let first : behind text ≡ from_worker = behind-number p.place 32 from_worker is.place (omega arith) in
      let worker_is : number (behind text) ≡ p.worker = ap number first ∙ number-is p.worker 32 asked is.worker (omega arith) in
      let second : behind (behind text) ≡ asked = ap behind first ∙ behind-number p.worker 32 asked is.worker (omega arith) in
      let call_is : reads.call_in (behind (behind text)) ≡ (p.call, drop 1 answered) = ap reads.call_in (second ∙ ap (λ (t : List ℕ). call_words p.call ++ t) (reads.blank p.reply x)) ∙ reads.call-is p.call (drop 1 answered) is.call in
      let reply_is : reads.reply_in (drop 1 answered) ≡ (p.reply, x) = reads.reply-is p.reply x is.reply in
      ap line_in form
      ∙ ap (λ (n : ℕ). placed n (number (behind text)) (reads.call_in (behind (behind text)))) place_is
      ∙ ap (λ (n : ℕ). placed p.place n (reads.call_in (behind (behind text)))) worker_is
      ∙ ap (placed p.place p.worker) call_is
      ∙ ap (λ (r : R × List ℕ). (record { place = p.place; worker = p.worker; call = p.call; reply = r.0 }, r.1)) reply_is

  tells : LineTellsItsCall HasNumbers AnswersNumbers call_words reply_words
  tells one other first second is is_too e =
      let both : (one, first) ≡ (other, second) = sym (line-is one first is) ∙ ap line_in e ∙ line-is other second is_too in
      (ap (λ (t : Placed C R × List ℕ). t.0) both, ap (λ (t : Placed C R × List ℕ). t.1) both)

-- ---- parts of a line

-- what follows parts that a blank parts
two-parts : (a b x : List ℕ) → (a ++ 32 ∷ b) ++ x ≡ a ++ 32 ∷ (b ++ x)
two-parts a b x = append_assoc a (32 ∷ b) x

three-parts : (a b c x : List ℕ) → ((a ++ 32 ∷ b) ++ 32 ∷ c) ++ x ≡ a ++ 32 ∷ (b ++ 32 ∷ (c ++ x))
three-parts a b c x = two-parts (a ++ 32 ∷ b) c x ∙ two-parts a b (32 ∷ (c ++ x))

four-parts : (a b c d x : List ℕ) → (((a ++ 32 ∷ b) ++ 32 ∷ c) ++ 32 ∷ d) ++ x ≡ a ++ 32 ∷ (b ++ 32 ∷ (c ++ 32 ∷ (d ++ x)))
four-parts a b c d x = two-parts ((a ++ 32 ∷ b) ++ 32 ∷ c) d x ∙ three-parts a b c (32 ∷ (d ++ x))

-- the same where a blank stands by itself
parts-by-itself : (a b c x : List ℕ) → (((a ++ 32 ∷ []) ++ b) ++ 32 ∷ c) ++ x ≡ a ++ 32 ∷ (b ++ 32 ∷ (c ++ x))
parts-by-itself a b c x = two-parts ((a ++ 32 ∷ []) ++ b) c x ∙ append_assoc (a ++ 32 ∷ []) b (32 ∷ (c ++ x)) ∙ two-parts a [] (b ++ 32 ∷ (c ++ x))

-- a number at the end, and what follows it
one-number : {X : Type 0} (f : ℕ → X) (n s : ℕ) (x : List ℕ) → IsNumber n → s < 33 → ◌≡◌ {A = X × List ℕ} (f (number (decimal n ++ s ∷ x)), behind (decimal n ++ s ∷ x)) (f n, x)
one-number f n s x small low = rw (number-is n s x small low, behind-number n s x small low) refl

-- two of them
two-numbers : {X : Type 0} (f : ℕ → ℕ → X) (m n s : ℕ) (x : List ℕ) → IsNumber m → IsNumber n → s < 33
    → ◌≡◌ {A = X × List ℕ} (f (number (decimal m ++ 32 ∷ (decimal n ++ s ∷ x))) (number (behind (decimal m ++ 32 ∷ (decimal n ++ s ∷ x)))), behind (behind (decimal m ++ 32 ∷ (decimal n ++ s ∷ x)))) (f m n, x)
two-numbers f m n s x small small_too low =
    let rest = decimal n ++ s ∷ x in
    rw (number-is m 32 rest small (omega arith), behind-number m 32 rest small (omega arith), number-is n s x small_too low, behind-number n s x small_too low) refl

-- ---- request zones

abbrev req_call_by : ℕ → List ℕ → ReqCall × List ℕ
req_call_by first t =
    if nat_eq first 99 then (Check (bytes t) (number (behind t)) (number (behind (behind t))) (nat_eq (slice_index (behind (behind (behind t))) 0) 49), behind (behind (behind (behind t))))
    else if nat_eq first 97 then (Account (number t) (number (behind t)), behind (behind t))
    else (Release (number t), behind t)

abbrev req_call_in : List ℕ → ReqCall × List ℕ
req_call_in t = req_call_by (slice_index t 0) (behind t)

abbrev req_reply_by : ℕ → ℕ → List ℕ → ReqReply × List ℕ
req_reply_by first second t =
    if nat_eq first 111 then (req.Pass (number t), behind t)
    else if nat_eq first 98 then (req.Busy (number t), behind t)
    else if nat_eq first 110 then (req.NoRoom (number t), behind t)
    else if nat_eq first 114 then (req.Released, t)
    else if nat_eq second 99 then (req.Accounted (number t), behind t)
    else (req.Again (number t) (number (behind t)), behind (behind t))

abbrev req_reply_in : List ℕ → ReqReply × List ℕ
req_reply_in t = req_reply_by (slice_index t 0) (slice_index t 1) (behind t)

-- what is read of a check, whose last word is this digit
check-is : (key : List ℕ) (now burst d : ℕ) (x : List ℕ) → IsBytes key → IsNumber now → IsNumber burst → 33 ≤ d
    → req_call_in (99 ∷ 104 ∷ 101 ∷ 99 ∷ 107 ∷ 32 ∷ (hex_bytes key ++ 32 ∷ (decimal now ++ 32 ∷ (decimal burst ++ 32 ∷ d ∷ 32 ∷ x)))) ≡ (Check key now burst (nat_eq d 49), x)
check-is key now burst d x are early small high =
    let third : List ℕ = decimal burst ++ 32 ∷ d ∷ 32 ∷ x in
    let second : List ℕ = decimal now ++ 32 ∷ third in
    rw (
      bytes-are key 32 second are (omega arith),
      behind-bytes key 32 second are (omega arith),
      number-is now 32 third early (omega arith),
      behind-number now 32 third early (omega arith),
      number-is burst 32 (d ∷ 32 ∷ x) small (omega arith),
      behind-number burst 32 (d ∷ 32 ∷ x) small (omega arith),
      behind-is (d ∷ []) 32 x (high, tt) (omega arith),
    ) refl

req-call-is : (c : ReqCall) (x : List ℕ) → HasReqNumbers c → req_call_in (req_call_words c ++ 32 ∷ x) ≡ (c, x)
req-call-is (Account at now) x is =
    ap (λ (t : List ℕ). req_call_in (97 ∷ 99 ∷ 99 ∷ 111 ∷ 117 ∷ 110 ∷ 116 ∷ 32 ∷ t)) (two-parts (decimal at) (decimal now) (32 ∷ x)) ∙ two-numbers Account at now 32 x is.0 is.1 (omega arith)
req-call-is (Release at) x is = one-number Release at 32 x is (omega arith)
req-call-is (Check key now burst true) x is =
    ap (λ (t : List ℕ). req_call_in (99 ∷ 104 ∷ 101 ∷ 99 ∷ 107 ∷ 32 ∷ t)) (four-parts (hex_bytes key) (decimal now) (decimal burst) (49 ∷ []) (32 ∷ x)) ∙ check-is key now burst 49 x is.0 is.1 is.2 (omega arith)
req-call-is (Check key now burst false) x is =
    ap (λ (t : List ℕ). req_call_in (99 ∷ 104 ∷ 101 ∷ 99 ∷ 107 ∷ 32 ∷ t)) (four-parts (hex_bytes key) (decimal now) (decimal burst) (48 ∷ []) (32 ∷ x)) ∙ check-is key now burst 48 x is.0 is.1 is.2 (omega arith)

req-reply-is : (r : ReqReply) (x : List ℕ) → AnswersReqNumbers r → req_reply_in (drop 1 (req_reply_words r ++ 10 ∷ x)) ≡ (r, x)
req-reply-is (req.Pass excess) x is = one-number req.Pass excess 10 x is (omega arith)
req-reply-is (req.Busy excess) x is = one-number req.Busy excess 10 x is (omega arith)
req-reply-is (req.NoRoom evicted) x is = one-number req.NoRoom evicted 10 x is (omega arith)
req-reply-is (req.Accounted excess) x is = one-number req.Accounted excess 10 x is (omega arith)
req-reply-is req.Released x is = refl
req-reply-is (req.Again excess at) x is =
    ap (λ (t : List ℕ). req_reply_in (97 ∷ 103 ∷ 97 ∷ 105 ∷ 110 ∷ 32 ∷ t)) (two-parts (decimal excess) (decimal at) (10 ∷ x)) ∙ two-numbers req.Again excess at 10 x is.0 is.1 (omega arith)

req-blank : (r : ReqReply) (x : List ℕ) → req_reply_words r ++ 10 ∷ x ≡ 32 ∷ drop 1 (req_reply_words r ++ 10 ∷ x)
req-blank (req.Pass excess) x = refl
req-blank (req.Busy excess) x = refl
req-blank (req.NoRoom evicted) x = refl
req-blank (req.Accounted excess) x = refl
req-blank req.Released x = refl
req-blank (req.Again excess at) x = refl

pub req-tells : ReqLineTellsItsCall
req-tells = tells (record { call_in = req_call_in; reply_in = req_reply_in; call-is = req-call-is; reply-is = req-reply-is; blank = req-blank })

-- ---- connection zones

abbrev conn_call_in : List ℕ → ConnCall × List ℕ
conn_call_in t =
    if nat_eq (slice_index t 0) 111 then (Open (bytes (behind t)) (number (behind (behind t))), behind (behind (behind t)))
    else (Close (number (behind t)), behind (behind t))

abbrev conn_reply_by : ℕ → List ℕ → ConnReply × List ℕ
conn_reply_by first t =
    if nat_eq first 111 then (conn.Opened (number t) (number (behind t)), behind (behind t))
    else if nat_eq first 97 then (conn.AtLimit (number t), behind t)
    else if nat_eq first 110 then (conn.NoRoom, t)
    else (conn.Closed (number t), behind t)

abbrev conn_reply_in : List ℕ → ConnReply × List ℕ
conn_reply_in t = conn_reply_by (slice_index t 0) (behind t)

-- what is read of an opening
open-is : (key : List ℕ) (limit : ℕ) (x : List ℕ) → IsBytes key → IsNumber limit → conn_call_in (111 ∷ 112 ∷ 101 ∷ 110 ∷ 32 ∷ (hex_bytes key ++ 32 ∷ (decimal limit ++ 32 ∷ x))) ≡ (Open key limit, x)
open-is key limit x are small =
    let second : List ℕ = decimal limit ++ 32 ∷ x in
    rw (bytes-are key 32 second are (omega arith), behind-bytes key 32 second are (omega arith), number-is limit 32 x small (omega arith), behind-number limit 32 x small (omega arith)) refl

conn-call-is : (c : ConnCall) (x : List ℕ) → HasConnNumbers c → conn_call_in (conn_call_words c ++ 32 ∷ x) ≡ (c, x)
conn-call-is (Open key limit) x is = ap (λ (t : List ℕ). conn_call_in (111 ∷ 112 ∷ 101 ∷ 110 ∷ 32 ∷ t)) (two-parts (hex_bytes key) (decimal limit) (32 ∷ x)) ∙ open-is key limit x is.0 is.1
conn-call-is (Close at) x is = one-number Close at 32 x is (omega arith)

conn-reply-is : (r : ConnReply) (x : List ℕ) → AnswersConnNumbers r → conn_reply_in (drop 1 (conn_reply_words r ++ 10 ∷ x)) ≡ (r, x)
conn-reply-is (conn.Opened at count) x is =
    ap (λ (t : List ℕ). conn_reply_in (111 ∷ 112 ∷ 101 ∷ 110 ∷ 101 ∷ 100 ∷ 32 ∷ t)) (two-parts (decimal at) (decimal count) (10 ∷ x)) ∙ two-numbers conn.Opened at count 10 x is.0 is.1 (omega arith)
conn-reply-is (conn.AtLimit count) x is = one-number conn.AtLimit count 10 x is (omega arith)
conn-reply-is conn.NoRoom x is = refl
conn-reply-is (conn.Closed count) x is = one-number conn.Closed count 10 x is (omega arith)

conn-blank : (r : ConnReply) (x : List ℕ) → conn_reply_words r ++ 10 ∷ x ≡ 32 ∷ drop 1 (conn_reply_words r ++ 10 ∷ x)
conn-blank (conn.Opened at count) x = refl
conn-blank (conn.AtLimit count) x = refl
conn-blank conn.NoRoom x = refl
conn-blank (conn.Closed count) x = refl

pub conn-tells : ConnLineTellsItsCall
conn-tells = tells (record { call_in = conn_call_in; reply_in = conn_reply_in; call-is = conn-call-is; reply-is = conn-reply-is; blank = conn-blank })

-- ---- upstream zones

abbrev peer_call_by : ℕ → List ℕ → PeerCall × List ℕ
peer_call_by first t =
    if nat_eq first 99 then (Choose (number t) (wide (behind t)) (number (behind (behind t))), behind (behind (behind t)))
    else (Free (number t) (number (behind t)) (nat_eq (slice_index (behind (behind t)) 0) 102) (number (behind (behind (behind t)))), behind (behind (behind (behind t))))

abbrev peer_call_in : List ℕ → PeerCall × List ℕ
peer_call_in t = peer_call_by (slice_index t 0) (behind t)

abbrev peer_reply_by : ℕ → List ℕ → PeerReply × List ℕ
peer_reply_by first t =
    if nat_eq first 112 then (peer.Peer (number t), behind t)
    else if nat_eq first 110 then (peer.NoPeer, t)
    else (peer.Freed, t)

abbrev peer_reply_in : List ℕ → PeerReply × List ℕ
peer_reply_in t = peer_reply_by (slice_index t 0) (behind t)

-- what is read of a choice, and of an end
choose-is : (list tried now : ℕ) (x : List ℕ) → IsNumber list → IsNumber tried → IsNumber now
    → peer_call_in (99 ∷ 104 ∷ 111 ∷ 111 ∷ 115 ∷ 101 ∷ 32 ∷ (decimal list ++ 32 ∷ (hex_word tried ++ 32 ∷ (decimal now ++ 32 ∷ x)))) ≡ (Choose list tried now, x)
choose-is list tried now x first small early =
    let third : List ℕ = decimal now ++ 32 ∷ x in
    let second : List ℕ = hex_word tried ++ 32 ∷ third in
    rw (number-is list 32 second first (omega arith), behind-number list 32 second first (omega arith), wide-is tried 32 third small (omega arith), behind-wide tried 32 third (omega arith), number-is now 32 x early (omega arith), behind-number now 32 x early (omega arith)) refl

free-is : (list index now d : ℕ) (word x : List ℕ) → IsNumber list → IsNumber index → IsNumber now → IsWord (d ∷ word)
    → peer_call_in (102 ∷ 114 ∷ 101 ∷ 101 ∷ 32 ∷ (decimal list ++ 32 ∷ (decimal index ++ 32 ∷ (d ∷ word ++ 32 ∷ (decimal now ++ 32 ∷ x))))) ≡ (Free list index (nat_eq d 102) now, x)
free-is list index now d word x first small early is =
    let fourth : List ℕ = decimal now ++ 32 ∷ x in
    let third : List ℕ = d ∷ word ++ 32 ∷ fourth in
    let second : List ℕ = decimal index ++ 32 ∷ third in
    rw (
      number-is list 32 second first (omega arith),
      behind-number list 32 second first (omega arith),
      number-is index 32 third small (omega arith),
      behind-number index 32 third small (omega arith),
      behind-is (d ∷ word) 32 fourth is (omega arith),
      number-is now 32 x early (omega arith),
      behind-number now 32 x early (omega arith),
    ) refl

peer-call-is : (c : PeerCall) (x : List ℕ) → HasPeerNumbers c → peer_call_in (peer_call_words c ++ 32 ∷ x) ≡ (c, x)
peer-call-is (Choose list tried now) x is =
    ap (λ (t : List ℕ). peer_call_in (99 ∷ 104 ∷ 111 ∷ 111 ∷ 115 ∷ 101 ∷ 32 ∷ t)) (parts-by-itself (decimal list) (hex_word tried) (decimal now) (32 ∷ x)) ∙ choose-is list tried now x is.0 is.1 is.2
peer-call-is (Free list index true now) x is =
    ap (λ (t : List ℕ). peer_call_in (102 ∷ 114 ∷ 101 ∷ 101 ∷ 32 ∷ t)) (four-parts (decimal list) (decimal index) (102 ∷ 97 ∷ 105 ∷ 108 ∷ 101 ∷ 100 ∷ []) (decimal now) (32 ∷ x))
    ∙ free-is list index now 102 (97 ∷ 105 ∷ 108 ∷ 101 ∷ 100 ∷ []) x is.0 is.1 is.2 (omega arith, (omega arith, (omega arith, (omega arith, (omega arith, (omega arith, tt))))))
peer-call-is (Free list index false now) x is =
    ap (λ (t : List ℕ). peer_call_in (102 ∷ 114 ∷ 101 ∷ 101 ∷ 32 ∷ t)) (four-parts (decimal list) (decimal index) (103 ∷ 111 ∷ 111 ∷ 100 ∷ []) (decimal now) (32 ∷ x))
    ∙ free-is list index now 103 (111 ∷ 111 ∷ 100 ∷ []) x is.0 is.1 is.2 (omega arith, (omega arith, (omega arith, (omega arith, tt))))

peer-reply-is : (r : PeerReply) (x : List ℕ) → AnswersPeerNumbers r → peer_reply_in (drop 1 (peer_reply_words r ++ 10 ∷ x)) ≡ (r, x)
peer-reply-is (peer.Peer index) x is = one-number peer.Peer index 10 x is (omega arith)
peer-reply-is peer.NoPeer x is = refl
peer-reply-is peer.Freed x is = refl

peer-blank : (r : PeerReply) (x : List ℕ) → peer_reply_words r ++ 10 ∷ x ≡ 32 ∷ drop 1 (peer_reply_words r ++ 10 ∷ x)
peer-blank (peer.Peer index) x = refl
peer-blank peer.NoPeer x = refl
peer-blank peer.Freed x = refl

pub peer-tells : PeerLineTellsItsCall
peer-tells = tells (record { call_in = peer_call_in; reply_in = peer_reply_in; call-is = peer-call-is; reply-is = peer-reply-is; blank = peer-blank })
