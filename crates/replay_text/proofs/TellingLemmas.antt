-- The text of a replay tells its histories.
use Rattle.std.proofs.Common.{ℕ, zero, suc, ◌≡◌, ◌+◌, ◌<◌, ◌^◌, List, [], ◌∷◌, ◌++◌, length, map, sym, ap, subst, ◌∙◌, refl, arith, append_assoc}
use Rattle.std.specs.Prelude.{codes, decimal}
use Rattle.std.specs.List.{All, flat_map}
use Rattle.std.proofs.lemmas.Fmt.{decimal_injective}
use Rattle.std.proofs.lemmas.List.{append_cancel_left}
use Rattle.std.proofs.lemmas.List.Elements.{All-head, All-tail}
use Rattle.zone_object.specs.declared.object.Entry.{Entry}
use Rattle.zone_object.specs.History.{run}
use Rattle.zone_config.specs.declared.data.Config.{Config}
use Rattle.zone_config.specs.declared.data.ZoneSpec.{ZoneSpec}
use Rattle.zone_config.specs.declared.data.ZoneSpec.TheVariants as zone
use Rattle.zone_config.specs.Configuration.{zone_name}
use Rattle.req_zone.specs.Object as req
use Rattle.conn_zone.specs.Object as conn
use Rattle.peer_zone.specs.Object as peer
use Rattle.decision_text.specs.Coding.{coded}
use Rattle.decision_text.specs.HistoryText.{zone_head, entry_line, req_call_words, req_reply_words, conn_call_words, conn_reply_words, peer_call_words, peer_reply_words}
use Rattle.decision_text.specs.TailText.{BeginsNoWord, image_text}
use Rattle.decision_text.specs.Telling.{Placed, LineTellsItsCall, HasReqNumbers, AnswersReqNumbers, HasConnNumbers, AnswersConnNumbers, HasPeerNumbers, AnswersPeerNumbers}
use Rattle.decision_text.proofs.ImageLemmas.{cut_at, lacks-decimal, image-before}
use Rattle.decision_text.proofs.LineLemmas.{req-tells, conn-tells, peer-tells}
use Rattle.decision_text.proofs.LinesApart.{decision-before}
use Rattle.replay_share.specs.Logs.{ZoneLog, req_opened, conn_opened, peer_opened}
use Rattle.replay_share.specs.Logs.ZoneLog.{req_log, conn_log, peer_log}
use Rattle.replay_share.specs.Replay.{Decided}
use Rattle.replay_text.specs.ReplayText.{decided_line, lines_from, req_line, conn_line, peer_line, req_tail, conn_tail, peer_tail, zone_text, zones_text, replay_text}
use Rattle.replay_text.specs.Images.{AreImages, zone_text_with_words, zones_text_with_words, replay_text_with_words}
use Rattle.replay_text.specs.Telling.{IsPrinted, ArePrinted, IsPrintedLog, ArePrintedLogs, TextTellsItsHistories, TextWithWordsTellsItsHistories}
use Rattle.replay_text.proofs.WordsLemmas.{zones-begin, parts}

-- ---- the history of one zone

module _ {X St C R : Type 0} (HasNumbers : C → Type 0) (AnswersNumbers : R → Type 0) (call_words : C → List ℕ) (reply_words : R → List ℕ) (tells : LineTellsItsCall HasNumbers AnswersNumbers call_words reply_words) where
  -- the line of an entry
  abbrev line_of : ℕ → Entry X St C R → List ℕ
  line_of place e = entry_line place e.caller (call_words e.call) (reply_words e.reply)

  abbrev placed : ℕ → Entry X St C R → Placed C R
  placed place e = record { place = place; worker = e.caller; call = e.call; reply = e.reply }

  abbrev entry_of : Placed C R → Entry X St C R
  entry_of p = record { caller = p.worker; call = p.call; reply = p.reply }

  abbrev IsOne : Entry X St C R → Type 0
  IsOne e = IsPrinted HasNumbers AnswersNumbers e

  entry-before : (place : ℕ) (e o : Entry X St C R) (x y : List ℕ) → place < 2 ^ 64 → IsOne e → IsOne o → line_of place e ++ x ≡ line_of place o ++ y → (e ≡ o) × (x ≡ y)
  entry-before place e o x y small is is_too same =
      let both = tells (placed place e) (placed place o) x y (record { place = small; worker = is.worker; call = is.call; reply = is.reply }) (record { place = small; worker = is_too.worker; call = is_too.call; reply = is_too.reply }) same in
      (ap entry_of both.0, both.1)

  entries-before : (place : ℕ) (es os : List (Entry X St C R)) (x y : List ℕ) → length es ≡ length os → place + length es < 2 ^ 64 → All IsOne es → All IsOne os
      → lines_from line_of place es ++ x ≡ lines_from line_of place os ++ y → (es ≡ os) × (x ≡ y)
  entries-before place [] [] x y many small are too same = (refl, same)
  entries-before place [] (o ∷ os) x y many small are too same = absurd (omega (arith, many))
  entries-before place (e ∷ es) [] x y many small are too same = absurd (omega (arith, many))
  entries-before place (e ∷ es) (o ∷ os) x y many small are too same =
      let here = line_of place e in
      let there = line_of place o in
      let more = lines_from line_of (place + 1) es in
      let others = lines_from line_of (place + 1) os in
      let cut = entry-before place e o (more ++ x) (others ++ y) (omega (arith, small)) (All-head IsOne e es are) (All-head IsOne o os too) (sym (append_assoc here more x) ∙ same ∙ append_assoc there others y) in
      let rest = entries-before (place + 1) es os x y (omega (arith, many)) (omega (arith, small)) (All-tail IsOne e es are) (All-tail IsOne o os too) cut.1 in
      (ap (λ (n : Entry X St C R). n ∷ es) cut.0 ∙ ap (λ (ns : List (Entry X St C R)). o ∷ ns) rest.0, rest.1)

  module _ (name kind : List ℕ) (tail : List (Entry X St C R) → List ℕ) where
    -- a history: its head, its lines and what stands behind them
    abbrev history : List (Entry X St C R) → List ℕ
    history log = zone_head name kind (length log) ++ lines_from line_of 1 log ++ tail log

    -- where it is cut
    apart : (log : List (Entry X St C R)) (x : List ℕ) → history log ++ x ≡ (codes "zone " ++ coded name ++ kind ++ codes "calls=") ++ (decimal (length log) ++ 10 ∷ (lines_from line_of 1 log ++ (tail log ++ x)))
    apart log x = simp append_assoc

    -- two equal texts that begin with histories of one zone have the same history there, and go on alike
    history-before : (log other : List (Entry X St C R)) (x y : List ℕ) → ArePrinted HasNumbers AnswersNumbers log → ArePrinted HasNumbers AnswersNumbers other → history log ++ x ≡ history other ++ y → (log ≡ other) × (x ≡ y)
    history-before log other x y are too same =
        let short : length log < 2 ^ 64 = omega (arith, are.few) in
        let short_too : length other < 2 ^ 64 = omega (arith, too.few) in
        let behind : List (Entry X St C R) → List ℕ → List ℕ = λ (l : List (Entry X St C R)) (t : List ℕ). lines_from line_of 1 l ++ (tail l ++ t) in
        let numbers = append_cancel_left (codes "zone " ++ coded name ++ kind ++ codes "calls=") (decimal (length log) ++ 10 ∷ behind log x) (decimal (length other) ++ 10 ∷ behind other y) (sym (apart log x) ∙ same ∙ apart other y) in
        let cut = cut_at 10 (decimal (length log)) (decimal (length other)) (behind log x) (behind other y) (lacks-decimal 10 (length log) (omega arith) short) (lacks-decimal 10 (length other) (omega arith) short_too) numbers in
        let many = decimal_injective (length log) (length other) short short_too cut.0 in
        let entries = entries-before 1 log other (tail log ++ x) (tail other ++ y) many (omega (arith, are.few)) are.each too.each cut.1 in
        (entries.0, append_cancel_left (tail log) x y (entries.1 ∙ ap (λ (l : List (Entry X St C R)). tail l ++ y) (sym entries.0)))

-- ---- zones

zone-before : (spec : ZoneSpec) (log other : ZoneLog) (x y : List ℕ) → IsPrintedLog spec log → IsPrintedLog spec other → zone_text spec log ++ x ≡ zone_text spec other ++ y → (log ≡ other) × (x ≡ y)
zone-before (zone.Req spec key) (req_log log) (req_log other) x y are too same =
    let both = history-before HasReqNumbers AnswersReqNumbers req_call_words req_reply_words req-tells spec.name (codes " req ") (λ l. req_tail (run req.zone_after (req_opened spec) l)) log other x y are too same in (ap req_log both.0, both.1)
zone-before (zone.Conn spec key) (conn_log log) (conn_log other) x y are too same =
    let both = history-before HasConnNumbers AnswersConnNumbers conn_call_words conn_reply_words conn-tells spec.name (codes " conn ") (λ l. conn_tail (run conn.zone_after (conn_opened spec) l)) log other x y are too same in (ap conn_log both.0, both.1)
zone-before (zone.Peer spec line) (peer_log log) (peer_log other) x y are too same =
    let both = history-before HasPeerNumbers AnswersPeerNumbers peer_call_words peer_reply_words peer-tells spec.name (codes " peer ") (λ l. peer_tail (run peer.zone_after (peer_opened spec) l)) log other x y are too same in (ap peer_log both.0, both.1)
zone-before (zone.Req spec key) (conn_log log) other x y are too same = absurd are
zone-before (zone.Req spec key) (peer_log log) other x y are too same = absurd are
zone-before (zone.Req spec key) (req_log log) (conn_log other) x y are too same = absurd too
zone-before (zone.Req spec key) (req_log log) (peer_log other) x y are too same = absurd too
zone-before (zone.Conn spec key) (req_log log) other x y are too same = absurd are
zone-before (zone.Conn spec key) (peer_log log) other x y are too same = absurd are
zone-before (zone.Conn spec key) (conn_log log) (req_log other) x y are too same = absurd too
zone-before (zone.Conn spec key) (conn_log log) (peer_log other) x y are too same = absurd too
zone-before (zone.Peer spec line) (req_log log) other x y are too same = absurd are
zone-before (zone.Peer spec line) (conn_log log) other x y are too same = absurd are
zone-before (zone.Peer spec line) (peer_log log) (req_log other) x y are too same = absurd too
zone-before (zone.Peer spec line) (peer_log log) (conn_log other) x y are too same = absurd too

zones-before : (specs : List ZoneSpec) (logs others : List ZoneLog) (x y : List ℕ) → ArePrintedLogs specs logs → ArePrintedLogs specs others → zones_text specs logs ++ x ≡ zones_text specs others ++ y → (logs ≡ others) × (x ≡ y)
zones-before [] [] [] x y are too same = (refl, same)
zones-before (s ∷ ss) (l ∷ ls) (o ∷ os) x y are too same =
    let cut = zone-before s l o (zones_text ss ls ++ x) (zones_text ss os ++ y) are.0 too.0 (sym (append_assoc (zone_text s l) (zones_text ss ls) x) ∙ same ∙ append_assoc (zone_text s o) (zones_text ss os) y) in
    let rest = zones-before ss ls os x y are.1 too.1 cut.1 in
    (ap (λ (n : ZoneLog). n ∷ ls) cut.0 ∙ ap (λ (ns : List ZoneLog). o ∷ ns) rest.0, rest.1)
zones-before [] [] (o ∷ os) x y are too same = absurd too
zones-before [] (l ∷ ls) others x y are too same = absurd are
zones-before (s ∷ ss) [] others x y are too same = absurd are
zones-before (s ∷ ss) (l ∷ ls) [] x y are too same = absurd too

-- ---- decisions

decisions-before : (config : Config) (decided others : List Decided) (x y : List ℕ) → length decided ≡ length others → flat_map (decided_line config) decided ++ x ≡ flat_map (decided_line config) others ++ y
    → (map (decided_line config) decided ≡ map (decided_line config) others) × (x ≡ y)
decisions-before config [] [] x y many same = (refl, same)
decisions-before config [] (o ∷ os) x y many same = absurd (omega (arith, many))
decisions-before config (d ∷ ds) [] x y many same = absurd (omega (arith, many))
decisions-before config (d ∷ ds) (o ∷ os) x y many same =
    let line = decided_line config in
    let cut = decision-before config d.line o.line d.decision o.decision (flat_map line ds ++ x) (flat_map line os ++ y) (sym (append_assoc (line d) (flat_map line ds) x) ∙ same ∙ append_assoc (line o) (flat_map line os) y) in
    let rest = decisions-before config ds os x y (omega (arith, many)) cut.1 in
    (ap (λ (t : List ℕ). t ∷ map line ds) cut.0 ∙ ap (λ (ts : List (List ℕ)). line o ∷ ts) rest.0, rest.1)

-- ---- the whole

pub text-tells : TextTellsItsHistories
text-tells config decided others logs histories first second many are too same =
    let lines = flat_map (decided_line config) in
    let one = zones_text config.zones logs in
    let two = zones_text config.zones histories in
    let cut = decisions-before config decided others (one ++ first) (two ++ second) many (sym (append_assoc (lines decided) one first) ∙ same ∙ append_assoc (lines others) two second) in
    let rest = zones-before config.zones logs histories first second are too cut.1 in
    (cut.0, rest.0, rest.1)

-- ---- with words

zones-with-words-before : (specs : List ZoneSpec) (logs others : List ZoneLog) (images words : List (List ℕ)) (x y : List ℕ) → ArePrintedLogs specs logs → ArePrintedLogs specs others → AreImages specs logs images → AreImages specs others words
    → BeginsNoWord x → BeginsNoWord y → zones_text_with_words specs logs images ++ x ≡ zones_text_with_words specs others words ++ y → (logs ≡ others) × (images ≡ words) × (x ≡ y)
zones-with-words-before [] [] [] [] [] x y are too laid laid_too quiet quiet_too same = (refl, refl, same)
zones-with-words-before (s ∷ ss) (l ∷ ls) (o ∷ os) (i ∷ is) (w ∷ ws) x y are too laid laid_too quiet quiet_too same =
    let more = zones_text_with_words ss ls is in
    let others = zones_text_with_words ss os ws in
    let name = zone_name s in
    let cut = zone-before s l o (image_text name i ++ (more ++ x)) (image_text name w ++ (others ++ y)) are.0 too.0 (sym (parts s l i more x) ∙ same ∙ parts s o w others y) in
    let image = image-before name i w (more ++ x) (others ++ y) laid.0.wide laid_too.0.wide laid.0.short laid_too.0.short (zones-begin ss ls is x laid.1 quiet) (zones-begin ss os ws y laid_too.1 quiet_too) cut.1 in
    let rest = zones-with-words-before ss ls os is ws x y are.1 too.1 laid.1 laid_too.1 quiet quiet_too image.1 in
    (ap (λ (n : ZoneLog). n ∷ ls) cut.0 ∙ ap (λ (ns : List ZoneLog). o ∷ ns) rest.0, ap (λ (n : List ℕ). n ∷ is) image.0 ∙ ap (λ (ns : List (List ℕ)). w ∷ ns) rest.1, rest.2)
zones-with-words-before [] (l ∷ ls) others images words x y are too laid laid_too quiet quiet_too same = absurd are
zones-with-words-before [] [] (o ∷ os) images words x y are too laid laid_too quiet quiet_too same = absurd too
zones-with-words-before [] [] [] (i ∷ is) words x y are too laid laid_too quiet quiet_too same = absurd laid
zones-with-words-before [] [] [] [] (w ∷ ws) x y are too laid laid_too quiet quiet_too same = absurd laid_too
zones-with-words-before (s ∷ ss) [] others images words x y are too laid laid_too quiet quiet_too same = absurd are
zones-with-words-before (s ∷ ss) (l ∷ ls) [] images words x y are too laid laid_too quiet quiet_too same = absurd too
zones-with-words-before (s ∷ ss) (l ∷ ls) (o ∷ os) [] words x y are too laid laid_too quiet quiet_too same = absurd laid
zones-with-words-before (s ∷ ss) (l ∷ ls) (o ∷ os) (i ∷ is) [] x y are too laid laid_too quiet quiet_too same = absurd laid_too

pub text-with-words-tells : TextWithWordsTellsItsHistories
text-with-words-tells config decided others logs histories images words first second many are too laid laid_too quiet quiet_too same =
    let lines = flat_map (decided_line config) in
    let one = zones_text_with_words config.zones logs images in
    let two = zones_text_with_words config.zones histories words in
    let cut = decisions-before config decided others (one ++ first) (two ++ second) many (sym (append_assoc (lines decided) one first) ∙ same ∙ append_assoc (lines others) two second) in
    let rest = zones-with-words-before config.zones logs histories images words first second are too laid laid_too quiet quiet_too cut.1 in
    (cut.0, rest.0, rest.1, rest.2)
