-- Histories of zones, each with the words after it.
use Rattle.std.proofs.Common.{ℕ, ◌≡◌, ◌≢◌, ◌+◌, ◌<◌, List, [], ◌∷◌, ◌++◌, length, map, get_or, take, min, subst, sym, ap, refl, ◌∙◌, arith, append_assoc, append-nil}
use Rattle.std.specs.List.{flat_map}
use Rattle.std.proofs.Math.Seq.{take-length}
use Rattle.std.proofs.lemmas.List.{take_more, append_cancel_left}
use Rattle.zone_config.specs.declared.data.Config.{Config}
use Rattle.zone_config.specs.declared.data.ZoneSpec.{ZoneSpec}
use Rattle.zone_config.specs.declared.data.ZoneSpec.TheVariants as zone
use Rattle.zone_config.specs.Configuration.{zone_name}
use Rattle.decision_text.specs.TailText.{BeginsNoWord, image_text}
use Rattle.decision_text.proofs.ImageLemmas.{image-before}
use Rattle.replay_share.specs.Logs.{ZoneLog}
use Rattle.replay_share.specs.Logs.ZoneLog.{req_log, conn_log, peer_log}
use Rattle.replay_share.specs.Replay.{Decided}
use Rattle.replay_text.specs.ReplayText.{decided_line, zone_text}
use Rattle.replay_text.specs.Images.{IsImageOf, AreImages, zone_text_with_words, zones_text_with_words, replay_text_with_words}
use Rattle.replay_text.proofs.TextLemmas.{text-more}

-- ---- one zone more

more-images : (specs : List ZoneSpec) (logs : List ZoneLog) (images : List (List ℕ)) (spec : ZoneSpec) (log : ZoneLog) (words : List ℕ) → AreImages specs logs images → IsImageOf spec log words
    → AreImages (specs ++ spec ∷ []) (logs ++ log ∷ []) (images ++ words ∷ [])
more-images [] [] [] spec log words are is = (is, tt)
more-images (s ∷ ss) (l ∷ ls) (i ∷ is_) spec log words are is = (are.0, more-images ss ls is_ spec log words are.1 is)
more-images [] [] (i ∷ is_) spec log words are is = absurd are
more-images [] (l ∷ ls) images spec log words are is = absurd are
more-images (s ∷ ss) [] images spec log words are is = absurd are
more-images (s ∷ ss) (l ∷ ls) [] spec log words are is = absurd are

more-text : (specs : List ZoneSpec) (logs : List ZoneLog) (images : List (List ℕ)) (spec : ZoneSpec) (log : ZoneLog) (words : List ℕ) → AreImages specs logs images
    → zones_text_with_words specs logs images ++ zone_text_with_words spec log words ≡ zones_text_with_words (specs ++ spec ∷ []) (logs ++ log ∷ []) (images ++ words ∷ [])
more-text [] [] [] spec log words are = sym (append-nil (zone_text_with_words spec log words))
more-text (s ∷ ss) (l ∷ ls) (i ∷ is_) spec log words are =
    append_assoc (zone_text_with_words s l i) (zones_text_with_words ss ls is_) (zone_text_with_words spec log words)
    ∙ ap (λ (t : List ℕ). zone_text_with_words s l i ++ t) (more-text ss ls is_ spec log words are.1)
more-text [] [] (i ∷ is_) spec log words are = absurd are
more-text [] (l ∷ ls) images spec log words are = absurd are
more-text (s ∷ ss) [] images spec log words are = absurd are
more-text (s ∷ ss) (l ∷ ls) [] spec log words are = absurd are

-- a text that began with `old` has got these zones with their words
pub record HasWords (old text : List ℕ) (specs : List ZoneSpec) (logs : List ZoneLog) : Type 0 where
  pub images : List (List ℕ)
  pub are : AreImages specs logs images
  pub grown : text ≡ old ++ zones_text_with_words specs logs images

-- none at first
pub no-words : (text : List ℕ) → HasWords text text [] []
no-words text = record { images = []; are = tt; grown = sym (append-nil text) }

-- what one zone adds
pub record AddsZone (text new : List ℕ) (spec : ZoneSpec) (log : ZoneLog) : Type 0 where
  pub words : List ℕ
  pub is : IsImageOf spec log words
  pub grown : new ≡ text ++ zone_text_with_words spec log words

words-push : (old text new : List ℕ) (specs : List ZoneSpec) (logs : List ZoneLog) (spec : ZoneSpec) (log : ZoneLog) → HasWords old text specs logs → AddsZone text new spec log → HasWords old new (specs ++ spec ∷ []) (logs ++ log ∷ [])
words-push old text new specs logs spec log had adds = record {
  images = had.images ++ adds.words ∷ [];
  are = more-images specs logs had.images spec log adds.words had.are adds.is;
  grown = text-more old text new (zones_text_with_words specs logs had.images) (zone_text_with_words spec log adds.words) (zones_text_with_words (specs ++ spec ∷ []) (logs ++ log ∷ []) (had.images ++ adds.words ∷ []))
      had.grown adds.grown (more-text specs logs had.images spec log adds.words had.are);
}

module _ {J : Type 0} (log_of : J → ZoneLog) where
  logs-push : (all : List J) (one : J) → map log_of (all ++ one ∷ []) ≡ map log_of all ++ log_of one ∷ []
  logs-push [] one = refl
  logs-push (j ∷ js) one = ap (λ (ls : List ZoneLog). log_of j ∷ ls) (logs-push js one)

  -- a text that has the first zones gets one more
  pub words-grow : (old text new : List ℕ) (specs : List ZoneSpec) (all : List J) (i : ℕ) (spec : ZoneSpec) (one : J) → i < length specs → i < length all → spec ≡ get_or specs i spec → one ≡ get_or all i one
      → HasWords old text (take i specs) (map log_of (take i all)) → AddsZone text new spec (log_of one) → HasWords old new (take (i + 1) specs) (map log_of (take (i + 1) all))
  words-grow old text new specs all i spec one low_spec low_one spec_is one_is had adds =
      let specs_are : take i specs ++ spec ∷ [] ≡ take (i + 1) specs = ap (λ (s : ZoneSpec). take i specs ++ s ∷ []) spec_is ∙ sym (take_more specs i spec low_spec) in
      let all_are : take i all ++ one ∷ [] ≡ take (i + 1) all = ap (λ (j : J). take i all ++ j ∷ []) one_is ∙ sym (take_more all i one low_one) in
      let logs_are : map log_of (take i all) ++ log_of one ∷ [] ≡ map log_of (take (i + 1) all) = sym (logs-push (take i all) one) ∙ ap (map log_of) all_are in
      subst (λ (ss : List ZoneSpec). HasWords old new ss (map log_of (take (i + 1) all))) specs_are
      (subst (λ (ls : List ZoneLog). HasWords old new (take i specs ++ spec ∷ []) ls) logs_are
      (words-push old text new (take i specs) (map log_of (take i all)) spec (log_of one) had adds))

  -- a text that has as many zones as there are has all
  pub words-whole : (old text : List ℕ) (specs : List ZoneSpec) (all : List J) (n : ℕ) → length specs ≡ length all → n ≡ min (length specs) (length all)
      → HasWords old text (take n specs) (map log_of (take n all)) → HasWords old text specs (map log_of all)
  words-whole old text specs all n many n_is had =
      let all_specs : take n specs ≡ specs = ap (λ (k : ℕ). take k specs) (omega (arith, many, n_is)) ∙ take-length specs in
      let all_ones : take n all ≡ all = ap (λ (k : ℕ). take k all) (omega (arith, many, n_is)) ∙ take-length all in
      subst (λ (ss : List ZoneSpec). HasWords old text ss (map log_of all)) all_specs (subst (λ (js : List J). HasWords old text (take n specs) (map log_of js)) all_ones had)

-- ---- what the whole text tells

not-w : ◌≢◌ {A = ℕ} 122 119
not-w is = absurd (omega (arith, is))

-- the text of a zone doesn't begin with a word
zone-begins : (spec : ZoneSpec) (log : ZoneLog) (words rest : List ℕ) → IsImageOf spec log words → BeginsNoWord (zone_text_with_words spec log words ++ rest)
zone-begins (zone.Req spec key) (req_log log) words rest is = not-w
zone-begins (zone.Conn spec key) (conn_log log) words rest is = not-w
zone-begins (zone.Peer spec line) (peer_log log) words rest is = not-w
zone-begins (zone.Req spec key) (conn_log log) words rest is = absurd is.laid
zone-begins (zone.Req spec key) (peer_log log) words rest is = absurd is.laid
zone-begins (zone.Conn spec key) (req_log log) words rest is = absurd is.laid
zone-begins (zone.Conn spec key) (peer_log log) words rest is = absurd is.laid
zone-begins (zone.Peer spec line) (req_log log) words rest is = absurd is.laid
zone-begins (zone.Peer spec line) (conn_log log) words rest is = absurd is.laid

-- nor do the texts of zones before something that doesn't
pub zones-begin : (specs : List ZoneSpec) (logs : List ZoneLog) (images : List (List ℕ)) (rest : List ℕ) → AreImages specs logs images → BeginsNoWord rest → BeginsNoWord (zones_text_with_words specs logs images ++ rest)
zones-begin [] [] [] rest are quiet = quiet
zones-begin (s ∷ ss) (l ∷ ls) (i ∷ is_) rest are quiet =
    subst (λ (t : List ℕ). BeginsNoWord t) (sym (append_assoc (zone_text_with_words s l i) (zones_text_with_words ss ls is_) rest)) (zone-begins s l i (zones_text_with_words ss ls is_ ++ rest) are.0)
zones-begin [] [] (i ∷ is_) rest are quiet = absurd are
zones-begin [] (l ∷ ls) images rest are quiet = absurd are
zones-begin (s ∷ ss) [] images rest are quiet = absurd are
zones-begin (s ∷ ss) (l ∷ ls) [] rest are quiet = absurd are

-- the first zone's parts, before all that follows
pub parts : (s : ZoneSpec) (l : ZoneLog) (i more rest : List ℕ) → zone_text_with_words s l i ++ more ++ rest ≡ zone_text s l ++ (image_text (zone_name s) i ++ (more ++ rest))
parts s l i more rest = append_assoc (zone_text_with_words s l i) more rest ∙ append_assoc (zone_text s l) (image_text (zone_name s) i) (more ++ rest)

-- equal texts of the same zones and histories have the same images, and go on alike
pub zones-same : (specs : List ZoneSpec) (logs : List ZoneLog) (images others : List (List ℕ)) (first second : List ℕ) → AreImages specs logs images → AreImages specs logs others → BeginsNoWord first → BeginsNoWord second
    → zones_text_with_words specs logs images ++ first ≡ zones_text_with_words specs logs others ++ second → (images ≡ others) × (first ≡ second)
zones-same [] [] [] [] first second are too quiet quiet_too e = (refl, e)
zones-same (s ∷ ss) (l ∷ ls) (i ∷ is_) (o ∷ os) first second are too quiet quiet_too e =
    let more = zones_text_with_words ss ls is_ in
    let others = zones_text_with_words ss ls os in
    let both = append_cancel_left (zone_text s l) (image_text (zone_name s) i ++ (more ++ first)) (image_text (zone_name s) o ++ (others ++ second)) (sym (parts s l i more first) ∙ e ∙ parts s l o others second) in
    let cut = image-before (zone_name s) i o (more ++ first) (others ++ second) are.0.wide too.0.wide are.0.short too.0.short (zones-begin ss ls is_ first are.1 quiet) (zones-begin ss ls os second too.1 quiet_too) both in
    let rest = zones-same ss ls is_ os first second are.1 too.1 quiet quiet_too cut.1 in
    (ap (λ (ws : List ℕ). ws ∷ is_) cut.0 ∙ ap (λ (wss : List (List ℕ)). o ∷ wss) rest.0, rest.1)
zones-same [] [] [] (o ∷ os) first second are too quiet quiet_too e = absurd too
zones-same [] [] (i ∷ is_) others first second are too quiet quiet_too e = absurd are
zones-same [] (l ∷ ls) images others first second are too quiet quiet_too e = absurd are
zones-same (s ∷ ss) [] images others first second are too quiet quiet_too e = absurd are
zones-same (s ∷ ss) (l ∷ ls) [] others first second are too quiet quiet_too e = absurd are
zones-same (s ∷ ss) (l ∷ ls) (i ∷ is_) [] first second are too quiet quiet_too e = absurd too

-- and so have those of the same decisions
pub replay-same : (config : Config) (decided : List Decided) (logs : List ZoneLog) (images others : List (List ℕ)) (first second : List ℕ) → AreImages config.zones logs images → AreImages config.zones logs others → BeginsNoWord first → BeginsNoWord second
    → replay_text_with_words config decided logs images ++ first ≡ replay_text_with_words config decided logs others ++ second → (images ≡ others) × (first ≡ second)
replay-same config decided logs images others first second are too quiet quiet_too e =
    let lines = flat_map (decided_line config) decided in
    let one = zones_text_with_words config.zones logs images in
    let two = zones_text_with_words config.zones logs others in
    let both = append_cancel_left lines (one ++ first) (two ++ second) (sym (append_assoc lines one first) ∙ e ∙ append_assoc lines two second) in
    zones-same config.zones logs images others first second are too quiet quiet_too both
