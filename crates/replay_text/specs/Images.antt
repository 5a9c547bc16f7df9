-- The words of a zone after its history, and their text.
use Rattle.std.specs.Prelude.{ℕ, ◌≡◌, ◌<◌, ◌^◌, List, [], ◌∷◌, ◌++◌, length, Option, Some}
use Rattle.std.specs.List.{flat_map}
use Rattle.zone_object.specs.History.{run}
use Rattle.req_zone.specs.Words.{LaysImage}
use Rattle.req_zone.specs.Object as req
use Rattle.conn_zone.specs.Layout.{LaysWords}
use Rattle.conn_zone.specs.Object as conn
use Rattle.peer_zone.specs.Layout as layout
use Rattle.peer_zone.specs.Object as peer
use Rattle.zone_config.specs.declared.data.Config.{Config}
use Rattle.zone_config.specs.declared.data.ReqData.{ReqData}
use Rattle.zone_config.specs.declared.data.ConnData.{ConnData}
use Rattle.zone_config.specs.declared.data.PeerData.{PeerData}
use Rattle.zone_config.specs.declared.data.ZoneSpec.{ZoneSpec}
use Rattle.zone_config.specs.declared.data.ZoneSpec.TheVariants as zone
use Rattle.zone_config.specs.Configuration.{zone_name}
use Rattle.decision_text.specs.TailText.{AreWords, image_text}
use Rattle.replay_share.specs.Logs.{ReqEntry, ConnEntry, PeerEntry, ZoneLog, req_opened, conn_opened, peer_opened}
use Rattle.replay_share.specs.Logs.ZoneLog.{req_log, conn_log, peer_log}
use Rattle.replay_share.specs.Replay.{Decided}
use Rattle.replay_text.specs.ReplayText.{decided_line, zone_text}

-- ---- the words

-- these words lay out the state of a zone after the calls of its history, from its opening on
abbrev pub LaysReqAfter : ReqData → List ReqEntry → List ℕ → Type 0
LaysReqAfter spec log words = LaysImage words (run req.zone_after (req_opened spec) log)

-- the words of a connection zone after this history
abbrev pub LaysConnAfter : ConnData → List ConnEntry → List ℕ → Type 0
LaysConnAfter spec log words = LaysWords words (run conn.zone_after (conn_opened spec) log)

-- the words of an upstream's zone after this history
abbrev pub LaysPeerAfter : PeerData → List PeerEntry → List ℕ → Type 0
LaysPeerAfter spec log words = layout.LaysImage words (run peer.zone_after (peer_opened spec) log)

-- that of any zone
abbrev pub LaysAfter : ZoneSpec → ZoneLog → List ℕ → Type 0
LaysAfter (zone.Req spec key) (req_log log) words = LaysReqAfter spec log words
LaysAfter (zone.Conn spec key) (conn_log log) words = LaysConnAfter spec log words
LaysAfter (zone.Peer spec line) (peer_log log) words = LaysPeerAfter spec log words
LaysAfter _ _ words = ⊥

-- The image of a zone after its history: words of 64 bits, fewer than 2^64, that lay out the zone's state then.
pub record IsImageOf (spec : ZoneSpec) (log : ZoneLog) (words : List ℕ) : Type 0 where
  pub laid : LaysAfter spec log words
  pub wide : AreWords words
  pub short : length words < 2 ^ 64

-- these are the images of all zones after their histories, in the order of the zones
abbrev pub AreImages : List ZoneSpec → List ZoneLog → List (List ℕ) → Type 0
AreImages [] [] [] = Unit {0}
AreImages (spec ∷ specs) (log ∷ logs) (words ∷ images) = IsImageOf spec log words × AreImages specs logs images
AreImages _ _ _ = ⊥

-- ---- their text

-- The text is that of the zone's image after its history.
pub record ShowsWords (spec : ZoneSpec) (log : ZoneLog) (text : List ℕ) : Type 0 where
  pub words : List ℕ
  pub image : IsImageOf spec log words
  pub text_is : text ≡ image_text (zone_name spec) words

-- the same of a zone and its history at one place among all zones
abbrev pub ShowsWordsAt : Option ZoneSpec → Option ZoneLog → List ℕ → Type 0
ShowsWordsAt (Some spec) (Some log) text = ShowsWords spec log text
ShowsWordsAt _ _ text = ⊥

-- a text that had `before` has got the text of words of 64 bits, fewer than 2^64, that lay out something, under this name
pub record AddsWords (name : List ℕ) (Lays : List ℕ → Type 0) (before after : List ℕ) : Type 0 where
  pub words : List ℕ
  pub laid : Lays words
  pub wide : AreWords words
  pub short : length words < 2 ^ 64
  pub grown : after ≡ before ++ image_text name words

-- ---- the whole

-- a zone's history, how full the zone is after it, and then its words
abbrev pub zone_text_with_words : ZoneSpec → ZoneLog → List ℕ → List ℕ
zone_text_with_words spec log words = zone_text spec log ++ image_text (zone_name spec) words

-- those of all zones, in the order of the zones
abbrev pub zones_text_with_words : List ZoneSpec → List ZoneLog → List (List ℕ) → List ℕ
zones_text_with_words (spec ∷ specs) (log ∷ logs) (words ∷ images) = zone_text_with_words spec log words ++ zones_text_with_words specs logs images
zones_text_with_words _ _ _ = []

-- The text of a replay with words: the decisions in the order of their lines, and then zone by zone the history and the words.
abbrev pub replay_text_with_words : Config → List Decided → List ZoneLog → List (List ℕ) → List ℕ
replay_text_with_words config decided logs images = flat_map (decided_line config) decided ++ zones_text_with_words config.zones logs images
