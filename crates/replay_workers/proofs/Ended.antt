-- A zone that is closed with all its passes.
use Rattle.std.proofs.Common.{ℕ, ◌≡◌, ◌<◌, ◌≤◌, ◌⊎◌, inl, inr, Bool, true, false, List, [], ◌∷◌, ◌++◌, length, map, get_or, Vec, Global, subst, sym, ap, refl, ◌∙◌, arith}
use Rattle.std.specs.Prelude.{Option, Some, slice_get}
use Rattle.std.specs.Option.{option_map}
use Rattle.std.specs.List.{All}
use Rattle.std.proofs.lemmas.Bool.Decides.{nat_tests}
use Rattle.std.proofs.lemmas.List.{length-map}
use Rattle.std.proofs.lemmas.List.Elements.{All-nil, All-cons}
use Rattle.std.proofs.lemmas.Option.{slice_get-map, slice_get_within, slice_get-get_or, get_or_from_slice_get}
use Rattle.zone_object.specs.declared.object.Entry.{Entry}
use Rattle.zone_object.specs.History.{own, is_of, HasRun}
use Rattle.shared_zone.specs.Callers.{ZoneId, Zone, Caller, Keeps, HasRunOf}
use Rattle.req_zone.specs.declared.state.ReqState.{ReqState}
use Rattle.req_zone.specs.declared.words.ReqWords.{ReqWords}
use Rattle.req_zone.specs.Object as req
use Rattle.req_zone.specs.Lays as req_words
use Rattle.conn_zone.specs.declared.state.ConnState.{ConnState}
use Rattle.conn_zone.specs.Object as conn
use Rattle.conn_zone.specs.Layout as conn_words
use Rattle.peer_zone.specs.declared.state.PeerState.{PeerState}
use Rattle.peer_zone.specs.declared.words.PeerWords.{PeerWords}
use Rattle.peer_zone.specs.Object as peer
use Rattle.peer_zone.specs.Opening as opening
use Rattle.peer_zone.specs.Lays as peer_words
use Rattle.zone_key.specs.declared.expr.Expr.{Expr}
use Rattle.zone_config.specs.declared.data.ReqData.{ReqData}
use Rattle.zone_config.specs.declared.data.ConnData.{ConnData}
use Rattle.zone_config.specs.declared.data.PeerData.{PeerData}
use Rattle.zone_config.specs.declared.data.ZoneSpec.{ZoneSpec}
use Rattle.zone_config.specs.declared.data.ZoneSpec.TheVariants as zone
use Rattle.replay_share.specs.Logs.{ReqEntry, ConnEntry, PeerEntry, HasCallersBelow, req_opened, conn_opened, peer_opened}
use Rattle.replay_share.specs.Logs.ZoneLog.{req_log, conn_log, peer_log}
use Rattle.replay_workers.specs.declared.passes.Shared.{Shared}
use Rattle.replay_workers.specs.declared.passes.Shared.TheVariants as shared
use Rattle.replay_workers.specs.declared.passes.ZonePass.{ZonePass}
use Rattle.replay_workers.specs.declared.passes.ZonePass.TheVariants.{Req, Conn, Peer}
use Rattle.replay_workers.specs.declared.history.ZoneHistory.TheVariants as history
use Rattle.replay_workers.specs.Passes.{IsCallerOf, IsPassOf, IsSharedOf, id_of, seen_by}
use Rattle.replay_workers.specs.Columns.{AreAt, IsReq, IsConn, IsPeer, IsClosed, HasOwn}
use Rattle.replay_workers.proofs.Turning.{there_at, low_or}

-- ---- lists

module _ {A B : Type 0} (f : A → B) where
  -- an element that a list begins with
  pub next-at : (xs : List A) (y : B) (ys : List B) → slice_get (map f xs ++ y ∷ ys) (length xs) ≡ Some y
  next-at [] y ys = refl
  next-at (x ∷ xs) y ys = next-at xs y ys

  -- what an element of a list's image comes from
  pub from_map : (xs : List A) (k : ℕ) (y : B) → slice_get (map f xs) k ≡ Some y → (x : A) × (slice_get xs k ≡ Some x) × (f x ≡ y)
  from_map xs k y is =
      let x = there_at xs k (omega (arith, slice_get_within (map f xs) k y is, length-map xs f)) in
      let e : Some (f x.0) ≡ Some y = sym (slice_get-map f xs k ∙ ap (option_map f) x.1) ∙ is in
      (x.0, x.1, cc)

-- ---- a history in which only some callers have entries

module _ {X St C R : Type 0} where
  rest_none : (e : Entry X St C R) (es : List (Entry X St C R)) (who : ℕ) → own (e ∷ es) who ≡ [] → own es who ≡ []
  rest_none e es who none =
      let f : (t : Bool) → is_of who e ≡ t → own es who ≡ [] = elim [
        | true ↦ λ is. let more : own (e ∷ es) who ≡ e ∷ own es who = rw is refl in absurd (omega (arith, ap length (sym more ∙ none)))
        | false ↦ λ is. let same : own (e ∷ es) who ≡ own es who = rw is refl in sym same ∙ none
      ] in
      f (is_of who e) refl

  head_low : (n : ℕ) (e : Entry X St C R) (es : List (Entry X St C R)) → ((who : ℕ) → n ≤ who → own (e ∷ es) who ≡ []) → (e.caller < n) ⊎ (n ≤ e.caller) → e.caller < n
  head_low n e es none (inl low) = low
  head_low n e es none (inr past) =
      let t : is_of e.caller e ≡ true = grind (arith, nat_tests) in
      let more : own (e ∷ es) e.caller ≡ e ∷ own es e.caller = rw t refl in
      absurd (omega (arith, ap length (sym more ∙ none e.caller past)))

  pub all_below : (n : ℕ) (log : List (Entry X St C R)) → ((who : ℕ) → n ≤ who → own log who ≡ []) → HasCallersBelow n log
  all_below n [] none = All-nil (λ (e : Entry X St C R). e.caller < n)
  all_below n (e ∷ es) none = All-cons (λ (d : Entry X St C R). d.caller < n) e es (head_low n e es none (low_or e.caller n)) (all_below n es (λ who past. rest_none e es who (none who past)))

-- ---- the passes of a zone

zone_by : {St : Type 0} → (a b : Zone St) → a.id ≡ b.id → a.start ≡ b.start → a.rooms ≡ b.rooms → a ≡ b
zone_by {St = St} a b id start rooms =
    ap (λ (x : ZoneId). record { id = x; start = a.start; rooms = a.rooms }) id ∙ ap (λ (x : Option St). record { id = b.id; start = x; rooms = a.rooms }) start ∙ ap (λ (x : List ℕ). record { id = b.id; start = b.start; rooms = x }) rooms

-- the zone that all passes are of
abbrev pub home : {St : Type 0} → ZoneId → St → List ℕ → Zone St
home id opened rooms = record { id = id; start = Some opened; rooms = rooms }

module _ {X St C R : Type 0} (id : ZoneId) (opened : St) (rooms : List ℕ) where
  -- pass k is that of worker k
  abbrev pub AreMine : List (Caller St (Entry X St C R)) → Type 0
  AreMine passes = (k : ℕ) (pass : Caller St (Entry X St C R)) → slice_get passes k ≡ Some pass → (pass.zone ≡ home id opened rooms) × (pass.number ≡ k)

  pub all_home : (passes : List (Caller St (Entry X St C R))) → AreMine passes → All (λ pass. pass.zone ≡ home id opened rooms) passes
  all_home passes mine = λ k d low. (mine k (get_or passes k d) (slice_get-get_or passes k d low)).0

  module _ (quiet : St → Type 0) (lays : X → St → Type 0) (reply_of : St → C → R) (state_after : St → C → St) (permits : List (Entry X St C R) → C → Type 0) where
    pub has_run : (passes : List (Caller St (Entry X St C R))) (object : X) (log : List (Entry X St C R)) → 0 < length passes → AreMine passes → All (λ pass. HasRunOf quiet lays reply_of state_after permits pass.zone object log) passes
        → HasRun quiet lays reply_of state_after permits opened object log
    has_run passes object log some mine runs =
        let first = there_at passes 0 some in
        let ran = subst (λ (p : Caller St (Entry X St C R)). HasRunOf quiet lays reply_of state_after permits p.zone object log) (get_or_from_slice_get passes 0 first.0 first.0 first.1) (runs 0 first.0 some) in
        let e : Some ran.start ≡ Some opened = sym ran.start_is ∙ ap (λ (z : Zone St). z.start) (mine 0 first.0 first.1).0 in
        let start : ran.start ≡ opened = cc in
        subst (λ (s : St). HasRun quiet lays reply_of state_after permits s object log) start ran.run

  pub has_callers : (passes : List (Caller St (Entry X St C R))) (log : List (Entry X St C R)) → 0 < length passes → AreMine passes → All (λ pass. (who : ℕ) → length pass.zone.rooms ≤ who → own log who ≡ []) passes → HasCallersBelow (length rooms) log
  has_callers passes log some mine others =
      let first = there_at passes 0 some in
      let none = subst (λ (p : Caller St (Entry X St C R)). (who : ℕ) → length p.zone.rooms ≤ who → own log who ≡ []) (get_or_from_slice_get passes 0 first.0 first.0 first.1) (others 0 first.0 some) in
      all_below (length rooms) log (subst (λ (z : Zone St). (who : ℕ) → length z.rooms ≤ who → own log who ≡ []) (mine 0 first.0 first.1).0 none)

  pub has_own : (passes : List (Caller St (Entry X St C R))) (log : List (Entry X St C R)) → AreMine passes → All (Keeps log) passes → (k : ℕ) (pass : Caller St (Entry X St C R)) → slice_get passes k ≡ Some pass → own log k ≡ own pass.seen k
  has_own passes log mine keeps k pass is =
      let keep = subst (Keeps log) (get_or_from_slice_get passes k pass pass is) (keeps k pass (slice_get_within passes k pass is)) in
      subst (λ (n : ℕ). own log n ≡ own pass.seen n) (mine k pass is).1 keep.own_is

  -- a pass of the place is one of the zone
  pub is_mine : (zones : List Shared) (z k : ℕ) (pass : Caller St (Entry X St C R)) → slice_get (map id_of zones) z ≡ Some id → IsCallerOf (record { zones = zones; rooms = rooms; who = k }) z opened pass → (pass.zone ≡ home id opened rooms) × (pass.number ≡ k)
  is_mine zones z k pass there h =
      let e : Some pass.zone.id ≡ Some id = sym h.there ∙ there in
      let id_is : pass.zone.id ≡ id = cc in
      (zone_by pass.zone (home id opened rooms) id_is h.start h.rooms, h.number)

-- ---- a request zone

pub not_req_conn : (zones : List Shared) (rooms : List ℕ) (z j : ℕ) (spec : ZoneSpec) (pass : Caller ConnState ConnEntry) → IsReq spec → IsPassOf (record { zones = zones; rooms = rooms; who = j }) z spec (Conn pass) → ⊥
not_req_conn zones rooms z j (zone.Req spec key) pass kind h = h
not_req_conn zones rooms z j (zone.Conn spec key) pass kind h = elim kind [ ]
not_req_conn zones rooms z j (zone.Peer spec line) pass kind h = elim kind [ ]

pub not_req_peer : (zones : List Shared) (rooms : List ℕ) (z j : ℕ) (spec : ZoneSpec) (pass : Caller PeerState PeerEntry) → IsReq spec → IsPassOf (record { zones = zones; rooms = rooms; who = j }) z spec (Peer pass) → ⊥
not_req_peer zones rooms z j (zone.Req spec key) pass kind h = h
not_req_peer zones rooms z j (zone.Conn spec key) pass kind h = elim kind [ ]
not_req_peer zones rooms z j (zone.Peer spec line) pass kind h = elim kind [ ]

req_mine : (id : ZoneId) (zones : List Shared) (rooms : List ℕ) (z : ℕ) (spec : ReqData) (key : Expr) (passes : List (Caller ReqState ReqEntry)) → slice_get (map id_of zones) z ≡ Some id → ((k : ℕ) (pass : ZonePass) → slice_get (map Req passes) k ≡ Some pass → IsPassOf (record { zones = zones; rooms = rooms; who = k }) z (zone.Req spec key) pass) → AreMine id (req_opened spec) rooms passes
req_mine id zones rooms z spec key passes there each = λ k pass is. is_mine id (req_opened spec) rooms zones z k pass there (each k (Req pass) (slice_get-map Req passes k ∙ ap (option_map Req) is))

pub req_some : (id : ZoneId) (zones : List Shared) (rooms : List ℕ) (z : ℕ) (spec : ZoneSpec) (column : List ZonePass) (passes : List (Caller ReqState ReqEntry)) → IsReq spec → slice_get (map id_of zones) z ≡ Some id → 0 < length rooms → AreAt zones rooms z spec column → map Req passes ≡ column
    → 0 < length passes
req_some id zones rooms z (zone.Req spec key) column passes kind there some at same = omega (arith, some, at.count, ap length same, length-map passes Req)
req_some id zones rooms z (zone.Conn spec key) column passes kind there some at same = elim kind [ ]
req_some id zones rooms z (zone.Peer spec line) column passes kind there some at same = elim kind [ ]

pub req_zone : (id : ZoneId) (zones : List Shared) (rooms : List ℕ) (z : ℕ) (spec : ZoneSpec) (column : List ZonePass) (passes : List (Caller ReqState ReqEntry)) → IsReq spec → slice_get (map id_of zones) z ≡ Some id → 0 < length rooms → AreAt zones rooms z spec column → map Req passes ≡ column
    → (home_of : Zone ReqState) × (home_of.id ≡ id) × All (λ pass. pass.zone ≡ home_of) passes
req_zone id zones rooms z (zone.Req spec key) column passes kind there some at same = (home id (req_opened spec) rooms, refl, all_home id (req_opened spec) rooms passes (req_mine id zones rooms z spec key passes there (subst (λ (l : List ZonePass). (k : ℕ) (pass : ZonePass) → slice_get l k ≡ Some pass → IsPassOf (record { zones = zones; rooms = rooms; who = k }) z (zone.Req spec key) pass) (sym same) at.each)))
req_zone id zones rooms z (zone.Conn spec key) column passes kind there some at same = elim kind [ ]
req_zone id zones rooms z (zone.Peer spec line) column passes kind there some at same = elim kind [ ]

pub req_closed : (id : ZoneId) (zones : List Shared) (rooms : List ℕ) (z : ℕ) (spec : ZoneSpec) (column : List ZonePass) (passes : List (Caller ReqState ReqEntry)) → IsReq spec → slice_get (map id_of zones) z ≡ Some id → 0 < length rooms → AreAt zones rooms z spec column → map Req passes ≡ column
    → (object : ReqWords) (log : Vec ReqEntry Global) → All (λ pass. HasRunOf req.IsOpened req_words.Lays req.answer_of req.zone_after req.Permits pass.zone object log.items) passes → All (Keeps log.items) passes → All (λ pass. (who : ℕ) → length pass.zone.rooms ≤ who → own log.items who ≡ []) passes
    → IsClosed rooms spec column (history.Req object log)
req_closed id zones rooms z (zone.Req spec key) column passes kind there some at same object log runs keeps others =
    let mine = (req_mine id zones rooms z spec key passes there (subst (λ (l : List ZonePass). (k : ℕ) (pass : ZonePass) → slice_get l k ≡ Some pass → IsPassOf (record { zones = zones; rooms = rooms; who = k }) z (zone.Req spec key) pass) (sym same) at.each)) in
    let many : 0 < length passes = omega (arith, some, at.count, ap length same, length-map passes Req) in
    record {
      ran = (has_run id (req_opened spec) rooms req.IsOpened req_words.Lays req.answer_of req.zone_after req.Permits passes object log.items many mine runs, has_callers id (req_opened spec) rooms passes log.items many mine others);
      each = λ k pass is.
          let from = from_map Req passes k pass (subst (λ (l : List ZonePass). slice_get l k ≡ Some pass) (sym same) is) in
          subst (λ (p : ZonePass). HasOwn k (req_log log.items) (seen_by p)) from.2 (has_own id (req_opened spec) rooms passes log.items mine keeps k from.0 from.1);
    }
req_closed id zones rooms z (zone.Conn spec key) column passes kind there some at same object log runs keeps others = elim kind [ ]
req_closed id zones rooms z (zone.Peer spec line) column passes kind there some at same object log runs keeps others = elim kind [ ]

-- ---- a connection zone

pub not_conn_req : (zones : List Shared) (rooms : List ℕ) (z j : ℕ) (spec : ZoneSpec) (pass : Caller ReqState ReqEntry) → IsConn spec → IsPassOf (record { zones = zones; rooms = rooms; who = j }) z spec (Req pass) → ⊥
not_conn_req zones rooms z j (zone.Req spec key) pass kind h = elim kind [ ]
not_conn_req zones rooms z j (zone.Conn spec key) pass kind h = h
not_conn_req zones rooms z j (zone.Peer spec line) pass kind h = elim kind [ ]

pub not_conn_peer : (zones : List Shared) (rooms : List ℕ) (z j : ℕ) (spec : ZoneSpec) (pass : Caller PeerState PeerEntry) → IsConn spec → IsPassOf (record { zones = zones; rooms = rooms; who = j }) z spec (Peer pass) → ⊥
not_conn_peer zones rooms z j (zone.Req spec key) pass kind h = elim kind [ ]
not_conn_peer zones rooms z j (zone.Conn spec key) pass kind h = h
not_conn_peer zones rooms z j (zone.Peer spec line) pass kind h = elim kind [ ]

conn_mine : (id : ZoneId) (zones : List Shared) (rooms : List ℕ) (z : ℕ) (spec : ConnData) (key : Expr) (passes : List (Caller ConnState ConnEntry)) → slice_get (map id_of zones) z ≡ Some id → ((k : ℕ) (pass : ZonePass) → slice_get (map Conn passes) k ≡ Some pass → IsPassOf (record { zones = zones; rooms = rooms; who = k }) z (zone.Conn spec key) pass) → AreMine id (conn_opened spec) rooms passes
conn_mine id zones rooms z spec key passes there each = λ k pass is. is_mine id (conn_opened spec) rooms zones z k pass there (each k (Conn pass) (slice_get-map Conn passes k ∙ ap (option_map Conn) is))

pub conn_some : (id : ZoneId) (zones : List Shared) (rooms : List ℕ) (z : ℕ) (spec : ZoneSpec) (column : List ZonePass) (passes : List (Caller ConnState ConnEntry)) → IsConn spec → slice_get (map id_of zones) z ≡ Some id → 0 < length rooms → AreAt zones rooms z spec column → map Conn passes ≡ column
    → 0 < length passes
conn_some id zones rooms z (zone.Req spec key) column passes kind there some at same = elim kind [ ]
conn_some id zones rooms z (zone.Conn spec key) column passes kind there some at same = omega (arith, some, at.count, ap length same, length-map passes Conn)
conn_some id zones rooms z (zone.Peer spec line) column passes kind there some at same = elim kind [ ]

pub conn_zone : (id : ZoneId) (zones : List Shared) (rooms : List ℕ) (z : ℕ) (spec : ZoneSpec) (column : List ZonePass) (passes : List (Caller ConnState ConnEntry)) → IsConn spec → slice_get (map id_of zones) z ≡ Some id → 0 < length rooms → AreAt zones rooms z spec column → map Conn passes ≡ column
    → (home_of : Zone ConnState) × (home_of.id ≡ id) × All (λ pass. pass.zone ≡ home_of) passes
conn_zone id zones rooms z (zone.Req spec key) column passes kind there some at same = elim kind [ ]
conn_zone id zones rooms z (zone.Conn spec key) column passes kind there some at same = (home id (conn_opened spec) rooms, refl, all_home id (conn_opened spec) rooms passes (conn_mine id zones rooms z spec key passes there (subst (λ (l : List ZonePass). (k : ℕ) (pass : ZonePass) → slice_get l k ≡ Some pass → IsPassOf (record { zones = zones; rooms = rooms; who = k }) z (zone.Conn spec key) pass) (sym same) at.each)))
conn_zone id zones rooms z (zone.Peer spec line) column passes kind there some at same = elim kind [ ]

pub conn_closed : (id : ZoneId) (zones : List Shared) (rooms : List ℕ) (z : ℕ) (spec : ZoneSpec) (column : List ZonePass) (passes : List (Caller ConnState ConnEntry)) → IsConn spec → slice_get (map id_of zones) z ≡ Some id → 0 < length rooms → AreAt zones rooms z spec column → map Conn passes ≡ column
    → (object : conn_words.Zone) (log : Vec ConnEntry Global) → All (λ pass. HasRunOf conn.IsOpened conn_words.Lays conn.answer_of conn.zone_after conn.Permits pass.zone object log.items) passes → All (Keeps log.items) passes → All (λ pass. (who : ℕ) → length pass.zone.rooms ≤ who → own log.items who ≡ []) passes
    → IsClosed rooms spec column (history.Conn object log)
conn_closed id zones rooms z (zone.Req spec key) column passes kind there some at same object log runs keeps others = elim kind [ ]
conn_closed id zones rooms z (zone.Conn spec key) column passes kind there some at same object log runs keeps others =
    let mine = (conn_mine id zones rooms z spec key passes there (subst (λ (l : List ZonePass). (k : ℕ) (pass : ZonePass) → slice_get l k ≡ Some pass → IsPassOf (record { zones = zones; rooms = rooms; who = k }) z (zone.Conn spec key) pass) (sym same) at.each)) in
    let many : 0 < length passes = omega (arith, some, at.count, ap length same, length-map passes Conn) in
    record {
      ran = (has_run id (conn_opened spec) rooms conn.IsOpened conn_words.Lays conn.answer_of conn.zone_after conn.Permits passes object log.items many mine runs, has_callers id (conn_opened spec) rooms passes log.items many mine others);
      each = λ k pass is.
          let from = from_map Conn passes k pass (subst (λ (l : List ZonePass). slice_get l k ≡ Some pass) (sym same) is) in
          subst (λ (p : ZonePass). HasOwn k (conn_log log.items) (seen_by p)) from.2 (has_own id (conn_opened spec) rooms passes log.items mine keeps k from.0 from.1);
    }
conn_closed id zones rooms z (zone.Peer spec line) column passes kind there some at same object log runs keeps others = elim kind [ ]

-- ---- an upstream's zone

pub not_peer_req : (zones : List Shared) (rooms : List ℕ) (z j : ℕ) (spec : ZoneSpec) (pass : Caller ReqState ReqEntry) → IsPeer spec → IsPassOf (record { zones = zones; rooms = rooms; who = j }) z spec (Req pass) → ⊥
not_peer_req zones rooms z j (zone.Req spec key) pass kind h = elim kind [ ]
not_peer_req zones rooms z j (zone.Conn spec key) pass kind h = elim kind [ ]
not_peer_req zones rooms z j (zone.Peer spec line) pass kind h = h

pub not_peer_conn : (zones : List Shared) (rooms : List ℕ) (z j : ℕ) (spec : ZoneSpec) (pass : Caller ConnState ConnEntry) → IsPeer spec → IsPassOf (record { zones = zones; rooms = rooms; who = j }) z spec (Conn pass) → ⊥
not_peer_conn zones rooms z j (zone.Req spec key) pass kind h = elim kind [ ]
not_peer_conn zones rooms z j (zone.Conn spec key) pass kind h = elim kind [ ]
not_peer_conn zones rooms z j (zone.Peer spec line) pass kind h = h

peer_mine : (id : ZoneId) (zones : List Shared) (rooms : List ℕ) (z : ℕ) (spec : PeerData) (line : ℕ) (passes : List (Caller PeerState PeerEntry)) → slice_get (map id_of zones) z ≡ Some id → ((k : ℕ) (pass : ZonePass) → slice_get (map Peer passes) k ≡ Some pass → IsPassOf (record { zones = zones; rooms = rooms; who = k }) z (zone.Peer spec line) pass) → AreMine id (peer_opened spec) rooms passes
peer_mine id zones rooms z spec line passes there each = λ k pass is. is_mine id (peer_opened spec) rooms zones z k pass there (each k (Peer pass) (slice_get-map Peer passes k ∙ ap (option_map Peer) is))

pub peer_some : (id : ZoneId) (zones : List Shared) (rooms : List ℕ) (z : ℕ) (spec : ZoneSpec) (column : List ZonePass) (passes : List (Caller PeerState PeerEntry)) → IsPeer spec → slice_get (map id_of zones) z ≡ Some id → 0 < length rooms → AreAt zones rooms z spec column → map Peer passes ≡ column
    → 0 < length passes
peer_some id zones rooms z (zone.Req spec key) column passes kind there some at same = elim kind [ ]
peer_some id zones rooms z (zone.Conn spec key) column passes kind there some at same = elim kind [ ]
peer_some id zones rooms z (zone.Peer spec line) column passes kind there some at same = omega (arith, some, at.count, ap length same, length-map passes Peer)

pub peer_zone : (id : ZoneId) (zones : List Shared) (rooms : List ℕ) (z : ℕ) (spec : ZoneSpec) (column : List ZonePass) (passes : List (Caller PeerState PeerEntry)) → IsPeer spec → slice_get (map id_of zones) z ≡ Some id → 0 < length rooms → AreAt zones rooms z spec column → map Peer passes ≡ column
    → (home_of : Zone PeerState) × (home_of.id ≡ id) × All (λ pass. pass.zone ≡ home_of) passes
peer_zone id zones rooms z (zone.Req spec key) column passes kind there some at same = elim kind [ ]
peer_zone id zones rooms z (zone.Conn spec key) column passes kind there some at same = elim kind [ ]
peer_zone id zones rooms z (zone.Peer spec line) column passes kind there some at same = (home id (peer_opened spec) rooms, refl, all_home id (peer_opened spec) rooms passes (peer_mine id zones rooms z spec line passes there (subst (λ (l : List ZonePass). (k : ℕ) (pass : ZonePass) → slice_get l k ≡ Some pass → IsPassOf (record { zones = zones; rooms = rooms; who = k }) z (zone.Peer spec line) pass) (sym same) at.each)))

pub peer_closed : (id : ZoneId) (zones : List Shared) (rooms : List ℕ) (z : ℕ) (spec : ZoneSpec) (column : List ZonePass) (passes : List (Caller PeerState PeerEntry)) → IsPeer spec → slice_get (map id_of zones) z ≡ Some id → 0 < length rooms → AreAt zones rooms z spec column → map Peer passes ≡ column
    → (object : PeerWords) (log : Vec PeerEntry Global) → All (λ pass. HasRunOf opening.IsOpened peer_words.Lays peer.answer_of peer.zone_after peer.Permits pass.zone object log.items) passes → All (Keeps log.items) passes → All (λ pass. (who : ℕ) → length pass.zone.rooms ≤ who → own log.items who ≡ []) passes
    → IsClosed rooms spec column (history.Peer object log)
peer_closed id zones rooms z (zone.Req spec key) column passes kind there some at same object log runs keeps others = elim kind [ ]
peer_closed id zones rooms z (zone.Conn spec key) column passes kind there some at same object log runs keeps others = elim kind [ ]
peer_closed id zones rooms z (zone.Peer spec line) column passes kind there some at same object log runs keeps others =
    let mine = (peer_mine id zones rooms z spec line passes there (subst (λ (l : List ZonePass). (k : ℕ) (pass : ZonePass) → slice_get l k ≡ Some pass → IsPassOf (record { zones = zones; rooms = rooms; who = k }) z (zone.Peer spec line) pass) (sym same) at.each)) in
    let many : 0 < length passes = omega (arith, some, at.count, ap length same, length-map passes Peer) in
    record {
      ran = (has_run id (peer_opened spec) rooms opening.IsOpened peer_words.Lays peer.answer_of peer.zone_after peer.Permits passes object log.items many mine runs, has_callers id (peer_opened spec) rooms passes log.items many mine others);
      each = λ k pass is.
          let from = from_map Peer passes k pass (subst (λ (l : List ZonePass). slice_get l k ≡ Some pass) (sym same) is) in
          subst (λ (p : ZonePass). HasOwn k (peer_log log.items) (seen_by p)) from.2 (has_own id (peer_opened spec) rooms passes log.items mine keeps k from.0 from.1);
    }

-- ---- the kind of a shared zone is that of its directive

pub req_kind : (spec : ZoneSpec) (id : ZoneId) → IsSharedOf spec (shared.Req id) → IsReq spec
req_kind (zone.Req spec key) id h = tt
req_kind (zone.Conn spec key) id h = elim h [ ]
req_kind (zone.Peer spec line) id h = elim h [ ]

pub conn_kind : (spec : ZoneSpec) (id : ZoneId) → IsSharedOf spec (shared.Conn id) → IsConn spec
conn_kind (zone.Req spec key) id h = elim h [ ]
conn_kind (zone.Conn spec key) id h = tt
conn_kind (zone.Peer spec line) id h = elim h [ ]

pub peer_kind : (spec : ZoneSpec) (id : ZoneId) → IsSharedOf spec (shared.Peer id) → IsPeer spec
peer_kind (zone.Req spec key) id h = elim h [ ]
peer_kind (zone.Conn spec key) id h = elim h [ ]
peer_kind (zone.Peer spec line) id h = tt
