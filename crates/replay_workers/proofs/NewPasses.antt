-- Zones that have just been opened, each with a pass for each worker.
use Rattle.std.proofs.Common.{ℕ, zero, suc, ◌≡◌, ◌<◌, ◌≤◌, ◌⊎◌, inl, inr, List, [], ◌∷◌, ◌++◌, length, map, subst, sym, ap, refl, ◌∙◌, arith}
use Rattle.std.specs.Prelude.{Option, Some, None, slice_get}
use Rattle.std.proofs.lemmas.List.{length-map, length-append}
use Rattle.std.proofs.lemmas.Option.{slice_get_within, none-some}
use Rattle.zone_object.specs.declared.object.Entry.{Entry}
use Rattle.shared_zone.specs.Callers.{ZoneId, Caller, newcomer, Begins}
use Rattle.req_zone.specs.declared.state.ReqState.{ReqState}
use Rattle.req_zone.specs.declared.words.ReqWords.{ReqWords}
use Rattle.req_zone.specs.Object as req
use Rattle.req_zone.specs.Lays as req_words
use Rattle.conn_zone.specs.declared.state.ConnState.{ConnState}
use Rattle.conn_zone.specs.Object as conn
use Rattle.conn_zone.specs.Layout as conn_words
use Rattle.peer_zone.specs.declared.state.PeerState.{PeerState}
use Rattle.peer_zone.specs.declared.words.PeerWords.{PeerWords}
use Rattle.peer_zone.specs.Opening as opening
use Rattle.peer_zone.specs.Lays as peer_words
use Rattle.zone_config.specs.declared.data.ReqData.{ReqData}
use Rattle.zone_config.specs.declared.data.ConnData.{ConnData}
use Rattle.zone_config.specs.declared.data.PeerData.{PeerData}
use Rattle.zone_config.specs.declared.data.ZoneSpec.{ZoneSpec}
use Rattle.zone_config.specs.declared.data.ZoneSpec.TheVariants as zone
use Rattle.replay_share.specs.Logs.{ReqEntry, ConnEntry, PeerEntry, req_opened, conn_opened, peer_opened}
use Rattle.replay_share.specs.Opening.{IsNewReq, IsNewConn, IsNewPeer, refused_at, refused_line, first_of}
use Rattle.replay_workers.specs.declared.passes.Shared.{Shared}
use Rattle.replay_workers.specs.declared.passes.Shared.TheVariants as shared
use Rattle.replay_workers.specs.declared.passes.ZonePass.{ZonePass}
use Rattle.replay_workers.specs.declared.passes.ZonePass.TheVariants.{Req, Conn, Peer}
use Rattle.replay_workers.specs.Columns.{IsNewPass, IsOpenedZone, IsOpenedReq, IsOpenedConn, IsOpenedPeer}
use Rattle.replay_workers.specs.Zones.{AreOpened}
use Rattle.req_zone.specs.WordsLaws.{one_start-law as req_start}
use Rattle.conn_zone.specs.Starting.{one_start-law as conn_start}
use Rattle.peer_zone.specs.WordsLaws.{one_start-law as peer_start}
use Rattle.replay_workers.proofs.Turning.{low_or, snoc_at, snoc_before}
use Rattle.replay_workers.proofs.Ended.{from_map}

-- ---- one zone

module _ {X St C R : Type 0} (quiet : St → Type 0) (lays : X → St → Type 0) (one_start : (object : X) (s t : St) → lays object s → lays object t → quiet s → quiet t → s ≡ t) where
  new_passes : (object : X) (opened : St) (id : ZoneId) (rooms : List ℕ) (passes : List (Caller St (Entry X St C R))) → quiet opened → lays object opened → length passes ≡ length rooms → Begins quiet lays object id rooms passes
      → (k : ℕ) (pass : Caller St (Entry X St C R)) → slice_get passes k ≡ Some pass → pass ≡ newcomer id opened rooms k
  new_passes object opened id rooms passes is_quiet laid count begins k pass is =
      let low : k < length rooms = omega (arith, count, slice_get_within passes k pass is) in
      let e : Some pass ≡ Some (newcomer id begins.start rooms k) = sym is ∙ begins.passes_are k low in
      let pass_is : pass ≡ newcomer id begins.start rooms k = cc in
      pass_is ∙ ap (λ (s : St). newcomer id s rooms k) (one_start object begins.start opened begins.laid laid begins.quiet is_quiet)

pub req_opens : (spec : ReqData) (object : ReqWords) (id : ZoneId) (rooms : List ℕ) (passes : List (Caller ReqState ReqEntry)) (column : List ZonePass) → IsNewReq spec object → length passes ≡ length rooms → Begins req.IsOpened req_words.Lays object id rooms passes → map Req passes ≡ column
    → IsOpenedReq rooms spec (shared.Req id) column
req_opens spec object id rooms passes column new count begins same key = record {
  kind = tt;
  count = sym (ap length same) ∙ length-map passes Req ∙ count;
  each = λ k pass is.
      let from = from_map Req passes k pass (subst (λ (l : List ZonePass). slice_get l k ≡ Some pass) (sym same) is) in
      subst (λ (p : ZonePass). IsNewPass id rooms k (zone.Req spec key) p) from.2 (new_passes req.IsOpened req_words.Lays req_start object (req_opened spec) id rooms passes new.quiet new.laid count begins k from.0 from.1);
}

pub conn_opens : (spec : ConnData) (object : conn_words.Zone) (id : ZoneId) (rooms : List ℕ) (passes : List (Caller ConnState ConnEntry)) (column : List ZonePass) → IsNewConn spec object → length passes ≡ length rooms → Begins conn.IsOpened conn_words.Lays object id rooms passes → map Conn passes ≡ column
    → IsOpenedConn rooms spec (shared.Conn id) column
conn_opens spec object id rooms passes column new count begins same key = record {
  kind = tt;
  count = sym (ap length same) ∙ length-map passes Conn ∙ count;
  each = λ k pass is.
      let from = from_map Conn passes k pass (subst (λ (l : List ZonePass). slice_get l k ≡ Some pass) (sym same) is) in
      subst (λ (p : ZonePass). IsNewPass id rooms k (zone.Conn spec key) p) from.2 (new_passes conn.IsOpened conn_words.Lays conn_start object (conn_opened spec) id rooms passes new.quiet new.laid count begins k from.0 from.1);
}

pub peer_opens : (spec : PeerData) (object : PeerWords) (id : ZoneId) (rooms : List ℕ) (passes : List (Caller PeerState PeerEntry)) (column : List ZonePass) → IsNewPeer spec object → length passes ≡ length rooms → Begins opening.IsOpened peer_words.Lays object id rooms passes → map Peer passes ≡ column
    → IsOpenedPeer rooms spec (shared.Peer id) column
peer_opens spec object id rooms passes column new count begins same line = record {
  kind = tt;
  count = sym (ap length same) ∙ length-map passes Peer ∙ count;
  each = λ k pass is.
      let from = from_map Peer passes k pass (subst (λ (l : List ZonePass). slice_get l k ≡ Some pass) (sym same) is) in
      subst (λ (p : ZonePass). IsNewPass id rooms k (zone.Peer spec line) p) from.2 (new_passes opening.IsOpened peer_words.Lays peer_start object (peer_opened spec) id rooms passes new.quiet new.laid count begins k from.0 from.1);
}

-- ---- all zones

pub opened-none : (rooms : List ℕ) (zones : List Shared) (columns : List (List ZonePass)) → zones ≡ [] → columns ≡ [] → AreOpened rooms [] zones columns
opened-none rooms zones columns no_zones no_columns = record {
  zones_are = ap length no_zones;
  columns_are = ap length no_columns;
  each = λ z spec zone column is. absurd (omega (arith, slice_get_within [] z spec is));
}

pub opened-more : (rooms : List ℕ) (specs : List ZoneSpec) (zones : List Shared) (columns : List (List ZonePass)) (spec : ZoneSpec) (zone : Shared) (column : List ZonePass) → AreOpened rooms specs zones columns → IsOpenedZone rooms spec zone column
    → AreOpened rooms (specs ++ spec ∷ []) (zones ++ zone ∷ []) (columns ++ column ∷ [])
opened-more rooms specs zones columns spec zone column h one =
    let at : (z : ℕ) (s : ZoneSpec) (o : Shared) (c : List ZonePass) → (z < length specs) ⊎ (length specs ≤ z) → slice_get (specs ++ spec ∷ []) z ≡ Some s → slice_get (zones ++ zone ∷ []) z ≡ Some o → slice_get (columns ++ column ∷ []) z ≡ Some c → IsOpenedZone rooms s o c = λ z s o c. elim [
      | inl low ↦ λ s_is o_is c_is. h.each z s o c (sym (snoc_before specs spec z low) ∙ s_is) (sym (snoc_before zones zone z (omega (arith, low, h.zones_are))) ∙ o_is) (sym (snoc_before columns column z (omega (arith, low, h.columns_are))) ∙ c_is)
      | inr past ↦ λ s_is o_is c_is.
          let z_is : z ≡ length specs = omega (arith, past, slice_get_within (specs ++ spec ∷ []) z s s_is, length-append specs (spec ∷ [])) in
          let es : Some spec ≡ Some s = sym (ap (slice_get (specs ++ spec ∷ [])) z_is ∙ snoc_at specs spec) ∙ s_is in
          let eo : Some zone ≡ Some o = sym (ap (slice_get (zones ++ zone ∷ [])) (z_is ∙ sym h.zones_are) ∙ snoc_at zones zone) ∙ o_is in
          let ec : Some column ≡ Some c = sym (ap (slice_get (columns ++ column ∷ [])) (z_is ∙ sym h.columns_are) ∙ snoc_at columns column) ∙ c_is in
          let s_same : spec ≡ s = cc in
          let o_same : zone ≡ o = cc in
          let c_same : column ≡ c = cc in
          subst (λ (x : ZoneSpec). IsOpenedZone rooms x o c) s_same (subst (λ (y : Shared). IsOpenedZone rooms spec y c) o_same (subst (λ (w : List ZonePass). IsOpenedZone rooms spec zone w) c_same one))
    ] in
    record {
      zones_are = omega (arith, h.zones_are, length-append zones (zone ∷ []), length-append specs (spec ∷ []));
      columns_are = omega (arith, h.columns_are, length-append columns (column ∷ []), length-append specs (spec ∷ []));
      each = λ z s o c s_is o_is c_is. at z s o c (low_or z (length specs)) s_is o_is c_is;
    }

first_none : (a b : Option ℕ) → first_of a b ≡ None → a ≡ None
first_none None b is = refl
first_none (Some x) b is = absurd (none-some x (sym is))

second_none : (a b : Option ℕ) → first_of a b ≡ None → b ≡ None
second_none None b is = is
second_none (Some x) b is = absurd (none-some x (sym is))

-- no zone is refused where none of all is
pub none_refused : (specs : List ZoneSpec) (z : ℕ) (spec : ZoneSpec) → refused_line specs ≡ None → slice_get specs z ≡ Some spec → refused_at spec ≡ None
none_refused (s ∷ ss) zero spec none is =
    let e : s ≡ spec = cc in
    ap refused_at (sym e) ∙ first_none (refused_at s) (refused_line ss) none
none_refused (s ∷ ss) (suc z) spec none is = none_refused ss z spec (second_none (refused_at s) (refused_line ss) none) is
none_refused [] z spec none is = absurd (omega (arith, slice_get_within [] z spec is))
