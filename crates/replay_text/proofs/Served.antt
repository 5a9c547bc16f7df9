-- What stands for the zones of a configuration tells of their texts.
use Rattle.std.proofs.Common.{ℕ, zero, suc, ◌≡◌, ◌+◌, ◌<◌, ◌≤◌, List, [], ◌∷◌, ◌++◌, length, map, get_or, take, min, subst, sym, ap, refl, add-one, ◌∙◌, arith, append_assoc, append-nil}
use Rattle.std.specs.Prelude.{Option, Some, None, slice_get}
use Rattle.std.proofs.Math.Seq.{take-length}
use Rattle.std.proofs.lemmas.Option.{slice_get-get_or}
use Rattle.slab_model.specs.State.{Slab}
use Rattle.slab_model.specs.Soundness.{IsSound}
use Rattle.req_zone.specs.declared.state.ReqState.{ReqState}
use Rattle.req_zone.specs.declared.words.ReqWords.{ReqWords}
use Rattle.req_zone.specs.Lays as req
use Rattle.conn_zone.specs.declared.state.ConnState.{ConnState}
use Rattle.conn_zone.specs.Layout as conn
use Rattle.peer_zone.specs.declared.state.PeerState.{PeerState}
use Rattle.peer_zone.specs.declared.words.PeerWords.{PeerWords}
use Rattle.peer_zone.specs.Lays as peer
use Rattle.zone_config.specs.declared.data.ZoneSpec.{ZoneSpec}
use Rattle.replay_share.specs.Logs.{ZoneLog, IsAt}
use Rattle.replay_text.specs.ReplayText.{zone_text, zones_text}
use Rattle.replay_text.proofs.TextLemmas.{text-more}

-- ---- the classes of a zone's slab

few : (slab : Slab) → IsSound slab → length slab.stats ≤ 9
few slab s = omega (arith, s.stat_count)

pub req-few : (z : ReqWords) (s : ReqState) → req.Lays z s → length s.slab.stats ≤ 9
req-few z s l = few s.slab l.words.whole.sound

pub conn-few : (z : conn.Zone) (s : ConnState) → conn.Lays z s → length s.slab.stats ≤ 9
conn-few z s l = few s.slab l.laid.words.zone.whole.sound

pub peer-few : (z : PeerWords) (s : PeerState) → peer.Lays z s → length s.slab.stats ≤ 9
peer-few z s l = few s.slab l.words.whole.sound

-- ---- all zones

module _ {J : Type 0} (IsOf : ZoneSpec → J → Type 0) where
  -- each zone has what stands for it, at its place
  abbrev pub HaveEach : List ZoneSpec → List J → Type 0
  HaveEach specs all = (z : ℕ) → IsAt IsOf (slice_get specs z) (slice_get all z)

  some-none : (spec : ZoneSpec) → IsAt IsOf (Some spec) None → ⊥
  some-none spec h = h

  none-some : (one : J) → IsAt IsOf None (Some one) → ⊥
  none-some one h = h

  -- there are as many of these as zones
  pub as-many : (specs : List ZoneSpec) (all : List J) → HaveEach specs all → length specs ≡ length all
  as-many [] [] at = refl
  as-many (s ∷ ss) [] at = absurd (some-none s (at 0))
  as-many [] (j ∷ js) at = absurd (none-some j (at 0))
  as-many (s ∷ ss) (j ∷ js) at = ap suc (as-many ss js (λ z. at (suc z)))

  -- what stands at the place of a zone is this zone's
  pub one-at : (specs : List ZoneSpec) (all : List J) (i : ℕ) (spec : ZoneSpec) (one : J) → HaveEach specs all
      → i < length specs → i < length all → spec ≡ get_or specs i spec → one ≡ get_or all i one → IsOf spec one
  one-at specs all i spec one at low_spec low_one spec_is one_is =
      let first : slice_get specs i ≡ Some spec = slice_get-get_or specs i spec low_spec ∙ ap Some (sym spec_is) in
      let second : slice_get all i ≡ Some one = slice_get-get_or all i one low_one ∙ ap Some (sym one_is) in
      subst (λ (o : Option J). IsAt IsOf (Some spec) o) second (subst (λ (o : Option ZoneSpec). IsAt IsOf o (slice_get all i)) first (at i))

module _ {J : Type 0} (log_of : J → ZoneLog) where
  zones-push : (specs : List ZoneSpec) (all : List J) (i : ℕ) (spec : ZoneSpec) (one : J) → i < length specs → i < length all → spec ≡ get_or specs i spec → one ≡ get_or all i one
      → zones_text (take i specs) (map log_of (take i all)) ++ zone_text spec (log_of one) ≡ zones_text (take (suc i) specs) (map log_of (take (suc i) all))
  zones-push [] all i spec one low_spec low_one spec_is one_is = absurd (omega (arith, low_spec))
  zones-push (s ∷ ss) [] i spec one low_spec low_one spec_is one_is = absurd (omega (arith, low_one))
  zones-push (s ∷ ss) (j ∷ js) zero spec one low_spec low_one spec_is one_is =
      ap (λ (x : ZoneSpec). zone_text x (log_of one)) spec_is ∙ ap (λ (x : J). zone_text s (log_of x)) one_is ∙ sym (append-nil (zone_text s (log_of j)))
  zones-push (s ∷ ss) (j ∷ js) (suc i) spec one low_spec low_one spec_is one_is =
      append_assoc (zone_text s (log_of j)) (zones_text (take i ss) (map log_of (take i js))) (zone_text spec (log_of one))
      ∙ ap (λ (t : List ℕ). zone_text s (log_of j) ++ t) (zones-push ss js i spec one (omega (arith, low_spec)) (omega (arith, low_one)) spec_is one_is)

  -- a text that has the histories of the first zones gets one more
  pub zones-grow : (old text new : List ℕ) (specs : List ZoneSpec) (all : List J) (i : ℕ) (spec : ZoneSpec) (one : J) → i < length specs → i < length all → spec ≡ get_or specs i spec → one ≡ get_or all i one
      → text ≡ old ++ zones_text (take i specs) (map log_of (take i all)) → new ≡ text ++ zone_text spec (log_of one) → new ≡ old ++ zones_text (take (i + 1) specs) (map log_of (take (i + 1) all))
  zones-grow old text new specs all i spec one low_spec low_one spec_is one_is had grew =
      subst (λ (n : ℕ). new ≡ old ++ zones_text (take n specs) (map log_of (take n all))) (sym (add-one i))
      (text-more old text new (zones_text (take i specs) (map log_of (take i all))) (zone_text spec (log_of one)) (zones_text (take (suc i) specs) (map log_of (take (suc i) all))) had grew
      (zones-push specs all i spec one low_spec low_one spec_is one_is))

  -- a text that has the histories of as many zones as there are has all
  pub zones-whole : (old text : List ℕ) (specs : List ZoneSpec) (all : List J) (n : ℕ) → length specs ≡ length all → n ≡ min (length specs) (length all)
      → text ≡ old ++ zones_text (take n specs) (map log_of (take n all)) → text ≡ old ++ zones_text specs (map log_of all)
  zones-whole old text specs all n many n_is had =
      let all_specs : take n specs ≡ specs = ap (λ (k : ℕ). take k specs) (omega (arith, many, n_is)) ∙ take-length specs in
      let all_ones : take n all ≡ all = ap (λ (k : ℕ). take k all) (omega (arith, many, n_is)) ∙ take-length all in
      had ∙ ap (λ (x : List ZoneSpec). old ++ zones_text x (map log_of (take n all))) all_specs ∙ ap (λ (x : List J). old ++ zones_text specs (map log_of x)) all_ones
