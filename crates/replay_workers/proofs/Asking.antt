-- A worker's passes: the one that a call goes to, and all of them after it.
use Rattle.std.proofs.Common.{ℕ, ◌≡◌, ◌<◌, ◌≤◌, List, [], ◌∷◌, ◌++◌, length, get_or, set, subst, sym, ap, refl, ◌∙◌}
use Rattle.std.specs.Prelude.{Option, Some, None, slice_get, slice_index}
use Rattle.std.specs.Option.{option_map}
use Rattle.std.proofs.lemmas.Option.{slice_get-map, slice_get_within, get_or_from_slice_get}
use Rattle.zone_config.specs.declared.data.ZoneSpec.{ZoneSpec}
use Rattle.request_script.specs.declared.call.ZoneCall.{ZoneCall}
use Rattle.request_script.specs.declared.call.ZoneReply.{ZoneReply}
use Rattle.request_script.specs.Turn.{Exchange}
use Rattle.request_script.specs.Permitted.{zone_of}
use Rattle.replay_share.specs.Calls.{CanAsk, IsReplyTo}
use Rattle.replay_share.specs.Logs.{IsAt}
use Rattle.replay_share.proofs.Serving.{Finds, finds, serves-after, can_at, at_set}
use Rattle.replay_workers.specs.declared.passes.Shared.{Shared}
use Rattle.replay_workers.specs.declared.passes.ZonePass.{ZonePass}
use Rattle.replay_workers.specs.Passes.{Place, Stand, IsPassOf, IsSharedOf, seen_by, id_of, AskedBy, MayCall, HasCalled, IsAnswering}

-- the zone of a call is there, and of its kind
shared_at : (spec : ZoneSpec) (o : Option Shared) → IsAt IsSharedOf (Some spec) o → (zone : Shared) × (o ≡ Some zone) × IsSharedOf spec zone
shared_at spec (Some zone) h = (zone, refl, h)
shared_at spec None h = elim h [ ]

module _ (start now : Stand) (specs : List ZoneSpec) (room : ℕ) (asked : List Exchange) (call : ZoneCall) (h : IsAnswering start now specs room asked) (can : CanAsk specs room asked call) where
  pub found : Finds (IsPassOf start.place) seen_by start.place.who now.passes specs room asked call
  found = finds (IsPassOf start.place) seen_by start.place.who now.passes specs room asked call h.has can

  -- the zone that a call goes to
  zone_there : (zone : Shared) × (slice_get start.place.zones (zone_of call) ≡ Some zone) × IsSharedOf found.spec zone
  zone_there = shared_at found.spec (slice_get start.place.zones (zone_of call)) (subst (λ (o : Option ZoneSpec). IsAt IsSharedOf o (slice_get start.place.zones (zone_of call))) found.spec_is (h.kinds (zone_of call)))

  -- it is found in the worker's zones and passes
  pub zone_low : zone_of call < length now.place.zones
  zone_low = slice_get_within now.place.zones (zone_of call) zone_there.0 (ap (λ (p : Place). slice_get p.zones (zone_of call)) h.place ∙ zone_there.1)

  pub pass_low : zone_of call < length now.passes
  pass_low = slice_get_within now.passes (zone_of call) found.found found.found_is

  pub may_call : (inside : List ZonePass) (zones : List Shared) (i : ℕ) (zone : Shared) (pass : ZonePass) → inside ≡ now.passes → zones ≡ now.place.zones → i ≡ zone_of call → zone ≡ get_or zones i zone → pass ≡ get_or inside i pass
      → MayCall start.place zone pass found.spec room asked call
  may_call inside zones i zone pass inside_is zones_are i_is zone_is pass_is =
      let here : zones ≡ start.place.zones = zones_are ∙ ap (λ (p : Place). p.zones) h.place in
      let same : zone_there.0 ≡ zone = sym (zone_is ∙ ap (λ (l : List Shared). get_or l i zone) here ∙ ap (λ (k : ℕ). get_or start.place.zones k zone) i_is ∙ get_or_from_slice_get start.place.zones (zone_of call) zone_there.0 zone zone_there.1) in
      record {
        there = slice_get-map id_of start.place.zones (zone_of call) ∙ ap (option_map id_of) (zone_there.1 ∙ ap Some same);
        kind = subst (IsSharedOf found.spec) same zone_there.2;
        enough = h.enough;
        may = can_at (IsPassOf start.place) seen_by start.place.who inside now.passes i pass specs room asked call found inside_is i_is pass_is;
      }

  -- and after the call
  pub has_asked : (inside : List ZonePass) (i : ℕ) (new : ZonePass) (reply : ZoneReply) → inside ≡ now.passes → i ≡ zone_of call → HasCalled start.place new found.spec (asked ++ record { call = call; reply = reply } ∷ []) call → IsReplyTo call reply
      → AskedBy start.place (set inside i new) specs (asked ++ record { call = call; reply = reply } ∷ [])
  has_asked inside i new reply inside_is i_is called replies =
      at_set (IsPassOf start.place) seen_by start.place.who inside now.passes i (zone_of call) new specs (asked ++ record { call = call; reply = reply } ∷ []) inside_is i_is
      (serves-after (IsPassOf start.place) seen_by start.place.who now.passes specs room asked call reply new h.has found called replies can.there)

  pub still_answers : (new : Stand) (reply : ZoneReply) → new.place ≡ now.place → AskedBy start.place new.passes specs (asked ++ record { call = call; reply = reply } ∷ []) → IsAnswering start new specs room (asked ++ record { call = call; reply = reply } ∷ [])
  still_answers new reply place has = record {
    place = place ∙ h.place;
    kinds = h.kinds;
    enough = h.enough;
    has = has;
  }

-- ---- a share

module _ (start now : Stand) (specs : List ZoneSpec) (room : ℕ) where
  -- where it begins
  pub begins_with : AskedBy start.place start.passes specs [] → ((z : ℕ) → IsAt IsSharedOf (slice_get specs z) (slice_get start.place.zones z)) → room ≤ slice_index start.place.rooms start.place.who → IsAnswering start start specs room []
  begins_with has kinds enough = record { place = refl; kinds = kinds; enough = enough; has = has }
