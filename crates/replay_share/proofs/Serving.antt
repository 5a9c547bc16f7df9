-- What stands for all zones: the one that a call goes to, and all of them after it.
use Rattle.std.proofs.Common.{ℕ, ◌≡◌, ◌≢◌, ◌<◌, ◌≤◌, ◌⊎◌, inl, inr, Bool, true, false, List, [], ◌∷◌, ◌++◌, length, map, get_or, subst, sym, ap, refl, ◌∙◌, arith}
use Rattle.std.specs.Prelude.{nat_eq, nat_lt, Option, Some, None, slice_get, slice_set, IfSome}
use Rattle.std.specs.Option.{option_map}
use Rattle.std.proofs.lemmas.List.{get_or-set_same, get_or-set_other, length-set}
use Rattle.std.proofs.lemmas.List.Elements.{All-push}
use Rattle.std.proofs.lemmas.Option.{get_or_from_slice_get, slice_get-map, slice_get_within, slice_get-get_or, slice_get_past, slice_get_cases}
use Rattle.std.proofs.lemmas.Bool.Decides.{nat_tests}
use Rattle.zone_config.specs.declared.data.ZoneSpec.{ZoneSpec}
use Rattle.request_script.specs.declared.call.ZoneCall.{ZoneCall}
use Rattle.request_script.specs.declared.call.ZoneCall.TheVariants as to
use Rattle.request_script.specs.declared.call.ZoneReply.{ZoneReply}
use Rattle.request_script.specs.Turn.{Exchange}
use Rattle.request_script.specs.Permitted.{IsOfKind, zone_of}
use Rattle.replay_share.specs.Calls.{IsReplyTo, IsWith, CanAsk}
use Rattle.replay_share.specs.Logs.{ZoneLog, IsAt, HasPart, HasParts}
use Rattle.replay_share.specs.Asked.{HasAsked, HasTaken, MayTake}
use Rattle.replay_share.proofs.Parts.{part-stays}

-- ---- two numbers

same_or : (m n : ℕ) → (m ≡ n) ⊎ (m ≢ n)
same_or m n =
    let f : (t : Bool) → nat_eq m n ≡ t → (m ≡ n) ⊎ (m ≢ n) = elim [ true ↦ λ e. inl (grind (arith, nat_tests)) | false ↦ λ e. inr (grind (arith, nat_tests)) ] in
    f (nat_eq m n) refl

low_or : (m n : ℕ) → (m < n) ⊎ (n ≤ m)
low_or m n =
    let f : (t : Bool) → nat_lt m n ≡ t → (m < n) ⊎ (n ≤ m) = elim [ true ↦ λ e. inl (grind (arith, nat_tests)) | false ↦ λ e. inr (grind (arith, nat_tests)) ] in
    f (nat_lt m n) refl

-- ---- lists with another element at a place

module _ {A : Type 0} where
  get-set_same : (xs : List A) (i : ℕ) (y : A) → i < length xs → slice_get (slice_set xs i y) i ≡ Some y
  get-set_same xs i y low = slice_get-get_or (slice_set xs i y) i y (omega (arith, low, length-set xs i y)) ∙ ap Some (get_or-set_same xs i y y low)

  get-set_past : (xs : List A) (i j : ℕ) (y : A) → length xs ≤ j → slice_get (slice_set xs i y) j ≡ slice_get xs j
  get-set_past xs i j y past = slice_get_past (slice_set xs i y) j (omega (arith, past, length-set xs i y)) ∙ sym (slice_get_past xs j past)

  get-set_within : (xs : List A) (i j : ℕ) (y : A) → j ≢ i → j < length xs → slice_get (slice_set xs i y) j ≡ slice_get xs j
  get-set_within xs i j y differs low =
      slice_get-get_or (slice_set xs i y) j y (omega (arith, low, length-set xs i y)) ∙ ap Some (get_or-set_other xs i j y y differs) ∙ sym (slice_get-get_or xs j y low)

  get-set_other : (xs : List A) (i j : ℕ) (y : A) → j ≢ i → slice_get (slice_set xs i y) j ≡ slice_get xs j
  get-set_other xs i j y differs = elim (low_or j (length xs)) [ inl low ↦ get-set_within xs i j y differs low | inr past ↦ get-set_past xs i j y past ]

-- ---- the zone that a call goes to

-- the zone of a call is there
there : (spec : Option ZoneSpec) (call : ZoneCall) → IsOfKind spec call → (x : ZoneSpec) × (spec ≡ Some x)
there (Some x) call h = (x, refl)
there None (to.Req zone call) h = elim h [ ]
there None (to.Conn zone call) h = elim h [ ]
there None (to.Peer zone call) h = elim h [ ]

module _ {J : Type 0} where
  -- and so is what stands for it
  kept : (IsOf : ZoneSpec → J → Type 0) (spec : ZoneSpec) (o : Option J) → IsAt IsOf (Some spec) o → (x : J) × (o ≡ Some x) × IsOf spec x
  kept IsOf spec (Some x) h = (x, refl, h)
  kept IsOf spec None h = elim h [ ]

module _ {J : Type 0} (IsOf : ℕ → ZoneSpec → J → Type 0) (log_of : J → ZoneLog) (who : ℕ) where
  -- the part of a zone is known
  part_at : (all : List J) (asked : List Exchange) (z : ℕ) (j : J) → HasParts asked who (map log_of all) → slice_get all z ≡ Some j → HasPart asked who z (log_of j)
  part_at all asked z j parts is =
      subst (λ (o : Option ZoneLog). IfSome o (HasPart asked who z)) (slice_get-map log_of all z ∙ ap (option_map log_of) is) (parts z)

  -- what a call finds
  pub record Finds (all : List J) (zones : List ZoneSpec) (room : ℕ) (asked : List Exchange) (call : ZoneCall) : Type 0 where
    pub spec : ZoneSpec
    pub spec_is : slice_get zones (zone_of call) ≡ Some spec
    pub found : J
    pub found_is : slice_get all (zone_of call) ≡ Some found
    pub can : MayTake IsOf log_of who found spec room asked call

  pub finds : (all : List J) (zones : List ZoneSpec) (room : ℕ) (asked : List Exchange) (call : ZoneCall) → HasAsked IsOf log_of who all zones asked → CanAsk zones room asked call → Finds all zones room asked call
  finds all zones room asked call serves can =
      let z = zone_of call in
      let known = there (slice_get zones z) call can.there in
      let at = kept (IsOf z) known.0 (slice_get all z) (subst (λ (o : Option ZoneSpec). IsAt (IsOf z) o (slice_get all z)) known.1 (serves.each z)) in
      record {
        spec = known.0;
        spec_is = known.1;
        found = at.0;
        found_is = at.1;
        can = record {
          taken = record { kept = at.2; part = part_at all asked z at.0 serves.parts at.1 };
          kind = subst (λ (o : Option ZoneSpec). IsOfKind o call) known.1 can.there;
          room_left = can.room_left;
          may = can.may;
        };
      }

  -- ---- all of them after a call

  module _ (all : List J) (zones : List ZoneSpec) (room : ℕ) (asked : List Exchange) (call : ZoneCall) (reply : ZoneReply) (new : J)
      (serves : HasAsked IsOf log_of who all zones asked) (found : Finds all zones room asked call) (takes : HasTaken IsOf log_of who new found.spec (asked ++ record { call = call; reply = reply } ∷ []) call) where
    abbrev e : Exchange
    e = record { call = call; reply = reply }

    low : zone_of call < length all
    low = slice_get_within all (zone_of call) found.found found.found_is

    abbrev after : List J
    after = slice_set all (zone_of call) new

    at_zone : slice_get after (zone_of call) ≡ Some new
    at_zone = get-set_same all (zone_of call) new low

    each_zone : (z : ℕ) → (z ≡ zone_of call) ⊎ (z ≢ zone_of call) → IsAt (IsOf z) (slice_get zones z) (slice_get after z)
    each_zone z (inl is) =
        let at : slice_get after z ≡ Some new = ap (slice_get after) is ∙ at_zone in
        let spec : slice_get zones z ≡ Some found.spec = ap (slice_get zones) is ∙ found.spec_is in
        let kept_at : IsOf z found.spec new = subst (λ (i : ℕ). IsOf i found.spec new) (sym is) takes.kept in
        subst (λ (o : Option J). IsAt (IsOf z) (slice_get zones z) o) (sym at) (subst (λ (o : Option ZoneSpec). IsAt (IsOf z) o (Some new)) (sym spec) kept_at)
    each_zone z (inr differs) = subst (λ (o : Option J). IsAt (IsOf z) (slice_get zones z) o) (sym (get-set_other all (zone_of call) z new differs)) (serves.each z)

    -- the part of another zone stays
    stays : (z : ℕ) → z ≢ zone_of call → (o : Option ZoneLog) → IfSome o (HasPart asked who z) → IfSome o (HasPart (asked ++ e ∷ []) who z)
    stays z differs None h = tt
    stays z differs (Some log) h = part-stays asked who z call reply log (λ is. differs (sym is)) h

    log_at : (z : ℕ) → slice_get (map log_of after) z ≡ option_map log_of (slice_get after z)
    log_at z = slice_get-map log_of after z

    each_part : (z : ℕ) → (z ≡ zone_of call) ⊎ (z ≢ zone_of call) → IfSome (slice_get (map log_of after) z) (HasPart (asked ++ e ∷ []) who z)
    each_part z (inl is) =
        let at : slice_get (map log_of after) z ≡ Some (log_of new) = log_at z ∙ ap (option_map log_of) (ap (slice_get after) is ∙ at_zone) in
        subst (λ (o : Option ZoneLog). IfSome o (HasPart (asked ++ e ∷ []) who z)) (sym at) (subst (λ (i : ℕ). HasPart (asked ++ e ∷ []) who i (log_of new)) (sym is) takes.part)
    each_part z (inr differs) =
        let at : slice_get (map log_of after) z ≡ slice_get (map log_of all) z = log_at z ∙ ap (option_map log_of) (get-set_other all (zone_of call) z new differs) ∙ sym (slice_get-map log_of all z) in
        subst (λ (o : Option ZoneLog). IfSome o (HasPart (asked ++ e ∷ []) who z)) (sym at) (stays z differs (slice_get (map log_of all) z) (serves.parts z))

    pub serves-after : IsReplyTo call reply → IsOfKind (slice_get zones (zone_of call)) call → HasAsked IsOf log_of who (slice_set all (zone_of call) new) zones (asked ++ record { call = call; reply = reply } ∷ [])
    serves-after replies kind = record {
      each = λ z. each_zone z (same_or z (zone_of call));
      parts = λ z. each_part z (same_or z (zone_of call));
      kinds = All-push (IsWith zones) asked e serves.kinds (record { there = kind; reply = replies });
    }

  -- ---- a list that is known by another name

  pub can_at : (inside now : List J) (i : ℕ) (x : J) (zones : List ZoneSpec) (room : ℕ) (asked : List Exchange) (call : ZoneCall) (f : Finds now zones room asked call)
      → inside ≡ now → i ≡ zone_of call → x ≡ get_or inside i x → MayTake IsOf log_of who x f.spec room asked call
  can_at inside now i x zones room asked call f inside_is i_is read =
      let is : f.found ≡ x = sym (read ∙ ap (λ (l : List J). get_or l i x) inside_is ∙ ap (λ (k : ℕ). get_or now k x) i_is ∙ get_or_from_slice_get now (zone_of call) f.found x f.found_is) in
      subst (λ (j : J). MayTake IsOf log_of who j f.spec room asked call) is f.can

  pub at_set : (inside now : List J) (i z : ℕ) (new : J) (zones : List ZoneSpec) (asked : List Exchange) → inside ≡ now → i ≡ z
      → HasAsked IsOf log_of who (slice_set now z new) zones asked → HasAsked IsOf log_of who (slice_set inside i new) zones asked
  at_set inside now i z new zones asked inside_is i_is h =
      subst (λ (l : List J). HasAsked IsOf log_of who (slice_set l i new) zones asked) (sym inside_is) (subst (λ (k : ℕ). HasAsked IsOf log_of who (slice_set now k new) zones asked) (sym i_is) h)
