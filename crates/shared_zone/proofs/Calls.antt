-- What a pass knows in a call, in a meeting and at the end.
use Rattle.std.proofs.Common.{◌≡◌, ℕ, ◌<◌, ◌≤◌, ◌⊎◌, List, [], ◌∷◌, ◌++◌, length, sym, ap, ◌∙◌, subst}
use Rattle.std.specs.Prelude.{slice_index, slice_get, map, All, Some}
use Rattle.std.proofs.lemmas.List.Elements.{All-append}
use Rattle.zone_object.specs.declared.object.Entry.{Entry}
use Rattle.zone_object.specs.History.{own, HasRun}
use Rattle.shared_zone.specs.declared.rule.View.{View}
use Rattle.shared_zone.specs.Callers.{ZoneId, Zone, Caller, StartsWith, longer, made, Keeps, Begins, IsHistoryOf, HasRunOf}
use Rattle.shared_zone.specs.Rule.{Carried, HasRunLog, Within, Opens, Takes, Meets, meeter, Ended, Closes}
use Rattle.shared_zone.proofs.Lists.{longer_begins, all_nil, all_cons, all_last, all_unmap, all_same}
use Rattle.shared_zone.proofs.Rooms.{no_others}

module _ {X St C R : Type 0} where
  -- a pass that has room finds it in the turn that it takes
  pub room_left : (v : View X St C R) (x : Carried X (Entry X St C R)) (w : View X St C R) (Good : St → Carried X (Entry X St C R) → Type 0) (number : ℕ) (zone : Zone St) (inside now : Caller St (Entry X St C R))
      → Takes Good v x w → v.number ≡ number → v.rooms ≡ inside.zone.rooms → v.seen ≡ inside.seen → number ≡ inside.number → inside ≡ now → now.zone ≡ zone
      → length (made now) < slice_index zone.rooms now.number → length (own x.log number) < slice_index x.rooms number
  room_left v x w Good number zone inside now t number_is rooms_is seen_is number' here there room =
      let a : length (made inside) < slice_index inside.zone.rooms inside.number =
      subst (λ (s : Caller St (Entry X St C R)). length (made s) < slice_index s.zone.rooms s.number) (sym here) (subst (λ (z : Zone St). length (made now) < slice_index z.rooms now.number) (sym there) room) in
      let b : length (own v.seen number) < slice_index v.rooms number =
      subst (λ (y : ℕ × (List (Entry X St C R) × List ℕ)). length (own y.1.0 y.0) < slice_index y.1.1 y.0) (λ i. (sym number' i, (sym seen_is i, sym rooms_is i))) a in
      let e : own v.seen number ≡ own x.log number = ap (λ n. own v.seen n) (sym number_is) ∙ sym t.own_is ∙ ap (λ n. own x.log n) number_is in
      subst (λ (y : List (Entry X St C R) × List ℕ). length y.0 < slice_index y.1 number) (λ i. (e i, t.rooms i)) b

  -- a pass that has met a note has seen both histories
  pub met_begins : (v w both now : View X St C R) (a b : List (Entry X St C R)) → both ≡ meeter v w → now ≡ both → Meets both → v.seen ≡ a → w.seen ≡ b → StartsWith now.seen a × StartsWith now.seen b
  met_begins v w both now a b is same m a_is b_is =
      let before : both.before ≡ a = ap (λ (u : View X St C R). u.before) is ∙ a_is in
      let met : both.met ≡ b = ap (λ (u : View X St C R). u.met) is ∙ b_is in
      let seen : longer a b ≡ now.seen = sym (ap (λ (u : View X St C R). u.seen) same ∙ ap (λ (u : View X St C R). u.seen) is ∙ λ i. longer (a_is i) (b_is i)) in
      let h : StartsWith a b ⊎ StartsWith b a = subst (λ (y : List (Entry X St C R) × List (Entry X St C R)). StartsWith y.0 y.1 ⊎ StartsWith y.1 y.0) (λ i. (before i, met i)) m.either in
      subst (λ (l : List (Entry X St C R)). StartsWith l a × StartsWith l b) seen (longer_begins a b h)

  -- the history keeps what each pass had seen that was taken in
  pub all_kept : (log : List (Entry X St C R)) (v : View X St C R) (passes done : List (Caller St (Entry X St C R)))
      → v.seen ≡ log → passes ≡ done → v.ended ≡ map (λ (pass : Caller St (Entry X St C R)). (pass.number, pass.seen)) done → Closes v → All (Keeps log) passes
  all_kept log v passes done seen_is all_done ended closes =
      let a : All (Ended v.seen) (map (λ (pass : Caller St (Entry X St C R)). (pass.number, pass.seen)) done) = subst (λ (l : List (ℕ × List (Entry X St C R))). All (Ended v.seen) l) ended closes in
      let b : All (λ (s : Caller St (Entry X St C R)). Ended v.seen (s.number, s.seen)) done = all_unmap (λ (pass : Caller St (Entry X St C R)). (pass.number, pass.seen)) (Ended v.seen) done a in
      let d : All (Keeps v.seen) done = all_same (λ (s : Caller St (Entry X St C R)). Ended v.seen (s.number, s.seen)) (Keeps v.seen) done (λ s e. record { begins = e.begins; own_is = e.own_is }) b in
      subst (λ (l : List (Entry X St C R)). All (Keeps l) passes) seen_is (subst (λ (l : List (Caller St (Entry X St C R))). All (Keeps v.seen) l) (sym all_done) d)

  -- of the passes, one and the others
  pub all_passes : (P : Caller St (Entry X St C R) → Type 0) (first : Caller St (Entry X St C R)) (others passes : List (Caller St (Entry X St C R))) → passes ≡ others ++ first ∷ [] → P first → All P others → All P passes
  all_passes P first others passes is one rest = subst (λ (l : List (Caller St (Entry X St C R))). All P l) (sym is) (All-append P others (first ∷ []) rest (all_cons P first [] one (all_nil P)))

  -- the zone of each pass is that of the one that closes it
  pub same_zone : (z : Zone St) (first : Caller St (Entry X St C R)) (others passes : List (Caller St (Entry X St C R))) → passes ≡ others ++ first ∷ [] → All (λ (p : Caller St (Entry X St C R)). p.zone ≡ z) passes
      → All (λ (p : Caller St (Entry X St C R)). p.zone ≡ first.zone) passes
  same_zone z first others passes is same =
      let P : Caller St (Entry X St C R) → Type 0 = λ p. p.zone ≡ z in
      let here : first.zone ≡ z = all_last P others first (subst (λ (l : List (Caller St (Entry X St C R))). All P l) is same) in
      all_same P (λ p. p.zone ≡ first.zone) passes (λ p e. e ∙ sym here) same

  -- a caller without a room has no entry
  pub none_beyond : (rooms : List ℕ) (log all : List (Entry X St C R)) (first : Caller St (Entry X St C R)) (passes : List (Caller St (Entry X St C R))) → rooms ≡ first.zone.rooms → Within rooms log → all ≡ log
      → All (λ (p : Caller St (Entry X St C R)). p.zone ≡ first.zone) passes → All (λ (p : Caller St (Entry X St C R)). (who : ℕ) → length p.zone.rooms ≤ who → own all who ≡ []) passes
  none_beyond rooms log all first passes rooms_is within log_is same =
      all_same (λ (p : Caller St (Entry X St C R)). p.zone ≡ first.zone) (λ p. (who : ℕ) → length p.zone.rooms ≤ who → own all who ≡ []) passes
      (λ p zone who past. subst (λ (l : List (Entry X St C R)). own l who ≡ []) (sym log_is)
      (no_others rooms log within who (subst (λ (r : List ℕ). length r ≤ who) (ap (λ (q : Zone St). q.rooms) zone ∙ sym rooms_is) past))) same

  module _ (is_quiet : St → Type 0) (lays : X → St → Type 0) (reply_of : St → C → R) (state_after : St → C → St) (permits : List (Entry X St C R) → C → Type 0) where
    -- what is known of a zone that has just been opened
    pub begins_of : (object : X) (id : ZoneId) (rooms : List ℕ) (passes : List (Caller St (Entry X St C R))) (x : Carried X (Entry X St C R)) (w : View X St C R)
        → Opens (HasRunLog is_quiet lays reply_of state_after permits) x w → x.log ≡ [] → x.object ≡ object
        → ((number : ℕ) → number < length rooms → slice_get passes number ≡ Some (record { zone = record { id = id; start = w.start; rooms = rooms }; number = number; seen = [] }))
        → Begins is_quiet lays object id rooms passes
    begins_of object id rooms passes x w o none same made_so =
        let run : HasRun is_quiet lays reply_of state_after permits o.start object [] = subst (λ (y : X × List (Entry X St C R)). HasRun is_quiet lays reply_of state_after permits o.start y.0 y.1) (λ i. (same i, none i)) o.good in
        record {
          start = o.start;
          quiet = run.history.begun;
          laid = run.laid;
          passes_are = λ number lt. made_so number lt ∙ ap (λ (u : View X St C R). Some (record { zone = record { id = id; start = u.start; rooms = rooms }; number = number; seen = [] })) o.view;
        }

    -- the history of an object that has run it
    pub history_of : (zone : Zone St) (s : St) (object : X) (log seen : List (Entry X St C R)) → zone.start ≡ Some s → seen ≡ log → HasRun is_quiet lays reply_of state_after permits s object log → IsHistoryOf is_quiet reply_of state_after permits zone seen
    history_of zone s object log seen start_is seen_is run =
        subst (λ l. IsHistoryOf is_quiet reply_of state_after permits zone l) (sym seen_is) (record { start = s; start_is = start_is; history = run.history })

    -- what the object of a zone that was closed has run, in the words of each pass
    pub run_of : (first : Caller St (Entry X St C R)) (passes : List (Caller St (Entry X St C R))) (object last : X) (log all : List (Entry X St C R)) → HasRunOf is_quiet lays reply_of state_after permits first.zone object log → last ≡ object → all ≡ log
        → All (λ (p : Caller St (Entry X St C R)). p.zone ≡ first.zone) passes → All (λ (p : Caller St (Entry X St C R)). HasRunOf is_quiet lays reply_of state_after permits p.zone last all) passes
    run_of first passes object last log all run object_is log_is same =
        all_same (λ (p : Caller St (Entry X St C R)). p.zone ≡ first.zone) (λ p. HasRunOf is_quiet lays reply_of state_after permits p.zone last all) passes
        (λ p zone. subst (λ (y : Zone St × (X × List (Entry X St C R))). HasRunOf is_quiet lays reply_of state_after permits y.0 y.1.0 y.1.1) (λ i. (sym zone i, (sym object_is i, sym log_is i))) run) same
