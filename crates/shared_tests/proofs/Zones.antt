-- What is known of the sixteen passes of a zone that has just been opened, and when it has been closed.
use Rattle.std.proofs.Common.{◌≡◌, ◌<◌, List, [], length, sym, refl, ap, ◌∙◌, subst, arith}
use Rattle.std.specs.Prelude.{All, Some, replicate, slice_index, slice_index_or}
use Rattle.std.proofs.lemmas.Option.{get_or_from_slice_get}
use Rattle.std.proofs.lemmas.List.{get_or-replicate}
use Rattle.zone_object.specs.History.{HasRun}
use Rattle.zone_counters.specs.declared.Counters.{Counters}
use Rattle.zone_counters.specs.declared.CounterState.{CounterState}
use Rattle.zone_counters.specs.Counting.{Made, Lays, AreZero, zero_counters, reply_of, state_after, Permits}
use Rattle.zone_counters.specs.CountingLaws.{start-law}
use Rattle.shared_zone.specs.Callers.{ZoneId, Caller, newcomer, Begins, HasRunOf}
use Rattle.shared_tests.specs.Rounds.{home, MayGo}

pub all_may_go : (counters : Counters) (id : ZoneId) (passes : List (Caller CounterState Made)) → Lays counters (zero_counters 2) → AreZero (zero_counters 2) → length passes ≡ 16 → Begins AreZero Lays counters id (replicate 16 64) passes → All (MayGo (home id) 32) passes
all_may_go counters id passes laid zero count b k d lt =
    let start : b.start ≡ zero_counters 2 = start-law counters b.start (zero_counters 2) b.laid laid b.quiet zero in
    let few : k < 16 = omega (arith, count, lt) in
    let is : slice_index_or passes k d ≡ newcomer id b.start (replicate 16 64) k = get_or_from_slice_get passes k _ d (b.passes_are k few) in
    let new : Caller CounterState Made = newcomer id (zero_counters 2) (replicate 16 64) k in
    let room : slice_index (replicate 16 64) k ≡ 64 = get_or-replicate 16 k 64 0 few in
    let may : MayGo (home id) 32 new = record { zone_is = refl; own_only = λ at. omega arith; room = omega (arith, room) } in
    subst (λ p. MayGo (home id) 32 p) (sym (is ∙ ap (λ s. newcomer id s (replicate 16 64) k) start)) may

pub has_run : (id : ZoneId) (passes : List (Caller CounterState Made)) (counters : Counters) (log : List Made) → 0 < length passes → All (λ pass. pass.zone ≡ home id) passes
    → All (λ pass. HasRunOf AreZero Lays reply_of state_after Permits pass.zone counters log) passes → HasRun AreZero Lays reply_of state_after Permits (zero_counters 2) counters log
has_run id passes counters log some zones runs =
    let any : Caller CounterState Made = record { zone = home id; number = 0; seen = [] } in
    let h = runs 0 any some in
    let e : Some h.start ≡ Some (zero_counters 2) = sym h.start_is ∙ ap (λ z. z.start) (zones 0 any some) in
    let start : h.start ≡ zero_counters 2 = cc in
    subst (λ s. HasRun AreZero Lays reply_of state_after Permits s counters log) start h.run
