-- A replay from the opening of its zones to their end.
use Rattle.std.proofs.Common.{ℕ, zero, suc, ◌≡◌, ◌+◌, ◌*◌, ◌<◌, ◌≤◌, ◌⊎◌, inl, inr, List, [], ◌∷◌, ◌++◌, length, map, get_or, take, vec_items, vec_len, Vec, Global, subst, sym, ap, refl, ◌∙◌, arith}
use Rattle.std.specs.Prelude.{Option, Some, None, IfSome, slice_get, slice_index}
use Rattle.std.specs.Option.{option_map}
use Rattle.std.specs.List.{All}
use Rattle.std.proofs.Math.Seq.{take-append_seam}
use Rattle.std.proofs.lemmas.List.{length-map}
use Rattle.std.proofs.lemmas.Option.{slice_get-map, slice_get_within, slice_get_past, slice_get-get_or, get_or_from_slice_get}
use Rattle.zone_config.specs.declared.data.Config.{Config}
use Rattle.zone_config.specs.declared.data.ZoneSpec.{ZoneSpec}
use Rattle.zone_config.specs.declared.data.ZoneSpec.TheVariants as zone
use Rattle.replay_log.specs.declared.line.Line.{Line}
use Rattle.request_script.specs.declared.decision.Decision.{Decision}
use Rattle.request_script.specs.Turn.{Exchange}
use Rattle.request_script.specs.Drive.{Table, nothing_active, Drives}
use Rattle.replay_share.specs.Logs.{ZoneLog, IsAt, IsLogOf, HasPart, made_of}
use Rattle.replay_share.specs.Logs.ZoneLog.{req_log, conn_log, peer_log}
use Rattle.replay_share.specs.Replay.{Decided, line_of, decision_of, lines_of, share_of, HasPlayed}
use Rattle.replay_share.proofs.Alone.{pairs as decided_pairs}
use Rattle.replay_workers.specs.declared.passes.Shared.{Shared}
use Rattle.replay_workers.specs.declared.passes.ZonePass.{ZonePass}
use Rattle.replay_workers.specs.declared.passes.Row.{Row}
use Rattle.replay_workers.specs.declared.passes.Played.{Played}
use Rattle.replay_workers.specs.declared.history.ZoneHistory.{ZoneHistory}
use Rattle.replay_workers.specs.declared.history.ZoneHistory.TheVariants as history
use Rattle.replay_workers.specs.Passes.{Task, IsPassOf, IsSharedOf, IsFreshRow, HasWorked, AskedBy, place_of, seen_by, number_of_row, number_of_played, passes_of_row, passes_of_played}
use Rattle.replay_workers.specs.Columns.{IsRunOf, HasOwn, IsClosed, CanClose, log_left}
use Rattle.replay_workers.specs.Zones.{AreOpened, AreColumns, AreClosed, HasReplayedAll}
use Rattle.replay_workers.specs.Merging.{pairs, IsMerged}
use Rattle.replay_workers.specs.Transposing.{IsTransposed}
use Rattle.replay_workers.proofs.InOrder.{lines-back, decisions-back, share-lines}
use Rattle.replay_workers.proofs.Turning.{there_at, low_or, cell_in, row_is_fresh, row-length, snoc_at, at_both}

-- what is known of each element that is there
all_by : {A : Type 0} → (P : A → Type 0) (xs : List A) → ((k : ℕ) (x : A) → slice_get xs k ≡ Some x → P x) → All P xs
all_by P xs each = λ k d low. each k (get_or xs k d) (slice_get-get_or xs k d low)

by_all : {A : Type 0} → (P : A → Type 0) (xs : List A) (k : ℕ) (x : A) → All P xs → slice_get xs k ≡ Some x → P x
by_all P xs k x all is = subst P (get_or_from_slice_get xs k x x is) (all k x (slice_get_within xs k x is))

-- ---- the zones that were closed

closed-at : (n : ℕ) (rooms : List ℕ) (specs : List ZoneSpec) (columns : List (List ZonePass)) (left : List ZoneHistory) (spec : ZoneSpec) (column : List ZonePass) (one : ZoneHistory) → AreClosed (n + 1) rooms specs columns left → slice_get specs n ≡ Some spec → slice_get columns n ≡ Some column → IsClosed rooms spec column one
    → (j : ℕ) (s : ZoneSpec) (c : List ZonePass) (o : ZoneHistory) → slice_get specs (n + j) ≡ Some s → slice_get columns (n + j) ≡ Some c → slice_get (one ∷ left) j ≡ Some o → IsClosed rooms s c o
closed-at n rooms specs columns left spec column one h spec_is column_is closed zero s c o s_is c_is o_is =
    let none : n + 0 ≡ n = omega arith in
    let es : Some spec ≡ Some s = sym spec_is ∙ ap (slice_get specs) (sym none) ∙ s_is in
    let ec : Some column ≡ Some c = sym column_is ∙ ap (slice_get columns) (sym none) ∙ c_is in
    let s_same : spec ≡ s = cc in
    let c_same : column ≡ c = cc in
    let o_same : one ≡ o = cc in
    subst (λ (x : ZoneSpec). IsClosed rooms x c o) s_same (subst (λ (w : List ZonePass). IsClosed rooms spec w o) c_same (subst (λ (y : ZoneHistory). IsClosed rooms spec column y) o_same closed))
closed-at n rooms specs columns left spec column one h spec_is column_is closed (suc j) s c o s_is c_is o_is =
    let same : n + suc j ≡ n + 1 + j = omega arith in
    h.each j s c o (ap (slice_get specs) (sym same) ∙ s_is) (ap (slice_get columns) (sym same) ∙ c_is) o_is

pub closed-more : (n : ℕ) (rooms : List ℕ) (specs : List ZoneSpec) (columns : List (List ZonePass)) (left : List ZoneHistory) (spec : ZoneSpec) (column : List ZonePass) (one : ZoneHistory) → AreClosed (n + 1) rooms specs columns left → slice_get specs n ≡ Some spec → slice_get columns n ≡ Some column → IsClosed rooms spec column one
    → AreClosed n rooms specs columns (one ∷ left)
closed-more n rooms specs columns left spec column one h spec_is column_is closed = record {
  left_are = omega (arith, h.left_are);
  each = closed-at n rooms specs columns left spec column one h spec_is column_is closed;
}

pub closed-none : (n : ℕ) (rooms : List ℕ) (specs : List ZoneSpec) (columns : List (List ZonePass)) (left : List ZoneHistory) → left ≡ [] → n ≡ length specs → AreClosed n rooms specs columns left
closed-none n rooms specs columns left none count = record {
  left_are = omega (arith, count, ap length none);
  each = λ j s c o s_is c_is o_is. absurd (omega (arith, ap length none, slice_get_within left j o o_is));
}

-- ---- a worker's part in a history is that of what its pass has seen

part_of_log : (asked : List Exchange) (k z : ℕ) (log seen : ZoneLog) → HasOwn k log seen → HasPart asked k z seen → HasPart asked k z log
part_of_log asked k z (req_log log) (req_log seen) own_is part = ap (map made_of) own_is ∙ part
part_of_log asked k z (conn_log log) (conn_log seen) own_is part = ap (map made_of) own_is ∙ part
part_of_log asked k z (peer_log log) (peer_log seen) own_is part = ap (map made_of) own_is ∙ part
part_of_log asked k z (req_log log) (conn_log seen) own_is part = elim own_is [ ]
part_of_log asked k z (req_log log) (peer_log seen) own_is part = elim own_is [ ]
part_of_log asked k z (conn_log log) (req_log seen) own_is part = elim own_is [ ]
part_of_log asked k z (conn_log log) (peer_log seen) own_is part = elim own_is [ ]
part_of_log asked k z (peer_log log) (req_log seen) own_is part = elim own_is [ ]
part_of_log asked k z (peer_log log) (conn_log seen) own_is part = elim own_is [ ]

-- ---- a zone that has run a history has a legal one

log_of_run : (n : ℕ) (spec : ZoneSpec) (one : ZoneHistory) → IsRunOf n spec one → IsLogOf n spec (log_left one)
log_of_run n (zone.Req spec key) (history.Req object entries) h = (h.0.history, h.1)
log_of_run n (zone.Conn spec key) (history.Conn object entries) h = (h.0.history, h.1)
log_of_run n (zone.Peer spec line) (history.Peer object entries) h = (h.0.history, h.1)
log_of_run n (zone.Req spec key) (history.Conn object entries) h = elim h [ ]
log_of_run n (zone.Req spec key) (history.Peer object entries) h = elim h [ ]
log_of_run n (zone.Conn spec key) (history.Req object entries) h = elim h [ ]
log_of_run n (zone.Conn spec key) (history.Peer object entries) h = elim h [ ]
log_of_run n (zone.Peer spec line) (history.Req object entries) h = elim h [ ]
log_of_run n (zone.Peer spec line) (history.Conn object entries) h = elim h [ ]

log_at : (n : ℕ) (spec : Option ZoneSpec) (one : Option ZoneHistory) → IsAt (IsRunOf n) spec one → IsAt (IsLogOf n) spec (option_map log_left one)
log_at n None None h = tt
log_at n (Some spec) (Some one) h = log_of_run n spec one h
log_at n None (Some one) h = elim h [ ]
log_at n (Some spec) None h = elim h [ ]

-- ---- the rows

module _ (task : Task) (columns turned : List (List ZonePass)) (rows : List Row) (opened : AreOpened task.rooms task.config.zones task.zones columns) (transposed : IsTransposed columns turned)
    (passes_are : map passes_of_row rows ≡ turned) (numbers_are : (k : ℕ) (row : Row) → slice_get rows k ≡ Some row → row.number ≡ k) (rows_count : length rows ≡ length task.rooms)
    (rooms_are : (k : ℕ) → k < length task.rooms → slice_index task.rooms k ≡ 3 * length (lines_of task.workers k task.lines)) where
  pub all_fresh : All (IsFreshRow task) rows
  all_fresh = all_by (IsFreshRow task) rows (λ k row is.
      let low : k < length task.rooms = omega (arith, rows_count, slice_get_within rows k row is) in
      let there : slice_get turned k ≡ Some row.passes.items = ap (λ (l : List (List ZonePass)). slice_get l k) (sym passes_are) ∙ slice_get-map passes_of_row rows k ∙ ap (option_map passes_of_row) is in
      let number = numbers_are k row is in
      record {
        passes = subst (λ (n : ℕ). AskedBy (place_of task n) row.passes.items task.config.zones []) (sym number) (row_is_fresh task.rooms task.config.zones task.zones columns turned opened transposed k row.passes.items low there);
        enough = subst (λ (n : ℕ). 3 * length (lines_of task.workers n task.lines) ≤ slice_index task.rooms n) (sym number) (omega (arith, rooms_are k low));
      })

-- ---- what the workers have done

drives-long : (config : Config) (first : Table) (lines : List Line) (asked : List Exchange) (decisions : List Decision) (last : Table) → Drives config first lines asked decisions last → length decisions ≡ length lines
drives-long config first lines asked decisions last drives =
    let pair = decided_pairs config first lines asked decisions last drives in
    sym (ap length pair.decisions_are) ∙ length-map pair.decided decision_of ∙ sym (length-map pair.decided line_of) ∙ ap length pair.lines_are

module _ (task : Task) (rows : List Row) (played : List Played) (worked : All (HasWorked task) played) (numbers_same : map number_of_played played ≡ map number_of_row rows) (numbers_are : (k : ℕ) (row : Row) → slice_get rows k ≡ Some row → row.number ≡ k) where
  pub played-count : length played ≡ length rows
  played-count = sym (length-map played number_of_played) ∙ ap length numbers_same ∙ length-map rows number_of_row

  -- the worker of a place is that of its number
  pub number-is : (k : ℕ) (one : Played) → slice_get played k ≡ Some one → one.number ≡ k
  number-is k one is =
      let row = there_at rows k (omega (arith, played-count, slice_get_within played k one is)) in
      let e : Some one.number ≡ Some row.0.number = sym (slice_get-map number_of_played played k ∙ ap (option_map number_of_played) is) ∙ ap (λ (l : List ℕ). slice_get l k) numbers_same ∙ slice_get-map number_of_row rows k ∙ ap (option_map number_of_row) row.1 in
      let same : one.number ≡ row.0.number = cc in
      same ∙ numbers_are k row.0 row.1

  pub worked-at : (k : ℕ) (one : Played) → slice_get played k ≡ Some one → HasWorked task one
  worked-at k one is = by_all (HasWorked task) played k one worked is

  pub decisions-long : (k : ℕ) (one : Played) → slice_get played k ≡ Some one → length one.decisions.items ≡ length (lines_of task.workers k task.lines)
  decisions-long k one is =
      let w = worked-at k one is in
      drives-long task.config nothing_active (lines_of task.workers one.number task.lines) w.asked one.decisions.items w.table w.drives ∙ ap (λ (n : ℕ). length (lines_of task.workers n task.lines)) (number-is k one is)

  pub passes-long : (k : ℕ) (one : Played) → slice_get played k ≡ Some one → length one.passes.items ≡ length task.config.zones
  passes-long k one is = row-length (place_of task one.number) one.passes.items task.config.zones (worked-at k one is).served.each

  pub passes-each : (k : ℕ) (row : List ZonePass) → slice_get (map passes_of_played played) k ≡ Some row → (z : ℕ) → IsAt (IsPassOf (place_of task k) z) (slice_get task.config.zones z) (slice_get row z)
  passes-each k row is z =
      let one = there_at played k (omega (arith, slice_get_within (map passes_of_played played) k row is, length-map played passes_of_played)) in
      let e : Some one.0.passes.items ≡ Some row = sym (slice_get-map passes_of_played played k ∙ ap (option_map passes_of_played) one.1) ∙ is in
      let same : one.0.passes.items ≡ row = cc in
      subst (λ (r : List ZonePass). IsAt (IsPassOf (place_of task k) z) (slice_get task.config.zones z) (slice_get r z)) same
      (subst (λ (n : ℕ). IsAt (IsPassOf (place_of task n) z) (slice_get task.config.zones z) (slice_get one.0.passes.items z)) (number-is k one.0 one.1) ((worked-at k one.0 one.1).served.each z))

  -- ---- and the zones that they leave

  module _ (columns : List (List ZonePass)) (left : List ZoneHistory) (merged : List Decision) (transposed : IsTransposed (map passes_of_played played) columns) (columns_count : length columns ≡ length task.config.zones) (rooms_count : length task.rooms ≡ task.workers) (rows_count : length rows ≡ task.workers)
      (closed : AreClosed 0 task.rooms task.config.zones columns left) (is_merged : IsMerged task.workers task.lines played merged) where
    -- what zone z leaves
    record Left (z : ℕ) : Type 0 where
      pub spec : ZoneSpec
      pub spec_is : slice_get task.config.zones z ≡ Some spec
      pub column : List ZonePass
      pub column_is : slice_get columns z ≡ Some column
      pub one : ZoneHistory
      pub one_is : slice_get left z ≡ Some one
      pub closed_is : IsClosed task.rooms spec column one

    left_at : (z : ℕ) → z < length task.config.zones → Left z
    left_at z low =
        let spec = there_at task.config.zones z low in
        let column = there_at columns z (omega (arith, low, columns_count)) in
        let one = there_at left z (omega (arith, low, closed.left_are)) in
        record {
          spec = spec.0;
          spec_is = spec.1;
          column = column.0;
          column_is = column.1;
          one = one.0;
          one_is = one.1;
          closed_is = closed.each z spec.0 column.0 one.0 (subst (λ (n : ℕ). slice_get task.config.zones n ≡ Some spec.0) (omega arith) spec.1) (subst (λ (n : ℕ). slice_get columns n ≡ Some column.0) (omega arith) column.1) one.1;
        }

    none_left : (z : ℕ) → length task.config.zones ≤ z → slice_get left z ≡ None
    none_left z past = slice_get_past left z (omega (arith, past, closed.left_are))

    ran_at : (z : ℕ) → (z < length task.config.zones) ⊎ (length task.config.zones ≤ z) → IsAt (IsRunOf task.workers) (slice_get task.config.zones z) (slice_get left z)
    ran_at z (inl low) =
        let l = left_at z low in
        subst (λ (o : Option ZoneSpec). IsAt (IsRunOf task.workers) o (slice_get left z)) (sym l.spec_is) (subst (λ (o : Option ZoneHistory). IsAt (IsRunOf task.workers) (Some l.spec) o) (sym l.one_is) (subst (λ (n : ℕ). IsRunOf n l.spec l.one) rooms_count l.closed_is.ran))
    ran_at z (inr past) = subst (λ (o : Option ZoneSpec). IsAt (IsRunOf task.workers) o (slice_get left z)) (sym (slice_get_past task.config.zones z past)) (subst (λ (o : Option ZoneHistory). IsAt (IsRunOf task.workers) None o) (sym (none_left z past)) tt)

    ran : (z : ℕ) → IsAt (IsRunOf task.workers) (slice_get task.config.zones z) (slice_get left z)
    ran z = ran_at z (low_or z (length task.config.zones))

    decided : List Decided
    decided = pairs task.lines merged

    logs : List ZoneLog
    logs = map log_left left

    part_at : (k z : ℕ) (one : Played) (asked : List Exchange) → slice_get played k ≡ Some one → ((i : ℕ) → IfSome (slice_get (map seen_by one.passes.items) i) (HasPart asked k i)) → (z < length task.config.zones) ⊎ (length task.config.zones ≤ z) → IfSome (slice_get (map log_left left) z) (HasPart asked k z)
    part_at k z one asked is parts (inl low) =
        let l = left_at z low in
        let pass = there_at one.passes.items z (omega (arith, low, passes-long k one is)) in
        let row_is : slice_get (map passes_of_played played) k ≡ Some one.passes.items = slice_get-map passes_of_played played k ∙ ap (option_map passes_of_played) is in
        let in_column : slice_get l.column k ≡ Some pass.0 = sym (cell_in columns z k l.column l.column_is) ∙ transposed k z ∙ cell_in (map passes_of_played played) k z one.passes.items row_is ∙ pass.1 in
        let seen : HasPart asked k z (seen_by pass.0) = subst (λ (o : Option ZoneLog). IfSome o (HasPart asked k z)) (slice_get-map seen_by one.passes.items z ∙ ap (option_map seen_by) pass.1) (parts z) in
        subst (λ (o : Option ZoneLog). IfSome o (HasPart asked k z)) (sym (slice_get-map log_left left z ∙ ap (option_map log_left) l.one_is)) (part_of_log asked k z (log_left l.one) (seen_by pass.0) (l.closed_is.each k pass.0 in_column) seen)
    part_at k z one asked is parts (inr past) = subst (λ (o : Option ZoneLog). IfSome o (HasPart asked k z)) (sym (slice_get-map log_left left z ∙ ap (option_map log_left) (none_left z past))) tt

    share_at : (k : ℕ) → k < task.workers → HasPlayed task.config (share_of task.workers k (pairs task.lines merged)) k (map log_left left)
    share_at k low =
        let one = there_at played k (omega (arith, low, played-count, rows_count)) in
        let w = worked-at k one.0 one.1 in
        let number = number-is k one.0 one.1 in
        let lines_are : map line_of (share_of task.workers k (pairs task.lines merged)) ≡ lines_of task.workers one.0.number task.lines = share-lines task.workers k (pairs task.lines merged) ∙ ap (lines_of task.workers k) (lines-back task.lines merged is_merged.each) ∙ ap (λ (n : ℕ). lines_of task.workers n task.lines) (sym number) in
        record {
          asked = w.asked;
          table = w.table;
          drives = subst (λ (l : List Line). Drives task.config nothing_active l w.asked (map decision_of (share_of task.workers k (pairs task.lines merged))) w.table) (sym lines_are)
              (subst (λ (ds : List Decision). Drives task.config nothing_active (lines_of task.workers one.0.number task.lines) w.asked ds w.table) (sym (is_merged.own_are k one.0 one.1)) w.drives);
          parts = λ z. part_at k z one.0 w.asked one.1 (subst (λ (n : ℕ). (i : ℕ) → IfSome (slice_get (map seen_by one.0.passes.items) i) (HasPart w.asked n i)) number w.served.parts) (low_or z (length task.config.zones));
          kinds = w.served.kinds;
        }

    pub has_replayed : HasReplayedAll task.config task.workers task.lines merged left
    has_replayed = record {
      decided = pairs task.lines merged;
      decisions_are = decisions-back task.lines merged is_merged.each;
      ran = ran;
      is_replay = record {
        lines_are = lines-back task.lines merged is_merged.each;
        histories = λ z. subst (λ (o : Option ZoneLog). IsAt (IsLogOf task.workers) (slice_get task.config.zones z) o) (sym (slice_get-map log_left left z)) (log_at task.workers (slice_get task.config.zones z) (slice_get left z) (ran z));
        shares = share_at;
      };
    }

-- ---- zones that are closed from the last one on

module _ {A : Type 0} where
  take-get : (xs : List A) (n k : ℕ) → n < k → slice_get (take k xs) n ≡ slice_get xs n
  take-get [] n zero low = refl
  take-get [] n (suc k) low = refl
  take-get (x ∷ xs) zero (suc k) low = refl
  take-get (x ∷ xs) (suc n) (suc k) low = take-get xs n k (omega (arith, low))
  take-get (x ∷ xs) n zero low = absurd (omega (arith, low))

  take-fewer : (xs : List A) (n k : ℕ) → n ≤ k → take n (take k xs) ≡ take n xs
  take-fewer xs zero k low = refl
  take-fewer [] (suc n) zero low = refl
  take-fewer [] (suc n) (suc k) low = refl
  take-fewer (x ∷ xs) (suc n) (suc k) low = ap (λ (l : List A). x ∷ l) (take-fewer xs n k (omega (arith, low)))
  take-fewer (x ∷ xs) (suc n) zero low = absurd (omega (arith, low))

  -- what the last of the first n + 1 is, and what is left before it
  pub popped : (xs ys front : List A) (x : A) (n : ℕ) → ys ≡ take (n + 1) xs → ys ≡ front ++ x ∷ [] → length front ≡ n → (slice_get xs n ≡ Some x) × (front ≡ take n xs)
  popped xs ys front x n first is long =
      let both : take (n + 1) xs ≡ front ++ x ∷ [] = sym first ∙ is in (
        sym (take-get xs n (n + 1) (omega arith)) ∙ ap (λ (l : List A). slice_get l n) both ∙ ap (slice_get (front ++ x ∷ [])) (sym long) ∙ snoc_at front x,
        sym (take-append_seam front (x ∷ [])) ∙ ap (λ (k : ℕ). take k (front ++ x ∷ [])) long ∙ ap (take n) (sym both) ∙ take-fewer xs n (n + 1) (omega arith),
      )

-- the zone before those that were closed can be closed
pub can_close : (rooms : List ℕ) (specs : List ZoneSpec) (zones : List Shared) (columns : List (List ZonePass)) (n : ℕ) (zone : Shared) (column : List ZonePass) → 0 < length rooms → AreColumns rooms specs zones columns → slice_get zones n ≡ Some zone → slice_get columns n ≡ Some column
    → (spec : ZoneSpec) × (slice_get specs n ≡ Some spec) × CanClose zones rooms n spec zone column
can_close rooms specs zones columns n zone column some all zone_is column_is =
    let spec = there_at specs n (omega (arith, all.zones_are, slice_get_within zones n zone zone_is)) in (
      spec.0,
      spec.1,
      record {
        there = zone_is;
        kind = at_both IsSharedOf spec.0 zone (slice_get specs n) (slice_get zones n) spec.1 zone_is (all.kinds n);
        some = some;
        column_is = all.each n spec.0 column spec.1 column_is;
      },
    )

-- ---- what the calls of a replay ask for

-- each column has a pass for each worker
pub all_columns : (rooms : List ℕ) (specs : List ZoneSpec) (zones : List Shared) (columns : List (Vec ZonePass Global)) (n : ℕ) → AreOpened rooms specs zones (map vec_items columns) → length rooms ≡ n → All (λ (v : Vec ZonePass Global). vec_len v ≡ n) columns
all_columns rooms specs zones columns n opened rooms_are = all_by (λ (v : Vec ZonePass Global). vec_len v ≡ n) columns (λ z v is.
    let there : slice_get (map vec_items columns) z ≡ Some v.items = slice_get-map vec_items columns z ∙ ap (option_map vec_items) is in
    let low : z < length specs = omega (arith, opened.columns_are, slice_get_within (map vec_items columns) z v.items there) in
    let spec = there_at specs z low in
    let zone = there_at zones z (omega (arith, low, opened.zones_are)) in
    v.ok.0 ∙ (opened.each z spec.0 zone.0 v.items spec.1 zone.1 there).count ∙ rooms_are)

-- each row has a pass for each zone
pub all_rows : (played : List Played) (rows : List (Vec ZonePass Global)) (n : ℕ) → map vec_items rows ≡ map passes_of_played played → ((k : ℕ) (one : Played) → slice_get played k ≡ Some one → length one.passes.items ≡ n) → All (λ (v : Vec ZonePass Global). vec_len v ≡ n) rows
all_rows played rows n same long = all_by (λ (v : Vec ZonePass Global). vec_len v ≡ n) rows (λ k v is.
    let there : slice_get (map passes_of_played played) k ≡ Some v.items = ap (λ (l : List (List ZonePass)). slice_get l k) (sym same) ∙ slice_get-map vec_items rows k ∙ ap (option_map vec_items) is in
    let one = there_at played k (omega (arith, slice_get_within (map passes_of_played played) k v.items there, length-map played passes_of_played)) in
    let e : Some one.0.passes.items ≡ Some v.items = sym (slice_get-map passes_of_played played k ∙ ap (option_map passes_of_played) one.1) ∙ there in
    let items : one.0.passes.items ≡ v.items = cc in
    v.ok.0 ∙ sym (ap length items) ∙ long k one.0 one.1)
