-- Columns of new passes become rows, and rows become columns again.
use Rattle.std.proofs.Common.{ℕ, zero, suc, ◌≡◌, ◌<◌, ◌≤◌, ◌⊎◌, inl, inr, Bool, true, false, List, [], ◌∷◌, ◌++◌, length, map, take, drop, subst, sym, ap, refl, ◌∙◌, arith}
use Rattle.std.specs.Prelude.{Option, Some, None, IfSome, nat_lt, slice_get}
use Rattle.std.proofs.lemmas.Bool.Decides.{nat_tests}
use Rattle.std.specs.Option.{option_map}
use Rattle.std.proofs.lemmas.List.Elements.{All-nil}
use Rattle.std.proofs.lemmas.Option.{slice_get-map, slice_get_within, slice_get_past}
use Rattle.shared_zone.specs.Callers.{ZoneId}
use Rattle.zone_config.specs.declared.data.ZoneSpec.{ZoneSpec}
use Rattle.zone_config.specs.declared.data.ZoneSpec.TheVariants as zone
use Rattle.replay_share.specs.Logs.{ZoneLog, IsAt, HasPart, req_opened, conn_opened, peer_opened}
use Rattle.std.proofs.lemmas.List.{length-append, take-append-drop}
use Rattle.replay_workers.specs.declared.passes.Row.{Row}
use Rattle.replay_workers.specs.declared.passes.Shared.{Shared}
use Rattle.replay_workers.specs.declared.passes.ZonePass.{ZonePass}
use Rattle.replay_workers.specs.declared.passes.ZonePass.TheVariants.{Req, Conn, Peer}
use Rattle.replay_workers.specs.Passes.{Place, IsCallerOf, IsPassOf, IsSharedOf, seen_by, id_of, AskedBy}
use Rattle.replay_workers.specs.Columns.{IsNewPass}
use Rattle.replay_workers.specs.Zones.{AreOpened, AreColumns}
use Rattle.replay_workers.specs.Transposing.{at_place, cell, IsTransposed}

-- ---- what stands at a place

-- a list with an element more
pub snoc_at : {A : Type 0} → (xs : List A) (x : A) → slice_get (xs ++ x ∷ []) (length xs) ≡ Some x
snoc_at [] x = refl
snoc_at (y ∷ xs) x = snoc_at xs x

pub snoc_before : {A : Type 0} → (xs : List A) (x : A) (z : ℕ) → z < length xs → slice_get (xs ++ x ∷ []) z ≡ slice_get xs z
snoc_before (y ∷ xs) x zero low = refl
snoc_before (y ∷ xs) x (suc z) low = snoc_before xs x z (omega (arith, low))
snoc_before [] x z low = absurd (omega (arith, low))

-- a list that was cut in two
pub split-back : {A : Type 0} → (xs front back : List A) (n : ℕ) → front ≡ take n xs → back ≡ drop n xs → front ++ back ≡ xs
split-back {A = A} xs front back n front_is back_is = ap (λ (l : List A). l ++ back) front_is ∙ ap (λ (l : List A). take n xs ++ l) back_is ∙ take-append-drop n xs

-- an element that is there
pub there_at : {A : Type 0} → (xs : List A) (i : ℕ) → i < length xs → (x : A) × (slice_get xs i ≡ Some x)
there_at (x ∷ xs) zero low = (x, refl)
there_at (x ∷ xs) (suc i) low = there_at xs i (omega (arith, low))
there_at [] i low = absurd (omega (arith, low))

pub low_or : (m n : ℕ) → (m < n) ⊎ (n ≤ m)
low_or m n =
    let f : (t : Bool) → nat_lt m n ≡ t → (m < n) ⊎ (n ≤ m) = elim [ true ↦ λ e. inl (grind (arith, nat_tests)) | false ↦ λ e. inr (grind (arith, nat_tests)) ] in
    f (nat_lt m n) refl

-- numbers below which the same numbers stand
equal_by : (m n : ℕ) → ((k : ℕ) → k < m → k < n) → ((k : ℕ) → k < n → k < m) → m ≡ n
equal_by m n f g =
    elim (low_or m n) [
      | inl low ↦ absurd (omega (arith, g m low))
      | inr past ↦ elim (low_or n m) [ inl low ↦ absurd (omega (arith, f n low)) | inr also ↦ omega (arith, past, also) ]
    ]

-- a cell that is there
pub cell_in : {A : Type 0} → (rows : List (List A)) (i j : ℕ) (row : List A) → slice_get rows i ≡ Some row → cell rows i j ≡ slice_get row j
cell_in {A = A} rows i j row is = ap (λ (o : Option (List A)). at_place o j) is

-- rows with their numbers, and one more
pub numbers-more : (rows : List Row) (row : Row) → ((k : ℕ) (r : Row) → slice_get rows k ≡ Some r → r.number ≡ k) → row.number ≡ length rows → (k : ℕ) (r : Row) → slice_get (rows ++ row ∷ []) k ≡ Some r → r.number ≡ k
numbers-more rows row old number k r is =
    elim (low_or k (length rows)) [
      | inl low ↦ old k r (sym (snoc_before rows row k low) ∙ is)
      | inr past ↦
          let k_is : k ≡ length rows = omega (arith, past, slice_get_within (rows ++ row ∷ []) k r is, length-append rows (row ∷ [])) in
          let e : Some row ≡ Some r = sym (ap (slice_get (rows ++ row ∷ [])) k_is ∙ snoc_at rows row) ∙ is in
          let same : row ≡ r = cc in
          ap (λ (x : Row). x.number) (sym same) ∙ number ∙ sym k_is
    ]

-- ---- a new pass

new_is_pass : (zones : List Shared) (rooms : List ℕ) (k z : ℕ) (spec : ZoneSpec) (shared : Shared) (pass : ZonePass) → slice_get zones z ≡ Some shared → IsNewPass (id_of shared) rooms k spec pass → IsPassOf (record { zones = zones; rooms = rooms; who = k }) z spec pass
new_is_pass zones rooms k z (zone.Req spec key) shared (Req pass) at is = subst (λ p. IsCallerOf (record { zones = zones; rooms = rooms; who = k }) z (req_opened spec) p) (sym is) (record { there = slice_get-map id_of zones z ∙ ap (option_map id_of) at; start = refl; rooms = refl; number = refl })
new_is_pass zones rooms k z (zone.Conn spec key) shared (Conn pass) at is = subst (λ p. IsCallerOf (record { zones = zones; rooms = rooms; who = k }) z (conn_opened spec) p) (sym is) (record { there = slice_get-map id_of zones z ∙ ap (option_map id_of) at; start = refl; rooms = refl; number = refl })
new_is_pass zones rooms k z (zone.Peer spec line) shared (Peer pass) at is = subst (λ p. IsCallerOf (record { zones = zones; rooms = rooms; who = k }) z (peer_opened spec) p) (sym is) (record { there = slice_get-map id_of zones z ∙ ap (option_map id_of) at; start = refl; rooms = refl; number = refl })
new_is_pass zones rooms k z (zone.Req spec key) shared (Conn pass) at is = elim is [ ]
new_is_pass zones rooms k z (zone.Req spec key) shared (Peer pass) at is = elim is [ ]
new_is_pass zones rooms k z (zone.Conn spec key) shared (Req pass) at is = elim is [ ]
new_is_pass zones rooms k z (zone.Conn spec key) shared (Peer pass) at is = elim is [ ]
new_is_pass zones rooms k z (zone.Peer spec line) shared (Req pass) at is = elim is [ ]
new_is_pass zones rooms k z (zone.Peer spec line) shared (Conn pass) at is = elim is [ ]

-- it has seen nothing
new_has_nothing : (id : ZoneId) (rooms : List ℕ) (k z : ℕ) (spec : ZoneSpec) (pass : ZonePass) → IsNewPass id rooms k spec pass → HasPart [] k z (seen_by pass)
new_has_nothing id rooms k z (zone.Req spec key) (Req pass) is = subst (λ p. HasPart [] k z (seen_by (Req p))) (sym is) refl
new_has_nothing id rooms k z (zone.Conn spec key) (Conn pass) is = subst (λ p. HasPart [] k z (seen_by (Conn p))) (sym is) refl
new_has_nothing id rooms k z (zone.Peer spec line) (Peer pass) is = subst (λ p. HasPart [] k z (seen_by (Peer p))) (sym is) refl
new_has_nothing id rooms k z (zone.Req spec key) (Conn pass) is = elim is [ ]
new_has_nothing id rooms k z (zone.Req spec key) (Peer pass) is = elim is [ ]
new_has_nothing id rooms k z (zone.Conn spec key) (Req pass) is = elim is [ ]
new_has_nothing id rooms k z (zone.Conn spec key) (Peer pass) is = elim is [ ]
new_has_nothing id rooms k z (zone.Peer spec line) (Req pass) is = elim is [ ]
new_has_nothing id rooms k z (zone.Peer spec line) (Conn pass) is = elim is [ ]

-- ---- from columns to rows

module _ (rooms : List ℕ) (specs : List ZoneSpec) (zones : List Shared) (columns rows : List (List ZonePass)) (h : AreOpened rooms specs zones columns) (turned : IsTransposed columns rows) where
  -- the pass of worker k to zone z
  record New (k z : ℕ) (pass : Option ZonePass) : Type 0 where
    pub spec : ZoneSpec
    pub spec_is : slice_get specs z ≡ Some spec
    pub zone : Shared
    pub zone_is : slice_get zones z ≡ Some zone
    pub new : ZonePass
    pub new_is : pass ≡ Some new
    pub kind : IsSharedOf spec zone
    pub is : IsNewPass (id_of zone) rooms k spec new

  new_at : (k z : ℕ) (row : List ZonePass) → k < length rooms → slice_get rows k ≡ Some row → z < length specs → New k z (slice_get row z)
  new_at k z row few row_is low =
      let spec = there_at specs z low in
      let zone = there_at zones z (omega (arith, low, h.zones_are)) in
      let column = there_at columns z (omega (arith, low, h.columns_are)) in
      let opened = h.each z spec.0 zone.0 column.0 spec.1 zone.1 column.1 in
      let pass = there_at column.0 k (omega (arith, few, opened.count)) in
      record {
        spec = spec.0;
        spec_is = spec.1;
        zone = zone.0;
        zone_is = zone.1;
        new = pass.0;
        new_is = sym (cell_in rows k z row row_is) ∙ turned z k ∙ cell_in columns z k column.0 column.1 ∙ pass.1;
        kind = opened.kind;
        is = opened.each k pass.0 pass.1;
      }

  no_more : (k z : ℕ) (row : List ZonePass) → slice_get rows k ≡ Some row → length specs ≤ z → slice_get row z ≡ None
  no_more k z row row_is past = sym (cell_in rows k z row row_is) ∙ turned z k ∙ ap (λ (o : Option (List ZonePass)). at_place o k) (slice_get_past columns z (omega (arith, past, h.columns_are)))

  pub row_is_fresh : (k : ℕ) (row : List ZonePass) → k < length rooms → slice_get rows k ≡ Some row → AskedBy (record { zones = zones; rooms = rooms; who = k }) row specs []
  row_is_fresh k row few row_is =
      let at : Place = record { zones = zones; rooms = rooms; who = k } in
      let each : (z : ℕ) → (z < length specs) ⊎ (length specs ≤ z) → IsAt (IsPassOf at z) (slice_get specs z) (slice_get row z) = λ z. elim [
        | inl low ↦
            let n = new_at k z row few row_is low in
            subst (λ (o : Option ZoneSpec). IsAt (IsPassOf at z) o (slice_get row z)) (sym n.spec_is) (subst (λ (o : Option ZonePass). IsAt (IsPassOf at z) (Some n.spec) o) (sym n.new_is) (new_is_pass zones rooms k z n.spec n.zone n.new n.zone_is n.is))
        | inr past ↦ subst (λ (o : Option ZoneSpec). IsAt (IsPassOf at z) o (slice_get row z)) (sym (slice_get_past specs z past)) (subst (λ (o : Option ZonePass). IsAt (IsPassOf at z) None o) (sym (no_more k z row row_is past)) tt)
      ] in
      let part : (z : ℕ) → (z < length specs) ⊎ (length specs ≤ z) → IfSome (slice_get (map seen_by row) z) (HasPart [] k z) = λ z. elim [
        | inl low ↦
            let n = new_at k z row few row_is low in
            subst (λ (o : Option ZoneLog). IfSome o (HasPart [] k z)) (sym (slice_get-map seen_by row z ∙ ap (option_map seen_by) n.new_is)) (new_has_nothing (id_of n.zone) rooms k z n.spec n.new n.is)
        | inr past ↦ subst (λ (o : Option ZoneLog). IfSome o (HasPart [] k z)) (sym (slice_get-map seen_by row z ∙ ap (option_map seen_by) (no_more k z row row_is past))) tt
      ] in
      record {
        each = λ z. each z (low_or z (length specs));
        parts = λ z. part z (low_or z (length specs));
        kinds = All-nil _;
      }

  pub zones_are_shared : 0 < length rooms → length rows ≡ length rooms → (z : ℕ) → IsAt IsSharedOf (slice_get specs z) (slice_get zones z)
  zones_are_shared some long z =
      let first = there_at rows 0 (omega (arith, some, long)) in
      elim (low_or z (length specs)) [
        | inl low ↦
            let n = new_at 0 z first.0 some first.1 low in
            subst (λ (o : Option ZoneSpec). IsAt IsSharedOf o (slice_get zones z)) (sym n.spec_is) (subst (λ (o : Option Shared). IsAt IsSharedOf (Some n.spec) o) (sym n.zone_is) n.kind)
        | inr past ↦ subst (λ (o : Option ZoneSpec). IsAt IsSharedOf o (slice_get zones z)) (sym (slice_get_past specs z past)) (subst (λ (o : Option Shared). IsAt IsSharedOf None o) (sym (slice_get_past zones z (omega (arith, past, h.zones_are)))) tt)
      ]

-- ---- from rows to columns

-- as many stand there as there are zones
at_lengths : {J : Type 0} → (IsOf : ℕ → ZoneSpec → J → Type 0) (specs : List ZoneSpec) (all : List J) → ((z : ℕ) → IsAt (IsOf z) (slice_get specs z) (slice_get all z)) → length all ≡ length specs
at_lengths IsOf [] [] h = refl
at_lengths IsOf (s ∷ ss) (j ∷ js) h = ap suc (at_lengths (λ z. IsOf (suc z)) ss js (λ z. h (suc z)))
at_lengths IsOf [] (j ∷ js) h = elim (h 0) [ ]
at_lengths IsOf (s ∷ ss) [] h = elim (h 0) [ ]

pub row-length : (at : Place) (row : List ZonePass) (specs : List ZoneSpec) (each : (z : ℕ) → IsAt (IsPassOf at z) (slice_get specs z) (slice_get row z)) → length row ≡ length specs
row-length at row specs each = at_lengths (IsPassOf at) specs row each

pub at_both : {J : Type 0} → (IsOf : ZoneSpec → J → Type 0) (spec : ZoneSpec) (j : J) (so : Option ZoneSpec) (jo : Option J) → so ≡ Some spec → jo ≡ Some j → IsAt IsOf so jo → IsOf spec j
at_both IsOf spec j so jo spec_is is h = subst (λ (o : Option _). IsAt IsOf (Some spec) o) is (subst (λ (o : Option ZoneSpec). IsAt IsOf o jo) spec_is h)

module _ (rooms : List ℕ) (specs : List ZoneSpec) (zones : List Shared) (rows columns : List (List ZonePass)) (rows_are : length rows ≡ length rooms) (columns_are : length columns ≡ length specs) (turned : IsTransposed rows columns)
    (kinds : (z : ℕ) → IsAt IsSharedOf (slice_get specs z) (slice_get zones z))
    (each : (k : ℕ) (row : List ZonePass) → slice_get rows k ≡ Some row → (z : ℕ) → IsAt (IsPassOf (record { zones = zones; rooms = rooms; who = k }) z) (slice_get specs z) (slice_get row z)) where
  row_at : (k z : ℕ) (column : List ZonePass) (pass : ZonePass) → slice_get columns z ≡ Some column → slice_get column k ≡ Some pass → (row : List ZonePass) × (slice_get rows k ≡ Some row) × (slice_get row z ≡ Some pass)
  row_at k z column pass column_is pass_is =
      let here : cell rows k z ≡ Some pass = sym (turned k z) ∙ cell_in columns z k column column_is ∙ pass_is in
      let go : (o : Option (List ZonePass)) → slice_get rows k ≡ o → at_place o z ≡ Some pass → (row : List ZonePass) × (slice_get rows k ≡ Some row) × (slice_get row z ≡ Some pass) = elim [
        | Some row ↦ λ is at. (row, is, at)
        | None ↦ λ is at. absurd (omega (arith, slice_get_within [] 0 pass at))
      ] in
      go (slice_get rows k) refl here

  -- each column has a pass of each row
  column-length : (z : ℕ) (column : List ZonePass) → slice_get columns z ≡ Some column → length column ≡ length rooms
  column-length z column is =
      let low : z < length specs = omega (arith, columns_are, slice_get_within columns z column is) in
      let spec = there_at specs z low in
      let at_least : (k : ℕ) → k < length rooms → k < length column = λ k few.
      let row = there_at rows k (omega (arith, few, rows_are)) in
      let wide = at_lengths (IsPassOf (record { zones = zones; rooms = rooms; who = k })) specs row.0 (each k row.0 row.1) in
      let pass = there_at row.0 z (omega (arith, low, wide)) in
      slice_get_within column k pass.0 (sym (cell_in columns z k column is) ∙ turned k z ∙ cell_in rows k z row.0 row.1 ∙ pass.1) in
      let at_most : (k : ℕ) → k < length column → k < length rooms = λ k few.
      let pass = there_at column k few in
      let row = row_at k z column pass.0 is pass.1 in
      omega (arith, rows_are, slice_get_within rows k row.0 row.1) in
      equal_by (length column) (length rooms) at_most at_least

  pub columns_are_full : AreColumns rooms specs zones columns
  columns_are_full = record {
    zones_are = at_lengths (λ _. IsSharedOf) specs zones kinds;
    columns_are = columns_are;
    kinds = kinds;
    each = λ z spec column spec_is column_is. record {
      count = column-length z column column_is;
      each = λ k pass pass_is.
          let row = row_at k z column pass column_is pass_is in
          at_both (IsPassOf (record { zones = zones; rooms = rooms; who = k }) z) spec pass (slice_get specs z) (slice_get row.0 z) spec_is row.2 (each k row.0 row.1 z);
    };
  }
