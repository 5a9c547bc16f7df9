-- A list of which the watchers that stay are moved to the front, one place after another.
use Rattle.std.proofs.Common.{ℕ, suc, ◌≡◌, ◌+◌, ◌<◌, ◌≤◌, ◌⊎◌, inl, inr, List, [], ◌∷◌, ◌++◌, length, map, take, drop, get_or, min, subst, sym, ap, refl, add-one, ◌∙◌, arith, append-nil, append_assoc}
use Rattle.std.specs.Prelude.{Option, Some, None, slice_set, option_and_then}
use Rattle.std.specs.List.{cons_option, filter_map, swap}
use Rattle.std.proofs.Math.Seq.{take-suc, take-suc-set, take-append_seam}
use Rattle.std.proofs.lemmas.List.{map-append, take-set-le, drop-set-lt, get_or-set_same, length-set, set-get_or, drop_more, get_or-drop}
use Rattle.std.proofs.lemmas.List.Edits.{swap_is}
use Rattle.std.proofs.lemmas.List.Elements.{filter_map-append}
use Rattle.replay_log.specs.declared.line.Line.{Line}
use Rattle.request_script.specs.declared.decision.Decision.{Decision}
use Rattle.request_script.specs.declared.decision.Notice.{Notice}
use Rattle.zone_watch.specs.declared.stay.Stay.{Stay}
use Rattle.zone_watch.specs.declared.stay.Stay.TheVariants.{Keep, Leave}
use Rattle.zone_watch.specs.Notices.{notices_of}
use Rattle.zone_watch.specs.Watched.{Watched, sees, answers, unless_left, left_after, left_of, shown}
use Rattle.zone_watch.proofs.Counts.{notices-push, notices-whole, notices-apart}

-- ---- an exchange of two places

below-or-at : (k i : ℕ) → k ≤ i → (suc k ≤ i) ⊎ (k ≡ i)
below-or-at k i le = grind arith

-- the element at a place moves to an earlier one
front : {W : Type 0} (xs : List W) (k i : ℕ) (d : W) → k ≤ i → i < length xs → take (suc k) (swap xs k i) ≡ take k xs ++ get_or xs i d ∷ []
front xs k i d le low =
    ap (take (suc k)) (sym (swap_is xs k i d (omega arith) low)) ∙
    elim (below-or-at k i le) [
      | inl less ↦
          take-set-le (suc k) (slice_set xs k (get_or xs i d)) i (get_or xs k d) less
          ∙ take-suc-set xs k (get_or xs i d) (omega arith)
      | inr same ↦
          subst (λ (j : ℕ). take (suc k) (slice_set (slice_set xs k (get_or xs j d)) j (get_or xs k d)) ≡ take k xs ++ get_or xs j d ∷ []) same
          (ap (λ (ys : List _). take (suc k) (slice_set ys k (get_or xs k d))) (set-get_or xs k d) ∙ take-suc-set xs k (get_or xs k d) (omega arith))
    ]

-- and those behind that place stay
behind : {W : Type 0} (xs : List W) (k i : ℕ) (d : W) → k ≤ i → i < length xs → drop (suc i) (swap xs k i) ≡ drop (suc i) xs
behind xs k i d le low =
    ap (drop (suc i)) (sym (swap_is xs k i d (omega arith) low))
    ∙ drop-set-lt (suc i) (slice_set xs k (get_or xs i d)) i (get_or xs k d) (omega arith)
    ∙ drop-set-lt (suc i) xs k (get_or xs i d) (omega arith)

-- ---- a notice is shown to the watcher at a place

module _ {W : Type 0} (m : W → Watched) (n : Notice) where
  -- those that stay among the first of a list
  abbrev pub stayed : ℕ → List W → List Watched
  stayed i all = filter_map (left_after n) (map m (take i all))

  stayed-more : (all : List W) (i : ℕ) (d : W) → i < length all → stayed (suc i) all ≡ stayed i all ++ filter_map (left_after n) (m (get_or all i d) ∷ [])
  stayed-more all i d low =
      ap (λ (xs : List W). filter_map (left_after n) (map m xs)) (take-suc all i d low)
      ∙ ap (filter_map (left_after n)) (map-append m (take i all) (get_or all i d ∷ []))
      ∙ filter_map-append (left_after n) (map m (take i all)) (m (get_or all i d) ∷ [])

  one-stays : (w : Watched) → answers w n ≡ Keep → filter_map (left_after n) (w ∷ []) ≡ sees w n ∷ []
  one-stays w keep = ap (λ (a : Stay). filter_map (λ (x : Watched). unless_left a (sees x n)) (w ∷ [])) keep

  one-leaves : (w : Watched) → answers w n ≡ Leave → filter_map (left_after n) (w ∷ []) ≡ []
  one-leaves w leave = ap (λ (a : Stay). filter_map (λ (x : Watched). unless_left a (sees x n)) (w ∷ [])) leave

  same-place : (all list : List W) (i : ℕ) (d : W) → drop i list ≡ drop i all → get_or list i d ≡ get_or all i d
  same-place all list i d rest =
      let at : i ≡ i + 0 = omega arith in
      ap (λ (j : ℕ). get_or list j d) at ∙ sym (get_or-drop i list 0 d) ∙ ap (λ (xs : List W). get_or xs 0 d) rest ∙ get_or-drop i all 0 d ∙ ap (λ (j : ℕ). get_or all j d) (sym at)

  same-behind : (all list : List W) (i : ℕ) (d : W) → i < length all → i < length list → drop i list ≡ drop i all → drop (i + 1) list ≡ drop (i + 1) all
  same-behind all list i d low_all low_list rest =
      ap (drop 1) (sym (drop_more list i d low_list) ∙ rest ∙ drop_more all i d low_all)

  -- a watcher that leaves stays where it is
  pub leaves : (all list : List W) (i k : ℕ) (d w : W) → i < length all → i < length list → k ≤ i → map m (take k list) ≡ stayed i all → drop i list ≡ drop i all
      → answers (m (get_or list i d)) n ≡ Leave → (map m (take k (slice_set list i w)) ≡ stayed (i + 1) all) × (drop (i + 1) (slice_set list i w) ≡ drop (i + 1) all)
  leaves all list i k d w low_all low_list le kept rest leave =
      let here = same-place all list i d rest in (
        ap (map m) (take-set-le k list i w le)
            ∙ kept
            ∙ sym (append-nil (stayed i all))
            ∙ ap (λ (ws : List Watched). stayed i all ++ ws) (sym (one-leaves (m (get_or list i d)) leave) ∙ ap (λ (y : W). filter_map (left_after n) (m y ∷ [])) here)
            ∙ sym (stayed-more all i d low_all)
            ∙ ap (λ (j : ℕ). stayed j all) (sym (add-one i)),
        drop-set-lt (i + 1) list i w (omega arith) ∙ same-behind all list i d low_all low_list rest,
      )

  -- one that stays moves behind those that stayed before it
  pub keeps : (all list : List W) (i k : ℕ) (d w : W) → i < length all → i < length list → k ≤ i → map m (take k list) ≡ stayed i all → drop i list ≡ drop i all
      → m w ≡ sees (m (get_or list i d)) n → answers (m (get_or list i d)) n ≡ Keep
      → (map m (take (k + 1) (swap (slice_set list i w) k i)) ≡ stayed (i + 1) all) × (drop (i + 1) (swap (slice_set list i w) k i) ≡ drop (i + 1) all)
  keeps all list i k d w low_all low_list le kept rest seen keep =
      let here = same-place all list i d rest in
      let low_set : i < length (slice_set list i w) = subst (λ (j : ℕ). i < j) (sym (length-set list i w)) low_list in (
        ap (λ (j : ℕ). map m (take j (swap (slice_set list i w) k i))) (add-one k)
            ∙ ap (map m) (front (slice_set list i w) k i d le low_set)
            ∙ ap (λ (y : W). map m (take k (slice_set list i w) ++ y ∷ [])) (get_or-set_same list i w d low_list)
            ∙ ap (λ (ys : List W). map m (ys ++ w ∷ [])) (take-set-le k list i w le)
            ∙ map-append m (take k list) (w ∷ [])
            ∙ ap (λ (ws : List Watched). ws ++ m w ∷ []) kept
            ∙ ap (λ (y : Watched). stayed i all ++ y ∷ []) seen
            ∙ ap (λ (ws : List Watched). stayed i all ++ ws) (sym (one-stays (m (get_or list i d)) keep) ∙ ap (λ (y : W). filter_map (left_after n) (m y ∷ [])) here)
            ∙ sym (stayed-more all i d low_all)
            ∙ ap (λ (j : ℕ). stayed j all) (sym (add-one i)),
        ap (λ (j : ℕ). drop j (swap (slice_set list i w) k i)) (add-one i)
            ∙ behind (slice_set list i w) k i d le low_set
            ∙ ap (λ (j : ℕ). drop j (slice_set list i w)) (sym (add-one i))
            ∙ drop-set-lt (i + 1) list i w (omega arith)
            ∙ same-behind all list i d low_all low_list rest,
      )

-- ---- notices one after another

some-again : (o : Option Watched) → option_and_then (λ w. Some w) o ≡ o
some-again None = refl
some-again (Some w) = refl

then-push : (notices : List Notice) (n : Notice) (o : Option Watched) → ((w : Watched) → left_of (notices ++ n ∷ []) w ≡ option_and_then (left_after n) (left_of notices w))
    → option_and_then (left_of (notices ++ n ∷ [])) o ≡ option_and_then (left_after n) (option_and_then (left_of notices) o)
then-push notices n None each = refl
then-push notices n (Some w) each = each w

-- one notice more
through-push : (notices : List Notice) (n : Notice) (w : Watched) → left_of (notices ++ n ∷ []) w ≡ option_and_then (left_after n) (left_of notices w)
through-push [] n w = some-again (left_after n w)
through-push (first ∷ notices) n w = then-push notices n (left_after first w) (through-push notices n)

shown-push-one : (n : Notice) (o : Option Watched) (rest : List Watched)
    → cons_option (option_and_then (left_after n) o) (filter_map (left_after n) rest) ≡ filter_map (left_after n) (cons_option o rest)
shown-push-one n None rest = refl
shown-push-one n (Some w) rest = refl

-- the list after one notice more
pub shown-push : (notices : List Notice) (n : Notice) (list : List Watched) → shown (notices ++ n ∷ []) list ≡ filter_map (left_after n) (shown notices list)
shown-push notices n [] = refl
shown-push notices n (w ∷ list) =
    ap (λ (o : Option Watched). cons_option o (shown (notices ++ n ∷ []) list)) (through-push notices n w)
    ∙ ap (cons_option (option_and_then (left_after n) (left_of notices w))) (shown-push notices n list)
    ∙ shown-push-one n (left_of notices w) (shown notices list)

shown-nothing : (list : List Watched) → shown [] list ≡ list
shown-nothing [] = refl
shown-nothing (w ∷ list) = ap (λ (ws : List Watched). w ∷ ws) (shown-nothing list)

-- before the first notice
pub shown-none : (notices : List Notice) (list : List Watched) → list ≡ shown (take 0 notices) list
shown-none notices list = sym (shown-nothing list)

-- when as many notices were shown as the list of them has at a place, and the one at that place
pub shown-more : (notices : List Notice) (i : ℕ) (d : Notice) (first list after : List Watched) → i < length notices → list ≡ shown (take i notices) first → after ≡ filter_map (left_after (get_or notices i d)) list
    → after ≡ shown (take (i + 1) notices) first
shown-more notices i d first list after low before step =
    step
    ∙ ap (filter_map (left_after (get_or notices i d))) before
    ∙ sym (shown-push (take i notices) (get_or notices i d) first)
    ∙ ap (λ (ns : List Notice). shown ns first) (sym (take-suc notices i d low))
    ∙ ap (λ (j : ℕ). shown (take j notices) first) (sym (add-one i))

-- before the first line
pub decided-none : (list : List Watched) → list ≡ shown [] list
decided-none list = sym (shown-nothing list)

-- when what is decided of as many lines was shown as there are before a place, and of the line at that place
pub decided-more : (lines : List Line) (decisions : List Decision) (i j : ℕ) (line : Line) (decision : Decision) (first list after : List Watched) → i < length lines → i < length decisions → line ≡ get_or lines i line → decision ≡ get_or decisions i decision
    → list ≡ shown (notices_of (take i lines) (take i decisions)) first → after ≡ filter_map (left_after (record { line = line.number; decision = decision })) list → j ≡ i + 1
    → after ≡ shown (notices_of (take j lines) (take j decisions)) first
decided-more lines decisions i j line decision first list after low_line low_decision line_is decision_is before step next =
    let n : Notice = record { line = line.number; decision = decision } in
    step
    ∙ ap (filter_map (left_after n)) before
    ∙ sym (shown-push (notices_of (take i lines) (take i decisions)) n first)
    ∙ ap (λ (ns : List Notice). shown ns first) (notices-push lines decisions i line decision low_line low_decision line_is decision_is)
    ∙ ap (λ (k : ℕ). shown (notices_of (take k lines) (take k decisions)) first) (sym (next ∙ add-one i))

-- when the shorter list ends
pub decided-whole : (lines : List Line) (decisions : List Decision) (i : ℕ) (first list : List Watched) → list ≡ shown (notices_of (take i lines) (take i decisions)) first → i ≡ min (length lines) (length decisions)
    → list ≡ shown (notices_of lines decisions) first
decided-whole lines decisions i first list before end = before ∙ ap (λ (ns : List Notice). shown ns first) (notices-whole lines decisions i end)

-- where no watcher is left, none is left after more notices
none-left : (rest some : List Notice) (first : List Watched) → shown some first ≡ [] → shown (some ++ rest) first ≡ []
none-left [] some first none = ap (λ (ns : List Notice). shown ns first) (append-nil some) ∙ none
none-left (n ∷ rest) some first none =
    ap (λ (ns : List Notice). shown ns first) (sym (append_assoc some (n ∷ []) rest))
    ∙ none-left rest (some ++ n ∷ []) first (shown-push some n first ∙ ap (filter_map (left_after n)) none)

-- and so none is left when all are shown
pub decided-left : (lines : List Line) (decisions : List Decision) (i : ℕ) (first list : List Watched) → list ≡ shown (notices_of (take i lines) (take i decisions)) first → list ≡ []
    → list ≡ shown (notices_of lines decisions) first
decided-left lines decisions i first list before none =
    none
    ∙ sym (none-left (notices_of (drop i lines) (drop i decisions)) (notices_of (take i lines) (take i decisions)) first (sym before ∙ none))
    ∙ ap (λ (ns : List Notice). shown ns first) (notices-apart lines decisions i)

-- a list of no elements
pub empty-map : {W : Type 0} (m : W → Watched) (list : List W) → length list ≡ 0 → map m list ≡ []
empty-map m [] is = refl
empty-map m (w ∷ list) is = absurd (omega (arith, is))

-- a list whose elements were written back into the memory that they stand in
pub written-back : {W : Type 0} (xs spare : List W) (n : ℕ) → length xs ≡ n → take n (xs ++ spare) ≡ xs
written-back xs spare n is = ap (λ (j : ℕ). take j (xs ++ spare)) (sym is) ∙ take-append_seam xs spare
