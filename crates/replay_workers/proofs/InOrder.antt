-- The decisions of all workers, as far as they were put in the order of the lines.
use Rattle.std.proofs.Common.{ℕ, zero, suc, ◌≡◌, ◌≢◌, ◌+◌, ◌*◌, ◌<◌, ◌≤◌, ◌%◌, ◌⊎◌, inl, inr, Bool, true, false, List, [], ◌∷◌, ◌++◌, length, map, take, get_or, set, replicate, subst, sym, ap, refl, ◌∙◌, arith, length-append, length-set, get_or-set_same, get_or-set_other}
use Rattle.std.proofs.lemmas.List.{length-replicate, get_or-replicate}
use Rattle.std.specs.Prelude.{nat_eq, slice_index, Some, slice_get}
use Rattle.std.proofs.Math.Nat.{mod-lt}
use Rattle.std.proofs.Math.Seq.{take-length}
use Rattle.std.proofs.lemmas.Bool.Decides.{nat_tests}
use Rattle.std.proofs.lemmas.List.{append-nil, map-append, take_more, length-take-le}
use Rattle.std.proofs.lemmas.List.Elements.{filter-append}
use Rattle.std.proofs.lemmas.Option.{slice_get_within}
use Rattle.replay_log.specs.declared.line.Line.{Line}
use Rattle.request_script.specs.declared.decision.Decision.{Decision}
use Rattle.replay_share.specs.Replay.{Decided, line_of, decision_of, goes_to, is_for, lines_of, share_of}
use Rattle.replay_share.proofs.Sharing.{mine-more, other-more, mine-fits}
use Rattle.replay_workers.specs.declared.passes.Played.{Played}
use Rattle.replay_workers.specs.Merging.{pairs, IsMerged}
use Rattle.replay_workers.proofs.RoomFor.{same_or}

-- an element that is there, whatever would stand in its place
pub get_or-any : {A : Type 0} → (xs : List A) (i : ℕ) (d e : A) → i < length xs → get_or xs i d ≡ get_or xs i e
get_or-any (x ∷ xs) zero d e low = refl
get_or-any (x ∷ xs) (suc i) d e low = get_or-any xs i d e (omega (arith, low))
get_or-any [] i d e low = absurd (omega (arith, low))

-- a share has no more lines than the log
pub few-lines : (workers k : ℕ) (lines : List Line) → length (lines_of workers k lines) ≤ length lines
few-lines workers k [] = omega arith
few-lines workers k (l ∷ ls) =
    let f : (t : Bool) → goes_to workers k l ≡ t → length (lines_of workers k (l ∷ ls)) ≤ length (l ∷ ls) = elim [
      | true ↦ λ e. let is : lines_of workers k (l ∷ ls) ≡ l ∷ lines_of workers k ls = rw e refl in omega (arith, ap length is, few-lines workers k ls)
      | false ↦ λ e. let is : lines_of workers k (l ∷ ls) ≡ lines_of workers k ls = rw e refl in omega (arith, ap length is, few-lines workers k ls)
    ] in
    f (goes_to workers k l) refl

-- one line and its decision more
pairs-more : (lines : List Line) (decisions : List Decision) (line : Line) (decision : Decision) → length decisions ≡ length lines → pairs (lines ++ line ∷ []) (decisions ++ decision ∷ []) ≡ pairs lines decisions ++ record { line = line; decision = decision } ∷ []
pairs-more [] [] line decision is = refl
pairs-more (l ∷ ls) (d ∷ ds) line decision is = ap (λ (rest : List Decided). record { line = l; decision = d } ∷ rest) (pairs-more ls ds line decision (omega (arith, is)))
pairs-more [] (d ∷ ds) line decision is = absurd (omega (arith, is))
pairs-more (l ∷ ls) [] line decision is = absurd (omega (arith, is))

pub lines-back : (lines : List Line) (decisions : List Decision) → length decisions ≡ length lines → map line_of (pairs lines decisions) ≡ lines
lines-back [] [] is = refl
lines-back (l ∷ ls) (d ∷ ds) is = ap (λ (rest : List Line). l ∷ rest) (lines-back ls ds (omega (arith, is)))
lines-back [] (d ∷ ds) is = absurd (omega (arith, is))
lines-back (l ∷ ls) [] is = absurd (omega (arith, is))

pub decisions-back : (lines : List Line) (decisions : List Decision) → length decisions ≡ length lines → map decision_of (pairs lines decisions) ≡ decisions
decisions-back [] [] is = refl
decisions-back (l ∷ ls) (d ∷ ds) is = ap (λ (rest : List Decision). d ∷ rest) (decisions-back ls ds (omega (arith, is)))
decisions-back [] (d ∷ ds) is = absurd (omega (arith, is))
decisions-back (l ∷ ls) [] is = absurd (omega (arith, is))

-- the lines of a share are those of the worker
pub share-lines : (workers k : ℕ) (decided : List Decided) → map line_of (share_of workers k decided) ≡ lines_of workers k (map line_of decided)
share-lines workers k [] = refl
share-lines workers k (d ∷ ds) =
    let f : (t : Bool) → is_for workers k d ≡ t → map line_of (share_of workers k (d ∷ ds)) ≡ lines_of workers k (map line_of (d ∷ ds)) = elim [
      | true ↦ λ e. rw e (ap (λ (rest : List Line). d.line ∷ rest) (share-lines workers k ds))
      | false ↦ λ e. rw e (share-lines workers k ds)
    ] in
    f (is_for workers k d) refl

module _ (workers : ℕ) (lines : List Line) (played : List Played) where
  -- the first i lines have their decisions, and so many of each worker's were told
  pub record AreTold (i : ℕ) (told : List ℕ) (merged : List Decision) : Type 0 where
    pub count : length told ≡ workers
    pub each : length merged ≡ i
    pub told_are : (k : ℕ) → k < workers → slice_index told k ≡ length (lines_of workers k (take i lines))
    pub own_are : (k : ℕ) (one : Played) → slice_get played k ≡ Some one → map decision_of (share_of workers k (pairs (take i lines) merged)) ≡ take (slice_index told k) one.decisions.items

module _ (workers : ℕ) (lines : List Line) (played : List Played) (all : length played ≡ workers) where
  few : (k : ℕ) (one : Played) → slice_get played k ≡ Some one → k < workers
  few k one is = omega (arith, all, slice_get_within played k one is)

  pub told-none : (merged : List Decision) → merged ≡ [] → AreTold workers lines played 0 (replicate workers 0) merged
  told-none merged none = record {
    count = length-replicate workers 0;
    each = ap length none;
    told_are = λ k low. get_or-replicate workers k 0 0 low;
    own_are = λ k one is. ap (λ (n : ℕ). take n one.decisions.items) (sym (get_or-replicate workers k 0 0 (few k one is)));
  }

  module _ (i : ℕ) (line : Line) (told : List ℕ) (merged : List Decision) (some : 0 < workers) (low : i < length lines) (line_is : line ≡ get_or lines i line) (h : AreTold workers lines played i told merged) where
    abbrev w : ℕ
    w = line.conn % workers

    pub w-few : w < workers
    w-few = mod-lt line.conn some

    pub w-low : w < length told
    w-low = omega (arith, h.count, w-few)

    mine : goes_to workers w line ≡ true
    mine = let t : nat_eq w w ≡ true = grind (arith, nat_tests) in t

    -- the worker's next decision is there
    pub next-low : (one : Played) → length one.decisions.items ≡ length (lines_of workers w lines) → slice_index told w < length one.decisions.items
    next-low one long =
        let fits = mine-fits workers w lines i (3 * length (lines_of workers w lines)) line low line_is mine (omega arith) in
        omega (arith, long, fits, h.told_are w w-few)

    module _ (one : Played) (one_is : slice_get played w ≡ Some one) (long : length one.decisions.items ≡ length (lines_of workers w lines)) (decision : Decision) (decision_is : decision ≡ get_or one.decisions.items (slice_index told w) decision) where
      next : ℕ
      next = slice_index told w

      last : Decided
      last = record { line = line; decision = decision }

      abbrev more : List ℕ
      more = set told w (slice_index told w + 1)

      pairs-now : pairs (take (i + 1) lines) (merged ++ decision ∷ []) ≡ pairs (take i lines) merged ++ record { line = line; decision = decision } ∷ []
      pairs-now = ap (λ (l : List Line). pairs l (merged ++ decision ∷ [])) (take_more lines i line low ∙ ap (λ (l : Line). take i lines ++ l ∷ []) (sym line_is)) ∙ pairs-more (take i lines) merged line decision (h.each ∙ sym (length-take-le i lines (omega (arith, low))))

      share-now : (k : ℕ) → share_of workers k (pairs (take (i + 1) lines) (merged ++ decision ∷ [])) ≡ share_of workers k (pairs (take i lines) merged) ++ share_of workers k (record { line = line; decision = decision } ∷ [])
      share-now k = ap (share_of workers k) pairs-now ∙ filter-append (is_for workers k) (pairs (take i lines) merged) (record { line = line; decision = decision } ∷ [])

      told-more_at : (k : ℕ) → k < workers → (k ≡ w) ⊎ (k ≢ w) → slice_index more k ≡ length (lines_of workers k (take (i + 1) lines))
      told-more_at k low_k (inl is) =
          let longer : length (lines_of workers w (take i lines)) + 1 ≡ length (lines_of workers w (take (i + 1) lines)) = sym (length-append (lines_of workers w (take i lines)) (line ∷ [])) ∙ ap length (mine-more workers w lines i line low line_is mine) in
          let now : slice_index more k ≡ slice_index told w + 1 = ap (slice_index more) is ∙ get_or-set_same told w (slice_index told w + 1) 0 w-low in
          let there : slice_index told w + 1 ≡ length (lines_of workers w (take (i + 1) lines)) = omega (arith, longer, h.told_are w w-few) in
          now ∙ there ∙ ap (λ (j : ℕ). length (lines_of workers j (take (i + 1) lines))) (sym is)
      told-more_at k low_k (inr differs) =
          let other : goes_to workers k line ≡ false = let d : w ≢ k = λ e. differs (sym e) in let t : nat_eq w k ≡ false = grind (arith, nat_tests, d) in t in
          get_or-set_other told w k (slice_index told w + 1) 0 differs ∙ h.told_are k low_k ∙ ap length (other-more workers k lines i line low line_is other)

      own-more : (k : ℕ) (other : Played) → slice_get played k ≡ Some other → (k ≡ w) ⊎ (k ≢ w) → map decision_of (share_of workers k (pairs (take (i + 1) lines) (merged ++ decision ∷ []))) ≡ take (slice_index more k) other.decisions.items
      own-more k other is (inl same) =
          let one_more : share_of workers k (record { line = line; decision = decision } ∷ []) ≡ record { line = line; decision = decision } ∷ [] = subst (λ (j : ℕ). share_of workers j (record { line = line; decision = decision } ∷ []) ≡ record { line = line; decision = decision } ∷ []) (sym same) (rw mine refl) in
          let e : Some other ≡ Some one = sym is ∙ ap (slice_get played) same ∙ one_is in
          let other_is : other ≡ one = cc in
          let now : slice_index more k ≡ slice_index told w + 1 = ap (slice_index more) same ∙ get_or-set_same told w (slice_index told w + 1) 0 w-low in
          let before : map decision_of (share_of workers k (pairs (take i lines) merged)) ≡ take (slice_index told w) one.decisions.items = h.own_are k other is ∙ ap (λ (j : ℕ). take (slice_index told j) other.decisions.items) same ∙ ap (λ (p : Played). take (slice_index told w) p.decisions.items) other_is in
          ap (map decision_of) (share-now k) ∙ map-append decision_of (share_of workers k (pairs (take i lines) merged)) (share_of workers k (record { line = line; decision = decision } ∷ []))
          ∙ ap (λ (l : List Decided). map decision_of (share_of workers k (pairs (take i lines) merged)) ++ map decision_of l) one_more
          ∙ ap (λ (l : List Decision). l ++ decision ∷ []) before ∙ ap (λ (d : Decision). take (slice_index told w) one.decisions.items ++ d ∷ []) decision_is
          ∙ sym (take_more one.decisions.items (slice_index told w) decision (next-low one long))
          ∙ ap (λ (n : ℕ). take n one.decisions.items) (sym now) ∙ ap (λ (p : Played). take (slice_index more k) p.decisions.items) (sym other_is)
      own-more k other is (inr differs) =
          let not_mine : goes_to workers k line ≡ false = let d : w ≢ k = λ e. differs (sym e) in let t : nat_eq w k ≡ false = grind (arith, nat_tests, d) in t in
          let none : share_of workers k (record { line = line; decision = decision } ∷ []) ≡ [] = rw not_mine refl in
          ap (map decision_of) (share-now k ∙ ap (λ (l : List Decided). share_of workers k (pairs (take i lines) merged) ++ l) none ∙ append-nil (share_of workers k (pairs (take i lines) merged)))
          ∙ h.own_are k other is ∙ ap (λ (n : ℕ). take n other.decisions.items) (sym (get_or-set_other told w k (slice_index told w + 1) 0 differs))

      pub told-more : AreTold workers lines played (i + 1) (set told w (slice_index told w + 1)) (merged ++ decision ∷ [])
      told-more = record {
        count = length-set told w (slice_index told w + 1) ∙ h.count;
        each = omega (arith, h.each, length-append merged (decision ∷ []));
        told_are = λ k low_k. told-more_at k low_k (same_or k w);
        own_are = λ k other is. own-more k other is (same_or k w);
      }

  pub told-all : (i : ℕ) (told : List ℕ) (merged : List Decision) → length lines ≤ i → i ≤ length lines → AreTold workers lines played i told merged → ((k : ℕ) (one : Played) → slice_get played k ≡ Some one → length one.decisions.items ≡ length (lines_of workers k lines)) → IsMerged workers lines played merged
  told-all i told merged past within h long =
      let end : i ≡ length lines = omega (arith, past, within) in
      let taken : take i lines ≡ lines = ap (λ (n : ℕ). take n lines) end ∙ take-length lines in
      record {
        each = h.each ∙ end;
        own_are = λ k one is.
            let count : slice_index told k ≡ length one.decisions.items = h.told_are k (few k one is) ∙ ap (λ (l : List Line). length (lines_of workers k l)) taken ∙ sym (long k one is) in
            ap (λ (l : List Line). map decision_of (share_of workers k (pairs l merged))) (sym taken) ∙ h.own_are k one is ∙ ap (λ (n : ℕ). take n one.decisions.items) count ∙ take-length one.decisions.items;
      }
