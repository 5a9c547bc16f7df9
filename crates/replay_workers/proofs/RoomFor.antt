-- How many calls the workers' lines make, as far as a log was read.
use Rattle.std.proofs.Common.{ℕ, ◌≡◌, ◌≢◌, ◌+◌, ◌*◌, ◌<◌, ◌≤◌, ◌%◌, ◌⊎◌, inl, inr, Bool, true, false, List, [], ◌∷◌, length, take, get_or, set, replicate, sym, ap, refl, ◌∙◌, arith, sum, length-append, length-set, get_or-set_same, get_or-set_other}
use Rattle.std.proofs.lemmas.List.{length-replicate, get_or-replicate}
use Rattle.std.specs.Prelude.{nat_eq, slice_index}
use Rattle.std.proofs.Math.Nat.{mod-lt}
use Rattle.std.proofs.Math.Seq.{take-length}
use Rattle.std.proofs.lemmas.Bool.Decides.{nat_tests}
use Rattle.std.proofs.lemmas.List.Sums.{sum_by-set}
use Rattle.std.proofs.lemmas.List.Folds.{sum_by-replicate}
use Rattle.replay_log.specs.declared.line.Line.{Line}
use Rattle.replay_share.specs.Replay.{goes_to, lines_of}
use Rattle.replay_share.proofs.Sharing.{mine-more, other-more}

pub same_or : (m n : ℕ) → (m ≡ n) ⊎ (m ≢ n)
same_or m n =
    let f : (t : Bool) → nat_eq m n ≡ t → (m ≡ n) ⊎ (m ≢ n) = elim [ true ↦ λ e. inl (grind (arith, nat_tests)) | false ↦ λ e. inr (grind (arith, nat_tests)) ] in
    f (nat_eq m n) refl

module _ (workers : ℕ) (lines : List Line) where
  -- so many calls are made by the lines up to number i
  pub record AreFor (i : ℕ) (rooms : List ℕ) : Type 0 where
    pub count : length rooms ≡ workers
    pub each : (k : ℕ) → k < workers → slice_index rooms k ≡ 3 * length (lines_of workers k (take i lines))
    pub total : sum rooms ≡ 3 * i

  pub for-none : AreFor 0 (replicate workers 0)
  for-none = record {
    count = length-replicate workers 0;
    each = λ k low. get_or-replicate workers k 0 0 low;
    total = sum_by-replicate (λ x. x) workers 0 ∙ omega arith;
  }

  module _ (i : ℕ) (line : Line) (rooms : List ℕ) (some : 0 < workers) (low : i < length lines) (line_is : line ≡ get_or lines i line) (h : AreFor i rooms) where
    abbrev at : ℕ
    at = line.conn % workers

    pub at-low : at < length rooms
    at-low = omega (arith, h.count, mod-lt line.conn some)

    each_more : (k : ℕ) → k < workers → (k ≡ at) ⊎ (k ≢ at) → slice_index (set rooms at (slice_index rooms at + 3)) k ≡ 3 * length (lines_of workers k (take (i + 1) lines))
    each_more k few (inl is) =
        let mine : goes_to workers k line ≡ true = let e : at ≡ k = sym is in let t : nat_eq at k ≡ true = grind (arith, nat_tests, e) in t in
        let longer : length (lines_of workers k (take i lines)) + 1 ≡ length (lines_of workers k (take (i + 1) lines)) = sym (length-append (lines_of workers k (take i lines)) (line ∷ [])) ∙ ap length (mine-more workers k lines i line low line_is mine) in
        let now : slice_index (set rooms at (slice_index rooms at + 3)) k ≡ slice_index rooms at + 3 = ap (slice_index (set rooms at (slice_index rooms at + 3))) is ∙ get_or-set_same rooms at (slice_index rooms at + 3) 0 at-low in
        let before : slice_index rooms at ≡ 3 * length (lines_of workers k (take i lines)) = ap (slice_index rooms) (sym is) ∙ h.each k few in
        omega (arith, longer, now, before)
    each_more k few (inr differs) =
        let other : goes_to workers k line ≡ false = let d : at ≢ k = λ e. differs (sym e) in let t : nat_eq at k ≡ false = grind (arith, nat_tests, d) in t in
        get_or-set_other rooms at k (slice_index rooms at + 3) 0 differs ∙ h.each k few ∙ ap (λ (l : List Line). 3 * length l) (other-more workers k lines i line low line_is other)

    pub for-more : AreFor (i + 1) (set rooms at (slice_index rooms at + 3))
    for-more = record {
      count = length-set rooms at (slice_index rooms at + 3) ∙ h.count;
      each = λ k few. each_more k few (same_or k at);
      total = omega (arith, h.total, sum_by-set (λ x. x) rooms at (slice_index rooms at + 3) 0 at-low);
    }

  pub for-all : (i : ℕ) (rooms : List ℕ) → length lines ≤ i → i ≤ length lines → AreFor i rooms → (k : ℕ) → k < workers → slice_index rooms k ≡ 3 * length (lines_of workers k lines)
  for-all i rooms past within h k few =
      let end : i ≡ length lines = omega (arith, past, within) in
      h.each k few ∙ ap (λ (n : ℕ). 3 * length (lines_of workers k (take n lines))) end ∙ ap (λ (l : List Line). 3 * length (lines_of workers k l)) (take-length lines)
