-- The lines of one worker, as far as a log was read.
use Rattle.std.proofs.Common.{ℕ, ◌≡◌, ◌≢◌, ◌+◌, ◌*◌, ◌<◌, ◌≤◌, ◌%◌, Bool, true, false, List, [], ◌∷◌, ◌++◌, length, take, drop, filter, get_or, subst, sym, ap, refl, ◌∙◌, arith}
use Rattle.std.specs.Prelude.{◌==◌, nat_eq}
use Rattle.std.specs.List.{All}
use Rattle.std.proofs.Math.Seq.{take-length}
use Rattle.std.proofs.lemmas.List.{append-nil, length-append, take_more, take-append-drop}
use Rattle.std.proofs.lemmas.List.Elements.{filter-append, All-filter, All-take}
use Rattle.std.proofs.lemmas.Bool.Decides.{nat_tests}
use Rattle.replay_log.specs.declared.line.Line.{Line}
use Rattle.zone_config.specs.declared.data.Config.{Config}
use Rattle.request_script.specs.declared.decision.Decision.{Decision}
use Rattle.request_script.specs.declared.script.Script.{Script}
use Rattle.request_script.specs.Turn.{Exchange}
use Rattle.request_script.specs.Script.{state_of}
use Rattle.replay_share.specs.Share.{HasDecided}
use Rattle.replay_share.specs.Replay.{goes_to, lines_of}

module _ (workers k : ℕ) where
  -- the next line is the worker's own, or another's
  pub mine-more : (lines : List Line) (i : ℕ) (line : Line) → i < length lines → line ≡ get_or lines i line → goes_to workers k line ≡ true → lines_of workers k (take i lines) ++ line ∷ [] ≡ lines_of workers k (take (i + 1) lines)
  mine-more lines i line low is mine =
      let one : lines_of workers k (line ∷ []) ≡ line ∷ [] = rw mine refl in
      let taken : take (i + 1) lines ≡ take i lines ++ line ∷ [] = take_more lines i line low ∙ ap (λ (l : Line). take i lines ++ l ∷ []) (sym is) in
      sym (ap (lines_of workers k) taken ∙ filter-append (goes_to workers k) (take i lines) (line ∷ []) ∙ ap (λ (l : List Line). lines_of workers k (take i lines) ++ l) one)

  pub other-more : (lines : List Line) (i : ℕ) (line : Line) → i < length lines → line ≡ get_or lines i line → goes_to workers k line ≡ false → lines_of workers k (take i lines) ≡ lines_of workers k (take (i + 1) lines)
  other-more lines i line low is other =
      let none : lines_of workers k (line ∷ []) ≡ [] = rw other refl in
      let taken : take (i + 1) lines ≡ take i lines ++ line ∷ [] = take_more lines i line low ∙ ap (λ (l : Line). take i lines ++ l ∷ []) (sym is) in
      sym (ap (lines_of workers k) taken ∙ filter-append (goes_to workers k) (take i lines) (line ∷ []) ∙ ap (λ (l : List Line). lines_of workers k (take i lines) ++ l) none ∙ append-nil (lines_of workers k (take i lines)))

  -- there is room for the next line
  pub mine-fits : (lines : List Line) (i room : ℕ) (line : Line) → i < length lines → line ≡ get_or lines i line → goes_to workers k line ≡ true → 3 * length (lines_of workers k lines) ≤ room → 3 * length (lines_of workers k (take i lines)) + 3 ≤ room
  mine-fits lines i room line low is mine fits =
      let all : length (lines_of workers k (take (i + 1) lines)) + length (lines_of workers k (drop (i + 1) lines)) ≡ length (lines_of workers k lines) =
      sym (length-append (lines_of workers k (take (i + 1) lines)) (lines_of workers k (drop (i + 1) lines))) ∙ ap length (sym (filter-append (goes_to workers k) (take (i + 1) lines) (drop (i + 1) lines)))
      ∙ ap (λ (l : List Line). length (lines_of workers k l)) (take-append-drop (i + 1) lines) in
      let more : length (lines_of workers k (take i lines)) + 1 ≡ length (lines_of workers k (take (i + 1) lines)) = sym (length-append (lines_of workers k (take i lines)) (line ∷ [])) ∙ ap length (mine-more lines i line low is mine) in
      omega (arith, all, more, fits)

  -- at the end all lines are read
  pub mine-all : (lines : List Line) (i : ℕ) → length lines ≤ i → i ≤ length lines → lines_of workers k (take i lines) ≡ lines_of workers k lines
  mine-all lines i past within = let end : i ≡ length lines = omega (arith, past, within) in ap (λ (n : ℕ). lines_of workers k (take n lines)) end ∙ ap (lines_of workers k) (take-length lines)

  -- what holds of all lines holds of these
  pub mine-lines : (P : Line → Type 0) (lines : List Line) (i : ℕ) → All P lines → All P (lines_of workers k (take i lines))
  mine-lines P lines i all = All-filter (goes_to workers k) P (take i lines) (All-take P i lines all)

-- what was decided, by other names
pub decided_as : {Z : Type 0} → (S : Z → List Exchange → Type 0) (config : Config) (z w : Z) (s t : Script) (lines more : List Line) (ds es : List Decision) → w ≡ z → t ≡ s → lines ≡ more → es ≡ ds
    → HasDecided (S z) config (state_of s) lines ds → HasDecided (S w) config (state_of t) more es
decided_as S config z w s t lines more ds es z_is s_is lines_are ds_are h =
    subst (λ x. HasDecided (S x) config (state_of t) more es) (sym z_is)
    (subst (λ x. HasDecided (S z) config (state_of x) more es) (sym s_is)
    (subst (λ x. HasDecided (S z) config (state_of s) x es) lines_are
    (subst (λ x. HasDecided (S z) config (state_of s) lines x) (sym ds_are) h)))

pub goes-here : (workers k : ℕ) (line : Line) → line.conn % workers ≡ k → goes_to workers k line ≡ true
goes-here workers k line is = let t : nat_eq (line.conn % workers) k ≡ true = grind (arith, nat_tests, is) in t

pub goes-by : (workers k : ℕ) (line : Line) → line.conn % workers ≢ k → goes_to workers k line ≡ false
goes-by workers k line differs = let t : nat_eq (line.conn % workers) k ≡ false = grind (arith, nat_tests, differs) in t
