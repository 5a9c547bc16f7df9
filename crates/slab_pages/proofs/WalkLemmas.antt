-- The walk along the list of free runs.
use Rattle.std.proofs.Common.{ℕ, ◌≡◌, ◌≢◌, ◌+◌, ◌<◌, ◌≤◌, Bool, true, false, ◌||◌, List, [], ◌∷◌, length, sym, subst, ◌∙◌, refl, arith, Some, None, ◌⊎◌, inl, inr}
use Rattle.std.proofs.lemmas.Grind.{common_steps}
use Rattle.std.proofs.lemmas.Bool.{cases_Bool}
use Rattle.slab_model.specs.declared.runs.Run.{Run}
use Rattle.slab_model.specs.Runs.{AreSound, first_fit, is_covered, is_within}
use Rattle.slab_pages.specs.Places.{free_head, descriptor, slab_at, next_at}
use Rattle.slab_pages.specs.Layout.{LaysFrom}
use Rattle.slab_pages.specs.RunSteps.{LaysList, IsClearOfFree}
use Rattle.slab_model.proofs.RunLemmas.{is_within-parts}
use Rattle.slab_pages.proofs.ListLemmas.{covered-first}
use Rattle.slab_pages.proofs.PlaceLemmas.{descriptor-head}
use Rattle.slab_pages.proofs.GiveLemmas.{page_total-le, length-runs}

-- the descriptor at `o` is the first of these runs, or the head where there is none
abbrev pub StandsAt : List ℕ → ℕ → List Run → Type 0
StandsAt words o [] = o ≡ free_head
StandsAt words o (run ∷ runs) = (o ≡ descriptor run.first) × (slab_at words o ≡ run.pages) × StandsAt words (next_at words o) runs

pub stands_next : (words : List ℕ) (p : ℕ) (runs : List Run) → LaysFrom words p runs → StandsAt words (next_at words p) runs
stands_next words p [] h = h
stands_next words p (x ∷ xs) h = (h.0, subst (λ (o : ℕ). slab_at words o ≡ x.pages) (sym h.0) h.1, subst (λ (o : ℕ). StandsAt words (next_at words o) xs) (sym h.0) (stands_next words (descriptor x.first) xs h.4))

-- after some steps these runs are left, and none before them is long enough
pub record Walks (count n step : ℕ) (words : List ℕ) (o : ℕ) (runs : List Run) : Type 0 where
  pub rest : List Run
  pub stands : StandsAt words o rest
  pub sound : AreSound count rest
  pub fit : first_fit n rest ≡ first_fit n runs
  pub counted : step + length rest ≡ length runs

pub walk_begins : (count n : ℕ) (words : List ℕ) (runs : List Run) → LaysList count words runs → Walks count n 0 words (next_at words free_head) runs
walk_begins count n words runs h = record { rest = runs; stands = stands_next words free_head runs h.linked; sound = h.sound; fit = refl; counted = omega arith }

-- at the head no run is left
pub walk_ends : (count n step : ℕ) (words : List ℕ) (o : ℕ) (runs : List Run) → Walks count n step words o runs → o ≡ free_head → first_fit n runs ≡ None
walk_ends count n step words o runs w e = ended w.rest w.stands w.fit where
  ended : (rest : List Run) → StandsAt words o rest → first_fit n rest ≡ first_fit n runs → first_fit n runs ≡ None
  ended [] stands fit = sym fit
  ended (x ∷ xs) stands fit = absurd (descriptor-head x.first (sym stands.0 ∙ e))

-- elsewhere a run begins
pub record Meets (count n step : ℕ) (words : List ℕ) (o : ℕ) (runs : List Run) : Type 0 where
  pub first : ℕ
  pub at : o ≡ descriptor first
  pub low : first < count
  pub long : n ≤ slab_at words o → first_fit n runs ≡ Some first
  pub short : slab_at words o < n → Walks count n (step + 1) words (next_at words o) runs

pub walk_meets : (count n step : ℕ) (words : List ℕ) (o : ℕ) (runs : List Run) → Walks count n step words o runs → o ≢ free_head → Meets count n step words o runs
walk_meets count n step words o runs w ne = met w.rest w.stands w.sound w.fit w.counted where
  met : (rest : List Run) → StandsAt words o rest → AreSound count rest → first_fit n rest ≡ first_fit n runs → step + length rest ≡ length runs → Meets count n step words o runs
  met [] stands sound fit counted = absurd (ne stands)
  met (x ∷ xs) stands sound fit counted = record {
    first = x.first;
    at = stands.0;
    low = omega (arith, sound.0, sound.1);
    long = λ long. sym fit ∙ fits x xs (omega (arith, long, stands.1));
    short = λ short. record { rest = xs; stands = stands.2; sound = sound.3; fit = sym (passes x xs (omega (arith, short, stands.1))) ∙ fit; counted = omega (arith, counted) };
  } where
    fits : (x : Run) (xs : List Run) → n ≤ x.pages → first_fit n (x ∷ xs) ≡ Some x.first
    fits x xs long = grind (arith, common_steps)

    passes : (x : Run) (xs : List Run) → x.pages < n → first_fit n (x ∷ xs) ≡ first_fit n xs
    passes x xs short = grind (arith, common_steps)

-- the walk is over before the words are
pub walk_short : (count n step : ℕ) (words : List ℕ) (o : ℕ) (runs : List Run) → LaysList count words runs → Walks count n step words o runs → step < length words
walk_short count n step words o runs h w = omega (arith, w.counted, length-runs count runs h.sound, page_total-le count runs h.sound, h.room)

-- ---- the walk that looks for pages

-- after some steps these runs are left, and none before them has one of the `n` pages from `first` on
pub record Passes (count first n step : ℕ) (words : List ℕ) (o : ℕ) (runs : List Run) : Type 0 where
  pub rest : List Run
  pub stands : StandsAt words o rest
  pub sound : AreSound count rest
  pub same : (page : ℕ) → first ≤ page → page < first + n → is_covered page rest ≡ is_covered page runs
  pub counted : step + length rest ≡ length runs

pub pass_begins : (count first n : ℕ) (words : List ℕ) (runs : List Run) → LaysList count words runs → Passes count first n 0 words (next_at words free_head) runs
pass_begins count first n words runs h = record { rest = runs; stands = stands_next words free_head runs h.linked; sound = h.sound; same = λ page low high. refl; counted = omega arith }

-- at the head no run is left
pub pass_ends : (count first n step : ℕ) (words : List ℕ) (o : ℕ) (runs : List Run) → Passes count first n step words o runs → o ≡ free_head → IsClearOfFree runs first (first + n)
pass_ends count first n step words o runs w e = ended w.rest w.stands w.same where
  ended : (rest : List Run) → StandsAt words o rest → ((page : ℕ) → first ≤ page → page < first + n → is_covered page rest ≡ is_covered page runs) → IsClearOfFree runs first (first + n)
  ended [] stands same = λ page low high. sym (same page low high)
  ended (x ∷ xs) stands same = absurd (descriptor-head x.first (sym stands.0 ∙ e))

-- the stretch of pages and the run have a page in common
abbrev pub meet : ℕ → ℕ → ℕ → ℕ → Bool
meet first n begin pages = is_within first begin pages || is_within begin first n

-- elsewhere a run begins
pub record Stops (count first n step : ℕ) (words : List ℕ) (o : ℕ) (runs : List Run) : Type 0 where
  pub begin : ℕ
  pub at : o ≡ descriptor begin
  pub low : begin < count
  pub inside : meet first n begin (slab_at words o) ≡ true → IsClearOfFree runs first (first + n) → ⊥
  pub outside : meet first n begin (slab_at words o) ≡ false → Passes count first n (step + 1) words (next_at words o) runs

pub pass_stops : (count first n step : ℕ) (words : List ℕ) (o : ℕ) (runs : List Run) → 0 < n → Passes count first n step words o runs → o ≢ free_head → Stops count first n step words o runs
pass_stops count first n step words o runs some w ne = met w.rest w.stands w.sound w.same w.counted where
  met : (rest : List Run) → StandsAt words o rest → AreSound count rest → ((page : ℕ) → first ≤ page → page < first + n → is_covered page rest ≡ is_covered page runs) → step + length rest ≡ length runs → Stops count first n step words o runs
  met [] stands sound same counted = absurd (ne stands)
  met (x ∷ xs) stands sound same counted = record {
    begin = x.first;
    at = stands.0;
    low = omega (arith, sound.0, sound.1);
    inside = λ h clear. elim (here x xs sound.0 (subst (λ (k : ℕ). meet first n x.first k ≡ true) stands.1 h)) [
      | inl a ↦ differ (sym a ∙ same first (omega arith) (omega (arith, some)) ∙ clear first (omega arith) (omega (arith, some)))
      | inr b ↦ differ (sym b.2 ∙ same x.first b.0 b.1 ∙ clear x.first b.0 b.1)
    ];
    outside = λ h. record {
      rest = xs;
      stands = stands.2;
      sound = sound.3;
      same = λ page low high. sym (there x xs page low high (subst (λ (k : ℕ). meet first n x.first k ≡ false) stands.1 h)) ∙ same page low high;
      counted = omega (arith, counted);
    };
  } where
    differ : true ≡ false → ⊥
    differ e = cc

    here : (x : Run) (xs : List Run) → 0 < x.pages → meet first n x.first x.pages ≡ true → (is_covered first (x ∷ xs) ≡ true) ⊎ ((first ≤ x.first) × (x.first < first + n) × (is_covered x.first (x ∷ xs) ≡ true))
    here x xs many h = elim (cases_Bool (is_within first x.first x.pages)) [
      | inl a ↦ inl (grind (arith, common_steps))
      | inr b ↦
          let c : is_within x.first first n ≡ true = grind (arith, common_steps) in
          let d = is_within-parts x.first first n c in
          inr (d.0, d.1, covered-first x xs x.first (omega arith) (omega (arith, many)))
    ]

    there : (x : Run) (xs : List Run) (page : ℕ) → first ≤ page → page < first + n → meet first n x.first x.pages ≡ false → is_covered page (x ∷ xs) ≡ is_covered page xs
    there x xs page low high h = grind (arith, common_steps)

pub pass_short : (count first n step : ℕ) (words : List ℕ) (o : ℕ) (runs : List Run) → LaysList count words runs → Passes count first n step words o runs → step < length words
pass_short count first n step words o runs h w = omega (arith, w.counted, length-runs count runs h.sound, page_total-le count runs h.sound, h.room)
