-- Which words of a zone may be set: `Pages::set_word` asks it of one list of free runs.
use Rattle.std.proofs.Common.{ℕ, ◌≡◌, ◌+◌, ◌<◌, ◌≤◌, false, List, length, ap, arith, inl, inr, ◌∙◌}
use Rattle.std.proofs.lemmas.Bool.{cases_Bool}
use Rattle.std.proofs.lemmas.Grind.{common_steps}
use Rattle.slab_model.specs.declared.runs.Run.{Run}
use Rattle.slab_model.specs.Geometry.{pages_of}
use Rattle.slab_model.specs.Runs.{AreSound, is_covered}
use Rattle.slab_pages.specs.Places.{Image, pfree_word, descriptor_word, descriptor_page, is_list_word, is_run_word}
use Rattle.slab_pages.specs.Layout.{LaysRuns, MaySet}
use Rattle.slab_pages.proofs.JoinLemmas.{covered-within}

-- ---- words that no free run is kept in

-- a word past the header's word `pfree`
pub list_word-past : (w : ℕ) → pfree_word < w → is_list_word w ≡ false
list_word-past w past = grind (arith, common_steps)

-- a word before the descriptors
pub run_word-before : (runs : List Run) (w : ℕ) → w < descriptor_word 0 → is_run_word runs w ≡ false
run_word-before runs w low = grind (arith, common_steps)

-- a word of the descriptor of a page that isn't free
pub run_word-used : (runs : List Run) (page w : ℕ) → is_covered page runs ≡ false → descriptor_word page ≤ w → w < descriptor_word page + 3 → is_run_word runs w ≡ false
run_word-used runs page w free low high =
    let at : descriptor_page w ≡ page = omega (arith, low, high) in
    let here : is_covered (descriptor_page w) runs ≡ false = ap (λ k. is_covered k runs) at ∙ free in
    grind (arith, common_steps)

-- a word past the descriptors
pub run_word-past : (count : ℕ) (runs : List Run) (w : ℕ) → AreSound count runs → descriptor_word count ≤ w → is_run_word runs w ≡ false
run_word-past count runs w sound past = elim (cases_Bool (is_covered (descriptor_page w) runs)) [
  | inl covered ↦ absurd (omega (arith, past, covered-within count runs (descriptor_page w) sound covered))
  | inr free ↦ grind (arith, common_steps)
]

-- ---- words that may be set

-- a word of the header past `pfree`, of the heads of the classes and of their statistics
pub may_set-before : (image : Image) (runs : List Run) (w : ℕ) → LaysRuns image runs → w < length image.words → pfree_word < w → w < descriptor_word 0 → MaySet image w
may_set-before image runs w h within low high = record { within = within; not_listed = list_word-past w low; not_free = (runs, h, run_word-before runs w high) }

-- a word of the descriptor of a page that isn't free
pub may_set-used : (image : Image) (runs : List Run) (page w : ℕ) → LaysRuns image runs → w < length image.words → is_covered page runs ≡ false → descriptor_word page ≤ w → w < descriptor_word page + 3 → MaySet image w
may_set-used image runs page w h within free low high = record { within = within; not_listed = list_word-past w (omega (arith, low)); not_free = (runs, h, run_word-used runs page w free low high) }

-- a word past the descriptors
pub may_set-past : (image : Image) (runs : List Run) (w : ℕ) → LaysRuns image runs → w < length image.words → descriptor_word (pages_of image.shape) ≤ w → MaySet image w
may_set-past image runs w h within past = record { within = within; not_listed = list_word-past w (omega (arith, past)); not_free = (runs, h, run_word-past (pages_of image.shape) runs w h.sound past) }
