-- Whole pages are granted and come back.
use Rattle.std.proofs.Common.{ℕ, ◌≡◌, ◌+◌, ◌-◌, ◌/◌, ◌^◌, ◌<◌, ◌≤◌, List, Option, Some, None, length, get_or, sym, ap, subst, ◌∙◌, refl, arith}
use Rattle.slab_model.specs.declared.shape.Shape.{Shape}
use Rattle.slab_model.specs.declared.runs.Run.{Run}
use Rattle.slab_model.specs.declared.page.PageState.TheVariants.{First}
use Rattle.slab_model.specs.Geometry.{pages_of}
use Rattle.slab_model.specs.Runs.{AreSound, first_fit, take_run, give_run}
use Rattle.slab_model.specs.State.{Slab, pages_in, page_at}
use Rattle.slab_model.specs.Grant.{grant_run}
use Rattle.slab_model.specs.Return.{give_pages}
use Rattle.slab_model.proofs.ClassLemmas.{zone}
use Rattle.slab_model.proofs.SoundLemmas.{IsSound-run, IsSound-give_pages}
use Rattle.slab_pages.specs.Places.{Image, KeepsOthers, log_ctx_word, data_word, descriptor, slab_at}
use Rattle.slab_pages.specs.Layout.{LaysRuns, HasUsedRun, MayPut}
use Rattle.slab_model.proofs.RunLemmas.{first_fit-in}
use Rattle.slab_pages.proofs.PlaceLemmas.{descriptor-word}
use Rattle.slab_pages.proofs.SetLemmas.{list_word-past, run_word-before, run_word-past}
use Rattle.slab_pages.proofs.TakeLemmas.{LaysSlab-take, LaysSlab-put}
use Rattle.slab_pages.proofs.ComeBackLemmas.{run-may_put}
use Rattle.slab_pages.proofs.UniqueLemmas.{slab-unique}
use Rattle.slab_pool.specs.Pool.{LaysPool}
use Rattle.slab_pool.specs.Live.{KeepsPages}

-- ---- the pool's image is one of the slab's shape

pub of_image : (P : Image → Type 0) (image : Image) (slab : Slab) → LaysPool image slab → P (record { shape = slab.shape; words = image.words }) → P image
of_image P image slab p h = subst (λ (s : Shape). P (record { shape = s; words = image.words })) p.shape_is h

pub pool-runs : (image : Image) (slab : Slab) → LaysPool image slab → LaysRuns image slab.runs
pool-runs image slab p = of_image (λ (i : Image). LaysRuns i slab.runs) image slab p p.laid.runs

-- ---- words of pages stay where free runs change

pub keeps-pages : (old new : Image) (runs : List Run) → AreSound (pages_of old.shape) runs → KeepsOthers runs old.words new.words → new.shape ≡ old.shape → KeepsPages old new
keeps-pages old new runs sound h shape = record {
  shape_is = shape;
  same_length = h.same_length;
  pages = λ w past _ _. h.others w (list_word-past w (omega (arith, past))) (run_word-past (pages_of old.shape) runs w sound past);
  log_ctx = h.others log_ctx_word refl (run_word-before runs log_ctx_word (omega arith));
  data_is = h.others data_word refl (run_word-before runs data_word (omega arith));
}

-- ---- a run is granted

pub run-granted : (old new : Image) (slab : Slab) (n page : ℕ) → LaysPool old slab → 0 < n → first_fit n slab.runs ≡ Some page → LaysRuns new (take_run n slab.runs) → HasUsedRun new.words page n → KeepsOthers slab.runs old.words new.words → new.shape ≡ old.shape → LaysPool new (grant_run slab n (first_fit n slab.runs)).1
run-granted old new slab n page p some fit laid used kept shape =
    let here = subst (λ (s : Shape). LaysRuns (record { shape = s; words = new.words }) (take_run n slab.runs)) (shape ∙ sym p.shape_is) laid in
    subst (λ (found : Option ℕ). LaysPool new (grant_run slab n found).1) (sym fit) (record {
      shape_is = p.shape_is ∙ sym shape;
      sound = IsSound-run slab n page p.sound some fit;
      laid = LaysSlab-take slab old.words new.words n page p.sound p.laid some fit here used kept;
    })

pub run-refused : (old new : Image) (slab : Slab) (n : ℕ) → LaysPool old slab → first_fit n slab.runs ≡ None → new ≡ old → LaysPool new (grant_run slab n (first_fit n slab.runs)).1
run-refused old new slab n p none same = subst (λ (found : Option ℕ). LaysPool new (grant_run slab n found).1) (sym none) (subst (λ (i : Image). LaysPool i slab) (sym same) p)

-- ---- a run comes back

pub run-puttable : (old : Image) (slab : Slab) (page count n : ℕ) → LaysPool old slab → page_at slab.pages page ≡ First count → n ≡ slab_at old.words (descriptor page) - 2 ^ 63 → (n ≡ count) × MayPut old (record { first = page; pages = n })
run-puttable old slab page count n p is read =
    let count_is : n ≡ count = omega (arith, read, (p.laid.used_runs page count is).first.slab_is) in
    (count_is, subst (λ (k : ℕ). MayPut old (record { first = page; pages = k })) (sym count_is) (of_image (λ (i : Image). MayPut i (record { first = page; pages = count })) old slab p (run-may_put old.words slab page count p.sound p.laid is)))

run-returned : (old new : Image) (slab : Slab) (page count : ℕ) → LaysPool old slab → page_at slab.pages page ≡ First count → LaysRuns new (give_run (record { first = page; pages = count }) slab.runs) → KeepsOthers (give_run (record { first = page; pages = count }) slab.runs) old.words new.words → new.shape ≡ old.shape → LaysPool new (give_pages slab page count)
run-returned old new slab page count p is laid kept shape =
    let here = subst (λ (s : Shape). LaysRuns (record { shape = s; words = new.words }) (give_run (record { first = page; pages = count }) slab.runs)) (shape ∙ sym p.shape_is) laid in
    record {
      shape_is = p.shape_is ∙ sym shape;
      sound = IsSound-give_pages slab page count p.sound is;
      laid = LaysSlab-put slab old.words new.words page count p.sound p.laid is here kept;
    }

-- what `Pages::put` says of the run that is read
pub record PutsBack (old new : Image) (page n : ℕ) : Type 0 where
  pub laid : (runs : List Run) → LaysRuns old runs → LaysRuns new (give_run (record { first = page; pages = n }) runs)
  pub kept : (runs : List Run) → LaysRuns old runs → KeepsOthers (give_run (record { first = page; pages = n }) runs) old.words new.words
  pub shape : new.shape ≡ old.shape

pub run-back : (old new : Image) (slab : Slab) (page count n : ℕ) → LaysPool old slab → page_at slab.pages page ≡ First count → n ≡ count → PutsBack old new page n → LaysPool new (give_pages slab page count)
run-back old new slab page count n p is same h =
    let b = subst (λ (k : ℕ). PutsBack old new page k) same h in
    let r = pool-runs old slab p in
    run-returned old new slab page count p is (b.laid slab.runs r) (b.kept slab.runs r) b.shape

pub run-keeps : (old new : Image) (slab : Slab) (page count n : ℕ) → LaysPool old slab → page_at slab.pages page ≡ First count → n ≡ count → PutsBack old new page n → KeepsPages old new
run-keeps old new slab page count n p is same h =
    let b = subst (λ (k : ℕ). PutsBack old new page k) same h in
    let r = pool-runs old slab p in
    let l = b.laid slab.runs r in
    keeps-pages old new (give_run (record { first = page; pages = count }) slab.runs) (subst (λ (s : Shape). AreSound (pages_of s) (give_run (record { first = page; pages = count }) slab.runs)) b.shape l.sound) (b.kept slab.runs r) b.shape

-- ---- numbers of pages

-- the pages of a pool are few, and their descriptors lie in the words
pub page-room : (image : Image) (slab : Slab) (page : ℕ) → LaysPool image slab → page < pages_in slab → (page ≤ 16384) × (descriptor page / 8 + 2 < length image.words)
page-room image slab page p low =
    let z = zone slab.shape p.sound.limits in
    let sized = p.laid.runs.sized in
    (omega (arith, low, z.many), omega (arith, low, z.behind, z.last, sized, descriptor-word page))

pub fit-room : (image : Image) (slab : Slab) (n page : ℕ) → LaysPool image slab → 0 < n → first_fit n slab.runs ≡ Some page → page ≤ 16384
fit-room image slab n page p some fit = let h = first_fit-in (pages_in slab) n slab.runs page p.sound.runs fit in (page-room image slab page p (omega (arith, h, some))).0

pub run-room : (image : Image) (slab : Slab) (page count : ℕ) → LaysPool image slab → page_at slab.pages page ≡ First count → (page ≤ 16384) × (descriptor page / 8 + 2 < length image.words)
run-room image slab page count p is = let f = p.sound.used_runs.followed page count is in page-room image slab page p (omega (arith, f.0, f.1))

-- ---- the words tell the slab

pub pool-unique : (image : Image) (a b : Slab) → LaysPool image a → LaysPool image b → a ≡ b
pool-unique image a b p q = slab-unique image.words a b p.sound q.sound p.laid q.laid
