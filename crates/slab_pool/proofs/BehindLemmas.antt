-- What the steps of a grant and of a return leave of the pages.
use Rattle.std.proofs.Common.{ℕ, ◌≡◌, ◌⊎◌, ◌+◌, ◌*◌, ◌<◌, ◌≤◌, Bool, true, false, ◌||◌, ltb, List, length, get_or, ap, subst, ◌∙◌, refl, arith, inl, inr}
use Rattle.std.proofs.lemmas.Bool.{cases_lt}
use Rattle.std.proofs.lemmas.Grind.{common_steps}
use Rattle.zone_region.specs.Members.{In}
use Rattle.slab_model.specs.declared.shape.Shape.{Shape}
use Rattle.slab_model.specs.declared.runs.Run.{Run}
use Rattle.slab_model.specs.declared.page.PageState.TheVariants.{Class}
use Rattle.slab_model.specs.Geometry.{IsInLimits, small, kind_of, pages_of, start_of}
use Rattle.slab_model.specs.Runs.{AreSound}
use Rattle.slab_model.specs.State.{Slab, page_at}
use Rattle.slab_model.proofs.ClassLemmas.{zone}
use Rattle.slab_pages.specs.Places.{Image, KeepsOthers, log_ctx_word, data_word, page_word, bitmap_words}
use Rattle.slab_pages.specs.Frames.{ChangesStat}
use Rattle.slab_pages.proofs.FrameLemmas.{pages-behind}
use Rattle.slab_pages.proofs.SetLemmas.{list_word-past, run_word-before, run_word-past}
use Rattle.slab_pool.specs.Pool.{LaysPool}
use Rattle.slab_pool.specs.Live.{is_bitmap_word, KeepsPages}
use Rattle.slab_pool.specs.PoolSteps.{IsOutside, ChangesBits, RelinksPages, KeepsBehind}
use Rattle.slab_pool.proofs.RestLemmas.{bitmap-belongs, few_words}

pub behind-bits : (shape : Shape) (class page : ℕ) (old new : List ℕ) → IsInLimits shape → page < pages_of shape → ChangesBits shape class page old new → KeepsBehind shape class page old new
behind-bits shape class page old new limits below c =
    let behind = pages-behind shape page limits in
    record {
      same_length = c.same_length;
      behind = λ w past out. c.others w (λ e. omega (arith, e, past, below)) out;
      log_ctx = c.others log_ctx_word (λ e. omega (arith, e)) (λ _. inl (omega (arith, behind)));
      data_is = c.others data_word (λ e. omega (arith, e)) (λ _. inl (omega (arith, behind)));
    }

pub behind-links : (shape : Shape) (class page : ℕ) (listed : List ℕ) (old new : List ℕ) → class < 9 → ((q : ℕ) → (q ≡ page) ⊎ In q listed → q < pages_of shape) → RelinksPages class page listed old new → KeepsBehind shape class page old new
behind-links shape class page listed old new known below c = record {
  same_length = c.same_length;
  behind = λ w past out. c.others w (λ e. omega (arith, e, past, known)) (λ q m. let z = below q m in (λ e. omega (arith, e, past, z), λ e. omega (arith, e, past, z)));
  log_ctx = c.others log_ctx_word (λ e. omega (arith, e)) (λ q m. (λ e. omega (arith, e), λ e. omega (arith, e)));
  data_is = c.others data_word (λ e. omega (arith, e)) (λ q m. (λ e. omega (arith, e), λ e. omega (arith, e)));
}

pub behind-stat : (shape : Shape) (class page c : ℕ) (old new : List ℕ) → c < 9 → ChangesStat old new c → KeepsBehind shape class page old new
behind-stat shape class page c old new known h = record {
  same_length = h.same_length;
  behind = λ w past out. h.others w (inr (omega (arith, past, known)));
  log_ctx = h.others log_ctx_word (inl (omega arith));
  data_is = h.others data_word (inl (omega arith));
}

pub behind-runs : (shape : Shape) (class page : ℕ) (runs : List Run) (old new : List ℕ) → AreSound (pages_of shape) runs → KeepsOthers runs old new → KeepsBehind shape class page old new
behind-runs shape class page runs old new sound h = record {
  same_length = h.same_length;
  behind = λ w past out. h.others w (list_word-past w (omega (arith, past))) (run_word-past (pages_of shape) runs w sound past);
  log_ctx = h.others log_ctx_word refl (run_word-before runs log_ctx_word (omega arith));
  data_is = h.others data_word refl (run_word-before runs data_word (omega arith));
}

pub behind-then : (shape : Shape) (class page : ℕ) (old mid new : List ℕ) → KeepsBehind shape class page old mid → KeepsBehind shape class page mid new → KeepsBehind shape class page old new
behind-then shape class page old mid new h k = record {
  same_length = k.same_length ∙ h.same_length;
  behind = λ w past out. k.behind w past out ∙ h.behind w past out;
  log_ctx = k.log_ctx ∙ h.log_ctx;
  data_is = k.data_is ∙ h.data_is;
}

pub behind-same : (shape : Shape) (class page : ℕ) (old new : List ℕ) → new ≡ old → KeepsBehind shape class page old new
behind-same shape class page old new e = record {
  same_length = ap (λ ws. length ws) e;
  behind = λ w past out. ap (λ ws. get_or ws w 0) e;
  log_ctx = ap (λ ws. get_or ws log_ctx_word 0) e;
  data_is = ap (λ ws. get_or ws data_word 0) e;
}

-- a word past the descriptors that isn't one of a bitmap lies outside that of each page of a class
outside-bitmap : (image : Image) (slab : Slab) (class page w : ℕ) (used : List ℕ) → LaysPool image slab → page_at slab.pages page ≡ Class class used → is_bitmap_word image w ≡ false → kind_of image.shape class ≡ small → (w < page_word image.shape page) ⊎ (page_word image.shape page + bitmap_words image.shape class ≤ w)
outside-bitmap image slab class page w used p is none kind = elim (cases_lt w (page_word image.shape page)) [
  | inl l ↦ inl l
  | inr low ↦ elim (cases_lt w (page_word image.shape page + bitmap_words image.shape class)) [
    | inr g ↦ inr g
    | inl high ↦
        let known = (p.sound.used page class used is).known in
        let first = ap (λ (s : Shape). page_word s page) p.shape_is in
        let count = ap (λ (s : Shape). bitmap_words s class) p.shape_is in
        let z = zone slab.shape p.sound.limits in
        let here = bitmap-belongs image slab page class used w p is (ap (λ (s : Shape). kind_of s class) p.shape_is ∙ kind) (omega (arith, low, first)) (omega (arith, high, first, count)) (few_words slab.shape class known) in
        absurd (both (8 * w) (start_of image.shape) (is_bitmap_word image w) (omega (arith, low, first, ap (λ (s : Shape). start_of s) p.shape_is, z.eights)) none here)
  ]
] where
  both : (n start : ℕ) (b : Bool) → start ≤ n → b ≡ false → (ltb n start || b) ≡ true → ⊥
  both n start b high off on = grind (arith, common_steps)

-- so the pages keep their words where the page is one of the class before, and where it is one afterwards
pub keeps-before : (old new : Image) (slab : Slab) (class page : ℕ) (used : List ℕ) → LaysPool old slab → page_at slab.pages page ≡ Class class used → new.shape ≡ old.shape → KeepsBehind old.shape class page old.words new.words → KeepsPages old new
keeps-before old new slab class page used p is shape k = record {
  shape_is = shape;
  same_length = k.same_length;
  pages = λ w past a b. k.behind w past (outside-bitmap old slab class page w used p is a);
  log_ctx = k.log_ctx;
  data_is = k.data_is;
}

pub keeps-after : (old new : Image) (slab : Slab) (class page : ℕ) (used : List ℕ) → LaysPool new slab → page_at slab.pages page ≡ Class class used → new.shape ≡ old.shape → KeepsBehind old.shape class page old.words new.words → KeepsPages old new
keeps-after old new slab class page used p is shape k = record {
  shape_is = shape;
  same_length = k.same_length;
  pages = λ w past a b. k.behind w past (subst (λ (s : Shape). IsOutside s class page w) shape (outside-bitmap new slab class page w used p is b));
  log_ctx = k.log_ctx;
  data_is = k.data_is;
}
