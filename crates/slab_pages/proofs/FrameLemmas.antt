-- Each part of a slab's layout stays where the words change that it doesn't speak of.
use Rattle.std.proofs.Common.{ℕ, ◌≡◌, ◌≢◌, ◌⊎◌, ◌+◌, ◌/◌, ◌%◌, ◌<◌, ◌≤◌, ◌^◌, true, false, List, [], ◌∷◌, length, get_or, set, get_or-set_same, get_or-set_other, refl, sym, ap, subst, arith, inl, inr, ◌∙◌}
use Rattle.std.specs.Prelude.{IsBitSet}
use Rattle.std.proofs.lemmas.Bool.{cases_eq, cases_lt}
use Rattle.std.proofs.lemmas.Grind.{common_steps}
use Rattle.slab_model.specs.declared.shape.Shape.{Shape}
use Rattle.slab_model.specs.declared.runs.Run.{Run}
use Rattle.slab_model.specs.declared.stat.Stat.{Stat}
use Rattle.slab_model.specs.declared.page.PageState.TheVariants.{Free}
use Rattle.slab_model.specs.Geometry.{Kind, small, exact, big, kind_of, pages_of, IsInLimits}
use Rattle.zone_region.specs.Members.{In}
use Rattle.slab_model.specs.Runs.{is_covered}
use Rattle.slab_model.specs.State.{Slab, no_stat, classes_in, pages_in, list_of, stat_of}
use Rattle.slab_model.specs.Soundness.{IsSound, has_room}
use Rattle.slab_model.proofs.ClassLemmas.{zone}
use Rattle.slab_model.proofs.StateLemmas.{page_at-in}
use Rattle.slab_model.proofs.SoundLemmas.{class_page-in}
use Rattle.slab_pages.specs.Places.{free_word, pfree_word, free_head, log_ctx_word, data_word, addr_word, head_word, stat_word, descriptor_word, class_head, page_word, bitmap_words, descriptor, slab_at, next_at, is_list_word}
use Rattle.slab_pages.specs.Layout.{LaysRuns, HasUsedRun}
use Rattle.slab_pages.specs.SlabLayout.{LaysHeader, LaysStat, LaysPages, LaysClass, LaysBits, LaysClassPage, LaysSlab}
use Rattle.slab_pages.specs.Frames.{SameFrom, SameWords, SameLinks, ChangesFrom, ChangesStat, SameLaid}
use Rattle.slab_pages.proofs.PlaceLemmas.{descriptor-word, HasWords-kept}
use Rattle.slab_pages.proofs.ListLemmas.{LaysFrom-kept}
use Rattle.slab_pages.proofs.JoinLemmas.{covered-within}

-- ---- places

-- the pages lie behind the descriptors
pub pages-behind : (shape : Shape) (page : ℕ) → IsInLimits shape → descriptor_word (pages_of shape) ≤ page_word shape page
pages-behind shape page limits = let z = zone shape limits in omega (arith, z.behind)

-- the words of a descriptor, by their numbers
pub same-descriptor : (old new : List ℕ) (page : ℕ) → SameFrom old new (descriptor_word page) (descriptor_word page + 3) → SameWords old new (descriptor page)
same-descriptor old new page same = let at = descriptor-word page in record {
  slab = same (descriptor page / 8) (omega (arith, at)) (omega (arith, at));
  next = same (descriptor page / 8 + 1) (omega (arith, at)) (omega (arith, at));
  prev = same (descriptor page / 8 + 2) (omega (arith, at)) (omega (arith, at));
}

-- those of the head of a class's list
pub same-head : (old new : List ℕ) (class : ℕ) → SameFrom old new (head_word class) (head_word class + 3) → SameWords old new (class_head class)
same-head old new class same = record {
  slab = same (class_head class / 8) (omega arith) (omega arith);
  next = same (class_head class / 8 + 1) (omega arith) (omega arith);
  prev = same (class_head class / 8 + 2) (omega arith) (omega arith);
}

-- a descriptor that is as before has its links as before
pub same-links : (old new : List ℕ) (o : ℕ) → SameWords old new o → SameLinks old new o
same-links old new o same = record { next = same.next; prev = same.prev }

-- ---- the parts

-- the header: its own words but for those of the page list, `log_ctx` and `data`
pub LaysHeader-kept : (shape : Shape) (old new : List ℕ) → ((w : ℕ) → w ≤ addr_word → is_list_word w ≡ false → w ≢ log_ctx_word → w ≢ data_word → get_or new w 0 ≡ get_or old w 0) → LaysHeader shape old → LaysHeader shape new
LaysHeader-kept shape old new same h = record {
  lock = same _ (omega arith) refl (λ e. omega (arith, e)) (λ e. omega (arith, e)) ∙ h.lock;
  wait = same _ (omega arith) refl (λ e. omega (arith, e)) (λ e. omega (arith, e)) ∙ h.wait;
  min_size = same _ (omega arith) refl (λ e. omega (arith, e)) (λ e. omega (arith, e)) ∙ h.min_size;
  min_shift = same _ (omega arith) refl (λ e. omega (arith, e)) (λ e. omega (arith, e)) ∙ h.min_shift;
  pages = same _ (omega arith) refl (λ e. omega (arith, e)) (λ e. omega (arith, e)) ∙ h.pages;
  last = same _ (omega arith) refl (λ e. omega (arith, e)) (λ e. omega (arith, e)) ∙ h.last;
  stats = same _ (omega arith) refl (λ e. omega (arith, e)) (λ e. omega (arith, e)) ∙ h.stats;
  start = same _ (omega arith) refl (λ e. omega (arith, e)) (λ e. omega (arith, e)) ∙ h.start;
  end = same _ (omega arith) refl (λ e. omega (arith, e)) (λ e. omega (arith, e)) ∙ h.end;
  mutex = λ w above below. same w (omega (arith, below)) (past w above) (λ e. omega (arith, below, e)) (λ e. omega (arith, below, e)) ∙ h.mutex w above below;
  zero = same _ (omega arith) refl (λ e. omega (arith, e)) (λ e. omega (arith, e)) ∙ h.zero;
  log_nomem = same _ (omega arith) refl (λ e. omega (arith, e)) (λ e. omega (arith, e)) ∙ h.log_nomem;
  addr = same _ (omega arith) refl (λ e. omega (arith, e)) (λ e. omega (arith, e)) ∙ h.addr;
} where
  past : (w : ℕ) → 13 ≤ w → is_list_word w ≡ false
  past w above = grind (arith, common_steps)

-- the free runs: the head of their list, the count of free pages and the descriptors of free pages
pub LaysRuns-kept : (shape : Shape) (old new : List ℕ) (runs : List Run) → length new ≡ length old → SameFrom old new free_word (free_word + 3) → get_or new pfree_word 0 ≡ get_or old pfree_word 0 → ((page : ℕ) → is_covered page runs ≡ true → SameWords old new (descriptor page)) → LaysRuns (record { shape = shape; words = old }) runs → LaysRuns (record { shape = shape; words = new }) runs
LaysRuns-kept shape old new runs len head free same h = record {
  sized = len ∙ h.sized;
  sound = h.sound;
  slab_is = head free_word (omega arith) (omega arith) ∙ h.slab_is;
  prev_is = head (free_word + 2) (omega arith) (omega arith) ∙ h.prev_is;
  linked = LaysFrom-kept (pages_of shape) old new free_head runs h.sound (head (free_word + 1) (omega arith) (omega arith)) same h.linked;
  counted = free ∙ h.counted;
}

-- the statistics of a class
pub LaysStat-kept : (old new : List ℕ) (class : ℕ) (stat : Stat) → SameFrom old new (stat_word class) (stat_word class + 4) → LaysStat old class stat → LaysStat new class stat
LaysStat-kept old new class stat same h = record {
  total = same (stat_word class) (omega arith) (omega arith) ∙ h.total;
  used = same (stat_word class + 1) (omega arith) (omega arith) ∙ h.used;
  reqs = same (stat_word class + 2) (omega arith) (omega arith) ∙ h.reqs;
  fails = same (stat_word class + 3) (omega arith) (omega arith) ∙ h.fails;
}

-- a class's list: the next word that it begins at, and the links of its pages
pub LaysPages-kept : (old new : List ℕ) (shape : Shape) (class o : ℕ) (pages : List ℕ) → next_at new o ≡ next_at old o → ((page : ℕ) → In page pages → SameLinks old new (descriptor page)) → LaysPages old shape class o pages → LaysPages new shape class o pages
LaysPages-kept old new shape class o [] next same h = next ∙ h
LaysPages-kept old new shape class o (q ∷ qs) next same h = (
  next ∙ h.0,
  (same q (inl refl)).prev ∙ h.1,
  LaysPages-kept old new shape class (descriptor q) qs (same q (inl refl)).next (λ page m. same page (inr m)) h.2,
)

pub LaysClass-kept : (old new : List ℕ) (shape : Shape) (class : ℕ) (pages : List ℕ) → SameFrom old new (head_word class) (head_word class + 3) → ((page : ℕ) → In page pages → SameLinks old new (descriptor page)) → LaysClass old shape class pages → LaysClass new shape class pages
LaysClass-kept old new shape class pages head same h = let at = same-head old new class head in record {
  slab_is = at.slab ∙ h.slab_is;
  prev_is = at.prev ∙ h.prev_is;
  linked = LaysPages-kept old new shape class (class_head class) pages at.next same h.linked;
}

-- a used run: the descriptors of its pages
pub HasUsedRun-kept : (old new : List ℕ) (page count : ℕ) → 0 < count → ((other : ℕ) → page ≤ other → other < page + count → SameWords old new (descriptor other)) → HasUsedRun old page count → HasUsedRun new page count
HasUsedRun-kept old new page count some same h = record {
  first = HasWords-kept old new (descriptor page) _ _ _ (same page (omega arith) (omega (arith, some))) h.first;
  later = λ other low high. HasWords-kept old new (descriptor other) _ _ _ (same other (omega (arith, low)) high) (h.later other low high);
}

-- the bits of a page of a class: its slab word, and its bitmap where the class is small
pub LaysBits-kept : (kind : Kind) (old new : List ℕ) (shape : Shape) (page class : ℕ) (used : List ℕ) → slab_at new (descriptor page) ≡ slab_at old (descriptor page) → (kind ≡ small → SameFrom old new (page_word shape page) (page_word shape page + bitmap_words shape class)) → LaysBits kind old shape page class used → LaysBits kind new shape page class used
LaysBits-kept small old new shape page class used slab map h = record {
  shift = slab ∙ h.shift;
  bits = λ index below.
      let same = map refl (page_word shape page + index / 64) (omega arith) (omega (arith, below)) in
      let old_bits = h.bits index below in
      (λ b. old_bits.0 (subst (λ (n : ℕ). IsBitSet n (index % 64)) same b), λ m. subst (λ (n : ℕ). IsBitSet n (index % 64)) (sym same) (old_bits.1 m));
}
LaysBits-kept exact old new shape page class used slab map h = λ index below. (λ b. (h index below).0 (subst (λ (n : ℕ). IsBitSet n index) slab b), λ m. subst (λ (n : ℕ). IsBitSet n index) (sym slab) ((h index below).1 m))
LaysBits-kept big old new shape page class used slab map h = record {
  shift = ap (λ n. n % 2 ^ 32) slab ∙ h.shift;
  bits = λ index below. (λ b. (h.bits index below).0 (subst (λ (n : ℕ). IsBitSet (n / 2 ^ 32) index) slab b), λ m. subst (λ (n : ℕ). IsBitSet (n / 2 ^ 32) index) (sym slab) ((h.bits index below).1 m));
}

-- a page of a class: its descriptor, and its bitmap where the class is small
pub LaysClassPage-kept : (old new : List ℕ) (shape : Shape) (page class : ℕ) (used : List ℕ) → SameWords old new (descriptor page) → (kind_of shape class ≡ small → SameFrom old new (page_word shape page) (page_word shape page + bitmap_words shape class)) → LaysClassPage old shape page class used → LaysClassPage new shape page class used
LaysClassPage-kept old new shape page class used same map h = record {
  bits = LaysBits-kept (kind_of shape class) old new shape page class used same.slab map h.bits;
  next_if_full = λ full. same.next ∙ h.next_if_full full;
  prev_if_full = λ full. same.prev ∙ h.prev_if_full full;
}

-- ---- words in a row that change

-- words on one side of them
pub same-away : (old new : List ℕ) (low high a b : ℕ) → ChangesFrom old new low high → (high ≤ a) ⊎ (b ≤ low) → SameFrom old new a b
same-away old new low high a b h apart = λ w x y. h.others w (elim apart [ inl l ↦ inr (omega (arith, l, x)) | inr g ↦ inl (omega (arith, g, y)) ])

pub LaysHeader-away : (shape : Shape) (old new : List ℕ) (low high : ℕ) → ChangesFrom old new low high → addr_word < low → LaysHeader shape old → LaysHeader shape new
LaysHeader-away shape old new low high h past = LaysHeader-kept shape old new (λ w less _ _ _. h.others w (inl (omega (arith, less, past))))

pub LaysRuns-away : (shape : Shape) (old new : List ℕ) (runs : List Run) (low high : ℕ) → ChangesFrom old new low high → pfree_word < low → ((page : ℕ) → is_covered page runs ≡ true → (high ≤ descriptor_word page) ⊎ (descriptor_word page + 3 ≤ low)) → LaysRuns (record { shape = shape; words = old }) runs → LaysRuns (record { shape = shape; words = new }) runs
LaysRuns-away shape old new runs low high h past apart =
    LaysRuns-kept shape old new runs h.same_length (same-away old new low high free_word (free_word + 3) h (inr (omega (arith, past)))) (h.others pfree_word (inl past))
    (λ page c. same-descriptor old new page (same-away old new low high (descriptor_word page) (descriptor_word page + 3) h (apart page c)))

pub LaysStat-away : (old new : List ℕ) (class : ℕ) (stat : Stat) (low high : ℕ) → ChangesFrom old new low high → (high ≤ stat_word class) ⊎ (stat_word class + 4 ≤ low) → LaysStat old class stat → LaysStat new class stat
LaysStat-away old new class stat low high h apart = LaysStat-kept old new class stat (same-away old new low high (stat_word class) (stat_word class + 4) h apart)

pub LaysClass-away : (old new : List ℕ) (shape : Shape) (class : ℕ) (pages : List ℕ) (low high : ℕ) → ChangesFrom old new low high → (high ≤ head_word class) ⊎ (head_word class + 3 ≤ low) → ((page : ℕ) → In page pages → (high ≤ descriptor_word page) ⊎ (descriptor_word page + 3 ≤ low)) → LaysClass old shape class pages → LaysClass new shape class pages
LaysClass-away old new shape class pages low high h head apart =
    LaysClass-kept old new shape class pages (same-away old new low high (head_word class) (head_word class + 3) h head)
    (λ page m. same-links old new (descriptor page) (same-descriptor old new page (same-away old new low high (descriptor_word page) (descriptor_word page + 3) h (apart page m))))

pub LaysClassPage-away : (old new : List ℕ) (shape : Shape) (page class : ℕ) (used : List ℕ) (low high : ℕ) → ChangesFrom old new low high → (high ≤ descriptor_word page) ⊎ (descriptor_word page + 3 ≤ low) → (kind_of shape class ≡ small → (high ≤ page_word shape page) ⊎ (page_word shape page + bitmap_words shape class ≤ low)) → LaysClassPage old shape page class used → LaysClassPage new shape page class used
LaysClassPage-away old new shape page class used low high h apart map =
    LaysClassPage-kept old new shape page class used (same-descriptor old new page (same-away old new low high (descriptor_word page) (descriptor_word page + 3) h apart))
    (λ is. same-away old new low high (page_word shape page) (page_word shape page + bitmap_words shape class) h (map is))

-- ---- the whole slab

-- the pages that a class lists are pages of the zone
pub listed-below : (slab : Slab) (class page : ℕ) → IsSound slab → class < classes_in slab → In page (list_of slab class) → page < pages_in slab
listed-below slab class page sound known m = omega (arith, page_at-in slab.pages page (λ e. none slab.shape class (sym (ap (has_room slab.shape class) e) ∙ ((sound.lists class known).just page).0 m)), sound.page_count) where
  none : (shape : Shape) (class : ℕ) → has_room shape class Free ≡ true → ⊥
  none shape class h = cc

-- the slab stays laid out where all words that its layout speaks of stay
pub LaysSlab-kept : (slab : Slab) (old new : List ℕ) → IsSound slab → SameLaid old new slab → LaysSlab old slab → LaysSlab new slab
LaysSlab-kept slab old new sound same h =
    let low = λ (w : ℕ) (below : w < descriptor_word (pages_in slab)) (past : data_word < w). same.low w below (λ e. omega (arith, past, e)) (λ e. omega (arith, past, e)) in
    let of_page = λ (page : ℕ) (below : page < pages_in slab). same-descriptor old new page (λ w a b. low w (omega (arith, b, below)) (omega (arith, a))) in
    record {
      header = LaysHeader-kept slab.shape old new (λ w less list not_log not_data. same.low w (omega (arith, less)) not_log not_data) h.header;
      runs = LaysRuns-kept slab.shape old new slab.runs same.same_length (λ w a b. same.low w (omega (arith, b)) (λ e. omega (arith, b, e)) (λ e. omega (arith, b, e))) (same.low pfree_word (omega arith) (λ e. omega (arith, e)) (λ e. omega (arith, e))) (λ page c. of_page page (covered-within (pages_in slab) slab.runs page sound.runs c)) h.runs;
      lists = λ class known. LaysClass-kept old new slab.shape class (list_of slab class) (λ w a b. low w (omega (arith, b, known)) (omega (arith, a))) (λ page m. same-links old new (descriptor page) (of_page page (listed-below slab class page sound known m))) (h.lists class known);
      stats = λ class known. LaysStat-kept old new class (stat_of slab class) (λ w a b. low w (omega (arith, b, known)) (omega (arith, a))) (h.stats class known);
      used_runs = λ page count is. let f = sound.used_runs.followed page count is in HasUsedRun-kept old new page count f.0 (λ other a b. of_page other (omega (arith, b, f.1))) (h.used_runs page count is);
      classes = λ page class used is. LaysClassPage-kept old new slab.shape page class used (of_page page (class_page-in slab class page used sound is)) (same.bitmaps page class used is) (h.classes page class used is);
    }

-- a slab with other statistics of a class
abbrev pub with_stat : Slab → ℕ → Stat → Slab
with_stat slab class stat = record { shape = slab.shape; pages = slab.pages; runs = slab.runs; lists = slab.lists; stats = set slab.stats class stat }

-- where the statistics of a class change alone, the slab with the new ones is laid out
pub LaysSlab-stat : (slab : Slab) (old new : List ℕ) (class : ℕ) (stat : Stat) → IsInLimits slab.shape → class < classes_in slab → class < length slab.stats → ChangesStat old new class → LaysStat new class stat → LaysSlab old slab → LaysSlab new (with_stat slab class stat)
LaysSlab-stat slab old new class stat limits known room h now l =
    let low = stat_word class in
    let high = stat_word class + 4 in
    let page_same = λ (page : ℕ). same-descriptor old new page (same-away old new low high (descriptor_word page) (descriptor_word page + 3) h (inl (omega (arith, known)))) in
    record {
      header = LaysHeader-away slab.shape old new low high h (omega arith) l.header;
      runs = LaysRuns-away slab.shape old new slab.runs low high h (omega arith) (λ page _. inl (omega (arith, known))) l.runs;
      lists = λ c ok. LaysClass-away old new slab.shape c (list_of slab c) low high h (inr (omega (arith, ok))) (λ page _. inl (omega (arith, known))) (l.lists c ok);
      stats = λ c ok. elim (cases_eq c class) [
        | inl e ↦ subst (λ (k : ℕ). LaysStat new k (get_or (set slab.stats class stat) k no_stat)) (sym e) (subst (λ (t : Stat). LaysStat new class t) (sym (get_or-set_same slab.stats class stat no_stat room)) now)
        | inr ne ↦ subst (λ (t : Stat). LaysStat new c t) (sym (get_or-set_other slab.stats class c stat no_stat ne)) (LaysStat-away old new c (stat_of slab c) low high h (elim (cases_lt c class) [ inl less ↦ inr (omega (arith, less)) | inr more ↦ inl (omega (arith, more, ne)) ]) (l.stats c ok))
      ];
      used_runs = λ page count is. let was = l.used_runs page count is in record {
        first = HasWords-kept old new (descriptor page) _ _ _ (page_same page) was.first;
        later = λ other a b. HasWords-kept old new (descriptor other) _ _ _ (page_same other) (was.later other a b);
      };
      classes = λ page c used is. LaysClassPage-away old new slab.shape page c used low high h (inl (omega (arith, known))) (λ _. inl (omega (arith, known, pages-behind slab.shape page limits))) (l.classes page c used is);
    }
