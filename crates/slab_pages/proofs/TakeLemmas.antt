-- What `Pages::take` and `Pages::put` leave of a slab that is laid out.
use Rattle.std.proofs.Common.{ℕ, ◌≡◌, ◌⊎◌, ◌+◌, ◌<◌, ◌≤◌, true, false, not, ◌&&◌, ◌||◌, List, length, refl, sym, ap, subst, arith, inl, inr, ◌∙◌, Some}
use Rattle.std.proofs.lemmas.Bool.{cases_eq, cases_lt}
use Rattle.slab_model.specs.declared.shape.Shape.{Shape}
use Rattle.slab_model.specs.declared.runs.Run.{Run}
use Rattle.slab_model.specs.declared.stat.Stat.{Stat}
use Rattle.slab_model.specs.declared.page.PageState.{PageState}
use Rattle.slab_model.specs.declared.page.PageState.TheVariants.{Free, First, Later, Class}
use Rattle.slab_model.specs.Geometry.{pages_of, IsInLimits, class_count}
use Rattle.zone_region.specs.Members.{In}
use Rattle.slab_model.specs.Runs.{AreSound, is_covered, is_within, first_fit, take_run, give_run}
use Rattle.slab_model.specs.State.{Slab, classes_in, pages_in, list_of, stat_of, page_at, fill_pages}
use Rattle.slab_model.specs.Soundness.{IsSound, has_room}
use Rattle.slab_model.specs.Counting.{is_free}
use Rattle.slab_model.specs.Grant.{grant_run, use_pages}
use Rattle.slab_model.specs.Return.{give_pages}
use Rattle.slab_model.proofs.StateLemmas.{page_at-in}
use Rattle.slab_model.proofs.PageLemmas.{Place, out, within, place_of, page_at-use_out, page_at-use_first, page_at-use_later, page_at-fill_in, page_at-fill_out}
use Rattle.slab_model.proofs.RunLemmas.{first_fit-in, is_within-not, is_covered-give}
use Rattle.slab_pages.specs.Places.{pfree_word, head_word, stat_word, descriptor_word, page_word, bitmap_words, descriptor, KeepsOthers, is_run_word}
use Rattle.slab_pages.specs.Layout.{LaysRuns, HasUsedRun}
use Rattle.slab_pages.specs.SlabLayout.{LaysHeader, LaysStat, LaysClass, LaysClassPage, LaysSlab}
use Rattle.slab_pages.specs.Frames.{SameFrom, SameWords}
use Rattle.slab_pages.proofs.SetLemmas.{list_word-past, run_word-before, run_word-used, run_word-past}
use Rattle.slab_pages.proofs.FrameLemmas.{same-descriptor, same-links, pages-behind, LaysHeader-kept, LaysStat-kept, LaysClass-kept, HasUsedRun-kept, LaysClassPage-kept}

-- ---- words that stay where only free runs and the page list change

pub same-others : (runs : List Run) (old new : List ℕ) (low high : ℕ) → KeepsOthers runs old new → pfree_word < low → ((w : ℕ) → low ≤ w → w < high → is_run_word runs w ≡ false) → SameFrom old new low high
same-others runs old new low high h past free = λ w a b. h.others w (list_word-past w (omega (arith, a, past))) (free w a b)

pub descriptor-others : (runs : List Run) (old new : List ℕ) (page : ℕ) → KeepsOthers runs old new → is_covered page runs ≡ false → SameWords old new (descriptor page)
descriptor-others runs old new page h free = same-descriptor old new page (same-others runs old new (descriptor_word page) (descriptor_word page + 3) h (omega arith) (λ w a b. run_word-used runs page w free a b))

pub LaysHeader-others : (shape : Shape) (runs : List Run) (old new : List ℕ) → KeepsOthers runs old new → LaysHeader shape old → LaysHeader shape new
LaysHeader-others shape runs old new h = LaysHeader-kept shape old new (λ w less list _ _. h.others w list (run_word-before runs w (omega (arith, less))))

pub LaysStat-others : (shape : Shape) (runs : List Run) (old new : List ℕ) (class : ℕ) (stat : Stat) → KeepsOthers runs old new → class < class_count shape → LaysStat old class stat → LaysStat new class stat
LaysStat-others shape runs old new class stat h known = LaysStat-kept old new class stat (same-others runs old new (stat_word class) (stat_word class + 4) h (omega arith) (λ w a b. run_word-before runs w (omega (arith, b, known))))

pub LaysClass-others : (shape : Shape) (runs : List Run) (old new : List ℕ) (class : ℕ) (pages : List ℕ) → KeepsOthers runs old new → class < class_count shape → ((page : ℕ) → In page pages → is_covered page runs ≡ false) → LaysClass old shape class pages → LaysClass new shape class pages
LaysClass-others shape runs old new class pages h known free =
    LaysClass-kept old new shape class pages (same-others runs old new (head_word class) (head_word class + 3) h (omega arith) (λ w a b. run_word-before runs w (omega (arith, b, known))))
    (λ page m. same-links old new (descriptor page) (descriptor-others runs old new page h (free page m)))

pub HasUsedRun-others : (runs : List Run) (old new : List ℕ) (page count : ℕ) → KeepsOthers runs old new → 0 < count → ((other : ℕ) → page ≤ other → other < page + count → is_covered other runs ≡ false) → HasUsedRun old page count → HasUsedRun new page count
HasUsedRun-others runs old new page count h some free = HasUsedRun-kept old new page count some (λ other a b. descriptor-others runs old new other h (free other a b))

pub LaysClassPage-others : (shape : Shape) (runs : List Run) (old new : List ℕ) (page class : ℕ) (used : List ℕ) → IsInLimits shape → AreSound (pages_of shape) runs → KeepsOthers runs old new → is_covered page runs ≡ false → LaysClassPage old shape page class used → LaysClassPage new shape page class used
LaysClassPage-others shape runs old new page class used limits sound h free =
    let behind = pages-behind shape page limits in
    LaysClassPage-kept old new shape page class used (descriptor-others runs old new page h free)
    (λ _. same-others runs old new (page_word shape page) (page_word shape page + bitmap_words shape class) h (omega (arith, behind)) (λ w a b. run_word-past (pages_of shape) runs w sound (omega (arith, a, behind))))

-- ---- pages that aren't free

-- a page that isn't free is in no free run
pub uncovered : (slab : Slab) (page : ℕ) → IsSound slab → is_free (page_at slab.pages page) ≡ false → is_covered page slab.runs ≡ false
uncovered slab page sound not = sym (sound.free page (omega (arith, page_at-in slab.pages page (λ e. differ (sym (ap is_free e) ∙ not)), sound.page_count))) ∙ not where
  differ : is_free Free ≡ false → ⊥
  differ e = cc

-- a listed page isn't free
pub listed-used : (slab : Slab) (class page : ℕ) → IsSound slab → class < classes_in slab → In page (list_of slab class) → is_free (page_at slab.pages page) ≡ false
listed-used slab class page sound known m = used (page_at slab.pages page) (((sound.lists class known).just page).0 m) where
  used : (state : PageState) → has_room slab.shape class state ≡ true → is_free state ≡ false
  used Free h = absurd (cc)
  used (First n) h = refl
  used Later h = refl
  used (Class own indexes) h = refl

-- no page of a used run is free
pub run-used : (slab : Slab) (page count other : ℕ) → IsSound slab → page_at slab.pages page ≡ First count → page ≤ other → other < page + count → is_free (page_at slab.pages other) ≡ false
run-used slab page count other sound is low high = elim (cases_eq other page) [
  | inl e ↦ ap (λ k. is_free (page_at slab.pages k)) e ∙ ap is_free is
  | inr ne ↦ ap is_free ((sound.used_runs.followed page count is).2 other (omega (arith, low, ne)) high)
]

-- ---- the whole slab

-- whole pages that `take` gave
pub LaysSlab-take : (slab : Slab) (old new : List ℕ) (n page : ℕ) → IsSound slab → LaysSlab old slab → 0 < n → first_fit n slab.runs ≡ Some page → LaysRuns (record { shape = slab.shape; words = new }) (take_run n slab.runs) → HasUsedRun new page n → KeepsOthers slab.runs old new → LaysSlab new (grant_run slab n (Some page)).1
LaysSlab-take slab old new n page sound l some fit laid used h =
    let room : page + n ≤ length slab.pages = omega (arith, first_fit-in (pages_in slab) n slab.runs page sound.runs fit, sound.page_count) in
    record {
      header = LaysHeader-others slab.shape slab.runs old new h l.header;
      runs = laid;
      lists = λ class known. LaysClass-others slab.shape slab.runs old new class (list_of slab class) h known (λ q m. uncovered slab q sound (listed-used slab class q sound known m)) (l.lists class known);
      stats = λ class known. LaysStat-others slab.shape slab.runs old new class (stat_of slab class) h known (l.stats class known);
      used_runs = λ q count is. runs_of q count room is (place_of q page n);
      classes = λ q class indexes is. class_of q class indexes room is (place_of q page n);
    } where
      runs_of : (q count : ℕ) → page + n ≤ length slab.pages → page_at (use_pages page n slab.pages) q ≡ First count → Place q page n → HasUsedRun new q count
      runs_of q count room is (out o) =
          let was = sym (page_at-use_out page n slab.pages q some o) ∙ is in
          HasUsedRun-others slab.runs old new q count h (sound.used_runs.followed q count was).0 (λ other a b. uncovered slab other sound (run-used slab q count other sound was a b)) (l.used_runs q count was)
      runs_of q count room is (within low high) = elim (cases_eq q page) [
        | inl e ↦
            let first = page_at-use_first page n slab.pages (omega (arith, room, some)) in
            let same : First n ≡ First count = sym first ∙ ap (λ k. page_at (use_pages page n slab.pages) k) (sym e) ∙ is in
            let n_is : n ≡ count = cc in
            subst (λ (k : ℕ). HasUsedRun new k count) (sym e) (subst (λ (k : ℕ). HasUsedRun new page k) n_is used)
        | inr ne ↦ absurd (later_first count (sym (page_at-use_later page n slab.pages q room (omega (arith, low, ne)) high) ∙ is))
      ] where
        later_first : (count : ℕ) → Later ≡ First count → ⊥
        later_first count e = cc

      class_of : (q class : ℕ) (indexes : List ℕ) → page + n ≤ length slab.pages → page_at (use_pages page n slab.pages) q ≡ Class class indexes → Place q page n → LaysClassPage new slab.shape q class indexes
      class_of q class indexes room is (out o) =
          let was = sym (page_at-use_out page n slab.pages q some o) ∙ is in
          LaysClassPage-others slab.shape slab.runs old new q class indexes sound.limits sound.runs h (uncovered slab q sound (ap is_free was)) (l.classes q class indexes was)
      class_of q class indexes room is (within low high) = elim (cases_eq q page) [
        | inl e ↦ absurd (first_class n class indexes (sym (page_at-use_first page n slab.pages (omega (arith, room, some))) ∙ ap (λ k. page_at (use_pages page n slab.pages) k) (sym e) ∙ is))
        | inr ne ↦ absurd (later_class class indexes (sym (page_at-use_later page n slab.pages q room (omega (arith, low, ne)) high) ∙ is))
      ] where
        first_class : (n class : ℕ) (indexes : List ℕ) → First n ≡ Class class indexes → ⊥
        first_class n class indexes e = cc

        later_class : (class : ℕ) (indexes : List ℕ) → Later ≡ Class class indexes → ⊥
        later_class class indexes e = cc

-- a page outside the run that isn't free is in no free run once the run came back
pub uncovered-give : (slab : Slab) (run : Run) (page : ℕ) → IsSound slab → is_free (page_at slab.pages page) ≡ false → (page < run.first) ⊎ (run.first + run.pages ≤ page) → is_covered page (give_run run slab.runs) ≡ false
uncovered-give slab run page sound not apart =
    is_covered-give (pages_in slab) page run slab.runs sound.runs ∙ ap (λ b. b || is_within page run.first run.pages) (uncovered slab page sound not) ∙ is_within-not page run.first run.pages apart

-- a page that a class lists lies outside each used run
pub listed-apart : (slab : Slab) (class page first n : ℕ) → IsSound slab → class < classes_in slab → In page (list_of slab class) → page_at slab.pages first ≡ First n → (page < first) ⊎ (first + n ≤ page)
listed-apart slab class page first n sound known m is = elim (place_of page first n) [
  | out o ↦ o
  | within low high ↦ absurd (elim (cases_eq page first) [
    | inl e ↦ no_first class n (sym (ap (has_room slab.shape class) is) ∙ ap (λ k. has_room slab.shape class (page_at slab.pages k)) (sym e) ∙ room)
    | inr ne ↦ no_later class (sym (ap (has_room slab.shape class) ((sound.used_runs.followed first n is).2 page (omega (arith, low, ne)) high)) ∙ room)
  ])
] where
  room : has_room slab.shape class (page_at slab.pages page) ≡ true
  room = ((sound.lists class known).just page).0 m

  no_first : (class n : ℕ) → has_room slab.shape class (First n) ≡ true → ⊥
  no_first class n e = cc

  no_later : (class : ℕ) → has_room slab.shape class Later ≡ true → ⊥
  no_later class e = cc

-- two used runs have no page in common
pub used_runs-apart : (slab : Slab) (q count first n other : ℕ) → IsSound slab → page_at slab.pages q ≡ First count → page_at slab.pages first ≡ First n → (q < first) ⊎ (first + n ≤ q) → q ≤ other → other < q + count → (other < first) ⊎ (first + n ≤ other)
used_runs-apart slab q count first n other sound is at apart low high = elim apart [
  | inl l ↦ elim (cases_lt first (q + count)) [
    | inl over ↦ absurd (later_first n (sym ((sound.used_runs.followed q count is).2 first l over) ∙ at))
    | inr past ↦ inl (omega (arith, past, high))
  ]
  | inr g ↦ inr (omega (arith, g, low))
] where
  later_first : (n : ℕ) → Later ≡ First n → ⊥
  later_first n e = cc

-- a used run that becomes the free runs `after`
returned : (slab : Slab) (old new : List ℕ) (page n : ℕ) (after : List Run) → IsSound slab → LaysSlab old slab → page_at slab.pages page ≡ First n → LaysRuns (record { shape = slab.shape; words = new }) after → KeepsOthers after old new → ((q : ℕ) → is_free (page_at slab.pages q) ≡ false → (q < page) ⊎ (page + n ≤ q) → is_covered q after ≡ false) → LaysSlab new (record { shape = slab.shape; pages = fill_pages Free page n slab.pages; runs = after; lists = slab.lists; stats = slab.stats })
returned slab old new page n after sound l first laid h free =
    let room : page + n ≤ length slab.pages = omega (arith, (sound.used_runs.followed page n first).1, sound.page_count) in
    record {
      header = LaysHeader-others slab.shape after old new h l.header;
      runs = laid;
      lists = λ class known. LaysClass-others slab.shape after old new class (list_of slab class) h known (λ q m. free q (listed-used slab class q sound known m) (listed-apart slab class q page n sound known m first)) (l.lists class known);
      stats = λ class known. LaysStat-others slab.shape after old new class (stat_of slab class) h known (l.stats class known);
      used_runs = λ q count is. runs_of q count room is (place_of q page n);
      classes = λ q class indexes is. class_of q class indexes room is (place_of q page n);
    } where
      runs_of : (q count : ℕ) → page + n ≤ length slab.pages → page_at (fill_pages Free page n slab.pages) q ≡ First count → Place q page n → HasUsedRun new q count
      runs_of q count room is (out o) =
          let was = sym (page_at-fill_out Free page n slab.pages q o) ∙ is in
          HasUsedRun-others after old new q count h (sound.used_runs.followed q count was).0 (λ other a b. free other (run-used slab q count other sound was a b) (used_runs-apart slab q count page n other sound was first o a b)) (l.used_runs q count was)
      runs_of q count room is (within low high) = absurd (free_first count (sym (page_at-fill_in Free page n slab.pages q room low high) ∙ is)) where
        free_first : (count : ℕ) → Free ≡ First count → ⊥
        free_first count e = cc

      class_of : (q class : ℕ) (indexes : List ℕ) → page + n ≤ length slab.pages → page_at (fill_pages Free page n slab.pages) q ≡ Class class indexes → Place q page n → LaysClassPage new slab.shape q class indexes
      class_of q class indexes room is (out o) =
          let was = sym (page_at-fill_out Free page n slab.pages q o) ∙ is in
          LaysClassPage-others slab.shape after old new q class indexes sound.limits laid.sound h (free q (ap is_free was) o) (l.classes q class indexes was)
      class_of q class indexes room is (within low high) = absurd (free_class class indexes (sym (page_at-fill_in Free page n slab.pages q room low high) ∙ is)) where
        free_class : (class : ℕ) (indexes : List ℕ) → Free ≡ Class class indexes → ⊥
        free_class class indexes e = cc

-- a used run that `put` took back
pub LaysSlab-put : (slab : Slab) (old new : List ℕ) (page n : ℕ) → IsSound slab → LaysSlab old slab → page_at slab.pages page ≡ First n → LaysRuns (record { shape = slab.shape; words = new }) (give_run (record { first = page; pages = n }) slab.runs) → KeepsOthers (give_run (record { first = page; pages = n }) slab.runs) old new → LaysSlab new (give_pages slab page n)
LaysSlab-put slab old new page n sound l first laid h = returned slab old new page n (give_run (record { first = page; pages = n }) slab.runs) sound l first laid h (λ q not apart. uncovered-give slab (record { first = page; pages = n }) q sound not apart)
