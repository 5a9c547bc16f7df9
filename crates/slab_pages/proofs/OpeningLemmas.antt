-- The words of a fresh zone.
use Rattle.std.proofs.Common.{ℕ, ◌≡◌, ◌≢◌, zero, suc, ◌+◌, ◌/◌, ◌<◌, ◌≤◌, true, false, List, [], ◌∷◌, length, get_or, set, take, sym, ap, subst, ◌∙◌, refl, arith, inl, inr}
use Rattle.std.specs.Prelude.{nat_eq, if◌then◌else◌, replicate}
use Rattle.std.proofs.lemmas.Grind.{common_steps}
use Rattle.std.proofs.lemmas.Bool.{cases_eq}
use Rattle.std.proofs.lemmas.List.{length-set, length-replicate}
use Rattle.slab_model.specs.declared.shape.Shape.{Shape}
use Rattle.slab_model.specs.declared.runs.Run.{Run}
use Rattle.slab_model.specs.declared.page.PageState.TheVariants.{Free, First, Class}
use Rattle.slab_model.specs.Geometry.{pages_of, most_pages, start_of, IsInLimits, class_count}
use Rattle.slab_model.specs.Runs.{page_total}
use Rattle.slab_model.specs.State.{no_stat}
use Rattle.slab_pages.specs.Places.{free_head, pfree_word, descriptor, is_list_word, is_run_word, descriptor_word, descriptor_page, free_word, head_word, stat_word, byte_of, class_head, min_size_word, min_shift_word, pages_word, last_word, stats_word, start_word, end_word, mutex_word, log_ctx_word, data_word, lock_word, wait_word, zero_word, log_nomem_word, addr_word}
use Rattle.slab_pages.specs.RunSteps.{LaysList, IsCleared, Relists}
use Rattle.slab_pages.specs.SlabLayout.{LaysClass, LaysStat, IsOpened}
use Rattle.slab_pages.specs.Opening.{all_below, put_all, WritesHeads, IsPrepared}
use Rattle.slab_pages.proofs.PlaceLemmas.{descriptor-word}
use Rattle.slab_pages.proofs.WriteLemmas.{get-written, get-read, length-written}
use Rattle.slab_pages.proofs.GiveLemmas.{counted_list}
use Rattle.slab_pages.proofs.PagesLemmas.{pages-room, list-runs}

-- the value of a word once the entries are written
abbrev pub found : List (ℕ × ℕ) → ℕ → ℕ → ℕ
found [] w before = before
found (e ∷ es) w before = found es w (if nat_eq w e.0 then e.1 else before)

pub length-put : (es : List (ℕ × ℕ)) (words : List ℕ) → length (put_all es words) ≡ length words
length-put [] words = refl
length-put (e ∷ es) words = length-put es (set words e.0 e.1) ∙ length-set words e.0 e.1

pub get-put : (n : ℕ) (es : List (ℕ × ℕ)) (words : List ℕ) (w : ℕ) → n ≤ length words → all_below n es ≡ true → get_or (put_all es words) w 0 ≡ found es w (get_or words w 0)
get-put n [] words w room below = refl
get-put n (e ∷ es) words w room below =
    get-put n es (set words e.0 e.1) w (omega (arith, room, length-set words e.0 e.1)) (rest n e es below) ∙ ap (λ v. found es w v) (one words e.0 e.1 w (first n e es below room)) where
      rest : (n : ℕ) (e : ℕ × ℕ) (es : List (ℕ × ℕ)) → all_below n (e ∷ es) ≡ true → all_below n es ≡ true
      rest n e es h = grind (arith, common_steps)

      first : (n : ℕ) (e : ℕ × ℕ) (es : List (ℕ × ℕ)) → all_below n (e ∷ es) ≡ true → n ≤ length words → e.0 < length words
      first n e es h room = grind (arith, common_steps)

      one : (words : List ℕ) (i v w : ℕ) → i < length words → get_or (set words i v) w 0 ≡ (if nat_eq w i then v else get_or words w 0)
      one words i v w h = elim (cases_eq w i) [
        | inl e ↦ subst (λ (k : ℕ). get_or (set words i v) k 0 ≡ (if nat_eq k i then v else get_or words k 0)) (sym e) (get-read words (set words i v) i v refl h ∙ sym (same i v (get_or words i 0)))
        | inr ne ↦ get-written words (set words i v) i v w refl ne ∙ sym (other w i v (get_or words w 0) ne)
      ] where
        same : (i v d : ℕ) → (if nat_eq i i then v else d) ≡ v
        same i v d = grind (arith, common_steps)

        other : (w i v d : ℕ) → w ≢ i → (if nat_eq w i then v else d) ≡ d
        other w i v d ne = grind (arith, common_steps)

-- every word of zeros is 0
get-zeros : {X : Type 0} → (n i : ℕ) (x : X) → get_or (replicate n x) i x ≡ x
get-zeros zero i x = refl
get-zeros (suc n) zero x = refl
get-zeros (suc n) (suc i) x = get-zeros n i x

-- one more head is written
pub heads_more : (old mid new : List ℕ) (count : ℕ) → WritesHeads old mid count → head_word count + 1 < length mid → new ≡ set mid (head_word count + 1) (class_head count) → WritesHeads old new (count + 1)
heads_more old mid new count h room is = record {
  same_length = length-written mid new (head_word count + 1) (class_head count) is ∙ h.same_length;
  heads = λ class low. elim (cases_eq class count) [
    | inl e ↦ subst (λ (k : ℕ). get_or new (head_word k + 1) 0 ≡ class_head k) (sym e) (get-read mid new (head_word count + 1) (class_head count) is room)
    | inr ne ↦ get-written mid new (head_word count + 1) (class_head count) (head_word class + 1) is (λ e. ne (omega (arith, e))) ∙ h.heads class (omega (arith, low, ne))
  ];
  others = λ w far. get-written mid new (head_word count + 1) (class_head count) w is (far count (omega arith)) ∙ h.others w (λ class less. far class (omega (arith, less)));
}

-- the header's entries
abbrev pub header_entries : Shape → List (ℕ × ℕ)
header_entries shape = (min_size_word, 8) ∷ (min_shift_word, 3) ∷ (pages_word, descriptor 0) ∷ (last_word, descriptor (pages_of shape)) ∷ (free_word + 1, free_head) ∷ (stats_word, byte_of (stat_word 0)) ∷ (start_word, start_of shape) ∷ (end_word, shape.bytes) ∷ []

pub prepared : (shape : Shape) (zeros mid new : List ℕ) → IsInLimits shape → zeros ≡ replicate (shape.bytes / 8) 0 → mid ≡ put_all (header_entries shape) zeros → WritesHeads mid new (class_count shape) → IsPrepared shape new
prepared shape zeros mid new limits z is heads =
    let low = limits.large in
    let sized : length zeros ≡ shape.bytes / 8 = ap (λ ws. length ws) z ∙ length-replicate (shape.bytes / 8) 0 in
    let none = λ (w : ℕ). ap (λ ws. get_or ws w 0) z ∙ get-zeros (shape.bytes / 8) w 0 in
    let at = λ (w : ℕ). ap (λ ws. get_or ws w 0) is ∙ get-put (descriptor_word 0) (header_entries shape) zeros w (omega (arith, sized, low)) refl ∙ ap (λ v. found (header_entries shape) w v) (none w) in
    let far = λ (w : ℕ) (big : mutex_word ≤ w). at w ∙ missing shape w big in
    let small = λ (w : ℕ) (less : w ≤ head_word 0). heads.others w (λ class _ e. omega (arith, less, e)) ∙ at w in
    record {
      sized = heads.same_length ∙ ap (λ ws. length ws) is ∙ length-put (header_entries shape) zeros ∙ sized;
      header = record {
        lock = small lock_word (omega arith);
        wait = small wait_word (omega arith);
        min_size = small min_size_word (omega arith);
        min_shift = small min_shift_word (omega arith);
        pages = small pages_word (omega arith);
        last = small last_word (omega arith);
        stats = small stats_word (omega arith);
        start = small start_word (omega arith);
        end = small end_word (omega arith);
        mutex = λ w above below. heads.others w (λ class _ e. omega (arith, below, e)) ∙ far w above;
        zero = small zero_word (omega arith);
        log_nomem = small log_nomem_word (omega arith);
        addr = small addr_word (omega arith);
      };
      list = record { slab_is = small free_word (omega arith); next_is = small (free_word + 1) (omega arith); prev_is = small (free_word + 2) (omega arith) };
      heads = λ class less. record {
        slab_is = subst (λ (w : ℕ). get_or new w 0 ≡ 0) (omega arith) (heads.others (head_word class) (λ k _ e. omega (arith, e)) ∙ far (head_word class) (omega arith));
        next_is = subst (λ (w : ℕ). get_or new w 0 ≡ class_head class) (omega arith) (heads.heads class less);
        prev_is = subst (λ (w : ℕ). get_or new w 0 ≡ 0) (omega arith) (heads.others (head_word class + 2) (λ k _ e. omega (arith, e)) ∙ far (head_word class + 2) (omega arith));
      };
      log_ctx = small log_ctx_word (omega arith);
      data_is = small data_word (omega arith);
      rest = λ w big. heads.others w (λ class less e. omega (arith, big, less, e)) ∙ far w (omega (arith, big));
    } where
      missing : (shape : Shape) (w : ℕ) → mutex_word ≤ w → found (header_entries shape) w 0 ≡ 0
      missing shape w big = grind (arith, common_steps)

-- ---- the fresh slab

pub pages-some : (shape : Shape) → IsInLimits shape → 0 < pages_of shape
unfolding pages_of most_pages start_of
pages-some shape limits = let large = limits.large in omega arith

pub prepared-list : (shape : Shape) (words : List ℕ) → IsInLimits shape → IsPrepared shape words → LaysList (pages_of shape) words []
prepared-list shape words limits h = let r = pages-room shape limits in record {
  small = r.0;
  room = omega (arith, r.1, h.sized);
  sound = tt;
  slab_is = h.list.slab_is;
  prev_is = h.list.prev_is;
  linked = h.list.next_is;
}

pub prepared-clear : (shape : Shape) (words : List ℕ) → IsInLimits shape → IsPrepared shape words → IsCleared (pages_of shape) words [] (record { first = 0; pages = pages_of shape })
prepared-clear shape words limits h = record {
  some = pages-some shape limits;
  within = omega arith;
  apart = tt;
  cleared = λ page above below. record {
    slab_is = h.rest (descriptor page / 8) (omega (arith, descriptor-word page));
    next_is = h.rest (descriptor page / 8 + 1) (omega (arith, descriptor-word page));
    prev_is = h.rest (descriptor page / 8 + 2) (omega (arith, descriptor-word page));
  };
}

pub opened-lays : (shape : Shape) (words listed new : List ℕ) → IsInLimits shape → IsPrepared shape words → Relists (pages_of shape) (record { first = 0; pages = pages_of shape } ∷ []) (record { first = 0; pages = pages_of shape } ∷ []) words listed → new ≡ set listed pfree_word (pages_of shape) → IsOpened shape (record { shape = shape; words = new })
opened-lays shape words listed new limits h re is =
    let run : Run = record { first = 0; pages = pages_of shape } in
    let runs : List Run = run ∷ [] in
    let r = pages-room shape limits in
    let same = λ (w : ℕ) (list : is_list_word w ≡ false) (out : is_run_word runs w ≡ false). get-written listed new pfree_word (pages_of shape) w is (not_pfree w list) ∙ re.kept.others w list out in
    let low_word = λ (w : ℕ) (list : is_list_word w ≡ false) (less : w < descriptor_word 0). same w list (before runs w less) in
    let sized : length listed ≡ shape.bytes / 8 = re.kept.same_length ∙ h.sized in
    let counted : get_or new pfree_word 0 ≡ page_total runs = get-read listed new pfree_word (pages_of shape) is (omega (arith, sized, r.1)) ∙ omega arith in
    record {
      shape_is = refl;
      laid = record {
        header = record {
          lock = low_word lock_word refl (omega arith) ∙ h.header.lock;
          wait = low_word wait_word refl (omega arith) ∙ h.header.wait;
          min_size = low_word min_size_word refl (omega arith) ∙ h.header.min_size;
          min_shift = low_word min_shift_word refl (omega arith) ∙ h.header.min_shift;
          pages = low_word pages_word refl (omega arith) ∙ h.header.pages;
          last = low_word last_word refl (omega arith) ∙ h.header.last;
          stats = low_word stats_word refl (omega arith) ∙ h.header.stats;
          start = low_word start_word refl (omega arith) ∙ h.header.start;
          end = low_word end_word refl (omega arith) ∙ h.header.end;
          mutex = λ w above below. low_word w (large w (omega (arith, above))) (omega (arith, below)) ∙ h.header.mutex w above below;
          zero = low_word zero_word refl (omega arith) ∙ h.header.zero;
          log_nomem = low_word log_nomem_word refl (omega arith) ∙ h.header.log_nomem;
          addr = low_word addr_word refl (omega arith) ∙ h.header.addr;
        };
        runs = list-runs shape new runs (length-written listed new pfree_word (pages_of shape) is ∙ sized) (counted_list (pages_of shape) listed new runs (pages_of shape) re.laid is) counted;
        lists = λ class less.
            let head = h.heads class less in
            subst (λ (pages : List ℕ). LaysClass new shape class pages) (sym (get-zeros (class_count shape) class [])) (record {
              slab_is = low_word (class_head class / 8) (large (class_head class / 8) (omega arith)) (omega (arith, less)) ∙ head.slab_is;
              prev_is = low_word (class_head class / 8 + 2) (large (class_head class / 8 + 2) (omega arith)) (omega (arith, less)) ∙ head.prev_is;
              linked = low_word (class_head class / 8 + 1) (large (class_head class / 8 + 1) (omega arith)) (omega (arith, less)) ∙ head.next_is;
            });
        stats = λ class less.
            let zero_word = λ (w : ℕ) (above : stat_word 0 ≤ w) (below : w < descriptor_word 0). low_word w (large w (omega (arith, above))) below ∙ h.rest w above in
            subst (λ (stat : _). LaysStat new class stat) (sym (get-zeros (class_count shape) class no_stat)) (record {
              total = zero_word (stat_word class) (omega arith) (omega (arith, less));
              used = zero_word (stat_word class + 1) (omega arith) (omega (arith, less));
              reqs = zero_word (stat_word class + 2) (omega arith) (omega (arith, less));
              fails = zero_word (stat_word class + 3) (omega arith) (omega (arith, less));
            });
        used_runs = λ page count e. absurd (free_first page count (sym (get-zeros (pages_of shape) page Free) ∙ e));
        classes = λ page class used e. absurd (free_class page class used (sym (get-zeros (pages_of shape) page Free) ∙ e));
      };
      log_ctx = low_word log_ctx_word refl (omega arith) ∙ h.log_ctx;
      data_is = low_word data_word refl (omega arith) ∙ h.data_is;
      rest = λ w big. same w (large w (omega (arith, big))) (past shape w big) ∙ h.rest w (omega (arith, big));
    } where
      not_pfree : (w : ℕ) → is_list_word w ≡ false → w ≢ pfree_word
      not_pfree w list e = grind (arith, common_steps)

      large : (w : ℕ) → mutex_word ≤ w → is_list_word w ≡ false
      large w h = grind (arith, common_steps)

      before : (runs : List Run) (w : ℕ) → w < descriptor_word 0 → is_run_word runs w ≡ false
      before runs w less = grind (arith, common_steps)

      past : (shape : Shape) (w : ℕ) → descriptor_word (pages_of shape) ≤ w → is_run_word (record { first = 0; pages = pages_of shape } ∷ []) w ≡ false
      past shape w big = let far : pages_of shape ≤ descriptor_page w = omega (arith, big) in grind (arith, common_steps)

      free_first : (page count : ℕ) → Free ≡ First count → ⊥
      free_first page count e = cc

      free_class : (page class : ℕ) (used : List ℕ) → Free ≡ Class class used → ⊥
      free_class page class used e = cc

-- ---- the entries, one after another

pub below-at : (n : ℕ) (es : List (ℕ × ℕ)) (i : ℕ) → all_below n es ≡ true → i < length es → (get_or es i (0, 0)).0 < n
below-at n [] i below h = absurd (omega arith)
below-at n (e ∷ es) zero below h = grind (arith, common_steps)
below-at n (e ∷ es) (suc i) below h = below-at n es i (rest n e es below) (omega (arith, h)) where
  rest : (n : ℕ) (e : ℕ × ℕ) (es : List (ℕ × ℕ)) → all_below n (e ∷ es) ≡ true → all_below n es ≡ true
  rest n e es h = grind (arith, common_steps)

pub put-next : (es : List (ℕ × ℕ)) (words : List ℕ) (i : ℕ) → i < length es → put_all (take (suc i) es) words ≡ set (put_all (take i es) words) (get_or es i (0, 0)).0 (get_or es i (0, 0)).1
put-next [] words i h = absurd (omega arith)
put-next (e ∷ es) words zero h = refl
put-next (e ∷ es) words (suc i) h = put-next es (set words e.0 e.1) i (omega (arith, h))

-- the header's entries by what the code computes
abbrev pub entries_of : ℕ → ℕ → ℕ → ℕ → ℕ → List (ℕ × ℕ)
entries_of first last stats start bytes = (min_size_word, 8) ∷ (min_shift_word, 3) ∷ (pages_word, first) ∷ (last_word, last) ∷ (free_word + 1, free_head) ∷ (stats_word, stats) ∷ (start_word, start) ∷ (end_word, bytes) ∷ []

pub entries-equal : (shape : Shape) (first last stats start : ℕ) → first ≡ descriptor 0 → last ≡ descriptor (pages_of shape) → stats ≡ byte_of (stat_word 0) → start ≡ start_of shape → entries_of first last stats start shape.bytes ≡ header_entries shape
entries-equal shape first last stats start ef el et es =
    ap (λ a. entries_of a last stats start shape.bytes) ef ∙ ap (λ a. entries_of (descriptor 0) a stats start shape.bytes) el
    ∙ ap (λ a. entries_of (descriptor 0) (descriptor (pages_of shape)) a start shape.bytes) et
    ∙ ap (λ a. entries_of (descriptor 0) (descriptor (pages_of shape)) (byte_of (stat_word 0)) a shape.bytes) es
