-- A slab that the words lay out stays laid out where the bits or the links of one page of a class change.
use Rattle.std.proofs.Common.{ℕ, ◌≡◌, ◌≢◌, ◌⊎◌, ◌+◌, ◌/◌, ◌<◌, ◌≤◌, true, false, List, [], ◌∷◌, length, set, get_or-set_same, get_or-set_other, sym, ap, subst, arith, inl, inr, ◌∙◌}
use Rattle.std.proofs.lemmas.Bool.{cases_eq, cases_lt}
use Rattle.std.proofs.lemmas.List.{length-set}
use Rattle.zone_region.specs.Members.{In}
use Rattle.slab_model.specs.declared.shape.Shape.{Shape}
use Rattle.slab_model.specs.declared.page.PageState.{PageState}
use Rattle.slab_model.specs.declared.page.PageState.TheVariants.{Free, First, Later, Class}
use Rattle.slab_model.specs.Geometry.{IsInLimits, kind_of}
use Rattle.slab_model.specs.State.{Slab, pages_in, page_at, list_of}
use Rattle.slab_model.specs.Blocks.{is_full, used_in}
use Rattle.slab_model.specs.Soundness.{IsSound}
use Rattle.slab_model.proofs.StateLemmas.{page_at-in, has_room-is}
use Rattle.slab_pages.specs.Places.{head_word, descriptor_word, class_head, page_word, bitmap_words, descriptor, next_at, prev_at}
use Rattle.slab_pages.specs.Layout.{LaysRuns, HasUsedRun}
use Rattle.slab_pages.specs.SlabLayout.{LaysPages, LaysClass, LaysClassPage, LaysSlab, type_of}
use Rattle.slab_pages.specs.Frames.{SameWords, SameLinks}
use Rattle.slab_pages.proofs.PlaceLemmas.{descriptor-word}
use Rattle.slab_pages.proofs.FrameLemmas.{pages-behind, same-descriptor, same-links, LaysHeader-kept, LaysStat-kept, LaysClass-kept, HasUsedRun-kept, LaysBits-kept, LaysClassPage-kept}
use Rattle.slab_pool.specs.PoolSteps.{ChangesBits, RelinksPages}
use Rattle.slab_pool.specs.Links.{Linked}
use Rattle.slab_pool.proofs.KindLemmas.{numbers}

-- ---- where pages stand among one another

-- a slab whose pages, runs and lists fit together, whatever the statistics and the pages that aren't listed
pub record Placed (slab : Slab) : Type 0 where
  pub limits : IsInLimits slab.shape
  pub count : length slab.pages ≡ pages_in slab
  pub followed : (page n : ℕ) → page_at slab.pages page ≡ First n → (0 < n) × (page + n ≤ pages_in slab) × ((later : ℕ) → page < later → later < page + n → page_at slab.pages later ≡ Later)
  pub known : (page class : ℕ) (used : List ℕ) → page_at slab.pages page ≡ Class class used → class < 9
  pub listed : (class page : ℕ) → class < 9 → In page (list_of slab class) → (used : List ℕ) × (page_at slab.pages page ≡ Class class used) × (is_full slab.shape class used ≡ false)

pub placed : (slab : Slab) → IsSound slab → Placed slab
placed slab s = record {
  limits = s.limits;
  count = s.page_count;
  followed = s.used_runs.followed;
  known = λ page class used is. (s.used page class used is).known;
  listed = λ class page known m. let h = has_room-is slab.shape class (page_at slab.pages page) (((s.lists class known).just page).0 m) in (used_in (page_at slab.pages page), h.0, h.1);
}

pub class_in-zone : (slab : Slab) (page class : ℕ) (used : List ℕ) → Placed slab → page_at slab.pages page ≡ Class class used → page < pages_in slab
class_in-zone slab page class used p is = omega (arith, page_at-in slab.pages page (λ e. other (sym e ∙ is)), p.count) where
  other : Free ≡ Class class used → ⊥
  other e = cc

pub same_class : (c d : ℕ) (used more : List ℕ) → Class c used ≡ Class d more → (c ≡ d) × (used ≡ more)
same_class c d used more e = (cc, cc)

pub first_class : (n c : ℕ) (used : List ℕ) → First n ≡ Class c used → ⊥
first_class n c used e = cc

pub later_class : (c : ℕ) (used : List ℕ) → Later ≡ Class c used → ⊥
later_class c used e = cc

-- the pages of a used run are none of a class
pub run_class : (slab : Slab) (page n other class : ℕ) (used : List ℕ) → Placed slab → page_at slab.pages page ≡ First n → page ≤ other → other < page + n → page_at slab.pages other ≡ Class class used → ⊥
run_class slab page n other class used p is low high at = elim (cases_eq other page) [
  | inl e ↦ first_class n class used (sym is ∙ ap (λ k. page_at slab.pages k) (sym e) ∙ at)
  | inr ne ↦ later_class class used (sym ((p.followed page n is).2 other (omega (arith, low, ne)) high) ∙ at)
]

-- the slab with the page in this state, and with this list of pages of the class
abbrev pub with_page : Slab → ℕ → PageState → Slab
with_page slab page state = record { shape = slab.shape; pages = set slab.pages page state; runs = slab.runs; lists = slab.lists; stats = slab.stats }

abbrev pub with_list : Slab → ℕ → List ℕ → Slab
with_list slab class listed = record { shape = slab.shape; pages = slab.pages; runs = slab.runs; lists = set slab.lists class listed; stats = slab.stats }

-- a page's state once it is one of the class, or once another is
pub page_other : (slab : Slab) (page other : ℕ) (state : PageState) → other ≢ page → page_at (set slab.pages page state) other ≡ page_at slab.pages other
page_other slab page other state ne = get_or-set_other slab.pages page other state Free ne

pub page_own : (slab : Slab) (page : ℕ) (state : PageState) → Placed slab → page < pages_in slab → page_at (set slab.pages page state) page ≡ state
page_own slab page state p low = get_or-set_same slab.pages page state Free (omega (arith, low, p.count))

-- ---- the bits of a page change

-- two pages of a zone have no word in common, as far as bitmaps go
bitmaps-apart : (shape : Shape) (page other class own w : ℕ) → class < 9 → own < 9 → other ≢ page → page_word shape other ≤ w → w < page_word shape other + bitmap_words shape own → (w < page_word shape page) ⊎ (page_word shape page + bitmap_words shape class ≤ w)
bitmaps-apart shape page other class own w known ok ne low high =
    let few = (numbers shape class known).words in
    let less = (numbers shape own ok).words in
    elim (cases_lt other page) [ inl l ↦ inl (omega (arith, l, less, high)) | inr g ↦ inr (omega (arith, g, ne, few, low)) ]

pub LaysSlab-bits : (slab : Slab) (class page : ℕ) (used : List ℕ) (old new : List ℕ) → Placed slab → class < 9 → page < pages_in slab → (page_at slab.pages page ≢ Later) → LaysSlab old slab → LaysRuns (record { shape = slab.shape; words = new }) slab.runs → ChangesBits slab.shape class page old new → LaysClassPage new slab.shape page class used → LaysSlab new (with_page slab page (Class class used))
LaysSlab-bits slab class page used old new p known below not_later l runs c now =
    let low = λ (w : ℕ) (in_low : w < descriptor_word (pages_in slab)) (ne : w ≢ descriptor_word page). c.others w ne (λ _. inl (omega (arith, in_low, pages-behind slab.shape page p.limits))) in
    let before = λ (w : ℕ) (in_low : w < descriptor_word 0). low w (omega (arith, in_low)) (λ e. omega (arith, in_low, e)) in
    let links = λ (q : ℕ) (in_zone : q < pages_in slab). let at = descriptor-word q in let s : SameLinks old new (descriptor q) = record { next = low (descriptor q / 8 + 1) (omega (arith, at, in_zone)) (λ e. omega (arith, at, e)); prev = low (descriptor q / 8 + 2) (omega (arith, at, in_zone)) (λ e. omega (arith, at, e)) } in s in
    let words = λ (q : ℕ) (in_zone : q < pages_in slab) (ne : q ≢ page). same-descriptor old new q (λ w a b. low w (omega (arith, b, in_zone)) (λ e. omega (arith, a, b, e, ne))) in
    record {
      header = LaysHeader-kept slab.shape old new (λ w less _ _ _. before w (omega (arith, less))) l.header;
      runs = runs;
      lists = λ k ok. LaysClass-kept old new slab.shape k (list_of slab k) (λ w a b. before w (omega (arith, b, ok))) (λ q m. let h = p.listed k q ok m in links q (class_in-zone slab q k h.0 p h.1)) (l.lists k ok);
      stats = λ k ok. LaysStat-kept old new k _ (λ w a b. before w (omega (arith, b, ok))) (l.stats k ok);
      used_runs = λ q n is. runs_of q n is words (cases_eq q page);
      classes = λ q k more is. class_of q k more is words (cases_eq q page);
    } where
      runs_of : (q n : ℕ) → page_at (set slab.pages page (Class class used)) q ≡ First n → ((o : ℕ) → o < pages_in slab → o ≢ page → SameWords old new (descriptor o)) → (q ≡ page) ⊎ (q ≢ page) → HasUsedRun new q n
      runs_of q n is words (inl e) = absurd (first_class n class used (sym (sym (page_own slab page (Class class used) p below) ∙ ap (λ k. page_at (set slab.pages page (Class class used)) k) (sym e) ∙ is)))
      runs_of q n is words (inr ne) =
          let was = sym (page_other slab page q (Class class used) ne) ∙ is in
          let f = p.followed q n was in
          HasUsedRun-kept old new q n f.0 (λ o a b. words o (omega (arith, b, f.1)) (λ e. not_later (sym (ap (λ k. page_at slab.pages k) e) ∙ f.2 o (omega (arith, a, e, ne)) b))) (l.used_runs q n was)

      class_of : (q k : ℕ) (more : List ℕ) → page_at (set slab.pages page (Class class used)) q ≡ Class k more → ((o : ℕ) → o < pages_in slab → o ≢ page → SameWords old new (descriptor o)) → (q ≡ page) ⊎ (q ≢ page) → LaysClassPage new slab.shape q k more
      class_of q k more is words (inl e) =
          let same = same_class class k used more (sym (page_own slab page (Class class used) p below) ∙ ap (λ i. page_at (set slab.pages page (Class class used)) i) (sym e) ∙ is) in
          subst (λ (i : ℕ). LaysClassPage new slab.shape i k more) (sym e) (subst (λ (i : ℕ). LaysClassPage new slab.shape page i more) same.0 (subst (λ (u : List ℕ). LaysClassPage new slab.shape page class u) same.1 now))
      class_of q k more is words (inr ne) =
          let was = sym (page_other slab page q (Class class used) ne) ∙ is in
          let in_zone = class_in-zone slab q k more p was in
          LaysClassPage-kept old new slab.shape q k more (words q in_zone ne) (λ _ w a b. c.others w (λ e. omega (arith, e, a, below, pages-behind slab.shape q p.limits)) (λ _. bitmaps-apart slab.shape page q class k w known (p.known q k more was) ne a b)) (l.classes q k more was)

-- and the slab still fits together
pub placed-page : (slab : Slab) (class page : ℕ) (used : List ℕ) → Placed slab → class < 9 → page < pages_in slab → (page_at slab.pages page ≢ Later) → ((c : ℕ) → c < 9 → In page (list_of slab c) → (c ≡ class) × (is_full slab.shape class used ≡ false)) → Placed (with_page slab page (Class class used))
placed-page slab class page used p known below not_later own = record {
  limits = p.limits;
  count = length-set slab.pages page (Class class used) ∙ p.count;
  followed = λ q n is. elim (cases_eq q page) [
    | inl e ↦ absurd (first_class n class used (sym (sym (page_own slab page (Class class used) p below) ∙ ap (λ k. page_at (set slab.pages page (Class class used)) k) (sym e) ∙ is)))
    | inr ne ↦
        let f = p.followed q n (sym (page_other slab page q (Class class used) ne) ∙ is) in
        (f.0, f.1, λ o a b. page_other slab page o (Class class used) (λ e. not_later (sym (ap (λ k. page_at slab.pages k) e) ∙ f.2 o a b)) ∙ f.2 o a b)
  ];
  known = λ q k more is. elim (cases_eq q page) [
    | inl e ↦ subst (λ (i : ℕ). i < 9) (same_class class k used more (sym (page_own slab page (Class class used) p below) ∙ ap (λ i. page_at (set slab.pages page (Class class used)) i) (sym e) ∙ is)).0 known
    | inr ne ↦ p.known q k more (sym (page_other slab page q (Class class used) ne) ∙ is)
  ];
  listed = λ k q ok m. elim (cases_eq q page) [
    | inl e ↦
        let h = own k ok (subst (λ (i : ℕ). In i (list_of slab k)) e m) in
        (used, ap (λ i. page_at (set slab.pages page (Class class used)) i) e ∙ page_own slab page (Class class used) p below ∙ ap (λ i. Class i used) (sym h.0), subst (λ (i : ℕ). is_full slab.shape i used ≡ false) (sym h.0) h.1)
    | inr ne ↦ let h = p.listed k q ok m in (h.0, page_other slab page q (Class class used) ne ∙ h.1, h.2)
  ];
}

-- ---- the links of a class's pages change

pub list_other : (slab : Slab) (class other : ℕ) (listed : List ℕ) → other ≢ class → list_of (with_list slab class listed) other ≡ list_of slab other
list_other slab class other listed ne = get_or-set_other slab.lists class other listed [] ne

pub list_own : (slab : Slab) (class : ℕ) (listed : List ℕ) → class < length slab.lists → list_of (with_list slab class listed) class ≡ listed
list_own slab class listed low = get_or-set_same slab.lists class listed [] low

-- the list's pages as the layout says it, and as links do
pub Linked-of : (words : List ℕ) (shape : Shape) (class o : ℕ) (pages : List ℕ) → LaysPages words shape class o pages → Linked words (class_head class) (type_of (kind_of shape class)) o pages
Linked-of words shape class o [] l = l
Linked-of words shape class o (q ∷ qs) l = (l.0, l.1, Linked-of words shape class (descriptor q) qs l.2)

pub of-Linked : (words : List ℕ) (shape : Shape) (class o : ℕ) (pages : List ℕ) → Linked words (class_head class) (type_of (kind_of shape class)) o pages → LaysPages words shape class o pages
of-Linked words shape class o [] l = l
of-Linked words shape class o (q ∷ qs) l = (l.0, l.1, of-Linked words shape class (descriptor q) qs l.2)

-- what the step says of a full page
abbrev pub FullLinks : Slab → ℕ → ℕ → List ℕ → List ℕ → Type 0
FullLinks slab class page used new = is_full slab.shape class used ≡ true → (next_at new (descriptor page) ≡ 0) × (prev_at new (descriptor page) ≡ type_of (kind_of slab.shape class))

pub LaysSlab-links : (slab : Slab) (class page : ℕ) (used listed : List ℕ) (old new : List ℕ) → Placed slab → class < 9 → class < length slab.lists → page_at slab.pages page ≡ Class class used → LaysSlab old slab → LaysRuns (record { shape = slab.shape; words = new }) slab.runs → RelinksPages class page (list_of slab class) old new → FullLinks slab class page used new → Linked new (class_head class) (type_of (kind_of slab.shape class)) (class_head class) listed → LaysSlab new (with_list slab class listed)
LaysSlab-links slab class page used listed old new p known room is l runs c full linked =
    let below = class_in-zone slab page class used p is in
    -- the pages whose links may change are pages of the class
    let own : (q : ℕ) → (q ≡ page) ⊎ In q (list_of slab class) → (more : List ℕ) × (page_at slab.pages q ≡ Class class more) = λ q m. elim m [ inl e ↦ (used, ap (λ k. page_at slab.pages k) e ∙ is) | inr i ↦ let h = p.listed class q known i in (h.0, h.1) ] in
    let zone_of = λ (q : ℕ) (m : (q ≡ page) ⊎ In q (list_of slab class)). let o = own q m in class_in-zone slab q class o.0 p o.1 in
    let before = λ (w : ℕ) (low : w < descriptor_word 0) (ne : w ≢ head_word class + 1). c.others w ne (λ q m. (λ e. omega (arith, e, low), λ e. omega (arith, e, low))) in
    let slab_word = λ (q : ℕ). let at = descriptor-word q in c.others (descriptor q / 8) (λ e. omega (arith, at, e, known)) (λ o m. (λ e. omega (arith, at, e), λ e. omega (arith, at, e))) in
    let words = λ (q : ℕ) (none : (q ≡ page) ⊎ In q (list_of slab class) → ⊥). same-descriptor old new q (λ w a b. c.others w (λ e. omega (arith, e, a, known)) (λ o m. (λ e. none (subst (λ (i : ℕ). (i ≡ page) ⊎ In i (list_of slab class)) (omega (arith, e, a, b)) m), λ e. none (subst (λ (i : ℕ). (i ≡ page) ⊎ In i (list_of slab class)) (omega (arith, e, a, b)) m)))) in
    let behind = λ (w : ℕ) (past : descriptor_word (pages_in slab) ≤ w). c.others w (λ e. omega (arith, e, past, known)) (λ o m. let z = zone_of o m in (λ e. omega (arith, e, past, z), λ e. omega (arith, e, past, z))) in
    let not_own = λ (q k : ℕ) (more : List ℕ) (at : page_at slab.pages q ≡ Class k more) (ne : k ≢ class) (m : (q ≡ page) ⊎ In q (list_of slab class)). let o = own q m in ne (same_class k class more o.0 (sym at ∙ o.1)).0 in
    record {
      header = LaysHeader-kept slab.shape old new (λ w less _ _ _. before w (omega (arith, less)) (λ e. omega (arith, less, e))) l.header;
      runs = runs;
      lists = λ k ok. elim (cases_eq k class) [
        | inl e ↦ subst (λ (i : ℕ). LaysClass new slab.shape i (list_of (with_list slab class listed) i)) (sym e) (subst (λ (ps : List ℕ). LaysClass new slab.shape class ps) (sym (list_own slab class listed room)) (record {
          slab_is = before (class_head class / 8) (omega (arith, known)) (λ e. omega (arith, e)) ∙ (l.lists class known).slab_is;
          prev_is = before (class_head class / 8 + 2) (omega (arith, known)) (λ e. omega (arith, e)) ∙ (l.lists class known).prev_is;
          linked = of-Linked new slab.shape class (class_head class) listed linked;
        }))
        | inr ne ↦ subst (λ (ps : List ℕ). LaysClass new slab.shape k ps) (sym (list_other slab class k listed ne))
            (LaysClass-kept old new slab.shape k (list_of slab k) (λ w a b. before w (omega (arith, b, ok)) (λ e. omega (arith, e, a, b, ne))) (λ q m. let h = p.listed k q ok m in same-links old new (descriptor q) (words q (not_own q k h.0 h.1 ne))) (l.lists k ok))
      ];
      stats = λ k ok. LaysStat-kept old new k _ (λ w a b. before w (omega (arith, b, ok)) (λ e. omega (arith, e, a, known))) (l.stats k ok);
      used_runs = λ q n at. HasUsedRun-kept old new q n (p.followed q n at).0 (λ o a b. words o (λ m. let h = own o m in run_class slab q n o class h.0 p at a b h.1)) (l.used_runs q n at);
      classes = λ q k more at.
          let was = l.classes q k more at in record {
            bits = LaysBits-kept (kind_of slab.shape k) old new slab.shape q k more (slab_word q) (λ _ w a b. behind w (omega (arith, a, pages-behind slab.shape q p.limits))) was.bits;
            next_if_full = λ f. elim (full_page q k more at f (cases_eq q page)) [ inl h ↦ h.0 | inr none ↦ (words q none).next ∙ was.next_if_full f ];
            prev_if_full = λ f. elim (full_page q k more at f (cases_eq q page)) [ inl h ↦ h.1 | inr none ↦ (words q none).prev ∙ was.prev_if_full f ];
          };
    } where
      -- a full page is the one of the step, or its links stay
      full_page : (q k : ℕ) (more : List ℕ) → page_at slab.pages q ≡ Class k more → is_full slab.shape k more ≡ true → (q ≡ page) ⊎ (q ≢ page) → ((next_at new (descriptor q) ≡ 0) × (prev_at new (descriptor q) ≡ type_of (kind_of slab.shape k))) ⊎ ((q ≡ page) ⊎ In q (list_of slab class) → ⊥)
      full_page q k more at f (inl e) =
          let same = same_class k class more used (sym at ∙ ap (λ i. page_at slab.pages i) e ∙ is) in
          let h = full (subst (λ (u : List ℕ). is_full slab.shape class u ≡ true) same.1 (subst (λ (i : ℕ). is_full slab.shape i more ≡ true) same.0 f)) in
          inl (ap (λ i. next_at new (descriptor i)) e ∙ h.0, ap (λ i. prev_at new (descriptor i)) e ∙ h.1 ∙ ap (λ i. type_of (kind_of slab.shape i)) (sym same.0))
      full_page q k more at f (inr ne) = inr (λ m. elim m [
        | inl e ↦ ne e
        | inr i ↦ let h = p.listed class q known i in let same = same_class k class more h.0 (sym at ∙ h.1) in differ (sym f ∙ ap (λ j. is_full slab.shape j more) same.0 ∙ ap (λ u. is_full slab.shape class u) same.1 ∙ h.2)
      ]) where
        differ : true ≡ false → ⊥
        differ e = cc

-- and the slab still fits together
pub placed-list : (slab : Slab) (class : ℕ) (listed : List ℕ) → Placed slab → class < length slab.lists → ((q : ℕ) → In q listed → (used : List ℕ) × (page_at slab.pages q ≡ Class class used) × (is_full slab.shape class used ≡ false)) → Placed (with_list slab class listed)
placed-list slab class listed p room own = record {
  limits = p.limits;
  count = p.count;
  followed = p.followed;
  known = p.known;
  listed = λ k q ok m. elim (cases_eq k class) [
    | inl e ↦ let h = own q (subst (λ (ps : List ℕ). In q ps) (ap (λ i. list_of (with_list slab class listed) i) e ∙ list_own slab class listed room) m) in (h.0, h.1 ∙ ap (λ i. Class i h.0) (sym e), subst (λ (i : ℕ). is_full slab.shape i h.0 ≡ false) (sym e) h.2)
    | inr ne ↦ p.listed k q ok (subst (λ (ps : List ℕ). In q ps) (list_other slab class k listed ne) m)
  ];
}
