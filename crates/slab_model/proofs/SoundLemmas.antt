-- Grant and give back keep a slab sound.
use Rattle.std.proofs.Common.{ℕ, ◌≡◌, ◌≢◌, ◌⊎◌, ◌+◌, ◌-◌, ◌^◌, ◌<◌, ◌≤◌, zero, suc, Bool, true, false, not, ◌&&◌, ◌||◌, List, [], ◌∷◌, Some, None, length, set, get_or, replicate, sym, ap, subst, ◌∙◌, refl, arith, inl, inr, cond, get_or-set_same, get_or-set_other}
use Rattle.std.proofs.lemmas.List.{length-set, length-replicate, get_or-replicate, get_or_past}
use Rattle.std.proofs.lemmas.List.Sums.{sum_by-set, sum_by-cons, get_or-le-sum_by}
use Rattle.std.proofs.lemmas.Bool.{cases_eq, cases_lt}
use Rattle.std.proofs.lemmas.Grind.{common_steps}
use Rattle.std.specs.Prelude.{sum_by}
use Rattle.slab_model.specs.declared.runs.Run.{Run}
use Rattle.slab_model.specs.declared.stat.Stat.{Stat}
use Rattle.slab_model.specs.declared.shape.Shape.{Shape}
use Rattle.slab_model.specs.declared.page.PageState.{PageState}
use Rattle.slab_model.specs.declared.page.PageState.TheVariants.{Free, First, Later, Class}
use Rattle.slab_model.specs.Geometry.{IsInLimits, first_index, usable_blocks, pages_of}
use Rattle.zone_region.specs.Members.{IsDistinct}
use Rattle.slab_model.specs.Numbers.{is_member, with_number, without}
use Rattle.slab_model.specs.Runs.{AreSound, is_covered, is_within, take_run, give_run, first_fit}
use Rattle.slab_model.specs.State.{Slab, no_stat, page_at, list_of, stat_of, fill_pages, fresh_slab}
use Rattle.slab_model.specs.Blocks.{is_full, lowest_unused, used_in}
use Rattle.slab_model.specs.Counting.{is_free, count_grant, count_fail, count_return}
use Rattle.slab_model.specs.Grant.{use_pages, grant_run, grant_in_page, grant_in_new_page}
use Rattle.slab_model.specs.Return.{give_in_page, give_pages}
use Rattle.slab_model.specs.Soundness.{has_room, usable_in_class, used_in_class, AreUsed, HasUsedRuns, Lists, Counts, IsSound}
use Rattle.slab_model.proofs.ClassLemmas.{zone}
use Rattle.slab_model.proofs.NumberLemmas.{is_member-without, member, member_not, not_member, IsDistinct-without, length-with, length-without}
use Rattle.slab_model.proofs.RunLemmas.{AreSound-take, AreSound-give, is_covered-take, is_covered-give, first_fit-covered, first_fit-in, is_within-in, is_within-not}
use Rattle.slab_model.proofs.PageLemmas.{NotInRun, Free-NotInRun, Class-NotInRun, HasUsedRuns-set, HasUsedRuns-use, HasUsedRuns-free, length-fill, page_at-fill_in, page_at-fill_out, page_at-use_out, page_at-use_first, page_at-use_later, Place, place_of}
use Rattle.slab_model.proofs.PageLemmas.Place.{out, within}
use Rattle.slab_model.proofs.StateLemmas.{is_free-is, page_at-in, has_room-is, has_room-own, not_full, not_full-one, AreUsed-grant, AreUsed-one, AreUsed-give, used-usable, used-distinct, sum_by-fill}

-- a class's list by the test of membership
same_test : (a b : Bool) → (a ≡ true → b ≡ true) → (b ≡ true → a ≡ true) → a ≡ b
same_test true true there back = refl
same_test true false there back = sym (there refl)
same_test false true there back = back refl
same_test false false there back = refl

pub listed_test : (shape : Shape) (class : ℕ) (pages : List PageState) (listed : List ℕ) → Lists shape class pages listed → (page : ℕ) → is_member page listed ≡ has_room shape class (page_at pages page)
listed_test shape class pages listed lists page = same_test (is_member page listed) (has_room shape class (page_at pages page)) (λ there. (lists.just page).0 ((member page listed).0 there)) (λ room. (member page listed).1 ((lists.just page).1 room))

Lists-by : (shape : Shape) (class : ℕ) (pages : List PageState) (listed : List ℕ) → IsDistinct listed → ((page : ℕ) → is_member page listed ≡ has_room shape class (page_at pages page)) → Lists shape class pages listed
Lists-by shape class pages listed once test = record { once = once; just = λ page. (λ there. sym (test page) ∙ (member page listed).1 there, λ room. (member page listed).0 (test page ∙ room)) }

-- a list changes in one page of the class
Lists-page : (shape : Shape) (class page : ℕ) (state : PageState) (pages : List PageState) (old new : List ℕ) → page < length pages → Lists shape class pages old → IsDistinct new → ((q : ℕ) → q ≢ page → is_member q new ≡ is_member q old) → is_member page new ≡ has_room shape class state → Lists shape class (set pages page state) new
Lists-page shape class page state pages old new here lists once others own = Lists-by shape class (set pages page state) new once (λ q. just q (listed_test shape class pages old lists q) (others q) (cases_eq q page)) where
  just : (q : ℕ) → is_member q old ≡ has_room shape class (page_at pages q) → (q ≢ page → is_member q new ≡ is_member q old) → (q ≡ page) ⊎ (q ≢ page) → is_member q new ≡ has_room shape class (page_at (set pages page state) q)
  just q was others (inl e) = ap (λ k. is_member k new) e ∙ own ∙ ap (has_room shape class) (sym (ap (λ k. page_at (set pages page state) k) e ∙ get_or-set_same pages page state Free here))
  just q was others (inr ne) = others ne ∙ was ∙ ap (has_room shape class) (sym (get_or-set_other pages page q state Free ne))

-- pages change that are listed neither before nor after
Lists-same : (shape : Shape) (class : ℕ) (pages changed : List PageState) (listed : List ℕ) → ((q : ℕ) → has_room shape class (page_at changed q) ≡ has_room shape class (page_at pages q)) → Lists shape class pages listed → Lists shape class changed listed
Lists-same shape class pages changed listed same lists = Lists-by shape class changed listed lists.once (λ q. listed_test shape class pages listed lists q ∙ sym (same q))

-- the lists once one page of a class has changed
record ListsChange (slab : Slab) (page : ℕ) (state : PageState) (class : ℕ) (lists : List (List ℕ)) : Type 0 where
  count : length lists ≡ 9
  others : (c : ℕ) → c ≢ class → get_or lists c [] ≡ list_of slab c
  own : Lists slab.shape class (set slab.pages page state) (get_or lists class [])

-- one page changes between states that are in no used run, and with it one class
record OnePage (slab : Slab) (page : ℕ) (state : PageState) (runs : List Run) (class : ℕ) (lists : List (List ℕ)) (stat : Stat) : Type 0 where
  here : page < pages_of slab.shape
  known : class < 9
  old : NotInRun (page_at slab.pages page)
  new : NotInRun state
  runs_ok : AreSound (pages_of slab.shape) runs
  covered : (q : ℕ) → q ≢ page → is_covered q runs ≡ is_covered q slab.runs
  covers : is_covered page runs ≡ is_free state
  used : (own : ℕ) (used : List ℕ) → state ≡ Class own used → AreUsed slab.shape own used
  room_before : (c : ℕ) → c ≢ class → has_room slab.shape c (page_at slab.pages page) ≡ false
  room_after : (c : ℕ) → c ≢ class → has_room slab.shape c state ≡ false
  usable_before : (c : ℕ) → c ≢ class → usable_in_class slab.shape c (page_at slab.pages page) ≡ 0
  usable_after : (c : ℕ) → c ≢ class → usable_in_class slab.shape c state ≡ 0
  used_before : (c : ℕ) → c ≢ class → used_in_class c (page_at slab.pages page) ≡ 0
  used_after : (c : ℕ) → c ≢ class → used_in_class c state ≡ 0
  lists_ok : ListsChange slab page state class lists
  total : stat.total + usable_in_class slab.shape class (page_at slab.pages page) ≡ (stat_of slab class).total + usable_in_class slab.shape class state
  used_count : stat.used + used_in_class class (page_at slab.pages page) ≡ (stat_of slab class).used + used_in_class class state
  fails : stat.fails ≤ stat.reqs
  reqs : stat.reqs < 2 ^ 64

abbrev one_page : Slab → ℕ → PageState → List Run → ℕ → List (List ℕ) → Stat → Slab
one_page slab page state runs class lists stat = record { shape = slab.shape; pages = set slab.pages page state; runs = runs; lists = lists; stats = set slab.stats class stat }

IsSound-one_page : (slab : Slab) (page : ℕ) (state : PageState) (runs : List Run) (class : ℕ) (lists : List (List ℕ)) (stat : Stat) → IsSound slab → OnePage slab page state runs class lists stat → IsSound (one_page slab page state runs class lists stat)
IsSound-one_page slab page state runs class lists stat s o = record {
  limits = s.limits;
  page_count = length-set slab.pages page state ∙ s.page_count;
  list_count = o.lists_ok.count;
  stat_count = length-set slab.stats class stat ∙ s.stat_count;
  runs = o.runs_ok;
  free = λ q low. free q low (cases_eq q page);
  used_runs = HasUsedRuns-set (pages_of slab.shape) page state slab.pages in_pages o.old o.new s.used_runs;
  used = λ q own indexes is. used_ok q own indexes is (cases_eq q page);
  lists = λ c low. lists_of c low (cases_eq c class);
  counts = λ c low. counts_of c low (s.counts c low) (cases_eq c class);
} where
  in_pages : page < length slab.pages
  in_pages = omega (arith, s.page_count, o.here)

  in_stats : class < length slab.stats
  in_stats = omega (arith, s.stat_count, o.known)

  same : page_at (set slab.pages page state) page ≡ state
  same = get_or-set_same slab.pages page state Free in_pages

  other : (q : ℕ) → q ≢ page → page_at (set slab.pages page state) q ≡ page_at slab.pages q
  other q ne = get_or-set_other slab.pages page q state Free ne

  free : (q : ℕ) → q < pages_of slab.shape → (q ≡ page) ⊎ (q ≢ page) → is_free (page_at (set slab.pages page state) q) ≡ is_covered q runs
  free q low (inl e) = ap (λ k. is_free (page_at (set slab.pages page state) k)) e ∙ ap is_free same ∙ sym o.covers ∙ ap (λ k. is_covered k runs) (sym e)
  free q low (inr ne) = ap is_free (other q ne) ∙ s.free q low ∙ sym (o.covered q ne)

  used_ok : (q own : ℕ) (indexes : List ℕ) → page_at (set slab.pages page state) q ≡ Class own indexes → (q ≡ page) ⊎ (q ≢ page) → AreUsed slab.shape own indexes
  used_ok q own indexes is (inl e) = o.used own indexes (sym same ∙ ap (λ k. page_at (set slab.pages page state) k) (sym e) ∙ is)
  used_ok q own indexes is (inr ne) = s.used q own indexes (sym (other q ne) ∙ is)

  room_kept : (c q : ℕ) → c ≢ class → (q ≡ page) ⊎ (q ≢ page) → has_room slab.shape c (page_at (set slab.pages page state) q) ≡ has_room slab.shape c (page_at slab.pages q)
  room_kept c q not (inl e) = ap (λ k. has_room slab.shape c (page_at (set slab.pages page state) k)) e ∙ ap (has_room slab.shape c) same ∙ o.room_after c not ∙ sym (o.room_before c not) ∙ ap (λ k. has_room slab.shape c (page_at slab.pages k)) (sym e)
  room_kept c q not (inr ne) = ap (has_room slab.shape c) (other q ne)

  lists_of : (c : ℕ) → c < 9 → (c ≡ class) ⊎ (c ≢ class) → Lists slab.shape c (set slab.pages page state) (get_or lists c [])
  lists_of c low (inl e) = subst (λ (k : ℕ). Lists slab.shape k (set slab.pages page state) (get_or lists k [])) (sym e) o.lists_ok.own
  lists_of c low (inr ne) = subst (λ (l : List ℕ). Lists slab.shape c (set slab.pages page state) l) (sym (o.lists_ok.others c ne)) (Lists-same slab.shape c slab.pages (set slab.pages page state) (list_of slab c) (λ q. room_kept c q ne (cases_eq q page)) (s.lists c low))

  own_counts : Counts slab.shape class slab.pages (stat_of slab class) → Counts slab.shape class (set slab.pages page state) stat
  own_counts was =
      let total = sum_by-set (usable_in_class slab.shape class) slab.pages page state Free in_pages in
      let used = sum_by-set (used_in_class class) slab.pages page state Free in_pages in
      record {
        total = omega (arith, total, was.total, o.total);
        used = omega (arith, used, was.used, o.used_count);
        fails = o.fails;
        reqs = o.reqs;
      }

  other_counts : (c : ℕ) → c ≢ class → Counts slab.shape c slab.pages (stat_of slab c) → Counts slab.shape c (set slab.pages page state) (stat_of slab c)
  other_counts c ne was =
      let total = sum_by-set (usable_in_class slab.shape c) slab.pages page state Free in_pages in
      let used = sum_by-set (used_in_class c) slab.pages page state Free in_pages in
      let before = o.usable_before c ne in
      let after = o.usable_after c ne in
      let used_before = o.used_before c ne in
      let used_after = o.used_after c ne in
      record {
        total = omega (arith, total, was.total, before, after);
        used = omega (arith, used, was.used, used_before, used_after);
        fails = was.fails;
        reqs = was.reqs;
      }

  counts_of : (c : ℕ) → c < 9 → Counts slab.shape c slab.pages (stat_of slab c) → (c ≡ class) ⊎ (c ≢ class) → Counts slab.shape c (set slab.pages page state) (stat_of (one_page slab page state runs class lists stat) c)
  counts_of c low was (inl e) =
      subst (λ (k : ℕ). Counts slab.shape k (set slab.pages page state) (stat_of (one_page slab page state runs class lists stat) k)) (sym e)
      (subst (λ (t : Stat). Counts slab.shape class (set slab.pages page state) t) (sym (get_or-set_same slab.stats class stat no_stat in_stats)) (own_counts (s.counts class o.known)))
  counts_of c low was (inr ne) = subst (λ (t : Stat). Counts slab.shape c (set slab.pages page state) t) (sym (get_or-set_other slab.stats class c stat no_stat ne)) (other_counts c ne was)

-- a list of a class is put in its place
ListsChange-set : (slab : Slab) (page : ℕ) (state : PageState) (class : ℕ) (listed : List ℕ) → IsSound slab → class < 9 → Lists slab.shape class (set slab.pages page state) listed → ListsChange slab page state class (set slab.lists class listed)
ListsChange-set slab page state class listed s known own = record {
  count = length-set slab.lists class listed ∙ s.list_count;
  others = λ c ne. get_or-set_other slab.lists class c listed [] ne;
  own = subst (λ (l : List ℕ). Lists slab.shape class (set slab.pages page state) l) (sym (get_or-set_same slab.lists class listed [] (omega (arith, s.list_count)))) own;
}

-- the lists stay
ListsChange-same : (slab : Slab) (page : ℕ) (state : PageState) (class : ℕ) → IsSound slab → Lists slab.shape class (set slab.pages page state) (list_of slab class) → ListsChange slab page state class slab.lists
ListsChange-same slab page state class s own = record { count = s.list_count; others = λ c ne. refl; own = own }

AreUsed-eq : (shape : Shape) (own class : ℕ) (used indexes : List ℕ) → Class class used ≡ Class own indexes → AreUsed shape class used → AreUsed shape own indexes
AreUsed-eq shape own class used indexes e ok =
    let same_class : class ≡ own = cc in
    let same_used : used ≡ indexes = cc in
    subst (λ (c : ℕ). AreUsed shape c indexes) same_class (subst (λ (u : List ℕ). AreUsed shape class u) same_used ok)

-- what a page of a class counts
pub usable-own : (shape : Shape) (class : ℕ) (used : List ℕ) → usable_in_class shape class (Class class used) ≡ usable_blocks shape class
usable-own shape class used = grind (arith, common_steps)

pub used-own : (class : ℕ) (used : List ℕ) → used_in_class class (Class class used) ≡ length used
used-own class used = grind (arith, common_steps)

pub usable-other : (shape : Shape) (c class : ℕ) (used : List ℕ) → c ≢ class → usable_in_class shape c (Class class used) ≡ 0
usable-other shape c class used ne = grind (arith, common_steps)

pub used-other : (c class : ℕ) (used : List ℕ) → c ≢ class → used_in_class c (Class class used) ≡ 0
used-other c class used ne = grind (arith, common_steps)

pub room-other : (shape : Shape) (c class : ℕ) (used : List ℕ) → c ≢ class → has_room shape c (Class class used) ≡ false
room-other shape c class used ne = grind (arith, common_steps)

-- a page of a class is one of the zone's, and is not free
pub class_page-in : (slab : Slab) (class page : ℕ) (used : List ℕ) → IsSound slab → page_at slab.pages page ≡ Class class used → page < pages_of slab.shape
class_page-in slab class page used s is = let h = page_at-in slab.pages page (λ e. cc) in omega (arith, h, s.page_count)

-- the pages of the class that are listed
pub listed-is : (slab : Slab) (class page : ℕ) (rest : List ℕ) → IsSound slab → class < 9 → list_of slab class ≡ page ∷ rest → (page_at slab.pages page ≡ Class class (used_in (page_at slab.pages page))) × (is_full slab.shape class (used_in (page_at slab.pages page)) ≡ false)
listed-is slab class page rest s known listed = has_room-is slab.shape class (page_at slab.pages page) (sym (listed_test slab.shape class slab.pages (list_of slab class) (s.lists class known) page) ∙ ap (is_member page) listed ∙ head page rest) where
  head : (page : ℕ) (rest : List ℕ) → is_member page (page ∷ rest) ≡ true
  head page rest = grind (arith, common_steps)

-- a page of a class stays one, with other blocks
OnePage-class : (slab : Slab) (class page : ℕ) (used now : List ℕ) (lists : List (List ℕ)) (stat : Stat) → IsSound slab → page_at slab.pages page ≡ Class class used → AreUsed slab.shape class now → ListsChange slab page (Class class now) class lists → stat.total ≡ (stat_of slab class).total → stat.used + length used ≡ (stat_of slab class).used + length now → stat.fails ≤ stat.reqs → stat.reqs < 2 ^ 64 → OnePage slab page (Class class now) slab.runs class lists stat
OnePage-class slab class page used now lists stat s is ok lists_ok total count fails reqs =
    let here = class_page-in slab class page used s is in
    record {
      here = here;
      known = ok.known;
      old = subst (λ (p : PageState). NotInRun p) (sym is) (Class-NotInRun class used);
      new = Class-NotInRun class now;
      runs_ok = s.runs;
      covered = λ q ne. refl;
      covers = sym (s.free page here) ∙ ap is_free is;
      used = λ own indexes e. AreUsed-eq slab.shape own class now indexes e ok;
      room_before = λ c ne. ap (has_room slab.shape c) is ∙ room-other slab.shape c class used ne;
      room_after = λ c ne. room-other slab.shape c class now ne;
      usable_before = λ c ne. ap (usable_in_class slab.shape c) is ∙ usable-other slab.shape c class used ne;
      usable_after = λ c ne. usable-other slab.shape c class now ne;
      used_before = λ c ne. ap (used_in_class c) is ∙ used-other c class used ne;
      used_after = λ c ne. used-other c class now ne;
      lists_ok = lists_ok;
      total = omega (arith, total, ap (usable_in_class slab.shape class) is, usable-own slab.shape class used, usable-own slab.shape class now);
      used_count = omega (arith, count, ap (used_in_class class) is, used-own class used, used-own class now);
      fails = fails;
      reqs = reqs;
    }

-- the lists once a page has given a block more
grant_lists : (slab : Slab) (class page : ℕ) (rest now : List ℕ) → IsSound slab → class < 9 → page < length slab.pages → list_of slab class ≡ page ∷ rest → (full : Bool) → is_full slab.shape class now ≡ full → ListsChange slab page (Class class now) class (cond full (set slab.lists class rest) slab.lists)
grant_lists slab class page rest now s known here listed true full =
    let was : Lists slab.shape class slab.pages (page ∷ rest) = subst (λ (l : List ℕ). Lists slab.shape class slab.pages l) listed (s.lists class known) in
    ListsChange-set slab page (Class class now) class rest s known
    (Lists-page slab.shape class page (Class class now) slab.pages (page ∷ rest) rest here was was.once.1 (λ q ne. later q page rest ne) (member_not page rest was.once.0 ∙ sym (has_room-own slab.shape class now ∙ ap not full)))
  where
    later : (q page : ℕ) (rest : List ℕ) → q ≢ page → is_member q rest ≡ is_member q (page ∷ rest)
    later q page rest ne = grind (arith, common_steps)
grant_lists slab class page rest now s known here listed false full =
    let was = s.lists class known in
    ListsChange-same slab page (Class class now) class s
    (Lists-page slab.shape class page (Class class now) slab.pages (list_of slab class) (list_of slab class) here was was.once (λ q ne. refl) (ap (is_member page) listed ∙ head page rest ∙ sym (has_room-own slab.shape class now ∙ ap not full)))
  where
    head : (page : ℕ) (rest : List ℕ) → is_member page (page ∷ rest) ≡ true
    head page rest = grind (arith, common_steps)

pub IsSound-in_page : (slab : Slab) (class page : ℕ) (rest : List ℕ) → IsSound slab → class < 9 → list_of slab class ≡ page ∷ rest → IsSound (grant_in_page slab class page rest (used_in (page_at slab.pages page))).1
IsSound-in_page slab class page rest s known listed =
    let used = used_in (page_at slab.pages page) in
    let now = with_number (lowest_unused slab.shape class used) used in
    let is = listed-is slab class page rest s known listed in
    let ok = AreUsed-grant slab.shape class used (s.used page class used is.0) is.1 in
    let here = class_page-in slab class page used s is.0 in
    let counts = s.counts class known in
    IsSound-one_page slab page (Class class now) slab.runs class _ (count_grant 0 (stat_of slab class)) s
    (OnePage-class slab class page used now _ (count_grant 0 (stat_of slab class)) s is.0 ok
    (grant_lists slab class page rest now s known (omega (arith, here, s.page_count)) listed (is_full slab.shape class now) refl)
    (omega arith) (omega (arith, length-with (lowest_unused slab.shape class used) used)) (omega (arith, counts.fails, counts.reqs)) (omega arith))

-- a request that fails is counted, and nothing else changes
pub IsSound-failed : (slab : Slab) (class : ℕ) → IsSound slab → class < 9 → IsSound (grant_in_new_page slab class None).1
IsSound-failed slab class s known = record {
  limits = s.limits;
  page_count = s.page_count;
  list_count = s.list_count;
  stat_count = length-set slab.stats class (count_fail (stat_of slab class)) ∙ s.stat_count;
  runs = s.runs;
  free = s.free;
  used_runs = s.used_runs;
  used = s.used;
  lists = s.lists;
  counts = λ c low. counts_of c (s.counts c low) (cases_eq c class);
} where
  own : Counts slab.shape class slab.pages (stat_of slab class) → Counts slab.shape class slab.pages (count_fail (stat_of slab class))
  own was = record { total = was.total; used = was.used; fails = omega (arith, was.fails); reqs = omega arith }

  counts_of : (c : ℕ) → Counts slab.shape c slab.pages (stat_of slab c) → (c ≡ class) ⊎ (c ≢ class) → Counts slab.shape c slab.pages (get_or (set slab.stats class (count_fail (stat_of slab class))) c no_stat)
  counts_of c was (inl e) =
      let in_stats : class < length slab.stats = omega (arith, s.stat_count, known) in
      let here : Counts slab.shape class slab.pages (get_or (set slab.stats class (count_fail (stat_of slab class))) class no_stat) = subst (λ (t : Stat). Counts slab.shape class slab.pages t) (sym (get_or-set_same slab.stats class (count_fail (stat_of slab class)) no_stat in_stats)) (own (s.counts class known)) in
      subst (λ (k : ℕ). Counts slab.shape k slab.pages (get_or (set slab.stats class (count_fail (stat_of slab class))) k no_stat)) (sym e) here
  counts_of c was (inr ne) = subst (λ (t : Stat). Counts slab.shape c slab.pages t) (sym (get_or-set_other slab.stats class c (count_fail (stat_of slab class)) no_stat ne)) was

-- the first page of a free run is free
pub fit_free : (slab : Slab) (count page q : ℕ) → IsSound slab → first_fit count slab.runs ≡ Some page → page ≤ q → q < page + count → page_at slab.pages q ≡ Free
fit_free slab count page q s fit low high =
    let within = first_fit-in (pages_of slab.shape) count slab.runs page s.runs fit in
    is_free-is (page_at slab.pages q) (s.free q (omega arith) ∙ first_fit-covered count slab.runs page q fit low high)

-- a free page becomes a page of the class with one block
pub IsSound-new_page : (slab : Slab) (class page : ℕ) → IsSound slab → class < 9 → list_of slab class ≡ [] → first_fit 1 slab.runs ≡ Some page → IsSound (grant_in_new_page slab class (Some page)).1
IsSound-new_page slab class page s known listed fit =
    let now = first_index slab.shape class ∷ [] in
    let total = pages_of slab.shape in
    let within = first_fit-in total 1 slab.runs page s.runs fit in
    let is = fit_free slab 1 page page s fit (omega arith) (omega arith) in
    let in_pages : page < length slab.pages = omega (arith, s.page_count) in
    let ok = AreUsed-one slab.shape class known in
    let counts = s.counts class known in
    let was : Lists slab.shape class slab.pages [] = subst (λ (l : List ℕ). Lists slab.shape class slab.pages l) listed (s.lists class known) in
    IsSound-one_page slab page (Class class now) (take_run 1 slab.runs) class (set slab.lists class (page ∷ [])) (count_grant (usable_blocks slab.shape class) (stat_of slab class)) s
    (record {
      here = omega arith;
      known = known;
      old = subst (λ (p : PageState). NotInRun p) (sym is) Free-NotInRun;
      new = Class-NotInRun class now;
      runs_ok = AreSound-take total 1 slab.runs (omega arith) s.runs;
      covered = λ q ne. let h = is_covered-take total 1 slab.runs page q s.runs fit in covered q ne h;
      covers = let h = is_covered-take total 1 slab.runs page page s.runs fit in covers h;
      used = λ own indexes e. AreUsed-eq slab.shape own class now indexes e ok;
      room_before = λ c ne. ap (has_room slab.shape c) is;
      room_after = λ c ne. room-other slab.shape c class now ne;
      usable_before = λ c ne. ap (usable_in_class slab.shape c) is;
      usable_after = λ c ne. usable-other slab.shape c class now ne;
      used_before = λ c ne. ap (used_in_class c) is;
      used_after = λ c ne. used-other c class now ne;
      lists_ok = ListsChange-set slab page (Class class now) class (page ∷ []) s known (Lists-page slab.shape class page (Class class now) slab.pages [] (page ∷ []) in_pages was (λ none. none, tt) (λ q ne. alone q ne) (head page [] ∙ sym (has_room-own slab.shape class now ∙ ap not (not_full-one slab.shape class (first_index slab.shape class) known))));
      total = omega (arith, ap (usable_in_class slab.shape class) is, usable-own slab.shape class now);
      used_count = omega (arith, ap (used_in_class class) is, used-own class now);
      fails = omega (arith, counts.fails, counts.reqs);
      reqs = omega arith;
    }) where
      head : (page : ℕ) (rest : List ℕ) → is_member page (page ∷ rest) ≡ true
      head page rest = grind (arith, common_steps)

      alone : (q : ℕ) → q ≢ page → is_member q (page ∷ []) ≡ false
      alone q ne = grind (arith, common_steps)

      covered : (q : ℕ) → q ≢ page → is_covered q (take_run 1 slab.runs) ≡ (is_covered q slab.runs && not (is_within q page 1)) → is_covered q (take_run 1 slab.runs) ≡ is_covered q slab.runs
      covered q ne h = grind (arith, common_steps)

      covers : is_covered page (take_run 1 slab.runs) ≡ (is_covered page slab.runs && not (is_within page page 1)) → is_covered page (take_run 1 slab.runs) ≡ false
      covers h = grind (arith, common_steps)

-- a slab whose used or freed run has changed the pages, which are in no class
record SamePages (shape : Shape) (pages changed : List PageState) : Type 0 where
  same_length : length changed ≡ length pages
  room : (c q : ℕ) → has_room shape c (page_at changed q) ≡ has_room shape c (page_at pages q)
  usable : (c : ℕ) → sum_by (usable_in_class shape c) changed ≡ sum_by (usable_in_class shape c) pages
  used : (c : ℕ) → sum_by (used_in_class c) changed ≡ sum_by (used_in_class c) pages
  class : (q own : ℕ) (indexes : List ℕ) → page_at changed q ≡ Class own indexes → page_at pages q ≡ Class own indexes

IsSound-pages : (slab : Slab) (changed : List PageState) (runs : List Run) → IsSound slab → SamePages slab.shape slab.pages changed → AreSound (pages_of slab.shape) runs → ((q : ℕ) → q < pages_of slab.shape → is_free (page_at changed q) ≡ is_covered q runs) → HasUsedRuns (pages_of slab.shape) changed → IsSound (record { shape = slab.shape; pages = changed; runs = runs; lists = slab.lists; stats = slab.stats })
IsSound-pages slab changed runs s same runs_ok free used_runs = record {
  limits = s.limits;
  page_count = same.same_length ∙ s.page_count;
  list_count = s.list_count;
  stat_count = s.stat_count;
  runs = runs_ok;
  free = free;
  used_runs = used_runs;
  used = λ q own indexes is. s.used q own indexes (same.class q own indexes is);
  lists = λ c low. Lists-same slab.shape c slab.pages changed (list_of slab c) (λ q. same.room c q) (s.lists c low);
  counts = λ c low. let was = s.counts c low in record { total = was.total ∙ sym (same.usable c); used = was.used ∙ sym (same.used c); fails = was.fails; reqs = was.reqs };
}

-- free pages are of no class
NoClass : Shape → PageState → Type 0
NoClass shape state = ((c : ℕ) → has_room shape c state ≡ false) × ((c : ℕ) → usable_in_class shape c state ≡ 0) × ((c : ℕ) → used_in_class c state ≡ 0) × ((own : ℕ) (indexes : List ℕ) → state ≢ Class own indexes)

NoClass-free : (shape : Shape) → NoClass shape Free
unfolding NoClass
NoClass-free shape = (λ c. refl, λ c. refl, λ c. refl, λ own indexes e. cc)

NoClass-first : (shape : Shape) (n : ℕ) → NoClass shape (First n)
unfolding NoClass
NoClass-first shape n = (λ c. refl, λ c. refl, λ c. refl, λ own indexes e. cc)

NoClass-later : (shape : Shape) → NoClass shape Later
unfolding NoClass
NoClass-later shape = (λ c. refl, λ c. refl, λ c. refl, λ own indexes e. cc)

-- a stretch of pages of no class becomes another
SamePages-fill : (shape : Shape) (state : PageState) (page count : ℕ) (pages : List PageState) → page + count ≤ length pages → NoClass shape state → ((q : ℕ) → page ≤ q → q < page + count → NoClass shape (page_at pages q)) → SamePages shape pages (fill_pages state page count pages)
unfolding NoClass
SamePages-fill shape state page count pages room none old = record {
  same_length = length-fill state page count pages;
  room = λ c q. room_kept c q (place_of q page count);
  usable = λ c. sum_by-fill (usable_in_class shape c) state page count pages room (none.1 c) (λ q low high. (old q low high).1 c);
  used = λ c. sum_by-fill (used_in_class c) state page count pages room (none.2 c) (λ q low high. (old q low high).2 c);
  class = λ q own indexes is. class_kept q own indexes is (place_of q page count);
} where
  room_kept : (c q : ℕ) → Place q page count → has_room shape c (page_at (fill_pages state page count pages) q) ≡ has_room shape c (page_at pages q)
  room_kept c q (out o) = ap (has_room shape c) (page_at-fill_out state page count pages q o)
  room_kept c q (within low high) = ap (has_room shape c) (page_at-fill_in state page count pages q room low high) ∙ none.0 c ∙ sym ((old q low high).0 c)

  class_kept : (q own : ℕ) (indexes : List ℕ) → page_at (fill_pages state page count pages) q ≡ Class own indexes → Place q page count → page_at pages q ≡ Class own indexes
  class_kept q own indexes is (out o) = sym (page_at-fill_out state page count pages q o) ∙ is
  class_kept q own indexes is (within low high) = absurd (none.3 own indexes (sym (page_at-fill_in state page count pages q room low high) ∙ is))

SamePages-trans : (shape : Shape) (a b c : List PageState) → SamePages shape a b → SamePages shape b c → SamePages shape a c
SamePages-trans shape a b c f g = record {
  same_length = g.same_length ∙ f.same_length;
  room = λ k q. g.room k q ∙ f.room k q;
  usable = λ k. g.usable k ∙ f.usable k;
  used = λ k. g.used k ∙ f.used k;
  class = λ q own indexes is. f.class q own indexes (g.class q own indexes is);
}

SamePages-use : (shape : Shape) (page count : ℕ) (pages : List PageState) → 0 < count → page + count ≤ length pages → ((q : ℕ) → page ≤ q → q < page + count → page_at pages q ≡ Free) → SamePages shape pages (use_pages page count pages)
SamePages-use shape page count pages some room free =
    let first : List PageState = set pages page (First count) in
    SamePages-trans shape pages first (use_pages page count pages)
    (SamePages-fill shape (First count) page 1 pages (omega arith) (NoClass-first shape count) (λ q low high. subst (λ (p : PageState). NoClass shape p) (sym (free q low (omega arith))) (NoClass-free shape)))
    (SamePages-fill shape Later (page + 1) (count - 1) first (omega (arith, length-set pages page (First count))) (NoClass-later shape) (λ q low high. subst (λ (p : PageState). NoClass shape p) (sym (kept q low ∙ free q (omega arith) (omega arith))) (NoClass-free shape)))
  where
    kept : (q : ℕ) → page + 1 ≤ q → page_at (set pages page (First count)) q ≡ page_at pages q
    kept q low = let ne : q ≢ page = λ e. absurd (omega arith) in get_or-set_other pages page q (First count) Free ne

-- a run is used
pub IsSound-run : (slab : Slab) (count page : ℕ) → IsSound slab → 0 < count → first_fit count slab.runs ≡ Some page → IsSound (grant_run slab count (Some page)).1
IsSound-run slab count page s some fit =
    let total = pages_of slab.shape in
    let within = first_fit-in total count slab.runs page s.runs fit in
    let free = λ (q : ℕ) (low : page ≤ q) (high : q < page + count). fit_free slab count page q s fit low high in
    IsSound-pages slab (use_pages page count slab.pages) (take_run count slab.runs) s
    (SamePages-use slab.shape page count slab.pages some (omega (arith, s.page_count)) free)
    (AreSound-take total count slab.runs some s.runs)
    (λ q low. covered q low (place_of q page count))
    (HasUsedRuns-use total page count slab.pages s.page_count some (omega arith) free s.used_runs)
  where
    outside : (q : ℕ) → (q < page) ⊎ (page + count ≤ q) → is_covered q (take_run count slab.runs) ≡ is_covered q slab.runs
    outside q o = let h = is_covered-take (pages_of slab.shape) count slab.runs page q s.runs fit in let n = is_within-not q page count o in grind (arith, common_steps, h, n)

    inside : (q : ℕ) → page ≤ q → q < page + count → is_covered q (take_run count slab.runs) ≡ false
    inside q low high = let h = is_covered-take (pages_of slab.shape) count slab.runs page q s.runs fit in let n = is_within-in q page count low high in grind (arith, common_steps, h, n)

    used_page : (q : ℕ) → page ≤ q → q < page + count → (q ≡ page) ⊎ (q ≢ page) → is_free (page_at (use_pages page count slab.pages) q) ≡ false
    used_page q low high (inl e) = let w = first_fit-in (pages_of slab.shape) count slab.runs page s.runs fit in ap (λ k. is_free (page_at (use_pages page count slab.pages) k)) e ∙ ap is_free (page_at-use_first page count slab.pages (omega (arith, w, s.page_count)))
    used_page q low high (inr ne) = let w = first_fit-in (pages_of slab.shape) count slab.runs page s.runs fit in ap is_free (page_at-use_later page count slab.pages q (omega (arith, w, s.page_count)) (omega (arith, ne)) high)

    covered : (q : ℕ) → q < pages_of slab.shape → Place q page count → is_free (page_at (use_pages page count slab.pages) q) ≡ is_covered q (take_run count slab.runs)
    covered q low (out o) = ap is_free (page_at-use_out page count slab.pages q some o) ∙ s.free q low ∙ sym (outside q o)
    covered q low (within l h) = used_page q l h (cases_eq q page) ∙ sym (inside q l h)

-- a used run's pages are no free run's
run_not_covered : (slab : Slab) (page count q : ℕ) → IsSound slab → page_at slab.pages page ≡ First count → page ≤ q → q < page + count → is_covered q slab.runs ≡ false
run_not_covered slab page count q s is low high =
    let run = s.used_runs.followed page count is in
    sym (s.free q (omega (arith, run.1))) ∙ not_free (cases_eq q page)
  where
    not_free : (q ≡ page) ⊎ (q ≢ page) → is_free (page_at slab.pages q) ≡ false
    not_free (inl e) = ap (λ k. is_free (page_at slab.pages k)) e ∙ ap is_free is
    not_free (inr ne) = ap is_free ((s.used_runs.followed page count is).2 q (omega (arith, ne)) high)

-- a used run comes back
pub IsSound-give_pages : (slab : Slab) (page count : ℕ) → IsSound slab → page_at slab.pages page ≡ First count → IsSound (give_pages slab page count)
IsSound-give_pages slab page count s is =
    let total = pages_of slab.shape in
    let run = s.used_runs.followed page count is in
    let back : Run = record { first = page; pages = count } in
    IsSound-pages slab (fill_pages Free page count slab.pages) (give_run back slab.runs) s
    (SamePages-fill slab.shape Free page count slab.pages (omega (arith, run.1, s.page_count)) (NoClass-free slab.shape) (λ q low high. old q low high (cases_eq q page)))
    (AreSound-give total back slab.runs run.0 run.1 (λ q low high. run_not_covered slab page count q s is low high) s.runs)
    (λ q low. covered q low (place_of q page count))
    (HasUsedRuns-free total page count slab.pages s.page_count is s.used_runs)
  where
    old : (q : ℕ) → page ≤ q → q < page + count → (q ≡ page) ⊎ (q ≢ page) → NoClass slab.shape (page_at slab.pages q)
    old q low high (inl e) = subst (λ (p : PageState). NoClass slab.shape p) (sym (ap (λ k. page_at slab.pages k) e ∙ is)) (NoClass-first slab.shape count)
    old q low high (inr ne) = subst (λ (p : PageState). NoClass slab.shape p) (sym ((s.used_runs.followed page count is).2 q (omega (arith, ne)) high)) (NoClass-later slab.shape)

    covered : (q : ℕ) → q < pages_of slab.shape → Place q page count → is_free (page_at (fill_pages Free page count slab.pages) q) ≡ is_covered q (give_run (record { first = page; pages = count }) slab.runs)
    covered q low (out o) =
        let h = is_covered-give (pages_of slab.shape) q (record { first = page; pages = count }) slab.runs s.runs in
        let n = is_within-not q page count o in
        ap is_free (page_at-fill_out Free page count slab.pages q o) ∙ s.free q low ∙ outside q n h
      where
        outside : (q : ℕ) → is_within q page count ≡ false → is_covered q (give_run (record { first = page; pages = count }) slab.runs) ≡ (is_covered q slab.runs || is_within q page count) → is_covered q slab.runs ≡ is_covered q (give_run (record { first = page; pages = count }) slab.runs)
        outside q n h = grind (arith, common_steps)
    covered q low (within l high) =
        let h = is_covered-give (pages_of slab.shape) q (record { first = page; pages = count }) slab.runs s.runs in
        let n = is_within-in q page count l high in
        ap is_free (page_at-fill_in Free page count slab.pages q (omega (arith, (s.used_runs.followed page count is).1, s.page_count)) l high) ∙ inside q n h
      where
        inside : (q : ℕ) → is_within q page count ≡ true → is_covered q (give_run (record { first = page; pages = count }) slab.runs) ≡ (is_covered q slab.runs || is_within q page count) → true ≡ is_covered q (give_run (record { first = page; pages = count }) slab.runs)
        inside q n h = grind (arith, common_steps)

-- what a page of the class adds to its statistics
pub stat_covers : (slab : Slab) (class page : ℕ) (used : List ℕ) → IsSound slab → class < 9 → page_at slab.pages page ≡ Class class used → (usable_blocks slab.shape class ≤ (stat_of slab class).total) × (length used ≤ (stat_of slab class).used)
stat_covers slab class page used s known is =
    let here : page < length slab.pages = page_at-in slab.pages page (λ e. cc) in
    let total = get_or-le-sum_by (usable_in_class slab.shape class) slab.pages page Free here in
    let count = get_or-le-sum_by (used_in_class class) slab.pages page Free here in
    let own = ap (usable_in_class slab.shape class) is ∙ usable-own slab.shape class used in
    let own_used = ap (used_in_class class) is ∙ used-own class used in
    let counts = s.counts class known in
    (omega (arith, total, own, counts.total), omega (arith, count, own_used, counts.used))

-- the lists once a page that keeps a block has one back
give_lists : (slab : Slab) (class page : ℕ) (used left : List ℕ) → IsSound slab → class < 9 → page_at slab.pages page ≡ Class class used → is_full slab.shape class left ≡ false → (full : Bool) → is_full slab.shape class used ≡ full → ListsChange slab page (Class class left) class (cond full (set slab.lists class (page ∷ list_of slab class)) slab.lists)
give_lists slab class page used left s known is room true full =
    let was = s.lists class known in
    let here : page < length slab.pages = page_at-in slab.pages page (λ e. cc) in
    let none : is_member page (list_of slab class) ≡ false = listed_test slab.shape class slab.pages (list_of slab class) was page ∙ ap (has_room slab.shape class) is ∙ has_room-own slab.shape class used ∙ ap not full in
    ListsChange-set slab page (Class class left) class (page ∷ list_of slab class) s known
    (Lists-page slab.shape class page (Class class left) slab.pages (list_of slab class) (page ∷ list_of slab class) here was (not_member page (list_of slab class) none, was.once) (λ q ne. later q page (list_of slab class) ne) (head page (list_of slab class) ∙ sym (has_room-own slab.shape class left ∙ ap not room)))
  where
    head : (page : ℕ) (rest : List ℕ) → is_member page (page ∷ rest) ≡ true
    head page rest = grind (arith, common_steps)

    later : (q page : ℕ) (rest : List ℕ) → q ≢ page → is_member q (page ∷ rest) ≡ is_member q rest
    later q page rest ne = grind (arith, common_steps)
give_lists slab class page used left s known is room false full =
    let was = s.lists class known in
    let here : page < length slab.pages = page_at-in slab.pages page (λ e. cc) in
    let there : is_member page (list_of slab class) ≡ true = listed_test slab.shape class slab.pages (list_of slab class) was page ∙ ap (has_room slab.shape class) is ∙ has_room-own slab.shape class used ∙ ap not full in
    ListsChange-same slab page (Class class left) class s
    (Lists-page slab.shape class page (Class class left) slab.pages (list_of slab class) (list_of slab class) here was was.once (λ q ne. refl) (there ∙ sym (has_room-own slab.shape class left ∙ ap not room)))

-- a page keeps a block
give_one : (slab : Slab) (class page index : ℕ) (used left : List ℕ) → IsSound slab → page_at slab.pages page ≡ Class class used → is_member index used ≡ true → without index used ≡ left → 0 < length left → IsSound (one_page slab page (Class class left) slab.runs class (cond (is_full slab.shape class used) (set slab.lists class (page ∷ list_of slab class)) slab.lists) (count_return 0 (stat_of slab class)))
give_one slab class page index used left s is there now some =
    let ok = s.used page class used is in
    let fewer : length left + 1 ≡ length used = subst (λ (l : List ℕ). length l + 1 ≡ length used) now (length-without index used (used-distinct slab.shape class used ok) there) in
    let left_ok : AreUsed slab.shape class left = subst (λ (l : List ℕ). AreUsed slab.shape class l) now (AreUsed-give slab.shape class index used ok (subst (λ (l : List ℕ). 0 < length l) (sym now) some)) in
    let usable = used-usable slab.shape class index used ok ((member index used).0 there) in
    let gone : is_member index left ≡ false = subst (λ (l : List ℕ). is_member index l ≡ false) now (gone_from index used) in
    let room = not_full slab.shape class index left usable.0 usable.1 gone in
    let counts = s.counts class ok.known in
    let covers = stat_covers slab class page used s ok.known is in
    IsSound-one_page slab page (Class class left) slab.runs class _ (count_return 0 (stat_of slab class)) s
    (OnePage-class slab class page used left _ (count_return 0 (stat_of slab class)) s is left_ok
    (give_lists slab class page used left s ok.known is room (is_full slab.shape class used) refl)
    (omega arith) (omega (arith, covers.1)) counts.fails counts.reqs)
  where
    gone_from : (index : ℕ) (used : List ℕ) → is_member index (without index used) ≡ false
    gone_from index used = let h = is_member-without index index used in grind (arith, common_steps, h)

-- a page without a block is given back
give_last : (slab : Slab) (class page index : ℕ) (used : List ℕ) → IsSound slab → page_at slab.pages page ≡ Class class used → is_member index used ≡ true → without index used ≡ [] → IsSound (one_page slab page Free (give_run (record { first = page; pages = 1 }) slab.runs) class (set slab.lists class (without page (list_of slab class))) (count_return (usable_blocks slab.shape class) (stat_of slab class)))
give_last slab class page index used s is there now =
    let total = pages_of slab.shape in
    let back : Run = record { first = page; pages = 1 } in
    let ok = s.used page class used is in
    let fewer : 1 ≡ length used = subst (λ (l : List ℕ). length l + 1 ≡ length used) now (length-without index used (used-distinct slab.shape class used ok) there) in
    let here = class_page-in slab class page used s is in
    let in_pages : page < length slab.pages = omega (arith, s.page_count) in
    let counts = s.counts class ok.known in
    let covers = stat_covers slab class page used s ok.known is in
    let was = s.lists class ok.known in
    let not_covered : is_covered page slab.runs ≡ false = sym (s.free page here) ∙ ap is_free is in
    IsSound-one_page slab page Free (give_run back slab.runs) class (set slab.lists class (without page (list_of slab class))) (count_return (usable_blocks slab.shape class) (stat_of slab class)) s
    (record {
      here = here;
      known = ok.known;
      old = subst (λ (p : PageState). NotInRun p) (sym is) (Class-NotInRun class used);
      new = Free-NotInRun;
      runs_ok = AreSound-give total back slab.runs (omega arith) (omega arith) (λ q low high. only q low high not_covered) s.runs;
      covered = λ q ne. let h = is_covered-give total q back slab.runs s.runs in covered q ne h;
      covers = let h = is_covered-give total page back slab.runs s.runs in covers_it h;
      used = λ own indexes e. absurd (cc);
      room_before = λ c ne. ap (has_room slab.shape c) is ∙ room-other slab.shape c class used ne;
      room_after = λ c ne. refl;
      usable_before = λ c ne. ap (usable_in_class slab.shape c) is ∙ usable-other slab.shape c class used ne;
      usable_after = λ c ne. refl;
      used_before = λ c ne. ap (used_in_class c) is ∙ used-other c class used ne;
      used_after = λ c ne. refl;
      lists_ok = ListsChange-set slab page Free class (without page (list_of slab class)) s ok.known (Lists-page slab.shape class page Free slab.pages (list_of slab class) (without page (list_of slab class)) in_pages was (IsDistinct-without page (list_of slab class) was.once) (λ q ne. kept q (list_of slab class) ne) (gone page (list_of slab class)));
      total = omega (arith, covers.0, ap (usable_in_class slab.shape class) is, usable-own slab.shape class used);
      used_count = omega (arith, covers.1, fewer, ap (used_in_class class) is, used-own class used);
      fails = counts.fails;
      reqs = counts.reqs;
    })
  where
    only : (q : ℕ) → page ≤ q → q < page + 1 → is_covered page slab.runs ≡ false → is_covered q slab.runs ≡ false
    only q low high h = let e : q ≡ page = omega arith in ap (λ k. is_covered k slab.runs) e ∙ h

    covered : (q : ℕ) → q ≢ page → is_covered q (give_run (record { first = page; pages = 1 }) slab.runs) ≡ (is_covered q slab.runs || is_within q page 1) → is_covered q (give_run (record { first = page; pages = 1 }) slab.runs) ≡ is_covered q slab.runs
    covered q ne h = let n = is_within-not q page 1 in grind (arith, common_steps, h)

    covers_it : is_covered page (give_run (record { first = page; pages = 1 }) slab.runs) ≡ (is_covered page slab.runs || is_within page page 1) → is_covered page (give_run (record { first = page; pages = 1 }) slab.runs) ≡ true
    covers_it h = grind (arith, common_steps, h)

    kept : (q : ℕ) (listed : List ℕ) → q ≢ page → is_member q (without page listed) ≡ is_member q listed
    kept q listed ne = let h = is_member-without q page listed in grind (arith, common_steps, h)

    gone : (q : ℕ) (listed : List ℕ) → is_member q (without q listed) ≡ false
    gone q listed = let h = is_member-without q q listed in grind (arith, common_steps, h)

pub IsSound-give_in_page : (slab : Slab) (class page index : ℕ) (used left : List ℕ) → IsSound slab → page_at slab.pages page ≡ Class class used → is_member index used ≡ true → without index used ≡ left → IsSound (give_in_page slab page class used left)
IsSound-give_in_page slab class page index used [] s is there now = give_last slab class page index used s is there now
IsSound-give_in_page slab class page index used (l ∷ ls) s is there now = give_one slab class page index used (l ∷ ls) s is there now (omega arith)

-- a fresh pool
pub IsSound-fresh : (shape : Shape) → IsInLimits shape → IsSound (fresh_slab shape)
IsSound-fresh shape limits =
    let z = zone shape limits in
    record {
      limits = limits;
      page_count = length-replicate (pages_of shape) Free;
      list_count = refl;
      stat_count = refl;
      runs = (z.pages, omega arith, tt, tt);
      free = λ q low. ap is_free (all_free q) ∙ covered q low;
      used_runs = record { followed = λ q n is. absurd (first q n is (all_free q)); belongs = λ q is. absurd (later q is (all_free q)) };
      used = λ q class used is. absurd (of_class q class used is (all_free q));
      lists = λ c low. Lists-by shape c (replicate (pages_of shape) Free) (get_or {A = List ℕ} (replicate 9 []) c []) (once c low) (λ q. none c q low ∙ sym (ap (has_room shape c) (all_free q)));
      counts = λ c low. counts_of c low;
    } where
      all_free : (q : ℕ) → page_at (replicate (pages_of shape) Free) q ≡ Free
      all_free q = elim (cases_lt q (pages_of shape)) [
        | inl l ↦ get_or-replicate (pages_of shape) q Free Free l
        | inr past ↦ get_or_past (replicate (pages_of shape) Free) q Free (omega (arith, length-replicate (pages_of shape) Free))
      ]

      covered : (q : ℕ) → q < pages_of shape → true ≡ is_covered q (record { first = 0; pages = pages_of shape } ∷ [])
      covered q low = grind (arith, common_steps)

      first : (q n : ℕ) → page_at (replicate (pages_of shape) Free) q ≡ First n → page_at (replicate (pages_of shape) Free) q ≡ Free → ⊥
      first q n is free = cc

      later : (q : ℕ) → page_at (replicate (pages_of shape) Free) q ≡ Later → page_at (replicate (pages_of shape) Free) q ≡ Free → ⊥
      later q is free = cc

      of_class : (q class : ℕ) (used : List ℕ) → page_at (replicate (pages_of shape) Free) q ≡ Class class used → page_at (replicate (pages_of shape) Free) q ≡ Free → ⊥
      of_class q class used is free = cc

      no_list : (c : ℕ) → c < 9 → get_or {A = List ℕ} (replicate 9 []) c [] ≡ []
      no_list c low = get_or-replicate 9 c [] [] low

      once : (c : ℕ) → c < 9 → IsDistinct (get_or {A = List ℕ} (replicate 9 []) c [])
      once c low = subst (λ (l : List ℕ). IsDistinct l) (sym (no_list c low)) tt

      none : (c q : ℕ) → c < 9 → is_member q (get_or {A = List ℕ} (replicate 9 []) c []) ≡ false
      none c q low = subst (λ (l : List ℕ). is_member q l ≡ false) (sym (no_list c low)) refl

      no_sum : (f : PageState → ℕ) → f Free ≡ 0 → (n : ℕ) → sum_by f (replicate n Free) ≡ 0
      no_sum f weightless zero = refl
      no_sum f weightless (suc n) = sum_by-cons f Free (replicate n Free) ∙ omega (arith, weightless, no_sum f weightless n)

      counts_of : (c : ℕ) → c < 9 → Counts shape c (replicate (pages_of shape) Free) (get_or (replicate 9 no_stat) c no_stat)
      counts_of c low = subst (λ (t : Stat). Counts shape c (replicate (pages_of shape) Free) t) (sym (get_or-replicate 9 c no_stat no_stat low)) (record {
        total = sym (no_sum (usable_in_class shape c) refl (pages_of shape));
        used = sym (no_sum (used_in_class c) refl (pages_of shape));
        fails = omega arith;
        reqs = omega arith;
      })
