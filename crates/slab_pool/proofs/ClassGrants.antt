-- A grant of a class: what its steps leave of the slab.
use Rattle.std.proofs.Common.{ℕ, ◌≡◌, ◌≢◌, ◌⊎◌, ◌+◌, ◌/◌, ◌<◌, ◌≤◌, Bool, true, false, ◌||◌, cond, eqb, Some, List, ◌∷◌, length, set, sym, ap, subst, ◌∙◌, refl, arith, inl, inr}
use Rattle.std.proofs.lemmas.Bool.{cases_lt}
use Rattle.std.proofs.lemmas.Grind.{common_steps}
use Rattle.zone_region.specs.Members.{In, IsDistinct}
use Rattle.slab_model.specs.declared.shape.Shape.{Shape}
use Rattle.slab_model.specs.declared.runs.Run.{Run}
use Rattle.slab_model.specs.declared.stat.Stat.{Stat}
use Rattle.slab_model.specs.declared.page.PageState.TheVariants.{Later, Class}
use Rattle.slab_model.specs.Geometry.{IsInLimits, kind_of, pages_of, first_index, blocks_in_page, usable_blocks, block_offset}
use Rattle.slab_model.specs.Numbers.{is_member, with_number, without}
use Rattle.slab_model.specs.State.{Slab, pages_in, page_at, list_of, stat_of}
use Rattle.slab_model.specs.Blocks.{lowest_unused, is_full, used_in}
use Rattle.slab_model.specs.Counting.{is_free, count_grant}
use Rattle.slab_model.specs.Soundness.{IsSound}
use Rattle.slab_model.specs.Grant.{grant_in_page}
use Rattle.slab_model.proofs.NumberLemmas.{member, not_member, is_member-with, without-none, member_not, first_unused-low, first_unused-high, first_unused-unused}
use Rattle.slab_model.proofs.StateLemmas.{lowest-is, lowest-in, not_full, used-usable}
use Rattle.slab_model.proofs.SoundLemmas.{listed-is, IsSound-in_page}
use Rattle.slab_model.proofs.Bounds.{small_stat}
use Rattle.slab_pages.specs.Places.{Image, class_head, descriptor, next_at, prev_at}
use Rattle.slab_pages.specs.Layout.{LaysRuns}
use Rattle.slab_pages.specs.Frames.{ChangesStat}
use Rattle.slab_pages.specs.SlabLayout.{LaysStat, LaysClassPage, LaysSlab, type_of}
use Rattle.slab_pages.proofs.PlaceLemmas.{descriptor-word}
use Rattle.slab_pages.proofs.FrameLemmas.{LaysSlab-stat, LaysStat-kept, LaysBits-kept, pages-behind}
use Rattle.slab_pages.proofs.TakeLemmas.{uncovered}
use Rattle.slab_pool.specs.Bits.{HasBits}
use Rattle.slab_pool.specs.Links.{Linked}
use Rattle.slab_pool.specs.Pool.{LaysPool}
use Rattle.slab_pool.specs.PoolSteps.{HasRuns, IsTaken, HasList, KeepsRuns, ChangesBits, RelinksPages, UnlinksPage, IsFirstUnused, LeavesIfFull, stays, leaves, Answers, KeepsBehind}
use Rattle.slab_pool.specs.Live.{KeepsPages}
use Rattle.slab_pool.proofs.KindLemmas.{numbers}
use Rattle.slab_pool.proofs.RunLemmas.{pool-runs}
use Rattle.slab_pool.proofs.BehindLemmas.{behind-bits, behind-links, behind-stat, behind-then, behind-same, keeps-before}
use Rattle.slab_pool.proofs.StepLemmas.{Placed, placed, class_in-zone, later_class, with_page, with_list, LaysSlab-bits, Linked-of, LaysSlab-links, placed-list}

-- ---- what a pool's words say of a class

-- a page that isn't free
pub pool-taken : (image : Image) (slab : Slab) (page : ℕ) → LaysPool image slab → page < pages_in slab → is_free (page_at slab.pages page) ≡ false → IsTaken image page
pool-taken image slab page p low used = record {
  limits = subst (λ (s : Shape). IsInLimits s) p.shape_is p.sound.limits;
  below = subst (λ (s : Shape). page < pages_of s) p.shape_is low;
  runs = slab.runs;
  laid = pool-runs image slab p;
  free = uncovered slab page p.sound used;
}

-- the class's list
pub pool-list : (image : Image) (slab : Slab) (class : ℕ) → LaysPool image slab → class < 9 → HasList image class (list_of slab class)
pool-list image slab class p known = record {
  linked = subst (λ (s : Shape). Linked image.words (class_head class) (type_of (kind_of s class)) (class_head class) (list_of slab class)) p.shape_is (Linked-of image.words slab.shape class (class_head class) (list_of slab class) (p.laid.lists class known).linked);
  once = (p.sound.lists class known).once;
  taken = λ page m. let h = (placed slab p.sound).listed class page known m in pool-taken image slab page p (class_in-zone slab page class h.0 (placed slab p.sound) h.1) (ap is_free h.1);
}

pub class-taken : (image : Image) (slab : Slab) (page class : ℕ) (used : List ℕ) → LaysPool image slab → page_at slab.pages page ≡ Class class used → IsTaken image page
class-taken image slab page class used p is = pool-taken image slab page p (class_in-zone slab page class used (placed slab p.sound) is) (ap is_free is)

-- its free runs
pub pool-has_runs : (image : Image) (slab : Slab) → LaysPool image slab → HasRuns image
pool-has_runs image slab p = record { limits = subst (λ (s : Shape). IsInLimits s) p.shape_is p.sound.limits; runs = slab.runs; laid = pool-runs image slab p }

-- the bits of a page of the class
pub pool-bits : (image : Image) (slab : Slab) (page class : ℕ) (used : List ℕ) → LaysPool image slab → page_at slab.pages page ≡ Class class used → HasBits image.words image.shape page class used
pool-bits image slab page class used p is = subst (λ (s : Shape). HasBits image.words s page class used) p.shape_is (record {
  known = (p.sound.used page class used is).known;
  bits = (p.laid.classes page class used is).bits;
  usable = λ index m. used-usable slab.shape class index used (p.sound.used page class used is) m;
})

-- its statistics, which a grant can raise
pub pool-stat : (image : Image) (slab : Slab) (class : ℕ) → LaysPool image slab → class < 9 → LaysStat image.words class (stat_of slab class) × ((stat_of slab class).total ≤ 8388608) × ((stat_of slab class).used ≤ 8388608)
pool-stat image slab class p known = let few = small_stat slab class p.sound known in (p.laid.stats class known, few.total, few.used)

-- ---- the index that is granted

-- the first unused index of a page with room is the lowest one
pub first-lowest : (shape : Shape) (class r : ℕ) (used : List ℕ) → class < 9 → is_full shape class used ≡ false → IsFirstUnused shape class (first_index shape class) used r → (r ≡ lowest_unused shape class used) × (first_index shape class ≤ r) × (r < blocks_in_page shape class)
first-lowest shape class r used known room f =
    let low = lowest-in shape class used known room in
    let below : r < blocks_in_page shape class = elim (cases_lt (lowest_unused shape class used) r) [
      | inl l ↦ absurd (both (f.between (lowest_unused shape class used) low.0 l) low.2)
      | inr g ↦ omega (arith, g, low.1)
    ] in
    (sym (lowest-is shape class r used known f.low below (not_member r used (f.unused below)) (λ lower a b. (member lower used).0 (f.between lower a b))), f.low, below) where
      both : {t : Bool} → t ≡ true → t ≡ false → ⊥
      both a b = cc

-- a page is full where all that it can grant is used
all-full : (shape : Shape) (class : ℕ) (used : List ℕ) → class < 9 → ((k : ℕ) → first_index shape class ≤ k → k < blocks_in_page shape class → is_member k used ≡ true) → is_full shape class used ≡ true
all-full shape class used known all = go (cases_lt (lowest_unused shape class used) (blocks_in_page shape class)) where
  go : (lowest_unused shape class used < blocks_in_page shape class) ⊎ (blocks_in_page shape class ≤ lowest_unused shape class used) → is_full shape class used ≡ true
  go (inl less) =
      let sum = (numbers shape class known).sum in
      let free = first_unused-unused (usable_blocks shape class) (first_index shape class) used (omega (arith, less, sum)) in
      absurd (both (all (lowest_unused shape class used) (first_unused-low (usable_blocks shape class) (first_index shape class) used) less) free) where
        both : {t : Bool} → t ≡ true → t ≡ false → ⊥
        both a b = cc
  go (inr more) = same (lowest_unused shape class used) (blocks_in_page shape class) (omega (arith, more, first_unused-high (usable_blocks shape class) (first_index shape class) used, (numbers shape class known).sum)) where
    same : (a b : ℕ) → a ≡ b → eqb a b ≡ true
    same a b e = grind (arith, common_steps, e)

-- whether the page is full once the index is used too
now-full : (shape : Shape) (class r : ℕ) (used : List ℕ) → class < 9 → IsFirstUnused shape class (first_index shape class) used r → ((k : ℕ) → r < k → k < blocks_in_page shape class → is_member k used ≡ true) → is_full shape class (with_number r used) ≡ true
now-full shape class r used known f all = all-full shape class (with_number r used) known (λ k a b. is_member-with k r used ∙ here k (cases_lt k r) (cases_lt r k) a b) where
  here : (k : ℕ) → (k < r) ⊎ (r ≤ k) → (r < k) ⊎ (k ≤ r) → first_index shape class ≤ k → k < blocks_in_page shape class → (eqb k r || is_member k used) ≡ true
  here k (inl l) _ a b = let m = f.between k a l in grind (arith, common_steps, m)
  here k (inr g) (inl l) a b = let m = all k l b in grind (arith, common_steps, m)
  here k (inr g) (inr h) a b = grind (arith, common_steps, g, h)

not-full : (shape : Shape) (class r k : ℕ) (used : List ℕ) → first_index shape class ≤ r → r < k → k < blocks_in_page shape class → is_member k used ≡ false → is_full shape class (with_number r used) ≡ false
not-full shape class r k used first more below none = not_full shape class k (with_number r used) (omega (arith, first, more)) below (is_member-with k r used ∙ other k r (is_member k used) more none) where
  other : (k r : ℕ) (t : Bool) → r < k → t ≡ false → (eqb k r || t) ≡ false
  other k r t l e = grind (arith, common_steps, l, e)

-- ---- from the first page of the list

-- what the steps left, by the slab's shape
pub record InPage (shape : Shape) (class page r : ℕ) (used listed : List ℕ) (old a b new : List ℕ) : Type 0 where
  pub first : IsFirstUnused shape class (first_index shape class) used r
  pub leave : LeavesIfFull shape class page r used listed old a
  pub leave_runs : (runs : List Run) → LaysRuns (record { shape = shape; words = old }) runs → LaysRuns (record { shape = shape; words = a }) runs
  pub marks : ChangesBits shape class page a b
  pub mark_runs : (runs : List Run) → LaysRuns (record { shape = shape; words = a }) runs → LaysRuns (record { shape = shape; words = b }) runs
  pub bits : HasBits b shape page class (with_number r used)
  pub stat : ChangesStat b new class
  pub counts : (s : Stat) → LaysStat b class s → LaysStat new class (count_grant 0 s)

-- the links of a page stay where its bits change
pub links-stay : (shape : Shape) (class page : ℕ) (old new : List ℕ) → IsInLimits shape → page < pages_of shape → ChangesBits shape class page old new → (next_at new (descriptor page) ≡ next_at old (descriptor page)) × (prev_at new (descriptor page) ≡ prev_at old (descriptor page))
links-stay shape class page old new limits below c =
    let at = descriptor-word page in
    let behind = pages-behind shape page limits in
    (c.others (descriptor page / 8 + 1) (λ e. omega (arith, e, at)) (λ _. inl (omega (arith, at, below, behind))), c.others (descriptor page / 8 + 2) (λ e. omega (arith, e, at)) (λ _. inl (omega (arith, at, below, behind))))

-- the statistics come last
pub counted : (slab : Slab) (class : ℕ) (stat : Stat) (b new : List ℕ) → IsInLimits slab.shape → class < 9 → class < length slab.stats → ChangesStat b new class → LaysStat new class stat → LaysSlab b slab → LaysSlab new (record { shape = slab.shape; pages = slab.pages; runs = slab.runs; lists = slab.lists; stats = set slab.stats class stat })
counted slab class stat b new limits known room c now l = LaysSlab-stat slab b new class stat limits known room c now l

without-head : (page : ℕ) (rest : List ℕ) → IsDistinct (page ∷ rest) → without page (page ∷ rest) ≡ rest
without-head page rest once = own page rest ∙ without-none page rest (member_not page rest once.0) where
  own : (page : ℕ) (rest : List ℕ) → without page (page ∷ rest) ≡ without page rest
  own page rest = grind (arith, common_steps)

differ : {t : Bool} → t ≡ true → t ≡ false → ⊥
differ x y = cc

pub laid-in_page : (slab : Slab) (class page r : ℕ) (rest used : List ℕ) (old a b new : List ℕ) → IsSound slab → LaysSlab old slab → class < 9 → list_of slab class ≡ page ∷ rest → page_at slab.pages page ≡ Class class used → is_full slab.shape class used ≡ false → InPage slab.shape class page r used (page ∷ rest) old a b new → LaysSlab new (grant_in_page slab class page rest used).1
laid-in_page slab class page r rest used old a b new s l known listed is room h =
    let f = first-lowest slab.shape class r used known room h.first in
    let pl = placed slab s in
    let below = class_in-zone slab page class used pl is in
    let in_lists : class < length slab.lists = omega (arith, s.list_count, known) in
    let in_stats : class < length slab.stats = omega (arith, s.stat_count, known) in
    subst (λ (i : ℕ). LaysSlab new (record {
      shape = slab.shape;
      pages = set slab.pages page (Class class (with_number i used));
      runs = slab.runs;
      lists = cond (is_full slab.shape class (with_number i used)) (set slab.lists class rest) slab.lists;
      stats = set slab.stats class (count_grant 0 (stat_of slab class));
    })) f.0 (go pl below in_lists in_stats f h.leave) where
      not_later : page_at slab.pages page ≢ Later
      not_later e = later_class class used (sym e ∙ is)

      go : Placed slab → page < pages_in slab → class < length slab.lists → class < length slab.stats → (r ≡ lowest_unused slab.shape class used) × (first_index slab.shape class ≤ r) × (r < blocks_in_page slab.shape class) → LeavesIfFull slab.shape class page r used (page ∷ rest) old a → LaysSlab new (record {
        shape = slab.shape;
        pages = set slab.pages page (Class class (with_number r used));
        runs = slab.runs;
        lists = cond (is_full slab.shape class (with_number r used)) (set slab.lists class rest) slab.lists;
        stats = set slab.stats class (count_grant 0 (stat_of slab class));
      })
      go pl below in_lists in_stats f (stays k more less none same) =
          let open_still = not-full slab.shape class r k used f.1 more less none in
          let l_a : LaysSlab a slab = subst (λ (ws : List ℕ). LaysSlab ws slab) (sym same) l in
          let own : LaysClassPage b slab.shape page class (with_number r used) = record { bits = h.bits.bits; next_if_full = λ full. absurd (differ full open_still); prev_if_full = λ full. absurd (differ full open_still) } in
          let l_b = LaysSlab-bits slab class page (with_number r used) a b pl known below not_later l_a (h.mark_runs slab.runs l_a.runs) h.marks own in
          let l_new = counted (with_page slab page (Class class (with_number r used))) class (count_grant 0 (stat_of slab class)) b new s.limits known in_stats h.stat (h.counts (stat_of slab class) (l_b.stats class known)) l_b in
          subst (λ (t : Bool). LaysSlab new (record {
            shape = slab.shape;
            pages = set slab.pages page (Class class (with_number r used));
            runs = slab.runs;
            lists = cond t (set slab.lists class rest) slab.lists;
            stats = set slab.stats class (count_grant 0 (stat_of slab class));
          })) (sym open_still) l_new
      go pl below in_lists in_stats f (leaves all u) =
          let full_now = now-full slab.shape class r used known h.first all in
          let once : IsDistinct (page ∷ rest) = subst (λ (ps : List ℕ). IsDistinct ps) listed (s.lists class known).once in
          let linked = subst (λ (ps : List ℕ). Linked a (class_head class) (type_of (kind_of slab.shape class)) (class_head class) ps) (without-head page rest once) u.linked in
          let changes = subst (λ (ps : List ℕ). RelinksPages class page ps old a) (sym listed) u.changes in
          let l_a = LaysSlab-links slab class page used rest old a pl known in_lists is l (h.leave_runs slab.runs l.runs) changes (λ full. absurd (differ full room)) linked in
          let pl_a = placed-list slab class rest pl in_lists (λ q m. pl.listed class q known (subst (λ (ps : List ℕ). In q ps) (sym listed) (inr m))) in
          let stay = links-stay slab.shape class page a b s.limits below h.marks in
          let own : LaysClassPage b slab.shape page class (with_number r used) = record { bits = h.bits.bits; next_if_full = λ _. stay.0 ∙ u.next; prev_if_full = λ _. stay.1 ∙ u.prev } in
          let l_b = LaysSlab-bits (with_list slab class rest) class page (with_number r used) a b pl_a known below not_later l_a (h.mark_runs slab.runs l_a.runs) h.marks own in
          let l_new = counted (with_page (with_list slab class rest) page (Class class (with_number r used))) class (count_grant 0 (stat_of slab class)) b new s.limits known in_stats h.stat (h.counts (stat_of slab class) (l_b.stats class known)) l_b in
          subst (λ (t : Bool). LaysSlab new (record {
            shape = slab.shape;
            pages = set slab.pages page (Class class (with_number r used));
            runs = slab.runs;
            lists = cond t (set slab.lists class rest) slab.lists;
            stats = set slab.stats class (count_grant 0 (stat_of slab class));
          })) (sym full_now) l_new

-- ---- what a step leaves of the rest

pub list-below : (image : Image) (class page : ℕ) (listed : List ℕ) → HasList image class listed → IsTaken image page → (q : ℕ) → (q ≡ page) ⊎ In q listed → q < pages_of image.shape
list-below image class page listed l t q m = elim m [ inl e ↦ omega (arith, e, t.below) | inr i ↦ (l.taken q i).below ]

pub links-bits : (shape : Shape) (class page : ℕ) (listed used : List ℕ) (old new : List ℕ) → IsInLimits shape → ((q : ℕ) → (q ≡ page) ⊎ In q listed → q < pages_of shape) → RelinksPages class page listed old new → HasBits old shape page class used → HasBits new shape page class used
links-bits shape class page listed used old new limits below c h =
    let known : class < 9 = h.known in
    let at = descriptor-word page in
    let behind = pages-behind shape page limits in
    record {
      known = h.known;
      bits = LaysBits-kept (kind_of shape class) old new shape page class used
          (c.others (descriptor page / 8) (λ e. omega (arith, e, at, known)) (λ q m. (λ e. omega (arith, e, at), λ e. omega (arith, e, at))))
          (λ _ w a b. c.others w (λ e. omega (arith, e, a, behind, known)) (λ q m. let z = below q m in (λ e. omega (arith, e, a, behind, z), λ e. omega (arith, e, a, behind, z)))) h.bits;
      usable = h.usable;
    }

pub links-stat : (class page c : ℕ) (listed : List ℕ) (stat : Stat) (old new : List ℕ) → class < 9 → c < 9 → RelinksPages class page listed old new → LaysStat old c stat → LaysStat new c stat
links-stat class page c listed stat old new known ok h l = LaysStat-kept old new c stat (λ w a b. h.others w (λ e. omega (arith, e, a, known)) (λ q m. (λ e. omega (arith, e, b, ok), λ e. omega (arith, e, b, ok)))) l

pub bits-stat : (shape : Shape) (class page c : ℕ) (stat : Stat) (old new : List ℕ) → IsInLimits shape → c < 9 → ChangesBits shape class page old new → LaysStat old c stat → LaysStat new c stat
bits-stat shape class page c stat old new limits ok h l = let behind = pages-behind shape page limits in LaysStat-kept old new c stat (λ w a b. h.others w (λ e. omega (arith, e, b, ok)) (λ _. inl (omega (arith, b, ok, behind)))) l

leave-bits : (image : Image) (class page index : ℕ) (used listed : List ℕ) (new : List ℕ) → IsTaken image page → HasList image class listed → LeavesIfFull image.shape class page index used listed image.words new → HasBits image.words image.shape page class used → HasBits new image.shape page class used
leave-bits image class page index used listed new t l (stays k a b none same) h = subst (λ (ws : List ℕ). HasBits ws image.shape page class used) (sym same) h
leave-bits image class page index used listed new t l (leaves all u) h = links-bits image.shape class page listed used image.words new t.limits (list-below image class page listed l t) u.changes h

leave-stat : (image : Image) (class page index : ℕ) (used listed : List ℕ) (stat : Stat) (new : List ℕ) → class < 9 → LeavesIfFull image.shape class page index used listed image.words new → LaysStat image.words class stat → LaysStat new class stat
leave-stat image class page index used listed stat new known (stays k a b none same) h = subst (λ (ws : List ℕ). LaysStat ws class stat) (sym same) h
leave-stat image class page index used listed stat new known (leaves all u) h = links-stat class page class listed stat image.words new known known u.changes h

leave-behind : (image : Image) (class page index : ℕ) (used listed : List ℕ) (new : List ℕ) → class < 9 → IsTaken image page → HasList image class listed → LeavesIfFull image.shape class page index used listed image.words new → KeepsBehind image.shape class page image.words new
leave-behind image class page index used listed new known t l (stays k a b none same) = behind-same image.shape class page image.words new same
leave-behind image class page index used listed new known t l (leaves all u) = behind-links image.shape class page listed image.words new known (list-below image class page listed l t) u.changes

-- ---- a grant in the first page

-- the page, its bits and the index that is granted
pub record FirstPage (image : Image) (slab : Slab) (class page r : ℕ) : Type 0 where
  pub rest : List ℕ
  pub used : List ℕ
  pub listed : list_of slab class ≡ page ∷ rest
  pub is : page_at slab.pages page ≡ Class class used
  pub used_is : used ≡ used_in (page_at slab.pages page)
  pub room : is_full slab.shape class used ≡ false
  pub taken : IsTaken image page
  pub bits : HasBits image.words image.shape page class used
  pub list : HasList image class (list_of slab class)
  pub member : In page (list_of slab class)

pub first-page : (image : Image) (slab : Slab) (class page r : ℕ) (rest : List ℕ) → LaysPool image slab → class < 9 → list_of slab class ≡ page ∷ rest → FirstPage image slab class page r
first-page image slab class page r rest p known listed =
    let h = listed-is slab class page rest p.sound known listed in
    record {
      rest = rest;
      used = used_in (page_at slab.pages page);
      listed = listed;
      is = h.0;
      used_is = refl;
      room = h.1;
      taken = class-taken image slab page class _ p h.0;
      bits = pool-bits image slab page class _ p h.0;
      list = pool-list image slab class p known;
      member = subst (λ (ps : List ℕ). In page ps) (sym listed) (inl refl);
    }

-- the index that the code found
pub found-index : (image : Image) (slab : Slab) (class page from r : ℕ) → LaysPool image slab → class < 9 → (f : FirstPage image slab class page r) → from ≡ first_index image.shape class → ((used : List ℕ) → HasBits image.words image.shape page class used → IsFirstUnused image.shape class from used r) → IsFirstUnused image.shape class (first_index image.shape class) f.used r × (r ≡ lowest_unused image.shape class f.used) × (first_index image.shape class ≤ r) × (r < blocks_in_page image.shape class)
found-index image slab class page from r p known f is h =
    let first = subst (λ (n : ℕ). IsFirstUnused image.shape class n f.used r) is (h f.used f.bits) in
    let l = first-lowest image.shape class r f.used known (subst (λ (s : Shape). is_full s class f.used ≡ false) p.shape_is f.room) first in
    (first, l.0, l.1, l.2)

-- what each step ensures
pub record PageSteps (class page r : ℕ) (old a b new : Image) : Type 0 where
  pub leave_runs : KeepsRuns old a
  pub leave : (used listed : List ℕ) → HasBits old.words old.shape page class used → HasList old class listed → In page listed → LeavesIfFull old.shape class page r used listed old.words a.words
  pub mark_runs : KeepsRuns a b
  pub marks : ChangesBits a.shape class page a.words b.words
  pub marked : (used : List ℕ) → HasBits a.words a.shape page class used → HasBits b.words a.shape page class (with_number r used)
  pub stat_runs : KeepsRuns b new
  pub stat : ChangesStat b.words new.words class
  pub counts : (s : Stat) → LaysStat b.words class s → LaysStat new.words class (count_grant 0 s)

-- the bits once the list is left
pub left-bits : (old a : Image) (slab : Slab) (class page r : ℕ) → FirstPage old slab class page r → KeepsRuns old a → ((used listed : List ℕ) → HasBits old.words old.shape page class used → HasList old class listed → In page listed → LeavesIfFull old.shape class page r used listed old.words a.words) → (used : List ℕ) × HasBits a.words a.shape page class used
left-bits old a slab class page r f k leave = (f.used, subst (λ (s : Shape). HasBits a.words s page class f.used) (sym k.shape_is) (leave-bits old class page r f.used (list_of slab class) a.words f.taken f.list (leave f.used (list_of slab class) f.bits f.list f.member) f.bits))

-- the statistics once the bit is set
pub marked-stat : (old a b : Image) (slab : Slab) (class page r : ℕ) (used : List ℕ) → LaysPool old slab → class < 9 → FirstPage old slab class page r → KeepsRuns old a → LeavesIfFull old.shape class page r used (list_of slab class) old.words a.words → ChangesBits a.shape class page a.words b.words → LaysStat b.words class (stat_of slab class)
marked-stat old a b slab class page r used p known f k leave marks =
    bits-stat a.shape class page class (stat_of slab class) a.words b.words (subst (λ (s : Shape). IsInLimits s) (sym k.shape_is) f.taken.limits) known marks
    (leave-stat old class page r _ (list_of slab class) (stat_of slab class) a.words known leave (p.laid.stats class known))

pub runs-at : (old new : Image) (shape : Shape) (runs : List Run) → KeepsRuns old new → old.shape ≡ shape → LaysRuns (record { shape = shape; words = old.words }) runs → LaysRuns (record { shape = shape; words = new.words }) runs
runs-at old new shape runs k e l =
    let here : LaysRuns old runs = subst (λ (s : Shape). LaysRuns (record { shape = s; words = old.words }) runs) (sym e) l in
    subst (λ (s : Shape). LaysRuns (record { shape = s; words = new.words }) runs) (k.shape_is ∙ e) (k.laid runs here)

pub granted-page : (old a b new : Image) (slab : Slab) (class page r at from : ℕ) → LaysPool old slab → class < 9 → FirstPage old slab class page r → from ≡ first_index old.shape class → ((used : List ℕ) → HasBits old.words old.shape page class used → IsFirstUnused old.shape class from used r) → PageSteps class page r old a b new → at ≡ block_offset new.shape page class r → (rest : List ℕ) → list_of slab class ≡ page ∷ rest → Answers (grant_in_page slab class page rest (used_in (page_at slab.pages page))) (Some at) new
granted-page old a b new slab class page r at from p known f from_is found s at_is rest listed =
    let first = found-index old slab class page from r p known f from_is found in
    let shape_a = s.leave_runs.shape_is in
    let shape_new : new.shape ≡ old.shape = s.stat_runs.shape_is ∙ s.mark_runs.shape_is ∙ shape_a in
    let used = used_in (page_at slab.pages page) in
    let e = f.used_is in
    let is : page_at slab.pages page ≡ Class class used = f.is ∙ ap (λ u. Class class u) e in
    let bits_old = subst (λ (u : List ℕ). HasBits old.words old.shape page class u) e f.bits in
    let leave = s.leave used (list_of slab class) bits_old f.list f.member in
    let bits_a = subst (λ (sh : Shape). HasBits a.words sh page class used) (sym shape_a) (leave-bits old class page r used (list_of slab class) a.words f.taken f.list leave bits_old) in
    let h : InPage old.shape class page r used (page ∷ rest) old.words a.words b.words new.words = record {
      first = subst (λ (u : List ℕ). IsFirstUnused old.shape class (first_index old.shape class) u r) e first.0;
      leave = subst (λ (ps : List ℕ). LeavesIfFull old.shape class page r used ps old.words a.words) listed leave;
      leave_runs = λ runs l. runs-at old a old.shape runs s.leave_runs refl l;
      marks = subst (λ (sh : Shape). ChangesBits sh class page a.words b.words) shape_a s.marks;
      mark_runs = λ runs l. runs-at a b old.shape runs s.mark_runs shape_a l;
      bits = subst (λ (sh : Shape). HasBits b.words sh page class (with_number r used)) shape_a (s.marked used bits_a);
      stat = s.stat;
      counts = s.counts;
    } in
    let room = subst (λ (u : List ℕ). is_full slab.shape class u ≡ false) e f.room in
    record {
      result_is = ap Some (at_is ∙ ap (λ (sh : Shape). block_offset sh page class r) (shape_new ∙ sym p.shape_is) ∙ ap (λ i. block_offset slab.shape page class i) (first.1 ∙ ap (λ (sh : Shape). lowest_unused sh class f.used) (sym p.shape_is) ∙ ap (λ u. lowest_unused slab.shape class u) e));
      laid = record {
        shape_is = p.shape_is ∙ sym shape_new;
        sound = IsSound-in_page slab class page rest p.sound known listed;
        laid = laid-in_page slab class page r rest used old.words a.words b.words new.words p.sound p.laid known listed is room (subst (λ (sh : Shape). InPage sh class page r used (page ∷ rest) old.words a.words b.words new.words) (sym p.shape_is) h);
      };
    }

pub kept-page : (old a b new : Image) (slab : Slab) (class page r : ℕ) → LaysPool old slab → class < 9 → FirstPage old slab class page r → PageSteps class page r old a b new → KeepsPages old new
kept-page old a b new slab class page r p known f s =
    let shape_a = s.leave_runs.shape_is in
    let leave = s.leave f.used (list_of slab class) f.bits f.list f.member in
    keeps-before old new slab class page f.used p f.is (s.stat_runs.shape_is ∙ s.mark_runs.shape_is ∙ shape_a)
    (behind-then old.shape class page old.words a.words new.words
    (leave-behind old class page r f.used (list_of slab class) a.words known f.taken f.list leave)
    (behind-then old.shape class page a.words b.words new.words
    (behind-bits old.shape class page a.words b.words f.taken.limits f.taken.below (subst (λ (sh : Shape). ChangesBits sh class page a.words b.words) shape_a s.marks))
    (behind-stat old.shape class page class b.words new.words known s.stat)))

-- ---- whether the page leaves the list

pub left-full : (shape : Shape) (class page index r n : ℕ) (used listed : List ℕ) (old new : List ℕ) → IsFirstUnused shape class (index + 1) used r → n ≡ blocks_in_page shape class → r ≡ n → UnlinksPage shape class page listed old new → LeavesIfFull shape class page index used listed old new
left-full shape class page index r n used listed old new f n_is same u = leaves (λ k more less. f.between k (omega (arith, more)) (omega (arith, less, same, n_is))) u

pub left-open : (shape : Shape) (class page index r n : ℕ) (used listed : List ℕ) (old : List ℕ) → IsFirstUnused shape class (index + 1) used r → n ≡ blocks_in_page shape class → r ≢ n → LeavesIfFull shape class page index used listed old old
left-open shape class page index r n used listed old f n_is ne = let less : r < blocks_in_page shape class = omega (arith, f.high, ne, n_is) in stays r (omega (arith, f.low)) less (f.unused less) refl

-- ---- the statistics that the words tell

pub same-stat : (words : List ℕ) (class : ℕ) (s t : Stat) → LaysStat words class s → LaysStat words class t → s ≡ t
same-stat words class s t a b = both s t (sym a.total ∙ b.total) (sym a.used ∙ b.used) (sym a.reqs ∙ b.reqs) (sym a.fails ∙ b.fails) where
  both : (s t : Stat) → s.total ≡ t.total → s.used ≡ t.used → s.reqs ≡ t.reqs → s.fails ≡ t.fails → s ≡ t
  both s t total used reqs fails =
      let f : ℕ → ℕ → ℕ → ℕ → Stat = λ a b c d. record { total = a; used = b; reqs = c; fails = d } in
      ap (λ n. f n s.used s.reqs s.fails) total ∙ ap (λ n. f t.total n s.reqs s.fails) used ∙ ap (λ n. f t.total t.used n s.fails) reqs ∙ ap (λ n. f t.total t.used t.reqs n) fails
