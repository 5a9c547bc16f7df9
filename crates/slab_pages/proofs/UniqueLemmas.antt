-- The words tell the whole slab.
use Rattle.std.proofs.Common.{ℕ, ◌≡◌, ◌≢◌, ◌+◌, ◌-◌, ◌%◌, ◌^◌, ◌<◌, ◌≤◌, Bool, true, false, not, ◌&&◌, ◌||◌, eqb, leb, List, [], ◌∷◌, refl, sym, ap, subst, arith, inl, inr, ◌∙◌}
use Rattle.std.proofs.lemmas.Bool.{agree_below_at}
use Rattle.std.proofs.lemmas.List.{ext_get_or}
use Rattle.std.proofs.lemmas.Grind.{common_steps}
use Rattle.zone_region.specs.Members.{In}
use Rattle.slab_model.specs.declared.runs.Run.{Run}
use Rattle.slab_model.specs.declared.shape.Shape.{Shape}
use Rattle.slab_model.specs.declared.stat.Stat.{Stat}
use Rattle.slab_model.specs.declared.page.PageState.{PageState}
use Rattle.slab_model.specs.declared.page.PageState.TheVariants.{Free, First, Later, Class}
use Rattle.slab_model.specs.Geometry.{Kind, small, exact, big, kind_of, class_count, class_size, blocks_in_page, first_index, pages_of}
use Rattle.slab_model.specs.Runs.{is_covered}
use Rattle.slab_model.specs.State.{Slab, page_at, list_of, stat_of, no_stat}
use Rattle.slab_model.specs.Counting.{is_free}
use Rattle.slab_model.specs.Soundness.{IsSound, AreUsed}
use Rattle.slab_model.proofs.ClassLemmas.{zone}
use Rattle.slab_model.proofs.NumberLemmas.{In-from, ascending_same}
use Rattle.slab_pages.specs.Places.{head_count, class_head, descriptor, prev_at, HasWords}
use Rattle.slab_pages.specs.SlabLayout.{LaysStat, LaysPages, LaysBits, LaysSlab, type_of}
use Rattle.slab_pages.proofs.PlaceLemmas.{descriptor-injective}
use Rattle.slab_pages.proofs.PagesLemmas.{runs-unique}
use Rattle.slab_pages.proofs.ComeBackLemmas.{class-type, classed}

-- ---- lists and statistics

-- the head of a list is no descriptor
head_other : (class page : ℕ) → class < head_count → class_head class ≢ descriptor page
unfolding descriptor
head_other class page known e = omega (arith, known, e)

-- the links tell a class's list
pages-unique : (words : List ℕ) (shape : Shape) (class o : ℕ) (xs ys : List ℕ) → class < head_count → LaysPages words shape class o xs → LaysPages words shape class o ys → xs ≡ ys
pages-unique words shape class o [] [] known h k = refl
pages-unique words shape class o [] (y ∷ ys) known h k = absurd (head_other class y known (sym h ∙ k.0))
pages-unique words shape class o (x ∷ xs) [] known h k = absurd (head_other class x known (sym k ∙ h.0))
pages-unique words shape class o (x ∷ xs) (y ∷ ys) known h k =
    let first : x ≡ y = descriptor-injective x y (sym h.0 ∙ k.0) in
    let rest = pages-unique words shape class (descriptor x) xs ys known h.2 (subst (λ (n : ℕ). LaysPages words shape class (descriptor n) ys) (sym first) k.2) in
    ap (λ (zs : List ℕ). x ∷ zs) rest ∙ ap (λ (z : ℕ). z ∷ ys) first

-- four words tell the statistics of a class
stat-unique : (words : List ℕ) (class : ℕ) (a b : Stat) → LaysStat words class a → LaysStat words class b → a ≡ b
stat-unique words class a b h k = equal a b (sym h.total ∙ k.total) (sym h.used ∙ k.used) (sym h.reqs ∙ k.reqs) (sym h.fails ∙ k.fails) where
  equal : (a b : Stat) → a.total ≡ b.total → a.used ≡ b.used → a.reqs ≡ b.reqs → a.fails ≡ b.fails → a ≡ b
  equal a b t u r f = grind (arith, common_steps)

-- ---- the pages

-- the type tells the kind
type-injective : (j k : Kind) → type_of j ≡ type_of k → j ≡ k
type-injective small small e = refl
type-injective small exact e = absurd (omega (arith, e))
type-injective small big e = absurd (omega (arith, e))
type-injective exact small e = absurd (omega (arith, e))
type-injective exact exact e = refl
type-injective exact big e = absurd (omega (arith, e))
type-injective big small e = absurd (omega (arith, e))
type-injective big exact e = absurd (omega (arith, e))
type-injective big big e = refl

-- 64 blocks are the fourth class's alone, and fewer are at most 32
blocks_test : Shape → ℕ → Bool
blocks_test shape class = (not (eqb (blocks_in_page shape class) 64) || eqb class 3) && (leb 64 (blocks_in_page shape class) || leb (blocks_in_page shape class) 32)

blocks_tested : (shape : Shape) (class : ℕ) → class < 9 → blocks_test shape class ≡ true
unfolding blocks_test blocks_in_page class_size
blocks_tested shape class low = agree_below_at (blocks_test shape) (λ _. true) 9 class refl low

exact-blocks : (shape : Shape) (class : ℕ) → kind_of shape class ≡ exact → blocks_in_page shape class ≡ 64
unfolding kind_of
exact-blocks shape class e = grind (arith, common_steps)

big-blocks : (shape : Shape) (class : ℕ) → kind_of shape class ≡ big → blocks_in_page shape class < 64
unfolding kind_of
big-blocks shape class e = grind (arith, common_steps)

exact-class : (shape : Shape) (class : ℕ) → class < 9 → kind_of shape class ≡ exact → class ≡ 3
unfolding blocks_test
exact-class shape class low e = let test = blocks_tested shape class low in let many = exact-blocks shape class e in grind (arith, common_steps, test, many)

big-few : (shape : Shape) (class : ℕ) → class < 9 → kind_of shape class ≡ big → blocks_in_page shape class ≤ 32
unfolding blocks_test
big-few shape class low e = let test = blocks_tested shape class low in let few = big-blocks shape class e in grind (arith, common_steps, test, few)

-- the bits tell the used indexes
used-unique : (kind : Kind) (words : List ℕ) (shape : Shape) (page class : ℕ) (used other : List ℕ) → kind_of shape class ≡ kind → AreUsed shape class used → AreUsed shape class other → LaysBits kind words shape page class used → LaysBits kind words shape page class other → used ≡ other
used-unique kind words shape page class used other is a b h k = ascending_same (first_index shape class) used other a.ascending b.ascending (λ n. (through kind n used other is a h k, through kind n other used is b k h)) where
  through : (kind : Kind) (n : ℕ) (used other : List ℕ) → kind_of shape class ≡ kind → AreUsed shape class used → LaysBits kind words shape page class used → LaysBits kind words shape page class other → In n used → In n other
  through small n used other is a h k m = elim ((k.bits n (a.below n m)).0 ((h.bits n (a.below n m)).1 (inr m))) [ inl low ↦ absurd (omega (arith, low, In-from (first_index shape class) n used a.ascending m)) | inr there ↦ there ]
  through exact n used other is a h k m = let below : n < 64 = omega (arith, a.below n m, exact-blocks shape class is) in (k n below).0 ((h n below).1 m)
  through big n used other is a h k m = let below : n < 32 = omega (arith, a.below n m, big-few shape class a.known is) in (k.bits n below).0 ((h.bits n below).1 m)

-- the slab word tells the class
class-unique : (kind : Kind) (words : List ℕ) (shape : Shape) (page c d : ℕ) (used other : List ℕ) → kind_of shape c ≡ kind → kind_of shape d ≡ kind → c < 9 → d < 9 → LaysBits kind words shape page c used → LaysBits kind words shape page d other → c ≡ d
class-unique small words shape page c d used other ic id kc kd h k = omega (arith, h.shift, k.shift)
class-unique exact words shape page c d used other ic id kc kd h k = exact-class shape c kc ic ∙ sym (exact-class shape d kd id)
class-unique big words shape page c d used other ic id kc kd h k = omega (arith, h.shift, k.shift)

-- the words of the descriptor and the bits tell the state of a page that isn't free
abbrev pub Told : List ℕ → Shape → ℕ → PageState → Type 0
Told words shape page Free = Unit {0}
Told words shape page (First count) = HasWords words (descriptor page) (count + 2 ^ 63) 0 0 × (count < 2 ^ 63 - 1)
Told words shape page Later = HasWords words (descriptor page) (2 ^ 64 - 1) 0 0
Told words shape page (Class class used) = (prev_at words (descriptor page) % 4 ≡ type_of (kind_of shape class)) × LaysBits (kind_of shape class) words shape page class used × AreUsed shape class used

differ : true ≡ false → ⊥
differ e = cc

-- a link of whole pages has no class's type
no_class : (words : List ℕ) (page : ℕ) (kind : Kind) → prev_at words (descriptor page) ≡ 0 → prev_at words (descriptor page) % 4 ≡ type_of kind → ⊥
no_class words page kind zero is = classed kind (sym is ∙ ap (λ n. n % 4) zero)

classes-unique : (words : List ℕ) (shape : Shape) (page c d : ℕ) (used other : List ℕ) → Told words shape page (Class c used) → Told words shape page (Class d other) → Class c used ≡ Class d other
classes-unique words shape page c d used other h k =
    let kinds : kind_of shape d ≡ kind_of shape c = type-injective (kind_of shape d) (kind_of shape c) (sym k.0 ∙ h.0) in
    let bits = subst (λ (j : Kind). LaysBits j words shape page d other) kinds k.1 in
    let class : d ≡ c = class-unique (kind_of shape c) words shape page d c other used kinds refl k.2.known h.2.known bits h.1 in
    let used' = used-unique (kind_of shape c) words shape page c used other refl h.2 (subst (λ (n : ℕ). AreUsed shape n other) class k.2) h.1 (subst (λ (n : ℕ). LaysBits (kind_of shape c) words shape page n other) class bits) in
    ap (λ us. Class c us) used' ∙ ap (λ n. Class n other) (sym class)

state-unique : (words : List ℕ) (shape : Shape) (page : ℕ) (s t : PageState) → is_free s ≡ is_free t → Told words shape page s → Told words shape page t → s ≡ t
state-unique words shape page Free Free free h k = refl
state-unique words shape page Free (First m) free h k = absurd (differ free)
state-unique words shape page Free Later free h k = absurd (differ free)
state-unique words shape page Free (Class d other) free h k = absurd (differ free)
state-unique words shape page (First n) Free free h k = absurd (differ (sym free))
state-unique words shape page (First n) (First m) free h k = let e = sym h.0.slab_is ∙ k.0.slab_is in let same : n ≡ m = omega (arith, e) in ap (λ c. First c) same
state-unique words shape page (First n) Later free h k = let e = sym h.0.slab_is ∙ k.slab_is in absurd (omega (arith, e, h.1))
state-unique words shape page (First n) (Class d other) free h k = absurd (no_class words page (kind_of shape d) h.0.prev_is k.0)
state-unique words shape page Later Free free h k = absurd (differ (sym free))
state-unique words shape page Later (First m) free h k = let e = sym h.slab_is ∙ k.0.slab_is in absurd (omega (arith, e, k.1))
state-unique words shape page Later Later free h k = refl
state-unique words shape page Later (Class d other) free h k = absurd (no_class words page (kind_of shape d) h.prev_is k.0)
state-unique words shape page (Class c used) Free free h k = absurd (differ (sym free))
state-unique words shape page (Class c used) (First m) free h k = absurd (no_class words page (kind_of shape c) k.0.prev_is h.0)
state-unique words shape page (Class c used) Later free h k = absurd (no_class words page (kind_of shape c) k.prev_is h.0)
state-unique words shape page (Class c used) (Class d other) free h k = classes-unique words shape page c d used other h k

told : (words : List ℕ) (slab : Slab) (page : ℕ) → IsSound slab → LaysSlab words slab → Told words slab.shape page (page_at slab.pages page)
told words slab page s l = go (page_at slab.pages page) refl where
  go : (state : PageState) → page_at slab.pages page ≡ state → Told words slab.shape page state
  go Free is = tt
  go (First count) is = ((l.used_runs page count is).first, omega (arith, (s.used_runs.followed page count is).1, (zone slab.shape s.limits).many))
  go Later is = let b = s.used_runs.belongs page is in (l.used_runs b.0 b.1 b.2).later page b.3 b.4
  go (Class class used) is = (class-type words slab page class used s l is, (l.classes page class used is).bits, s.used page class used is)

-- ---- the slab

-- a slab with these parts in place of its own
abbrev with_parts : Shape → List PageState → List Run → List (List ℕ) → List Stat → Slab
with_parts shape pages runs lists stats = record { shape = shape; pages = pages; runs = runs; lists = lists; stats = stats }

-- two slabs of one shape
same_shape : (words : List ℕ) (shape : Shape) (a b : Slab) → IsSound (with_parts shape a.pages a.runs a.lists a.stats) → IsSound (with_parts shape b.pages b.runs b.lists b.stats) → LaysSlab words (with_parts shape a.pages a.runs a.lists a.stats) → LaysSlab words (with_parts shape b.pages b.runs b.lists b.stats) → with_parts shape a.pages a.runs a.lists a.stats ≡ with_parts shape b.pages b.runs b.lists b.stats
same_shape words shape a b sa sb la lb =
    let x = with_parts shape a.pages a.runs a.lists a.stats in
    let y = with_parts shape b.pages b.runs b.lists b.stats in
    let runs : a.runs ≡ b.runs = runs-unique (record { shape = shape; words = words }) a.runs b.runs la.runs lb.runs in
    let pages : a.pages ≡ b.pages = ext_get_or Free a.pages b.pages (sa.page_count ∙ sym sb.page_count) (λ i less. let below : i < pages_of shape = omega (arith, less, sa.page_count) in
    state-unique words shape i (page_at a.pages i) (page_at b.pages i) (sa.free i below ∙ ap (λ rs. is_covered i rs) runs ∙ sym (sb.free i below)) (told words x i sa la) (told words y i sb lb)) in
    let lists : a.lists ≡ b.lists = ext_get_or [] a.lists b.lists (sa.list_count ∙ sym sb.list_count) (λ i less. let known : i < class_count shape = omega (arith, less, sa.list_count) in
    pages-unique words shape i (class_head i) (list_of x i) (list_of y i) known (la.lists i known).linked (lb.lists i known).linked) in
    let stats : a.stats ≡ b.stats = ext_get_or no_stat a.stats b.stats (sa.stat_count ∙ sym sb.stat_count) (λ i less. let known : i < class_count shape = omega (arith, less, sa.stat_count) in
    stat-unique words i (stat_of x i) (stat_of y i) (la.stats i known) (lb.stats i known)) in
    ap (λ p. with_parts shape p a.runs a.lists a.stats) pages ∙ ap (λ r. with_parts shape b.pages r a.lists a.stats) runs ∙ ap (λ l. with_parts shape b.pages b.runs l a.stats) lists ∙ ap (λ t. with_parts shape b.pages b.runs b.lists t) stats

-- the words tell the slab: two sound slabs that the same words lay out are one
pub slab-unique : (words : List ℕ) (a b : Slab) → IsSound a → IsSound b → LaysSlab words a → LaysSlab words b → a ≡ b
slab-unique words a b sa sb la lb =
    let shapes : a.shape ≡ b.shape = equal a.shape b.shape (sym la.header.end ∙ lb.header.end) (sa.limits.shift ∙ sym sb.limits.shift) in
    same_shape words a.shape a b sa (subst (λ (sh : Shape). IsSound (with_parts sh b.pages b.runs b.lists b.stats)) (sym shapes) sb) la (subst (λ (sh : Shape). LaysSlab words (with_parts sh b.pages b.runs b.lists b.stats)) (sym shapes) lb)
    ∙ ap (λ sh. with_parts sh b.pages b.runs b.lists b.stats) shapes where
      equal : (x y : Shape) → x.bytes ≡ y.bytes → x.page_shift ≡ y.page_shift → x ≡ y
      equal x y bytes shift = grind (arith, common_steps)
