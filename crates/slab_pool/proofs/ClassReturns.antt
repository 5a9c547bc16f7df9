-- A block of a class comes back: what the steps leave of the slab.
use Rattle.std.proofs.Common.{ℕ, ◌≡◌, ◌≢◌, ◌⊎◌, ◌%◌, ◌<◌, ◌≤◌, Bool, true, false, not, ◌&&◌, cond, eqb, List, [], ◌∷◌, length, get_or, set, sym, ap, subst, ◌∙◌, refl, arith, inl, inr}
use Rattle.std.specs.Prelude.{IsTrue}
use Rattle.std.proofs.lemmas.Bool.{cases_eq, cases_lt, cases_Bool}
use Rattle.std.proofs.lemmas.Grind.{common_steps}
use Rattle.zone_region.specs.Members.{In}
use Rattle.slab_model.specs.declared.shape.Shape.{Shape}
use Rattle.slab_model.specs.declared.runs.Run.{Run}
use Rattle.slab_model.specs.declared.stat.Stat.{Stat}
use Rattle.slab_model.specs.declared.page.PageState.{PageState}
use Rattle.slab_model.specs.declared.page.PageState.TheVariants.{Free, First, Class}
use Rattle.slab_model.specs.Geometry.{IsInLimits, Kind, small, exact, big, kind_of, pages_of, first_index, blocks_in_page, usable_blocks}
use Rattle.slab_model.specs.Numbers.{is_member, without}
use Rattle.slab_model.specs.Runs.{AreSound, is_covered, give_run}
use Rattle.slab_model.specs.State.{Slab, pages_in, page_at, list_of, stat_of}
use Rattle.slab_model.specs.Blocks.{is_full}
use Rattle.slab_model.specs.Counting.{is_free, count_return}
use Rattle.slab_model.specs.Soundness.{IsSound, has_room}
use Rattle.slab_model.specs.Return.{give_in_page}
use Rattle.slab_model.proofs.NumberLemmas.{member, is_member-without, In-without, length-without}
use Rattle.slab_model.proofs.StateLemmas.{not_full, has_room-own, used-usable, used-distinct, full_length}
use Rattle.slab_model.proofs.SoundLemmas.{stat_covers, IsSound-give_in_page}
use Rattle.slab_pages.specs.Places.{Image, KeepsOthers, class_head, descriptor, next_at, prev_at}
use Rattle.slab_pages.specs.Layout.{LaysRuns, HasUsedRun, IsBusy, CanComeBack, MayPut}
use Rattle.slab_pages.specs.Frames.{ChangesStat, SameWords}
use Rattle.slab_pages.specs.SlabLayout.{LaysStat, LaysClassPage, LaysSlab, type_of}
use Rattle.slab_pages.proofs.FrameLemmas.{pages-behind, same-descriptor}
use Rattle.slab_pages.proofs.TakeLemmas.{LaysHeader-others, LaysStat-others, LaysClass-others, HasUsedRun-others, LaysClassPage-others, uncovered-give}
use Rattle.slab_pages.proofs.ComeBackLemmas.{page-back, come_back-kept}
use Rattle.slab_pool.specs.Bits.{HasBits}
use Rattle.slab_pool.specs.Links.{Linked}
use Rattle.slab_pool.specs.Pool.{LaysPool}
use Rattle.slab_pool.specs.Live.{KeepsPages}
use Rattle.slab_pool.specs.PoolSteps.{HasRuns, IsTaken, HasList, KeepsRuns, ChangesBits, RelinksPages, UnlinksPage, Pushes, KeepsBehind, HasBitCleared}
use Rattle.slab_pool.proofs.KindLemmas.{numbers}
use Rattle.slab_pool.proofs.DecodeLemmas.{listed_type, typed-some}
use Rattle.slab_pool.proofs.RunLemmas.{pool-runs}
use Rattle.slab_pool.proofs.ListLemmas.{taken-later}
use Rattle.slab_pool.proofs.LinkLemmas.{node_after, descriptor-low}
use Rattle.slab_pool.proofs.BehindLemmas.{behind-bits, behind-links, behind-stat, behind-runs, behind-then, keeps-before}
use Rattle.slab_pool.proofs.ClassGrants.{class-taken, pool-list, pool-bits, list-below, bits-stat, links-stat, counted, runs-at}
use Rattle.slab_pool.proofs.StepLemmas.{Placed, placed, class_in-zone, same_class, later_class, with_page, with_list, LaysSlab-bits, placed-page, Linked-of, of-Linked, LaysSlab-links, page_own, page_other, list_own, list_other, run_class}

differ : {t : Bool} → t ≡ true → t ≡ false → ⊥
differ x y = cc

-- ---- the page once the bit is cleared

pub cleared-known : (before : Image) (slab : Slab) (class page index : ℕ) (used : List ℕ) (now : Image) → HasBitCleared before slab class page used index now → class < 9
cleared-known before slab class page index used now h = (h.laid.sound.used page class used h.is).known

pub cleared-taken : (before : Image) (slab : Slab) (class page index : ℕ) (used : List ℕ) (now : Image) → HasBitCleared before slab class page used index now → IsTaken now page
cleared-taken before slab class page index used now h = taken-later before now page h.runs (class-taken before slab page class used h.laid h.is)

-- it can grant a block
open_again : (before : Image) (slab : Slab) (class page index : ℕ) (used : List ℕ) (now : Image) → HasBitCleared before slab class page used index now → is_full slab.shape class (without index used) ≡ false
open_again before slab class page index used now h =
    let u = used-usable slab.shape class index used (h.laid.sound.used page class used h.is) ((member index used).0 h.member) in
    not_full slab.shape class index (without index used) u.0 u.1 (is_member-without index index used ∙ gone index (is_member index used)) where
      gone : (n : ℕ) (t : Bool) → (t && not (eqb n n)) ≡ false
      gone n t = grind (arith, common_steps)

cleared-laid : (before : Image) (slab : Slab) (class page index : ℕ) (used : List ℕ) (now : Image) → HasBitCleared before slab class page used index now → LaysSlab now.words (with_page slab page (Class class (without index used)))
cleared-laid before slab class page index used now h =
    let pl = placed slab h.laid.sound in
    let known = cleared-known before slab class page index used now h in
    let open_still = open_again before slab class page index used now h in
    let bits = subst (λ (s : Shape). HasBits now.words s page class (without index used)) (sym h.laid.shape_is) h.bits in
    LaysSlab-bits slab class page (without index used) before.words now.words pl known (class_in-zone slab page class used pl h.is) (λ e. later_class class used (sym e ∙ h.is)) h.laid.laid
    (runs-at before now slab.shape slab.runs h.runs (sym h.laid.shape_is) h.laid.laid.runs)
    (subst (λ (s : Shape). ChangesBits s class page before.words now.words) (sym h.laid.shape_is) h.changes)
    (record { bits = bits.bits; next_if_full = λ full. absurd (differ full open_still); prev_if_full = λ full. absurd (differ full open_still) })

cleared-placed : (before : Image) (slab : Slab) (class page index : ℕ) (used : List ℕ) (now : Image) → HasBitCleared before slab class page used index now → Placed (with_page slab page (Class class (without index used)))
cleared-placed before slab class page index used now h =
    let pl = placed slab h.laid.sound in
    placed-page slab class page (without index used) pl (cleared-known before slab class page index used now h) (class_in-zone slab page class used pl h.is) (λ e. later_class class used (sym e ∙ h.is))
    (λ c ok m. let q = pl.listed c page ok m in ((same_class c class q.0 used (sym q.1 ∙ h.is)).0, open_again before slab class page index used now h))

-- the class's list is as before
pub cleared-list : (before : Image) (slab : Slab) (class page index : ℕ) (used : List ℕ) (now : Image) → HasBitCleared before slab class page used index now → HasList now class (list_of slab class)
cleared-list before slab class page index used now h =
    let known = cleared-known before slab class page index used now h in
    let l = cleared-laid before slab class page index used now h in
    let was = pool-list before slab class h.laid known in
    record {
      linked = subst (λ (s : Shape). Linked now.words (class_head class) (type_of (kind_of s class)) (class_head class) (list_of slab class)) (h.laid.shape_is ∙ sym h.runs.shape_is) (Linked-of now.words slab.shape class (class_head class) (list_of slab class) (l.lists class known).linked);
      once = was.once;
      taken = λ q m. taken-later before now q h.runs (was.taken q m);
    }

-- its statistics too, which say that a block of the class was live
pub cleared-stat : (before : Image) (slab : Slab) (class page index : ℕ) (used : List ℕ) (now : Image) → HasBitCleared before slab class page used index now → LaysStat now.words class (stat_of slab class) × (usable_blocks slab.shape class ≤ (stat_of slab class).total) × (0 < (stat_of slab class).used)
cleared-stat before slab class page index used now h =
    let known = cleared-known before slab class page index used now h in
    let t = class-taken before slab page class used h.laid h.is in
    let c = stat_covers slab class page used h.laid.sound known h.is in
    (bits-stat before.shape class page class (stat_of slab class) before.words now.words t.limits known h.changes (h.laid.laid.stats class known), c.0, omega (arith, c.1, (h.laid.sound.used page class used h.is).some))

cleared-behind : (before : Image) (slab : Slab) (class page index : ℕ) (used : List ℕ) (now : Image) → HasBitCleared before slab class page used index now → KeepsBehind before.shape class page before.words now.words
cleared-behind before slab class page index used now h = let t = class-taken before slab page class used h.laid h.is in behind-bits before.shape class page before.words now.words t.limits t.below h.changes

-- ---- the page had room before

pub counted-back : (before : Image) (slab : Slab) (class page index : ℕ) (used : List ℕ) (now new : Image) (first : ℕ) (left : List ℕ) → HasBitCleared before slab class page used index now → without index used ≡ first ∷ left → is_full slab.shape class used ≡ false → KeepsRuns now new → ChangesStat now.words new.words class → ((s : Stat) → LaysStat now.words class s → LaysStat new.words class (count_return 0 s)) → LaysPool new (give_in_page slab page class used (first ∷ left)) × KeepsPages before new
counted-back before slab class page index used now new first left h left_is room k c counts =
    let s = h.laid.sound in
    let known = cleared-known before slab class page index used now h in
    let l = cleared-laid before slab class page index used now h in
    let state : PageState = Class class (without index used) in
    let n = counted (with_page slab page state) class (count_return 0 (stat_of slab class)) now.words new.words s.limits known (omega (arith, s.stat_count, known)) c (counts (stat_of slab class) (l.stats class known)) l in (
      record {
        shape_is = h.laid.shape_is ∙ sym (k.shape_is ∙ h.runs.shape_is);
        sound = IsSound-give_in_page slab class page index used (first ∷ left) s h.is h.member left_is;
        laid = subst (λ (t : Bool). LaysSlab new.words (record { shape = slab.shape; pages = set slab.pages page (Class class (first ∷ left)); runs = slab.runs; lists = cond t (set slab.lists class (page ∷ list_of slab class)) slab.lists; stats = set slab.stats class (count_return 0 (stat_of slab class)) })) (sym room)
            (subst (λ (us : List ℕ). LaysSlab new.words (record { shape = slab.shape; pages = set slab.pages page (Class class us); runs = slab.runs; lists = slab.lists; stats = set slab.stats class (count_return 0 (stat_of slab class)) })) left_is n);
      },
      keeps-before before new slab class page used h.laid h.is (k.shape_is ∙ h.runs.shape_is) (behind-then before.shape class page before.words now.words new.words (cleared-behind before slab class page index used now h) (behind-stat before.shape class page class now.words new.words known c)),
    )

-- ---- the page was full

-- a full page is in no list
pub full-out : (slab : Slab) (class page : ℕ) (used : List ℕ) → IsSound slab → class < 9 → page_at slab.pages page ≡ Class class used → is_full slab.shape class used ≡ true → In page (list_of slab class) → ⊥
full-out slab class page used s known is full m =
    let q = (placed slab s).listed class page known m in
    differ full (ap (λ u. is_full slab.shape class u) (same_class class class used q.0 (sym is ∙ q.1)).1 ∙ q.2)

pub listed-back : (before : Image) (slab : Slab) (class page index : ℕ) (used : List ℕ) (now b new : Image) (first : ℕ) (left : List ℕ) → HasBitCleared before slab class page used index now → without index used ≡ first ∷ left → is_full slab.shape class used ≡ true → KeepsRuns now b → Pushes now.shape class page (list_of slab class) now.words b.words → KeepsRuns b new → ChangesStat b.words new.words class → ((s : Stat) → LaysStat b.words class s → LaysStat new.words class (count_return 0 s)) → LaysPool new (give_in_page slab page class used (first ∷ left)) × KeepsPages before new
listed-back before slab class page index used now b new first left h left_is full kb u k c counts =
    let s = h.laid.sound in
    let known = cleared-known before slab class page index used now h in
    let pl = placed slab s in
    let below = class_in-zone slab page class used pl h.is in
    let l = cleared-laid before slab class page index used now h in
    let pl_now = cleared-placed before slab class page index used now h in
    let open_still = open_again before slab class page index used now h in
    let state : PageState = Class class (without index used) in
    let shape_now : now.shape ≡ slab.shape = h.runs.shape_is ∙ sym h.laid.shape_is in
    let in_lists : class < length slab.lists = omega (arith, s.list_count, known) in
    let linked = subst (λ (sh : Shape). Linked b.words (class_head class) (type_of (kind_of sh class)) (class_head class) (page ∷ list_of slab class)) shape_now u.linked in
    let l_b = LaysSlab-links (with_page slab page state) class page (without index used) (page ∷ list_of slab class) now.words b.words pl_now known in_lists (page_own slab page state pl below) l (runs-at now b slab.shape slab.runs kb shape_now l.runs) u.changes (λ f. absurd (differ f open_still)) linked in
    let n = counted (with_list (with_page slab page state) class (page ∷ list_of slab class)) class (count_return 0 (stat_of slab class)) b.words new.words s.limits known (omega (arith, s.stat_count, known)) c (counts (stat_of slab class) (l_b.stats class known)) l_b in
    let t = class-taken before slab page class used h.laid h.is in (
      record {
        shape_is = h.laid.shape_is ∙ sym (k.shape_is ∙ kb.shape_is ∙ h.runs.shape_is);
        sound = IsSound-give_in_page slab class page index used (first ∷ left) s h.is h.member left_is;
        laid = subst (λ (t : Bool). LaysSlab new.words (record { shape = slab.shape; pages = set slab.pages page (Class class (first ∷ left)); runs = slab.runs; lists = cond t (set slab.lists class (page ∷ list_of slab class)) slab.lists; stats = set slab.stats class (count_return 0 (stat_of slab class)) })) (sym full)
            (subst (λ (us : List ℕ). LaysSlab new.words (record { shape = slab.shape; pages = set slab.pages page (Class class us); runs = slab.runs; lists = set slab.lists class (page ∷ list_of slab class); stats = set slab.stats class (count_return 0 (stat_of slab class)) })) left_is n);
      },
      keeps-before before new slab class page used h.laid h.is (k.shape_is ∙ kb.shape_is ∙ h.runs.shape_is)
          (behind-then before.shape class page before.words now.words new.words (cleared-behind before slab class page index used now h)
          (behind-then before.shape class page now.words b.words new.words (behind-links before.shape class page (list_of slab class) now.words b.words known (list-below before class page (list_of slab class) (pool-list before slab class h.laid known) t) u.changes)
          (behind-stat before.shape class page class b.words new.words known c))),
    )

-- ---- it was the page's last block

-- so the page was listed
pub last-in : (slab : Slab) (class page index : ℕ) (used : List ℕ) → IsSound slab → page_at slab.pages page ≡ Class class used → is_member index used ≡ true → without index used ≡ [] → In page (list_of slab class)
last-in slab class page index used s is there none =
    let ok = s.used page class used is in
    let n = numbers slab.shape class ok.known in
    let one = length-without index used (used-distinct slab.shape class used ok) there in
    let room : is_full slab.shape class used ≡ false = full_length slab.shape class used ok ∙ other (length used) (usable_blocks slab.shape class) (omega (arith, one, ap (λ us. length us) none, n.two)) in
    ((s.lists class ok.known).just page).1 (ap (has_room slab.shape class) is ∙ has_room-own slab.shape class used ∙ ap not room) where
      other : (a b : ℕ) → a ≢ b → eqb a b ≡ false
      other a b ne = grind (arith, common_steps, ne)

-- the words of a page that the unlinking doesn't change
unlinked-same : (slab : Slab) (class page q : ℕ) (used : List ℕ) (old new : List ℕ) → Placed slab → class < 9 → page_at slab.pages page ≡ Class class used → RelinksPages class page (list_of slab class) old new → q ≢ page → (In q (list_of slab class) → ⊥) → SameWords old new (descriptor q)
unlinked-same slab class page q used old new p known is c ne out = same-descriptor old new q (λ w a b. c.others w (λ e. omega (arith, e, a, known)) (λ o m. (λ e. none o m (omega (arith, e, a, b)), λ e. none o m (omega (arith, e, a, b))))) where
  none : (o : ℕ) → (o ≡ page) ⊎ In o (list_of slab class) → o ≡ q → ⊥
  none o m e = elim m [ inl same ↦ ne (sym e ∙ same) | inr i ↦ out (subst (λ (n : ℕ). In n (list_of slab class)) e i) ]

busy-same : (old new : List ℕ) (q : ℕ) → SameWords old new (descriptor q) → IsBusy old q → IsBusy new q
busy-same old new q s b = elim b [
  | inl typed ↦ inl (λ e. typed (ap (λ n. n % 4) (sym s.prev) ∙ e))
  | inr plain ↦ inr (s.next ∙ plain.0, λ e. plain.1 (sym s.slab ∙ e))
]

not-zero : (k : Kind) (n : ℕ) → n ≡ type_of k → n ≡ 0 → ⊥
not-zero k n e z = omega (arith, typed-some k, e, z)

type-rest : (k : Kind) → type_of k % 4 ≡ type_of k
type-rest small = refl
type-rest exact = refl
type-rest big = refl

-- each page that isn't free still has the descriptor of one
unlinked-busy : (slab : Slab) (class page q : ℕ) (used : List ℕ) (old now b : List ℕ) → Placed slab → class < 9 → page < pages_in slab → IsInLimits slab.shape → page_at slab.pages page ≡ Class class used → ChangesBits slab.shape class page old now → UnlinksPage slab.shape class page (list_of slab class) now b → q < pages_in slab → IsBusy old q → IsBusy b q
unlinked-busy slab class page q used old now b p known below limits is c u low busy = elim (cases_eq q page) [
  | inl e ↦ inl (λ z. not-zero (kind_of slab.shape class) _ (ap (λ n. prev_at b (descriptor n) % 4) e ∙ ap (λ n. n % 4) u.prev ∙ type-rest (kind_of slab.shape class)) z)
  | inr ne ↦ elim (cases_Bool (is_member q (list_of slab class))) [
    | inl there ↦
        let kept : is_member q (without page (list_of slab class)) ≡ true = is_member-without q page (list_of slab class) ∙ still page q (is_member q (list_of slab class)) (λ e. ne (sym e)) there in
        inl (λ z. not-zero (kind_of slab.shape class) _ (listed_type b slab.shape class (class_head class) q (without page (list_of slab class)) (omega arith) (of-Linked b slab.shape class (class_head class) (without page (list_of slab class)) u.linked) ((member q (without page (list_of slab class))).0 kept)) z)
    | inr none ↦
        let first : SameWords old now (descriptor q) = same-descriptor old now q (λ w a z. c.others w (λ e. omega (arith, e, a, z, ne)) (λ _. inl (omega (arith, z, low, pages-behind slab.shape page limits)))) in
        busy-same now b q (unlinked-same slab class page q used now b p known is u.changes ne (λ m. differ ((member q (list_of slab class)).1 m) none)) (busy-same old now q first busy)
  ]
] where
  still : (a b : ℕ) (t : Bool) → a ≢ b → t ≡ true → (t && not (eqb a b)) ≡ true
  still a b t ne e = grind (arith, common_steps, ne, e)

pub last-may_put : (before : Image) (slab : Slab) (class page index : ℕ) (used : List ℕ) (now b : Image) → HasBitCleared before slab class page used index now → KeepsRuns now b → UnlinksPage now.shape class page (list_of slab class) now.words b.words → MayPut b (record { first = page; pages = 1 })
last-may_put before slab class page index used now b h k u =
    let s = h.laid.sound in
    let pl = placed slab s in
    let known = cleared-known before slab class page index used now h in
    let below = class_in-zone slab page class used pl h.is in
    let shape_now : now.shape ≡ slab.shape = h.runs.shape_is ∙ sym h.laid.shape_is in
    let runs = k.laid slab.runs (h.runs.laid slab.runs (pool-runs before slab h.laid)) in
    let back = page-back before.words slab page class used s h.laid.laid h.is below in
    let changes = subst (λ (sh : Shape). ChangesBits sh class page before.words now.words) (sym h.laid.shape_is) h.changes in
    let unlinks = subst (λ (sh : Shape). UnlinksPage sh class page (list_of slab class) now.words b.words) shape_now u in (
      slab.runs,
      runs,
      subst (λ (sh : Shape). CanComeBack (pages_of sh) b.words slab.runs (record { first = page; pages = 1 })) (sym (k.shape_is ∙ shape_now))
          (come_back-kept (pages_in slab) before.words b.words slab.runs (record { first = page; pages = 1 }) (λ q low _ busy. unlinked-busy slab class page q used before.words now.words b.words pl known below s.limits h.is changes unlinks low busy) back),
    )

-- the page becomes free
page-put : (slab : Slab) (class page : ℕ) (used left : List ℕ) (lists : List (List ℕ)) (b d : List ℕ) → IsSound slab → page_at slab.pages page ≡ Class class used → LaysSlab b (record { shape = slab.shape; pages = set slab.pages page (Class class left); runs = slab.runs; lists = lists; stats = slab.stats }) → ((k q : ℕ) → k < 9 → In q (get_or lists k []) → (q ≢ page) × In q (list_of slab k)) → LaysRuns (record { shape = slab.shape; words = d }) (give_run (record { first = page; pages = 1 }) slab.runs) → KeepsOthers (give_run (record { first = page; pages = 1 }) slab.runs) b d → LaysSlab d (record { shape = slab.shape; pages = set slab.pages page Free; runs = give_run (record { first = page; pages = 1 }) slab.runs; lists = lists; stats = slab.stats })
page-put slab class page used left lists b d s is l own laid h =
    let pl = placed slab s in
    let below = class_in-zone slab page class used pl is in
    record {
      header = LaysHeader-others slab.shape (give_run (record { first = page; pages = 1 }) slab.runs) b d h l.header;
      runs = laid;
      lists = λ k ok. LaysClass-others slab.shape (give_run (record { first = page; pages = 1 }) slab.runs) b d k (get_or lists k []) h ok (λ q m. let o = own k q ok m in let r = pl.listed k q ok o.1 in free q (ap is_free r.1) o.0) (l.lists k ok);
      stats = λ k ok. LaysStat-others slab.shape (give_run (record { first = page; pages = 1 }) slab.runs) b d k (stat_of slab k) h ok (l.stats k ok);
      used_runs = λ q n at. runs_of pl below q n at (cases_eq q page);
      classes = λ q k more at. class_of pl below q k more at (cases_eq q page);
    } where
      free : (q : ℕ) → is_free (page_at slab.pages q) ≡ false → q ≢ page → is_covered q (give_run (record { first = page; pages = 1 }) slab.runs) ≡ false
      free q busy ne = uncovered-give slab (record { first = page; pages = 1 }) q s busy (elim (cases_lt q page) [ inl less ↦ inl less | inr more ↦ inr (omega (arith, more, ne)) ])

      runs_of : Placed slab → page < pages_in slab → (q n : ℕ) → page_at (set slab.pages page Free) q ≡ First n → (q ≡ page) ⊎ (q ≢ page) → HasUsedRun d q n
      runs_of pl below q n at (inl e) = absurd (free_first n (sym (page_own slab page Free pl below) ∙ ap (λ i. page_at (set slab.pages page Free) i) (sym e) ∙ at)) where
        free_first : (n : ℕ) → Free ≡ First n → ⊥
        free_first n e = cc
      runs_of pl below q n at (inr ne) =
          let was = sym (page_other slab page q Free ne) ∙ at in
          let f = pl.followed q n was in
          HasUsedRun-others (give_run (record { first = page; pages = 1 }) slab.runs) b d q n h f.0
          (λ o x y. free o (elim (cases_eq o q) [ inl e ↦ ap (λ i. is_free (page_at slab.pages i)) e ∙ ap is_free was | inr other ↦ ap is_free (f.2 o (omega (arith, x, other)) y) ]) (λ e. run_class slab q n o class used pl was x y (ap (λ i. page_at slab.pages i) e ∙ is)))
          (l.used_runs q n (page_other slab page q (Class class left) ne ∙ was))

      class_of : Placed slab → page < pages_in slab → (q k : ℕ) (more : List ℕ) → page_at (set slab.pages page Free) q ≡ Class k more → (q ≡ page) ⊎ (q ≢ page) → LaysClassPage d slab.shape q k more
      class_of pl below q k more at (inl e) = absurd (free_class k more (sym (page_own slab page Free pl below) ∙ ap (λ i. page_at (set slab.pages page Free) i) (sym e) ∙ at)) where
        free_class : (k : ℕ) (more : List ℕ) → Free ≡ Class k more → ⊥
        free_class k more e = cc
      class_of pl below q k more at (inr ne) =
          let was = sym (page_other slab page q Free ne) ∙ at in
          LaysClassPage-others slab.shape (give_run (record { first = page; pages = 1 }) slab.runs) b d q k more s.limits laid.sound h (free q (ap is_free was) ne) (l.classes q k more (page_other slab page q (Class class left) ne ∙ was))

-- what the steps leave
pub record LastSteps (class page : ℕ) (listed : List ℕ) (less : ℕ) (now b d new : Image) : Type 0 where
  pub unlink_runs : KeepsRuns now b
  pub unlinks : UnlinksPage now.shape class page listed now.words b.words
  pub put_laid : (runs : List Run) → LaysRuns b runs → LaysRuns d (give_run (record { first = page; pages = 1 }) runs)
  pub put_kept : (runs : List Run) → LaysRuns b runs → KeepsOthers (give_run (record { first = page; pages = 1 }) runs) b.words d.words
  pub put_shape : d.shape ≡ b.shape
  pub stat_runs : KeepsRuns d new
  pub stat : ChangesStat d.words new.words class
  pub counts : (s : Stat) → LaysStat d.words class s → LaysStat new.words class (count_return less s)

pub last-back : (before : Image) (slab : Slab) (class page index less : ℕ) (used : List ℕ) (now b d new : Image) → HasBitCleared before slab class page used index now → without index used ≡ [] → LastSteps class page (list_of slab class) less now b d new → less ≡ usable_blocks slab.shape class → LaysPool new (give_in_page slab page class used []) × KeepsPages before new
last-back before slab class page index less used now b d new h none steps less_is =
    let s = h.laid.sound in
    let known = cleared-known before slab class page index used now h in
    let pl = placed slab s in
    let below = class_in-zone slab page class used pl h.is in
    let l = cleared-laid before slab class page index used now h in
    let pl_now = cleared-placed before slab class page index used now h in
    let open_still = open_again before slab class page index used now h in
    let state : PageState = Class class (without index used) in
    let shape_now : now.shape ≡ slab.shape = h.runs.shape_is ∙ sym h.laid.shape_is in
    let shape_b : b.shape ≡ slab.shape = steps.unlink_runs.shape_is ∙ shape_now in
    let shape_d : d.shape ≡ slab.shape = steps.put_shape ∙ shape_b in
    let in_lists : class < length slab.lists = omega (arith, s.list_count, known) in
    let u = subst (λ (sh : Shape). UnlinksPage sh class page (list_of slab class) now.words b.words) shape_now steps.unlinks in
    let l_b = LaysSlab-links (with_page slab page state) class page (without index used) (without page (list_of slab class)) now.words b.words pl_now known in_lists (page_own slab page state pl below) l (runs-at now b slab.shape slab.runs steps.unlink_runs shape_now l.runs) u.changes (λ f. absurd (differ f open_still)) u.linked in
    let runs_b : LaysRuns b slab.runs = subst (λ (sh : Shape). LaysRuns (record { shape = sh; words = b.words }) slab.runs) (sym shape_b) l_b.runs in
    let runs_d = subst (λ (sh : Shape). LaysRuns (record { shape = sh; words = d.words }) (give_run (record { first = page; pages = 1 }) slab.runs)) shape_d (steps.put_laid slab.runs runs_b) in
    let l_d = page-put slab class page used (without index used) (set slab.lists class (without page (list_of slab class))) b.words d.words s h.is l_b (λ k q ok m. own in_lists k q ok m (cases_eq k class)) runs_d (steps.put_kept slab.runs runs_b) in
    let counts = subst (λ (n : ℕ). LaysStat new.words class (count_return n (stat_of slab class))) less_is (steps.counts (stat_of slab class) (l_d.stats class known)) in
    let after : Slab = record { shape = slab.shape; pages = set slab.pages page Free; runs = give_run (record { first = page; pages = 1 }) slab.runs; lists = set slab.lists class (without page (list_of slab class)); stats = slab.stats } in
    let n = counted after class (count_return (usable_blocks slab.shape class) (stat_of slab class)) d.words new.words s.limits known (omega (arith, s.stat_count, known)) steps.stat counts l_d in
    let t = class-taken before slab page class used h.laid h.is in (
      record {
        shape_is = sym (steps.stat_runs.shape_is ∙ shape_d);
        sound = IsSound-give_in_page slab class page index used [] s h.is h.member none;
        laid = n;
      },
      keeps-before before new slab class page used h.laid h.is (steps.stat_runs.shape_is ∙ shape_d ∙ h.laid.shape_is)
          (behind-then before.shape class page before.words now.words new.words (cleared-behind before slab class page index used now h)
          (behind-then before.shape class page now.words b.words new.words (behind-links before.shape class page (list_of slab class) now.words b.words known (list-below before class page (list_of slab class) (pool-list before slab class h.laid known) t) u.changes)
          (behind-then before.shape class page b.words d.words new.words
          (behind-runs before.shape class page (give_run (record { first = page; pages = 1 }) slab.runs) b.words d.words (subst (λ (sh : Shape). AreSound (pages_of sh) (give_run (record { first = page; pages = 1 }) slab.runs)) h.laid.shape_is runs_d.sound) (steps.put_kept slab.runs runs_b))
          (behind-stat before.shape class page class d.words new.words known steps.stat)))),
    )
  where
    -- what is still listed was, and isn't the page
    own : class < length slab.lists → (k q : ℕ) → k < 9 → In q (get_or (set slab.lists class (without page (list_of slab class))) k []) → (k ≡ class) ⊎ (k ≢ class) → (q ≢ page) × In q (list_of slab k)
    own in_lists k q ok m (inl e) =
        let i : In q (without page (list_of slab class)) = subst (λ (ps : List ℕ). In q ps) (ap (λ j. list_of (with_list slab class (without page (list_of slab class))) j) e ∙ list_own slab class (without page (list_of slab class)) in_lists) m in (
          λ same. gone page (is_member page (list_of slab class)) (sym (is_member-without page page (list_of slab class)) ∙ (member page (without page (list_of slab class))).1 (subst (λ (n : ℕ). In n (without page (list_of slab class))) same i)),
          subst (λ (j : ℕ). In q (list_of slab j)) (sym e) (In-without q page (list_of slab class) i),
        ) where
          gone : (n : ℕ) (t : Bool) → (t && not (eqb n n)) ≡ true → ⊥
          gone n t e = grind (arith, common_steps)
    own in_lists k q ok m (inr ne) =
        let i = subst (λ (ps : List ℕ). In q ps) (list_other slab class k (without page (list_of slab class)) ne) m in (
          λ same.
              let r = (placed slab h.laid.sound).listed k q ok i in
              ne (same_class k class r.0 used (sym r.1 ∙ ap (λ j. page_at slab.pages j) same ∙ h.is)).0,
          i,
        )

-- the statistics stand as before
pub last-stat : (before : Image) (slab : Slab) (class page index : ℕ) (used : List ℕ) (now b d : Image) → HasBitCleared before slab class page used index now → KeepsRuns now b → UnlinksPage now.shape class page (list_of slab class) now.words b.words → ((runs : List Run) → LaysRuns b runs → KeepsOthers (give_run (record { first = page; pages = 1 }) runs) b.words d.words) → LaysStat d.words class (stat_of slab class)
last-stat before slab class page index used now b d h k u kept =
    let known = cleared-known before slab class page index used now h in
    let runs = k.laid slab.runs (h.runs.laid slab.runs (pool-runs before slab h.laid)) in
    LaysStat-others slab.shape (give_run (record { first = page; pages = 1 }) slab.runs) b.words d.words class (stat_of slab class) (kept slab.runs runs) known
    (links-stat class page class (list_of slab class) (stat_of slab class) now.words b.words known known u.changes (cleared-stat before slab class page index used now h).0)

-- after the page came back there are free runs as before
pub put-runs : (b d : Image) (page : ℕ) (runs : List Run) → IsInLimits b.shape → d.shape ≡ b.shape → LaysRuns b runs → ((rs : List Run) → LaysRuns b rs → LaysRuns d (give_run (record { first = page; pages = 1 }) rs)) → HasRuns d
put-runs b d page runs limits shape l laid = record { limits = subst (λ (s : Shape). IsInLimits s) (sym shape) limits; runs = give_run (record { first = page; pages = 1 }) runs; laid = laid runs l }

-- ---- the block that comes back

pub back-index : (image : Image) (slab : Slab) (page class index : ℕ) (used : List ℕ) → LaysPool image slab → page_at slab.pages page ≡ Class class used → is_member index used ≡ true → (first_index image.shape class ≤ index) × (index < blocks_in_page image.shape class)
back-index image slab page class index used p is there =
    let u = used-usable slab.shape class index used (p.sound.used page class used is) ((member index used).0 there) in
    (omega (arith, u.0, ap (λ (s : Shape). first_index s class) p.shape_is), omega (arith, u.1, ap (λ (s : Shape). blocks_in_page s class) p.shape_is))

-- the next word of a page tells whether it was full
pub was-full : (image : Image) (slab : Slab) (page class o n : ℕ) (used : List ℕ) → LaysPool image slab → page_at slab.pages page ≡ Class class used → o ≡ descriptor page → n ≡ next_at image.words o → n ≡ 0 → is_full slab.shape class used ≡ true
was-full image slab page class o n used p is o_is read zero = elim (cases_Bool (is_full slab.shape class used)) [
  | inl full ↦ full
  | inr room ↦
      let known = (p.sound.used page class used is).known in
      let m = ((p.sound.lists class known).just page).1 (ap (has_room slab.shape class) is ∙ has_room-own slab.shape class used ∙ ap not room) in
      absurd (listed-next image.words (class_head class) (type_of (kind_of image.shape class)) (class_head class) (list_of slab class) page (omega arith) (pool-list image slab class p known).linked m (sym (read ∙ ap (λ i. next_at image.words i) o_is) ∙ zero))
] where
  listed-next : (words : List ℕ) (head type o : ℕ) (pages : List ℕ) (page : ℕ) → 0 < head → Linked words head type o pages → In page pages → next_at words (descriptor page) ≡ 0 → ⊥
  listed-next words head type o pages page some l m e = elim (node_after words head type o pages page l m) [
    | inl end ↦ omega (arith, end, e, some)
    | inr q ↦ omega (arith, q.2, e, descriptor-low q.0)
  ]

pub was-open : (image : Image) (slab : Slab) (page class o n : ℕ) (used : List ℕ) → LaysPool image slab → page_at slab.pages page ≡ Class class used → o ≡ descriptor page → n ≡ next_at image.words o → n ≢ 0 → is_full slab.shape class used ≡ false
was-open image slab page class o n used p is o_is read some = elim (cases_Bool (is_full slab.shape class used)) [
  | inl full ↦ absurd (some (read ∙ ap (λ i. next_at image.words i) o_is ∙ (p.laid.classes page class used is).next_if_full full))
  | inr room ↦ room
]

-- some index stays used
pub left-some : (left : List ℕ) → (left ≡ [] → ⊥) → (first : ℕ) × (rest : List ℕ) × (left ≡ first ∷ rest)
left-some [] ne = absurd (ne refl)
left-some (x ∷ xs) ne = (x, xs, refl)

-- what clearing the bit leaves
pub clears : (old new : Image) (slab : Slab) (class page index : ℕ) (used : List ℕ) → LaysPool old slab → page_at slab.pages page ≡ Class class used → is_member index used ≡ true → KeepsRuns old new → ChangesBits old.shape class page old.words new.words → ((us : List ℕ) → HasBits old.words old.shape page class us → HasBits new.words old.shape page class (without index us)) → HasBitCleared old slab class page used index new
clears old new slab class page index used p is there k c bits = record { laid = p; is = is; member = there; runs = k; changes = c; bits = bits used (pool-bits old slab page class used p is) }

pub now-bits : (before : Image) (slab : Slab) (class page index : ℕ) (used : List ℕ) (now : Image) → HasBitCleared before slab class page used index now → HasBits now.words now.shape page class (without index used)
now-bits before slab class page index used now h = subst (λ (s : Shape). HasBits now.words s page class (without index used)) (sym h.runs.shape_is) h.bits

pub not-true : (b : Bool) → b ≡ false → IsTrue b → ⊥
not-true b e t = cc
