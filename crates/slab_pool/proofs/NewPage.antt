-- A grant of a class in a free page.
use Rattle.std.proofs.Common.{ℕ, ◌≡◌, ◌≢◌, ◌+◌, ◌/◌, ◌<◌, Bool, true, false, Option, Some, None, List, [], ◌∷◌, length, set, sym, ap, subst, ◌∙◌, refl, arith, inl, inr}
use Rattle.std.proofs.lemmas.List.{set-set}
use Rattle.zone_region.specs.Members.{In}
use Rattle.slab_model.specs.declared.shape.Shape.{Shape}
use Rattle.slab_model.specs.declared.runs.Run.{Run}
use Rattle.slab_model.specs.declared.stat.Stat.{Stat}
use Rattle.slab_model.specs.declared.page.PageState.{PageState}
use Rattle.slab_model.specs.declared.page.PageState.TheVariants.{First, Later, Class}
use Rattle.slab_model.specs.Geometry.{small, exact, kind_of, first_index, usable_blocks, block_offset}
use Rattle.slab_model.specs.Runs.{first_fit, take_run}
use Rattle.slab_model.specs.State.{Slab, pages_in, page_at, list_of, stat_of}
use Rattle.slab_model.specs.Counting.{is_free, count_grant, count_fail}
use Rattle.slab_model.specs.Soundness.{IsSound}
use Rattle.slab_model.specs.Grant.{grant_in_new_page, grant_run}
use Rattle.slab_model.proofs.PageLemmas.{page_at-use_first}
use Rattle.slab_model.proofs.RunLemmas.{first_fit-in}
use Rattle.slab_model.proofs.StateLemmas.{not_full-one}
use Rattle.slab_model.proofs.SoundLemmas.{IsSound-failed, IsSound-new_page}
use Rattle.slab_pages.specs.Places.{Image, KeepsOthers, class_head}
use Rattle.slab_pages.specs.Layout.{LaysRuns, HasUsedRun}
use Rattle.slab_pages.specs.Frames.{ChangesStat}
use Rattle.slab_pages.specs.SlabLayout.{LaysStat, LaysClassPage, LaysSlab}
use Rattle.slab_pages.proofs.FrameLemmas.{pages-behind}
use Rattle.slab_pool.specs.Bits.{HasBits}
use Rattle.slab_pool.specs.Pool.{LaysPool}
use Rattle.slab_pool.specs.Live.{KeepsPages}
use Rattle.slab_pool.specs.PoolSteps.{IsTaken, HasList, KeepsRuns, ChangesBits, RelinksPages, Pushes, Answers, begun, BeginsPage, KeepsBehind}
use Rattle.slab_pool.proofs.KindLemmas.{kind-exact}
use Rattle.slab_pool.proofs.RunLemmas.{pool-runs, run-granted}
use Rattle.slab_pool.proofs.BitSteps.{changes-both}
use Rattle.slab_pool.proofs.BehindLemmas.{behind-bits, behind-links, behind-stat, behind-runs, behind-then, keeps-after}
use Rattle.slab_pool.proofs.ClassGrants.{pool-taken, pool-list, bits-stat, links-stat, counted, runs-at}
use Rattle.slab_pool.proofs.StepLemmas.{placed, first_class, with_page, with_list, LaysSlab-bits, placed-page, LaysSlab-links, page_own}

differ : {t : Bool} → t ≡ true → t ≡ false → ⊥
differ x y = cc

-- ---- a page that was just taken

pub first-taken : (image : Image) (slab : Slab) (page : ℕ) → LaysPool image slab → page_at slab.pages page ≡ First 1 → IsTaken image page
first-taken image slab page p is = pool-taken image slab page p (omega (arith, ((placed slab p.sound).followed page 1 is).1)) (ap is_free is)

-- what the steps left, by the slab's shape
pub record InTaken (shape : Shape) (class page : ℕ) (old b d new : List ℕ) : Type 0 where
  pub marks : ChangesBits shape class page old b
  pub mark_runs : (runs : List Run) → LaysRuns (record { shape = shape; words = old }) runs → LaysRuns (record { shape = shape; words = b }) runs
  pub bits : HasBits b shape page class (first_index shape class ∷ [])
  pub pushes : Pushes shape class page [] b d
  pub push_runs : (runs : List Run) → LaysRuns (record { shape = shape; words = b }) runs → LaysRuns (record { shape = shape; words = d }) runs
  pub stat : ChangesStat d new class
  pub counts : (s : Stat) → LaysStat d class s → LaysStat new class (count_grant (usable_blocks shape class) s)

pub laid-begun : (slab : Slab) (class page : ℕ) (old b d new : List ℕ) → IsSound slab → LaysSlab old slab → class < 9 → page_at slab.pages page ≡ First 1 → list_of slab class ≡ [] → InTaken slab.shape class page old b d new → LaysSlab new (begun slab class page)
laid-begun slab class page old b d new s l known is none h =
    let pl = placed slab s in
    let used : List ℕ = first_index slab.shape class ∷ [] in
    let state : PageState = Class class used in
    let below : page < pages_in slab = omega (arith, (pl.followed page 1 is).1) in
    let in_lists : class < length slab.lists = omega (arith, s.list_count, known) in
    let in_stats : class < length slab.stats = omega (arith, s.stat_count, known) in
    let open_still = not_full-one slab.shape class (first_index slab.shape class) known in
    let not_later : page_at slab.pages page ≢ Later = λ e. first_later (sym is ∙ e) in
    let own : LaysClassPage b slab.shape page class used = record { bits = h.bits.bits; next_if_full = λ full. absurd (differ full open_still); prev_if_full = λ full. absurd (differ full open_still) } in
    let l_b = LaysSlab-bits slab class page used old b pl known below not_later l (h.mark_runs slab.runs l.runs) h.marks own in
    let pl_b = placed-page slab class page used pl known below not_later (λ c ok m. let q = pl.listed c page ok m in absurd (first_class 1 c q.0 (sym is ∙ q.1))) in
    let changes = subst (λ (ps : List ℕ). RelinksPages class page ps b d) (sym none) h.pushes.changes in
    let l_d = LaysSlab-links (with_page slab page state) class page used (page ∷ []) b d pl_b known in_lists (page_own slab page state pl below) l_b (h.push_runs slab.runs l_b.runs) changes (λ full. absurd (differ full open_still)) h.pushes.linked in
    counted (with_list (with_page slab page state) class (page ∷ [])) class (count_grant (usable_blocks slab.shape class) (stat_of slab class)) d new s.limits known in_stats h.stat (h.counts (stat_of slab class) (l_d.stats class known)) l_d
  where
    first_later : First 1 ≡ Later → ⊥
    first_later e = cc

-- what each step ensures
pub record TakenSteps (class page : ℕ) (old a b d new : Image) : Type 0 where
  pub begin_runs : KeepsRuns old a
  pub begins : ChangesBits old.shape class page old.words a.words
  pub mark_runs : KeepsRuns a b
  pub marks : ChangesBits a.shape class page a.words b.words
  pub bits : HasBits b.words a.shape page class (first_index old.shape class ∷ [])
  pub push_runs : KeepsRuns b d
  pub pushes : (listed : List ℕ) → HasList b class listed → (In page listed → ⊥) → Pushes b.shape class page listed b.words d.words
  pub stat_runs : KeepsRuns d new
  pub stat : ChangesStat d.words new.words class
  pub counts : (s : Stat) → LaysStat d.words class s → LaysStat new.words class (count_grant (usable_blocks old.shape class) s)

-- the class's list is still empty
pub still-none : (old b : Image) (slab : Slab) (class page : ℕ) → LaysPool old slab → class < 9 → IsTaken old page → list_of slab class ≡ [] → b.shape ≡ old.shape → ChangesBits old.shape class page old.words b.words → HasList b class []
still-none old b slab class page p known t none shape c = record {
  linked = c.others (class_head class / 8 + 1) (λ e. omega (arith, e, known)) (λ _. inl (omega (arith, known, pages-behind old.shape page t.limits))) ∙ (subst (λ (ps : List ℕ). HasList old class ps) none (pool-list old slab class p known)).linked;
  once = tt;
  taken = λ q m. absurd m;
}

pub both-bits : (class page : ℕ) (old a b : Image) → KeepsRuns old a → ChangesBits old.shape class page old.words a.words → ChangesBits a.shape class page a.words b.words → ChangesBits old.shape class page old.words b.words
both-bits class page old a b k h m = changes-both old.shape class page old.words a.words b.words h (subst (λ (s : Shape). ChangesBits s class page a.words b.words) k.shape_is m)

pub taken-begins : (old a b d new : Image) (slab : Slab) (class page : ℕ) → LaysPool old slab → class < 9 → page_at slab.pages page ≡ First 1 → list_of slab class ≡ [] → TakenSteps class page old a b d new → BeginsPage slab class page new
taken-begins old a b d new slab class page p known is none s =
    let t = first-taken old slab page p is in
    let shape_a = s.begin_runs.shape_is in
    let shape_b = s.mark_runs.shape_is ∙ shape_a in
    let shape_d = s.push_runs.shape_is ∙ shape_b in
    let marks = both-bits class page old a b s.begin_runs s.begins s.marks in
    let h : InTaken old.shape class page old.words b.words d.words new.words = record {
      marks = marks;
      mark_runs = λ runs l. runs-at a b old.shape runs s.mark_runs shape_a (runs-at old a old.shape runs s.begin_runs refl l);
      bits = subst (λ (sh : Shape). HasBits b.words sh page class (first_index old.shape class ∷ [])) shape_a s.bits;
      pushes = subst (λ (sh : Shape). Pushes sh class page [] b.words d.words) shape_b (s.pushes [] (still-none old b slab class page p known t none shape_b marks) (λ m. absurd m));
      push_runs = λ runs l. runs-at b d old.shape runs s.push_runs shape_b l;
      stat = s.stat;
      counts = s.counts;
    } in
    record {
      shape_is = p.shape_is ∙ sym (s.stat_runs.shape_is ∙ shape_d);
      laid = laid-begun slab class page old.words b.words d.words new.words p.sound p.laid known is none (subst (λ (sh : Shape). InTaken sh class page old.words b.words d.words new.words) (sym p.shape_is) h);
    }

pub taken-behind : (old a b d new : Image) (slab : Slab) (class page : ℕ) → LaysPool old slab → class < 9 → page_at slab.pages page ≡ First 1 → list_of slab class ≡ [] → TakenSteps class page old a b d new → KeepsBehind old.shape class page old.words new.words
taken-behind old a b d new slab class page p known is none s =
    let t = first-taken old slab page p is in
    let shape_b = s.mark_runs.shape_is ∙ s.begin_runs.shape_is in
    let marks = both-bits class page old a b s.begin_runs s.begins s.marks in
    let pushes = s.pushes [] (still-none old b slab class page p known t none shape_b marks) (λ m. absurd m) in
    behind-then old.shape class page old.words b.words new.words (behind-bits old.shape class page old.words b.words t.limits t.below marks)
    (behind-then old.shape class page b.words d.words new.words
    (behind-links old.shape class page [] b.words d.words known (λ q m. elim m [ inl e ↦ omega (arith, e, t.below) | inr i ↦ absurd i ]) pushes.changes)
    (behind-stat old.shape class page class d.words new.words known s.stat))

-- the statistics stand as before
pub taken-stat : (old a b d : Image) (slab : Slab) (class page : ℕ) → LaysPool old slab → class < 9 → page_at slab.pages page ≡ First 1 → list_of slab class ≡ [] → KeepsRuns old a → ChangesBits old.shape class page old.words a.words → KeepsRuns a b → ChangesBits a.shape class page a.words b.words → ((listed : List ℕ) → HasList b class listed → (In page listed → ⊥) → Pushes b.shape class page listed b.words d.words) → LaysStat d.words class (stat_of slab class)
taken-stat old a b d slab class page p known is none ka ca kb cb push =
    let t = first-taken old slab page p is in
    let marks = both-bits class page old a b ka ca cb in
    let pushes = push [] (still-none old b slab class page p known t none (kb.shape_is ∙ ka.shape_is) marks) (λ m. absurd m) in
    links-stat class page class [] (stat_of slab class) b.words d.words known known pushes.changes (bits-stat old.shape class page class (stat_of slab class) old.words b.words t.limits known marks (p.laid.stats class known))

-- ---- the whole grant

-- the slab once the page was taken
taken-slab : (old mid : Image) (slab : Slab) (page : ℕ) → LaysPool old slab → first_fit 1 slab.runs ≡ Some page → LaysRuns mid (take_run 1 slab.runs) → HasUsedRun mid.words page 1 → KeepsOthers slab.runs old.words mid.words → mid.shape ≡ old.shape → LaysPool mid (grant_run slab 1 (Some page)).1
taken-slab old mid slab page p fit laid used kept shape = subst (λ (f : Option ℕ). LaysPool mid (grant_run slab 1 f).1) fit (run-granted old mid slab 1 page p (omega arith) fit laid used kept shape)

-- what `Pages::take` says of one page
pub record TakesPage (old mid : Image) (page : ℕ) : Type 0 where
  pub page_is : (runs : List Run) → LaysRuns old runs → first_fit 1 runs ≡ Some page
  pub laid : (runs : List Run) → LaysRuns old runs → LaysRuns mid (take_run 1 runs)
  pub used : HasUsedRun mid.words page 1
  pub kept : (runs : List Run) → LaysRuns old runs → KeepsOthers runs old.words mid.words
  pub shape : mid.shape ≡ old.shape

-- the taken page in its slab
pub record InMid (mid : Image) (slab : Slab) (class page : ℕ) : Type 0 where
  pub laid : LaysPool mid (grant_run slab 1 (Some page)).1
  pub first : page_at (grant_run slab 1 (Some page)).1.pages page ≡ First 1

pub in-mid : (old mid : Image) (slab : Slab) (class page : ℕ) → LaysPool old slab → TakesPage old mid page → InMid mid slab class page
in-mid old mid slab class page p t =
    let r = pool-runs old slab p in
    let fit = t.page_is slab.runs r in
    record {
      laid = taken-slab old mid slab page p fit (t.laid slab.runs r) t.used (t.kept slab.runs r) t.shape;
      first = page_at-use_first page 1 slab.pages (omega (arith, first_fit-in (pages_in slab) 1 slab.runs page p.sound.runs fit, p.sound.page_count));
    }

pub new-granted : (old mid new : Image) (slab : Slab) (class page at : ℕ) → LaysPool old slab → class < 9 → list_of slab class ≡ [] → TakesPage old mid page → at ≡ block_offset mid.shape page class (first_index mid.shape class) → BeginsPage (grant_run slab 1 (Some page)).1 class page new → Answers (grant_in_new_page slab class (first_fit 1 slab.runs)) (Some at) new
new-granted old mid new slab class page at p known none t at_is b =
    let fit = t.page_is slab.runs (pool-runs old slab p) in
    subst (λ (f : Option ℕ). Answers (grant_in_new_page slab class f) (Some at) new) (sym fit) (record {
      result_is = ap Some (at_is ∙ ap (λ (s : Shape). block_offset s page class (first_index s class)) (t.shape ∙ sym p.shape_is));
      laid = record {
        shape_is = b.shape_is;
        sound = IsSound-new_page slab class page p.sound known none fit;
        laid = subst (λ (ps : List PageState). LaysSlab new.words (record { shape = slab.shape; pages = ps; runs = take_run 1 slab.runs; lists = set slab.lists class (page ∷ []); stats = set slab.stats class (count_grant (usable_blocks slab.shape class) (stat_of slab class)) })) (set-set slab.pages page (First 1) (Class class (first_index slab.shape class ∷ []))) b.laid;
      };
    })

pub new-kept : (old mid new : Image) (slab : Slab) (class page at : ℕ) → LaysPool old slab → class < 9 → list_of slab class ≡ [] → TakesPage old mid page → at ≡ block_offset mid.shape page class (first_index mid.shape class) → BeginsPage (grant_run slab 1 (Some page)).1 class page new → KeepsBehind mid.shape class page mid.words new.words → KeepsPages old new
new-kept old mid new slab class page at p known none t at_is b k =
    let r = pool-runs old slab p in
    let fit = t.page_is slab.runs r in
    let a = new-granted old mid new slab class page at p known none t at_is b in
    let q = subst (λ (f : Option ℕ). LaysPool new (grant_in_new_page slab class f).1) fit a.laid in
    let below : page < pages_in slab = omega (arith, first_fit-in (pages_in slab) 1 slab.runs page p.sound.runs fit) in
    keeps-after old new (grant_in_new_page slab class (Some page)).1 class page (first_index slab.shape class ∷ []) q (page_own slab page (Class class (first_index slab.shape class ∷ [])) (placed slab p.sound) below) (sym b.shape_is ∙ p.shape_is)
    (behind-then old.shape class page old.words mid.words new.words
    (behind-runs old.shape class page slab.runs old.words mid.words r.sound (t.kept slab.runs r))
    (subst (λ (s : Shape). KeepsBehind s class page mid.words new.words) t.shape k))

-- ---- no page is free

pub failed-pool : (old mid new : Image) (slab : Slab) (class : ℕ) → LaysPool old slab → class < 9 → mid ≡ old → KeepsRuns mid new → ChangesStat mid.words new.words class → ((s : Stat) → LaysStat mid.words class s → LaysStat new.words class (count_fail s)) → first_fit 1 slab.runs ≡ None → Answers (grant_in_new_page slab class (first_fit 1 slab.runs)) None new
failed-pool old mid new slab class p known same k c counts none =
    let words = ap (λ (i : Image). i.words) same in
    let q = subst (λ (i : Image). LaysPool i slab) (sym same) p in
    subst (λ (f : Option ℕ). Answers (grant_in_new_page slab class f) None new) (sym none) (record {
      result_is = refl;
      laid = record {
        shape_is = q.shape_is ∙ sym k.shape_is;
        sound = IsSound-failed slab class p.sound known;
        laid = counted slab class (count_fail (stat_of slab class)) mid.words new.words p.sound.limits known (omega (arith, p.sound.stat_count, known)) c (counts (stat_of slab class) (q.laid.stats class known)) q.laid;
      };
    })

pub failed-kept : (old mid new : Image) (class : ℕ) → class < 9 → mid ≡ old → KeepsRuns mid new → ChangesStat mid.words new.words class → KeepsPages old new
failed-kept old mid new class known same k c =
    let words = ap (λ (i : Image). i.words) same in
    let h = subst (λ (ws : List ℕ). ChangesStat ws new.words class) words c in
    let b = behind-stat old.shape 3 0 class old.words new.words known h in
    record {
      shape_is = k.shape_is ∙ ap (λ (i : Image). i.shape) same;
      same_length = b.same_length;
      pages = λ w past x y. b.behind w past (λ kind. absurd (other old.shape (kind-exact old.shape 3 refl) kind));
      log_ctx = b.log_ctx;
      data_is = b.data_is;
    } where
      other : (shape : Shape) → kind_of shape 3 ≡ exact → kind_of shape 3 ≡ small → ⊥
      other shape a b = cc
