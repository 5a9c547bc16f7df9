-- What a request and a return count.
use Rattle.std.proofs.Common.{ℕ, ◌≡◌, ◌⊎◌, ◌/◌, ◌<◌, ◌≤◌, true, false, List, [], ◌∷◌, Option, Some, None, length, set, get_or, sym, ap, subst, ◌∙◌, refl, arith, inl, inr, get_or-set_same, get_or-set_other}
use Rattle.std.specs.Prelude.{is_some}
use Rattle.std.proofs.lemmas.List.{get_or_past, length-set}
use Rattle.std.proofs.lemmas.Bool.{cases_eq, cases_lt}
use Rattle.slab_model.specs.declared.page.PageState.{PageState}
use Rattle.slab_model.specs.declared.page.PageState.TheVariants.{Free, First, Later, Class}
use Rattle.slab_model.specs.declared.stat.Stat.{Stat}
use Rattle.slab_model.specs.Geometry.{usable_blocks, class_size}
use Rattle.slab_model.specs.Numbers.{without}
use Rattle.slab_model.specs.Runs.{first_fit}
use Rattle.slab_model.specs.State.{Slab, no_stat, list_of, stat_of, page_at}
use Rattle.slab_model.specs.Blocks.{used_in, page_number, place_in_page}
use Rattle.slab_model.specs.Counting.{count_grant, count_fail, count_return}
use Rattle.slab_model.specs.Grant.{grant, grant_as, grant_from_list, grant_in_page, grant_in_new_page}
use Rattle.slab_model.specs.Return.{give_back, give_from, give_in_page}
use Rattle.slab_model.specs.Laws.{CountsRequest, CountsReturn, RequestsLaw, ReturnCountsLaw, ReturnUsedLaw}
use Rattle.slab_model.proofs.ClassLemmas.{class_of-some}
use Rattle.slab_model.proofs.SoundLemmas.{stat_covers}

counts_given : (slab new : Slab) (class more : ℕ) → new.stats ≡ set slab.stats class (count_grant more (stat_of slab class)) → class < length slab.stats → CountsRequest slab new class true
counts_given slab new class more is low =
    let own : stat_of new class ≡ count_grant more (stat_of slab class) = ap (λ (t : List Stat). get_or t class no_stat) is ∙ get_or-set_same slab.stats class (count_grant more (stat_of slab class)) no_stat low in
    record {
      used = ap (λ (t : Stat). t.used) own;
      reqs = ap (λ (t : Stat). t.reqs) own;
      fails = ap (λ (t : Stat). t.fails) own;
      others = λ other ne. ap (λ (t : List Stat). get_or t other no_stat) is ∙ get_or-set_other slab.stats class other (count_grant more (stat_of slab class)) no_stat ne;
    }

counts_failed : (slab new : Slab) (class : ℕ) → new.stats ≡ set slab.stats class (count_fail (stat_of slab class)) → class < length slab.stats → CountsRequest slab new class false
counts_failed slab new class is low =
    let own : stat_of new class ≡ count_fail (stat_of slab class) = ap (λ (t : List Stat). get_or t class no_stat) is ∙ get_or-set_same slab.stats class (count_fail (stat_of slab class)) no_stat low in
    record {
      used = ap (λ (t : Stat). t.used) own;
      reqs = ap (λ (t : Stat). t.reqs) own;
      fails = ap (λ (t : Stat). t.fails) own;
      others = λ other ne. ap (λ (t : List Stat). get_or t other no_stat) is ∙ get_or-set_other slab.stats class other (count_fail (stat_of slab class)) no_stat ne;
    }

from_list : (slab : Slab) (class : ℕ) → class < length slab.stats → (listed : List ℕ) → CountsRequest slab (grant_from_list slab class listed).1 class (is_some (grant_from_list slab class listed).0)
from_list slab class low (page ∷ rest) = counts_given slab (grant_in_page slab class page rest (used_in (page_at slab.pages page))).1 class 0 refl low
from_list slab class low [] = new_page (first_fit 1 slab.runs) where
  new_page : (fit : Option ℕ) → CountsRequest slab (grant_in_new_page slab class fit).1 class (is_some (grant_in_new_page slab class fit).0)
  new_page None = counts_failed slab (grant_in_new_page slab class None).1 class refl low
  new_page (Some page) = counts_given slab (grant_in_new_page slab class (Some page)).1 class (usable_blocks slab.shape class) refl low

pub requests-law : RequestsLaw
unfolding grant
requests-law slab size class s is =
    let known = class_of-some slab.shape size class is in
    let low : class < length slab.stats = omega (arith, s.stat_count, known.0) in
    subst (λ (c : Option ℕ). CountsRequest slab (grant_as slab size c).1 class (is_some (grant_as slab size c).0)) (sym is) (from_list slab class low (list_of slab class))

-- the two counts of requests
SameCounts : Stat → Stat → Type 0
SameCounts old new = (new.reqs ≡ old.reqs) × (new.fails ≡ old.fails)

counts_kept : (slab : Slab) (own less class : ℕ) → SameCounts (stat_of slab class) (get_or (set slab.stats own (count_return less (stat_of slab own))) class no_stat)
unfolding SameCounts
counts_kept slab own less class = elim (cases_eq class own) [
  | inl e ↦ same e (cases_lt own (length slab.stats))
  | inr ne ↦ let h = get_or-set_other slab.stats own class (count_return less (stat_of slab own)) no_stat ne in (ap (λ (t : Stat). t.reqs) h, ap (λ (t : Stat). t.fails) h)
] where
  same : class ≡ own → (own < length slab.stats) ⊎ (length slab.stats ≤ own) → SameCounts (stat_of slab class) (get_or (set slab.stats own (count_return less (stat_of slab own))) class no_stat)
  same e (inl low) =
      let h = ap (λ k. get_or (set slab.stats own (count_return less (stat_of slab own))) k no_stat) e ∙ get_or-set_same slab.stats own (count_return less (stat_of slab own)) no_stat low in
      let back = ap (λ k. stat_of slab k) (sym e) in
      (ap (λ (t : Stat). t.reqs) h ∙ ap (λ (t : Stat). t.reqs) back, ap (λ (t : Stat). t.fails) h ∙ ap (λ (t : Stat). t.fails) back)
  same e (inr past) =
      let h = get_or_past (set slab.stats own (count_return less (stat_of slab own))) class no_stat (omega (arith, length-set slab.stats own (count_return less (stat_of slab own)))) in
      let was = get_or_past slab.stats class no_stat (omega arith) in
      (ap (λ (t : Stat). t.reqs) (h ∙ sym was), ap (λ (t : Stat). t.fails) (h ∙ sym was))

in_page_kept : (slab : Slab) (page own class : ℕ) (used left : List ℕ) → SameCounts (stat_of slab class) (stat_of (give_in_page slab page own used left) class)
in_page_kept slab page own class used [] = counts_kept slab own (usable_blocks slab.shape own) class
in_page_kept slab page own class used (l ∷ ls) = counts_kept slab own 0 class

from_kept : (slab : Slab) (page place class : ℕ) (state : PageState) → SameCounts (stat_of slab class) (stat_of (give_from slab page place state) class)
unfolding SameCounts
from_kept slab page place class Free = (refl, refl)
from_kept slab page place class (First count) = (refl, refl)
from_kept slab page place class Later = (refl, refl)
from_kept slab page place class (Class own used) = in_page_kept slab page own class used (without (place / class_size own) used)

pub return_counts-law : ReturnCountsLaw
unfolding give_back SameCounts
return_counts-law slab at class = from_kept slab (page_number slab.shape at) (place_in_page slab.shape at) class (page_at slab.pages (page_number slab.shape at))

-- the class of the block counts one less, and no other class counts anything
counts_less : (slab new : Slab) (class less : ℕ) → new.stats ≡ set slab.stats class (count_return less (stat_of slab class)) → class < length slab.stats → 0 < (stat_of slab class).used → CountsReturn slab new class
counts_less slab new class less is low some =
    let own : stat_of new class ≡ count_return less (stat_of slab class) = ap (λ (t : List Stat). get_or t class no_stat) is ∙ get_or-set_same slab.stats class (count_return less (stat_of slab class)) no_stat low in
    record {
      used = omega (arith, ap (λ (t : Stat). t.used) own, some);
      others = λ other ne. ap (λ (t : List Stat). get_or t other no_stat) is ∙ get_or-set_other slab.stats class other (count_return less (stat_of slab class)) no_stat ne;
    }

less_in_page : (slab : Slab) (page class : ℕ) (used left : List ℕ) → class < length slab.stats → 0 < (stat_of slab class).used → CountsReturn slab (give_in_page slab page class used left) class
less_in_page slab page class used [] low some = counts_less slab (give_in_page slab page class used []) class (usable_blocks slab.shape class) refl low some
less_in_page slab page class used (l ∷ ls) low some = counts_less slab (give_in_page slab page class used (l ∷ ls)) class 0 refl low some

pub return_used-law : ReturnUsedLaw
unfolding give_back
return_used-law slab at class used s live is =
    let ok = s.used (page_number slab.shape at) class used is in
    let covers = stat_covers slab class (page_number slab.shape at) used s ok.known is in
    let low : class < length slab.stats = omega (arith, s.stat_count, ok.known) in
    subst (λ (t : PageState). CountsReturn slab (give_from slab (page_number slab.shape at) (place_in_page slab.shape at) t) class) (sym is)
    (less_in_page slab (page_number slab.shape at) class used (without (place_in_page slab.shape at / class_size class) used) low (omega (arith, covers.1, ok.some)))
