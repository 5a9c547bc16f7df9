-- Only a server's record can be refused a block.
use Rattle.std.proofs.Common.{ℕ, suc, ◌≡◌, ◌+◌, ◌<◌, ◌≤◌, Bool, true, false, not, ◌||◌, cond, eqb, List, [], ◌∷◌, ◌++◌, length, Option, Some, None, refl, sym, ap, subst, ◌∙◌, ◌⊎◌, inl, inr, arith}
use Rattle.std.specs.Prelude.{is_some, sum_by, option_and_then}
use Rattle.std.specs.List.{All}
use Rattle.std.proofs.lemmas.Bool.{cases_eq, cases_lt}
use Rattle.std.proofs.lemmas.Bool.Decides.{nat_tests}
use Rattle.std.proofs.lemmas.Grind.{common_steps}
use Rattle.std.proofs.lemmas.List.{append-nil}
use Rattle.std.proofs.lemmas.List.Sums.{sum_by-cons}
use Rattle.std.proofs.lemmas.List.Elements.{All-head, All-tail}
use Rattle.slab_model.specs.declared.runs.Run.{Run}
use Rattle.slab_model.specs.declared.shape.Shape.{Shape}
use Rattle.slab_model.specs.declared.page.PageState.{PageState}
use Rattle.slab_model.specs.declared.page.PageState.TheVariants.{Free, First, Later, Class}
use Rattle.slab_model.specs.Geometry.{IsInLimits, class_of, class_size, blocks_in_page, first_index, usable_blocks, most_pages, start_of, pages_of}
use Rattle.slab_model.specs.Numbers.{is_member}
use Rattle.slab_model.specs.Runs.{first_fit, page_total}
use Rattle.slab_model.specs.State.{Slab, page_at, list_of, stat_of}
use Rattle.slab_model.specs.Counting.{free_pages}
use Rattle.slab_model.specs.Grant.{grant, fits, fits_as, is_empty}
use Rattle.slab_model.specs.Laws.{pages_taken_as}
use Rattle.slab_model.specs.Soundness.{IsSound, has_room, used_in_class}
use Rattle.slab_model.proofs.ClassLemmas.{class_of-some, class_of-none}
use Rattle.slab_model.proofs.StateLemmas.{has_room-own, full_length}
use Rattle.slab_model.proofs.SoundLemmas.{listed_test}
use Rattle.slab_model.proofs.Laws.{grant-sound, fits-grant}
use Rattle.slab_model.proofs.BlockLaws.{fresh-law}
use Rattle.slab_model.proofs.CountLaws.{grant_pages-law}
use Rattle.slab_model.proofs.RequestLaws.{requests-law}
use Rattle.peer_zone.specs.declared.calls.Server.{Server}
use Rattle.peer_zone.specs.Object.{IsServer}
use Rattle.peer_zone.specs.Opening.{Request, Granted, besides, context_size, name_size, list_size, record_size, record_requests, backup_requests, first_granted, grant_all, server_of, pool_of}
use Rattle.peer_zone.specs.Laws.{RefusedLaw}

-- ---- a request of less than a page in a slab with a free page

fit_one : (runs : List Run) → 0 < page_total runs → is_some (first_fit 1 runs) ≡ true
fit_one [] some = absurd (omega (arith, some))
fit_one (run ∷ runs) some = let rest = fit_one runs in grind (arith, common_steps, rest)

fits_class : (slab : Slab) (size : ℕ) (class : Option ℕ) → class_of slab.shape size ≡ class → size ≤ 2048 → is_some (first_fit 1 slab.runs) ≡ true → fits_as slab size class ≡ true
fits_class slab size None is small some = absurd (let large = class_of-none slab.shape size is in omega (arith, large, small))
fits_class slab size (Some class) is small some = grind (arith, common_steps, some)

fits_small : (slab : Slab) (size : ℕ) → size ≤ 2048 → 0 < free_pages slab → fits slab size ≡ true
unfolding fits
fits_small slab size small free = fits_class slab size (class_of slab.shape size) refl small (fit_one slab.runs free)

-- what fits is given a block
given_fit : (slab : Slab) (size : ℕ) → fits slab size ≡ true → (at : ℕ) × ((grant slab size).0 ≡ Some at)
given_fit slab size fit = go (grant slab size).0 refl (sym (fits-grant slab size) ∙ fit) where
  go : (block : Option ℕ) → (grant slab size).0 ≡ block → is_some (grant slab size).0 ≡ true → (at : ℕ) × ((grant slab size).0 ≡ Some at)
  go None is some = absurd (cc)
  go (Some at) is some = (at, is)

-- it takes a page at most
taken_class : (slab : Slab) (size : ℕ) (class : Option ℕ) → class_of slab.shape size ≡ class → size ≤ 2048 → pages_taken_as slab size class ≤ 1
taken_class slab size None is small = absurd (let large = class_of-none slab.shape size is in omega (arith, large, small))
taken_class slab size (Some class) is small = at_most (is_empty (list_of slab class)) where
  at_most : (b : Bool) → cond {A = ℕ} b 1 0 ≤ 1
  at_most true = omega arith
  at_most false = omega arith

pages_two : (shape : Shape) → IsInLimits shape → 2 ≤ pages_of shape
unfolding start_of pages_of most_pages
pages_two shape limits = let large = limits.large in let small = limits.small in omega (arith, large, small)

-- ---- the blocks of 64 bytes, which are those of class 3

-- how many of them are live
abbrev used_of : Slab → ℕ
used_of slab = (stat_of slab 3).used

used_between : (used : ℕ) (b : Bool) → (used ≤ cond b (used + 1) used) × (cond b (used + 1) used ≤ used + 1)
used_between used true = (omega arith, omega arith)
used_between used false = (omega arith, omega arith)

used-after : (slab : Slab) (size : ℕ) → IsSound slab → size ≤ 2048 → (used_of slab ≤ used_of (grant slab size).1) × (used_of (grant slab size).1 ≤ used_of slab + 1)
used-after slab size sound small = go (class_of slab.shape size) refl where
  go : (class : Option ℕ) → class_of slab.shape size ≡ class → (used_of slab ≤ used_of (grant slab size).1) × (used_of (grant slab size).1 ≤ used_of slab + 1)
  go None is = absurd (let large = class_of-none slab.shape size is in omega (arith, large, small))
  go (Some class) is = elim (cases_eq 3 class) [
    | inl same ↦
        let counts = requests-law slab size 3 sound (is ∙ ap (λ n. Some n) (sym same)) in
        let now = counts.used in
        let between = used_between (used_of slab) (is_some (grant slab size).0) in
        (omega (arith, now, between.0), omega (arith, now, between.1))
    | inr other ↦
        let counts = requests-law slab size class sound is in
        let now : used_of (grant slab size).1 ≡ used_of slab = ap (λ stat. stat.used) (counts.others 3 other) in
        (omega (arith, now), omega (arith, now))
  ]

class_three : class_size 3 ≡ 64
unfolding class_size
class_three = refl

-- a larger request leaves them
used-larger : (slab : Slab) (size : ℕ) → IsSound slab → 64 < size → size ≤ 2048 → used_of (grant slab size).1 ≡ used_of slab
used-larger slab size sound large small = go (class_of slab.shape size) refl where
  go : (class : Option ℕ) → class_of slab.shape size ≡ class → used_of (grant slab size).1 ≡ used_of slab
  go None is = absurd (let most = class_of-none slab.shape size is in omega (arith, most, small))
  go (Some class) is = elim (cases_eq 3 class) [
    | inl same ↦
        let holds = class_of-some slab.shape size class is in
        let bytes : class_size class ≡ 64 = ap class_size (sym same) ∙ class_three in
        absurd (omega (arith, holds.1, bytes, large))
    | inr other ↦ let counts = requests-law slab size class sound is in ap (λ stat. stat.used) (counts.others 3 other)
  ]

-- a page with some of them and with fewer than 64 has room
room-few : (shape : Shape) (state : PageState) → 0 < used_in_class 3 state → used_in_class 3 state < 64 → (left : List ℕ) × (state ≡ Class 3 left) × (length left < 64)
room-few shape Free some few = absurd (omega (arith, some))
room-few shape (First pages) some few = absurd (omega (arith, some))
room-few shape Later some few = absurd (omega (arith, some))
room-few shape (Class own used) some few = go (eqb own 3) refl some few where
  go : (b : Bool) → eqb own 3 ≡ b → 0 < cond b (length used) 0 → cond b (length used) 0 < 64 → (left : List ℕ) × (Class own used ≡ Class 3 left) × (length left < 64)
  go true is some few = let same : own ≡ 3 = grind (arith, nat_tests) in (used, ap (λ n. Class n used) same, few)
  go false is some few = absurd (omega (arith, some))

-- somewhere in a sum that is above 0 is a part above 0
some_page : (f : PageState → ℕ) (pages : List PageState) → 0 < sum_by f pages → (page : ℕ) × (0 < f (page_at pages page)) × (f (page_at pages page) ≤ sum_by f pages)
some_page f [] some = absurd (omega (arith, some))
some_page f (p ∷ ps) some = go (λ rest. some_page f ps rest) (cases_lt 0 (f p)) where
  go : (0 < sum_by f ps → (page : ℕ) × (0 < f (page_at ps page)) × (f (page_at ps page) ≤ sum_by f ps)) → (0 < f p) ⊎ (f p ≤ 0) → (page : ℕ) × (0 < f (page_at (p ∷ ps) page)) × (f (page_at (p ∷ ps) page) ≤ sum_by f (p ∷ ps))
  go rest (inl here) = (0, here, omega (arith, sum_by-cons f p ps))
  go rest (inr none) = let there = rest (omega (arith, sum_by-cons f p ps, some, none)) in (suc there.0, there.1, let low = there.2 in omega (arith, low, sum_by-cons f p ps))

usable_three : (shape : Shape) → usable_blocks shape 3 ≡ 64
unfolding usable_blocks blocks_in_page first_index class_size
usable_three shape = refl

room_three : (slab : Slab) (page : ℕ) (used : List ℕ) → IsSound slab → page_at slab.pages page ≡ Class 3 used → length used < 64 → has_room slab.shape 3 (page_at slab.pages page) ≡ true
room_three slab page used sound is few =
    let full = full_length slab.shape 3 used (sound.used page 3 used is) ∙ ap (λ n. eqb (length used) n) (usable_three slab.shape) in
    let not_all : eqb (length used) 64 ≡ false = grind (arith, nat_tests) in
    ap (λ (state : PageState). has_room slab.shape 3 state) is ∙ has_room-own slab.shape 3 used ∙ ap not (full ∙ not_all)

not_empty : (page : ℕ) (listed : List ℕ) → is_member page listed ≡ true → is_empty listed ≡ false
not_empty page [] there = absurd (cc)
not_empty page (n ∷ ns) there = refl

listed_three : (slab : Slab) → IsSound slab → 0 < used_of slab → used_of slab < 64 → is_empty (list_of slab 3) ≡ false
listed_three slab sound some few =
    let counts = (sound.counts 3 (omega arith)).used in
    let page = some_page (used_in_class 3) slab.pages (omega (arith, counts, some)) in
    let at = page.0 in
    let state = room-few slab.shape (page_at slab.pages at) page.1 (let low = page.2 in omega (arith, low, counts, few)) in
    let room = room_three slab at state.0 sound state.1 state.2 in
    not_empty at (list_of slab 3) (listed_test slab.shape 3 slab.pages (list_of slab 3) (sound.lists 3 (omega arith)) at ∙ room)

class_of-64 : (shape : Shape) → class_of shape 64 ≡ Some 3
unfolding class_of
class_of-64 shape = refl

fits_three : (slab : Slab) → is_empty (list_of slab 3) ≡ false → fits_as slab 64 (Some 3) ≡ true
fits_three slab listed = ap (λ b. not b || is_some (first_fit 1 slab.runs)) listed

fits-64 : (slab : Slab) → IsSound slab → 0 < used_of slab → used_of slab < 64 → fits slab 64 ≡ true
unfolding fits
fits-64 slab sound some few = ap (λ (class : Option ℕ). fits_as slab 64 class) (class_of-64 slab.shape) ∙ fits_three slab (listed_three slab sound some few)

-- the first of them
used-first : (slab : Slab) (at : ℕ) → IsSound slab → (grant slab 64).0 ≡ Some at → used_of (grant slab 64).1 ≡ used_of slab + 1
used-first slab at sound given = (requests-law slab 64 3 sound (class_of-64 slab.shape)).used ∙ ap (λ (block : Option ℕ). cond (is_some block) (used_of slab + 1) (used_of slab)) given

-- ---- the grants in their order

-- no block is refused but a server's record
abbrev IsFair : Granted → Type 0
IsFair g = option_and_then server_of g.refused ≡ None → g.refused ≡ None

fair-given : (request : Request) (slab : Slab) (block : Option ℕ) (at : ℕ) (later : Granted) → block ≡ Some at → IsFair later → IsFair (first_granted request slab block later)
fair-given request slab None at later is fair = absurd (cc)
fair-given request slab (Some block) at later is fair = fair

fair-record : (size number : ℕ) (slab : Slab) (block : Option ℕ) (later : Granted) → IsFair later → IsFair (first_granted (record { size = size; server = Some number }) slab block later)
fair-record size number slab None later fair = λ none. absurd (cc)
fair-record size number slab (Some block) later fair = fair

fair-records : (slab : Slab) (number : ℕ) (servers : List Server) (rest : List Request) → IsSound slab → All IsServer servers → ((t : Slab) → IsSound t → used_of t ≡ used_of slab → IsFair (grant_all t rest)) → IsFair (grant_all slab (record_requests number servers ++ rest))
fair-records slab number [] rest sound all then = then slab sound refl
fair-records slab number (server ∷ servers) rest sound all then =
    let size = record_size server in
    let granted = grant slab size in
    let address = (All-head IsServer server servers all).address.1 in
    fair-record size number granted.1 granted.0 (grant_all granted.1 (record_requests (number + 1) servers ++ rest))
    (fair-records granted.1 (number + 1) servers rest (grant-sound slab size sound (omega arith)) (All-tail IsServer server servers all)
    (λ t t_sound same. then t t_sound (same ∙ used-larger slab size sound (omega arith) (omega (arith, address)))))

fair-backup : (slab : Slab) (number : ℕ) (servers : List Server) → IsSound slab → All IsServer servers → 0 < used_of slab → used_of slab < 64 → IsFair (grant_all slab (backup_requests number servers))
fair-backup slab number [] sound all some few = λ none. refl
fair-backup slab number (server ∷ servers) sound all some few =
    let granted = grant slab list_size in
    let given = given_fit slab list_size (fits-64 slab sound some few) in
    fair-given (besides list_size) granted.1 granted.0 given.0 (grant_all granted.1 (record_requests number (server ∷ servers))) given.1
    (subst (λ (requests : List Request). IsFair (grant_all granted.1 requests)) (append-nil (record_requests number (server ∷ servers)))
    (fair-records granted.1 number (server ∷ servers) [] (grant-sound slab list_size sound (omega arith)) all (λ t t_sound same. λ none. refl)))

-- the three blocks before the first record
fair-head : (pool : Slab) (name : List ℕ) (records : List Request) → IsSound pool → 2 ≤ free_pages pool → used_of pool ≡ 0 → length name < 256 → ((t : Slab) → IsSound t → 0 < used_of t → used_of t < 4 → IsFair (grant_all t records)) → IsFair (grant_all pool (besides context_size ∷ besides (name_size name) ∷ besides list_size ∷ records))
fair-head pool name records sound two none short then =
    let one = (grant pool context_size).1 in
    let first = given_fit pool context_size (fits_small pool context_size (omega arith) (omega (arith, two))) in
    let one_sound = grant-sound pool context_size sound (omega arith) in
    let one_used = used-first pool first.0 sound first.1 in
    let pages = grant_pages-law pool context_size first.0 first.1 in
    let taken = taken_class pool context_size (class_of pool.shape context_size) refl (omega arith) in
    let free : 0 < free_pages one = omega (arith, pages, taken, two) in
    let size = name_size name in
    let small : size ≤ 2048 = omega (arith, short) in
    let second = given_fit one size (fits_small one size small free) in
    let next = (grant one size).1 in
    let next_sound = grant-sound one size one_sound (omega arith) in
    let next_used = used-after one size one_sound small in
    let third = given_fit next list_size (fits-64 next next_sound (omega (arith, none, one_used, next_used.0)) (omega (arith, none, one_used, next_used.1))) in
    let last = (grant next list_size).1 in
    let last_used = used-first next third.0 next_sound third.1 in
    fair-given (besides context_size) one (grant pool context_size).0 first.0 (grant_all one (besides size ∷ besides list_size ∷ records)) first.1
    (fair-given (besides size) next (grant one size).0 second.0 (grant_all next (besides list_size ∷ records)) second.1
    (fair-given (besides list_size) last (grant next list_size).0 third.0 (grant_all last records) third.1
    (then last (grant-sound next list_size next_sound (omega arith)) (omega (arith, last_used)) (omega (arith, last_used, none, one_used, next_used.1)))))

pub refused-law : RefusedLaw
refused-law spec is =
    let shape : Shape = record { bytes = spec.bytes; page_shift = spec.page_shift } in
    let fresh = fresh-law shape is.limits in
    let two = pages_two shape is.limits in
    fair-head (pool_of spec) spec.name (record_requests 0 spec.primary ++ backup_requests (length spec.primary) spec.backup) fresh.0 (omega (arith, two)) refl is.name.1
    (λ t sound some few. fair-records t 0 spec.primary (backup_requests (length spec.primary) spec.backup) sound is.primary
    (λ u u_sound same. fair-backup u (length spec.primary) spec.backup u_sound is.backup (omega (arith, same, some)) (omega (arith, same, few))))
