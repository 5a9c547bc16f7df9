-- A run leaves the list of free runs.
use Rattle.std.proofs.Common.{ℕ, ◌≡◌, ◌≢◌, ◌⊎◌, ◌+◌, ◌-◌, ◌/◌, ◌<◌, ◌≤◌, true, false, List, [], ◌∷◌, length, get_or, sym, ap, subst, ◌∙◌, refl, arith, inl, inr}
use Rattle.std.proofs.lemmas.Grind.{common_steps}
use Rattle.std.proofs.lemmas.Bool.{cases_eq, cases_lt}
use Rattle.slab_model.specs.declared.runs.Run.{Run}
use Rattle.slab_model.specs.Runs.{IsRunApart, AreSound, is_covered, pages_from}
use Rattle.slab_pages.specs.Places.{free_head, pfree_word, descriptor, slab_at, next_at, prev_at, HasWords, IsDescriptorOffset, KeepsOthers, is_list_word, is_run_word, descriptor_word, descriptor_page, free_word}
use Rattle.slab_pages.specs.Layout.{HasTail, LaysFrom}
use Rattle.slab_pages.specs.Frames.{SameWords}
use Rattle.slab_pages.specs.RunSteps.{Links, SetsWords, LaysList, Unlinks, Detaches, without_run}
use Rattle.slab_pages.proofs.PlaceLemmas.{descriptor-word, descriptor-head, descriptor-injective, descriptor-other, HasWords-kept, SameWords-then, SetsWords-other, Links-slab, Links-next, Links-prev, Links-prev_head}
use Rattle.slab_pages.proofs.ListLemmas.{pages_from-here, pages_from-there, pages_from-covers, pages_from-beyond, pages_from-inside, LaysFrom-kept, covered-rest, covers-apart, Near, prev_in, next_in, relink, relaid}

-- ---- the list without a run

pub IsApart-without : (y : Run) (runs : List Run) (first : ℕ) → IsRunApart y runs → IsRunApart y (without_run first runs)
IsApart-without y [] first apart = tt
IsApart-without y (x ∷ xs) first apart = let ih = IsApart-without y xs first apart.1 in grind (arith, common_steps, ih)

pub AreSound-without : (count : ℕ) (runs : List Run) (first : ℕ) → AreSound count runs → AreSound count (without_run first runs)
AreSound-without count [] first sound = tt
AreSound-without count (x ∷ xs) first sound = let ih = AreSound-without count xs first sound.3 in let apart = IsApart-without x xs first sound.2 in grind (arith, common_steps, ih, apart)

pub covered-without : (count : ℕ) (runs : List Run) (first page : ℕ) → AreSound count runs → is_covered page (without_run first runs) ≡ true → (page < first) ⊎ (first + pages_from first runs ≤ page)
covered-without count [] first page sound c = absurd (cc)
covered-without count (x ∷ xs) first page sound c = let ih = covered-without count xs first page sound.3 in let here = covers-apart x xs page sound.2 in let beyond = pages_from-beyond x xs first page sound.2 in grind (arith, common_steps, ih, here, beyond)

pub covered-of_without : (runs : List Run) (first page : ℕ) → is_covered page (without_run first runs) ≡ true → is_covered page runs ≡ true
covered-of_without [] first page c = absurd (cc)
covered-of_without (x ∷ xs) first page c = let ih = covered-of_without xs first page in grind (arith, common_steps, ih)

-- what the words say of a listed run
pub run_at : (count : ℕ) (words : List ℕ) (p : ℕ) (runs : List Run) (first : ℕ) → AreSound count runs → LaysFrom words p runs → 0 < pages_from first runs → (slab_at words (descriptor first) ≡ pages_from first runs) × HasTail words (record { first = first; pages = pages_from first runs })
run_at count words p [] first sound h some = absurd (omega arith)
run_at count words p (x ∷ xs) first sound h some = elim (cases_eq x.first first) [
  | inl e ↦ (
    subst (λ (k : ℕ). slab_at words (descriptor k) ≡ pages_from first (x ∷ xs)) e (h.1 ∙ sym (pages_from-here x xs first e)),
    subst (λ (k : ℕ). HasTail words (record { first = k; pages = pages_from first (x ∷ xs) })) e (subst (λ (n : ℕ). HasTail words (record { first = x.first; pages = n })) (sym (pages_from-here x xs first e)) h.3),
  )
  | inr ne ↦
      let ih = run_at count words (descriptor x.first) xs first sound.3 h.4 (omega (arith, some, pages_from-there x xs first ne)) in
      subst (λ (n : ℕ). (slab_at words (descriptor first) ≡ n) × HasTail words (record { first = first; pages = n })) (sym (pages_from-there x xs first ne)) ih
]

-- ---- words that stay

-- a word outside the descriptor of a page of the runs
pub beyond_run : (runs : List Run) (page w : ℕ) → is_covered page runs ≡ true → is_run_word runs w ≡ false → (w < descriptor page / 8) ⊎ (descriptor page / 8 + 3 ≤ w)
beyond_run runs page w c h = elim (cases_lt w (descriptor page / 8)) [
  | inl l ↦ inl l
  | inr g ↦ elim (cases_lt w (descriptor page / 8 + 3)) [
    | inl inside ↦ absurd (in_run runs page w c h (omega (arith, g, descriptor-word page)) (omega (arith, inside, descriptor-word page)))
    | inr after ↦ inr after
  ]
] where
  in_run : (runs : List Run) (page w : ℕ) → is_covered page runs ≡ true → is_run_word runs w ≡ false → descriptor_word page ≤ w → w < descriptor_word page + 3 → ⊥
  in_run runs page w c h low high = let at : descriptor_page w ≡ page = omega arith in let covered : is_covered (descriptor_page w) runs ≡ true = ap (λ k. is_covered k runs) at ∙ c in grind (arith, common_steps)

-- the head, or the first page of one of the runs
abbrev pub IsNode : ℕ → List Run → Type 0
IsNode o runs = (o ≡ free_head) ⊎ ((page : ℕ) × (o ≡ descriptor page) × (is_covered page runs ≡ true))

pub node_place : (o : ℕ) (runs : List Run) → IsNode o runs → IsDescriptorOffset o
node_place o runs h = elim h [ inl e ↦ inl e | inr m ↦ inr (m.0, m.1) ]

-- a word that isn't one of the list's is none of a node's links
pub node_next : (o : ℕ) (runs : List Run) (w : ℕ) → IsNode o runs → is_list_word w ≡ false → is_run_word runs w ≡ false → w ≢ o / 8 + 1
node_next o runs w node list run e = elim node [
  | inl at ↦ head w list (e ∙ ap (λ x. x / 8 + 1) at)
  | inr m ↦ let there = e ∙ ap (λ x. x / 8 + 1) m.1 in elim (beyond_run runs m.0 w m.2 run) [ inl l ↦ omega (arith, l, there) | inr g ↦ omega (arith, g, there) ]
] where
  head : (w : ℕ) → is_list_word w ≡ false → w ≡ free_word + 1 → ⊥
  head w list e = grind (arith, common_steps)

pub node_prev : (o : ℕ) (runs : List Run) (w : ℕ) → IsNode o runs → is_list_word w ≡ false → is_run_word runs w ≡ false → w ≢ o / 8 + 2
node_prev o runs w node list run e = elim node [
  | inl at ↦ head w list (e ∙ ap (λ x. x / 8 + 2) at)
  | inr m ↦ let there = e ∙ ap (λ x. x / 8 + 2) m.1 in elim (beyond_run runs m.0 w m.2 run) [ inl l ↦ omega (arith, l, there) | inr g ↦ omega (arith, g, there) ]
] where
  head : (w : ℕ) → is_list_word w ≡ false → w ≡ free_word + 2 → ⊥
  head w list e = grind (arith, common_steps)

-- the count of free pages is no link
pub links_free : (old new : List ℕ) (a b : ℕ) → IsDescriptorOffset a → IsDescriptorOffset b → Links old new a b → get_or new pfree_word 0 ≡ get_or old pfree_word 0
links_free old new a b pa pb h = h.others pfree_word (λ e. away 1 a pa (omega arith) (omega arith) e) (λ e. away 2 b pb (omega arith) (omega arith) e) where
  away : (j o : ℕ) → IsDescriptorOffset o → 1 ≤ j → j ≤ 2 → pfree_word ≡ o / 8 + j → ⊥
  away j o place low high e = elim place [
    | inl at ↦ let w = ap (λ x. x / 8) at in omega (arith, e, w, low, high)
    | inr m ↦ let w = ap (λ x. x / 8) m.1 ∙ descriptor-word m.0 in omega (arith, e, w)
  ]

pub links_kept : (old new : List ℕ) (a b : ℕ) (runs : List Run) → IsNode a runs → IsNode b runs → Links old new a b → KeepsOthers runs old new
links_kept old new a b runs na nb h = record { same_length = h.same_length; others = λ w list run. h.others w (node_next a runs w na list run) (node_prev b runs w nb list run) }

pub LaysList-kept : (count : ℕ) (old new : List ℕ) (runs : List Run) → length new ≡ length old → SameWords old new free_head → ((page : ℕ) → is_covered page runs ≡ true → SameWords old new (descriptor page)) → LaysList count old runs → LaysList count new runs
LaysList-kept count old new runs len head same h = record {
  small = h.small;
  room = omega (arith, h.room, len);
  sound = h.sound;
  slab_is = head.slab ∙ h.slab_is;
  prev_is = head.prev ∙ h.prev_is;
  linked = LaysFrom-kept count old new free_head runs h.sound head.next same h.linked;
}

-- ---- the run leaves the list

pub node_before : (count : ℕ) (words : List ℕ) (runs : List Run) (first : ℕ) → LaysList count words runs → 0 < pages_from first runs → IsNode (prev_at words (descriptor first)) runs
node_before count words runs first h some = elim (prev_in count words free_head runs first h.sound h.linked some) [
  | inl e ↦ inl e
  | inr m ↦ inr (m.0, m.1, pages_from-covers m.0 m.0 runs (omega arith) (omega (arith, m.2)))
]

pub node_after : (count : ℕ) (words : List ℕ) (runs : List Run) (first : ℕ) → LaysList count words runs → 0 < pages_from first runs → IsNode (next_at words (descriptor first)) runs
node_after count words runs first h some = elim (next_in count words free_head runs first h.sound h.linked some) [
  | inl e ↦ inl e
  | inr m ↦ inr (m.0, m.1, pages_from-covers m.0 m.0 runs (omega arith) (omega (arith, m.2)))
]

-- neither of its neighbours is one of its own pages
pub before_beyond : (count : ℕ) (words : List ℕ) (runs : List Run) (first page : ℕ) → LaysList count words runs → 0 < pages_from first runs → first ≤ page → page < first + pages_from first runs → descriptor page ≢ prev_at words (descriptor first)
before_beyond count words runs first page h some low high e = elim (prev_in count words free_head runs first h.sound h.linked some) [
  | inl at ↦ descriptor-head page (e ∙ at)
  | inr m ↦ let same = descriptor-injective page m.0 (e ∙ m.1) in let inside : first < page = elim (cases_eq page first) [ inl p ↦ absurd (m.3 (sym same ∙ p)) | inr ne ↦ omega (arith, low, ne) ] in omega (arith, m.2, ap (λ k. pages_from k runs) same, pages_from-inside count runs first page h.sound inside high)
]

pub after_beyond : (count : ℕ) (words : List ℕ) (runs : List Run) (first page : ℕ) → LaysList count words runs → 0 < pages_from first runs → first ≤ page → page < first + pages_from first runs → descriptor page ≢ next_at words (descriptor first)
after_beyond count words runs first page h some low high e = elim (next_in count words free_head runs first h.sound h.linked some) [
  | inl at ↦ descriptor-head page (e ∙ at)
  | inr m ↦ let same = descriptor-injective page m.0 (e ∙ m.1) in let inside : first < page = elim (cases_eq page first) [ inl p ↦ absurd (m.3 (sym same ∙ p)) | inr ne ↦ omega (arith, low, ne) ] in omega (arith, m.2, ap (λ k. pages_from k runs) same, pages_from-inside count runs first page h.sound inside high)
]

-- a change near the run at `first` is one near the run that the list has there
pub near_here : (old new : List ℕ) (first pages : ℕ) (x : Run) (xs : List Run) → x.first ≡ first → pages_from first (x ∷ xs) ≡ pages → Near old new first pages (prev_at old (descriptor first)) (next_at old (descriptor first)) → Near old new x.first x.pages (prev_at old (descriptor first)) (next_at old (descriptor x.first))
near_here old new first pages x xs e same near = subst (λ (k : ℕ). Near old new k x.pages (prev_at old (descriptor first)) (next_at old (descriptor k))) (sym e) (subst (λ (n : ℕ). Near old new first n (prev_at old (descriptor first)) (next_at old (descriptor first))) (sym same ∙ pages_from-here x xs first e) near)

pub unlinked : (count : ℕ) (runs : List Run) (first : ℕ) (old new : List ℕ) → LaysList count old runs → 0 < pages_from first runs → Links old new (prev_at old (descriptor first)) (next_at old (descriptor first)) → Unlinks count runs old new first
unlinked count runs first old new h some links =
    let a = prev_at old (descriptor first) in
    let b = next_at old (descriptor first) in
    let na = node_before count old runs first h some in
    let nb = node_after count old runs first h some in
    let pa = node_place a runs na in
    let pb = node_place b runs nb in
    let near : Near old new first (pages_from first runs) a b = record {
      slabs = λ page beyond. Links-slab old new a b (descriptor page) pa pb (inr (page, refl)) links;
      nexts = λ page beyond ne. Links-next old new a b (descriptor page) pa pb (inr (page, refl)) ne links;
      prevs = λ page beyond ne. Links-prev old new a b (descriptor page) pa pb (inr (page, refl)) ne links;
      head = λ ne. Links-next old new a b free_head pa pb (inl refl) ne links;
    } in
    record {
      laid = record {
        small = h.small;
        room = omega (arith, h.room, links.same_length);
        sound = AreSound-without count runs first h.sound;
        slab_is = Links-slab old new a b free_head pa pb (inl refl) links ∙ h.slab_is;
        prev_is = Links-prev_head old new a b pa pb links ∙ h.prev_is;
        linked = relaid count old new first (λ x xs. xs) free_head runs (inl refl) (λ page c. descriptor-head page) h.sound h.linked some near
            (λ q x xs e pq out sound same hx.
            relink count old new q a x xs sound.2 sound.3 (λ page c eq. out page (covered-rest x xs page c) (eq ∙ pq)) (near_here old new first (pages_from first runs) x xs e same near)
            (subst (λ (o : ℕ). next_at new o ≡ next_at old (descriptor x.first)) pq (links.next ∙ ap (λ k. next_at old (descriptor k)) (sym e)))
            (subst (λ (k : ℕ). next_at old (descriptor k) ≢ free_head → prev_at new (next_at old (descriptor k)) ≡ q) (sym e) (λ ne. links.prev ne ∙ pq))
            hx.4);
      };
      own = λ page low high. record {
        slab = Links-slab old new a b (descriptor page) pa pb (inr (page, refl)) links;
        next = Links-next old new a b (descriptor page) pa pb (inr (page, refl)) (before_beyond count old runs first page h some low high) links;
        prev = Links-prev old new a b (descriptor page) pa pb (inr (page, refl)) (after_beyond count old runs first page h some low high) links;
      };
      kept = links_kept old new a b runs na nb links;
      free = links_free old new a b pa pb links;
    }

-- a written descriptor of a listed page leaves the other words
pub sets_kept : (old new : List ℕ) (runs : List Run) (page slab next prev : ℕ) → is_covered page runs ≡ true → SetsWords old new (descriptor page) slab next prev → KeepsOthers runs old new
sets_kept old new runs page slab next prev c h = record { same_length = h.same_length; others = λ w list run. h.others w (beyond_run runs page w c run) }

pub kept_then : (runs : List Run) (old mid new : List ℕ) → KeepsOthers runs old mid → KeepsOthers runs mid new → KeepsOthers runs old new
kept_then runs old mid new first second = record { same_length = second.same_length ∙ first.same_length; others = λ w list run. second.others w list run ∙ first.others w list run }

pub sets_free : (old new : List ℕ) (page slab next prev : ℕ) → SetsWords old new (descriptor page) slab next prev → get_or new pfree_word 0 ≡ get_or old pfree_word 0
sets_free old new page slab next prev h = h.others pfree_word (inl (omega (arith, descriptor-word page)))

pub sets_head : (old new : List ℕ) (page slab next prev : ℕ) → SetsWords old new (descriptor page) slab next prev → SameWords old new free_head
sets_head old new page slab next prev h = SetsWords-other old new (descriptor page) slab next prev free_head (inr (page, refl)) (inl refl) (λ e. descriptor-head page (sym e)) h

-- the run leaves the list, and its first and last descriptor are cleared
pub detached : (count : ℕ) (runs : List Run) (first pages : ℕ) (old mid next new : List ℕ) → LaysList count old runs → 0 < pages_from first runs → pages ≡ pages_from first runs → Unlinks count runs old mid first → SetsWords mid next (descriptor first) 0 0 0 → SetsWords next new (descriptor (first + pages - 1)) 0 0 0 → Detaches count runs old new first pages
detached count runs first pages old mid next new h some is un one two =
    let last = first + pages - 1 in
    let tail = (run_at count old free_head runs first h.sound h.linked some).1 in
    let same = λ (page : ℕ) (n1 : page ≢ first) (n2 : page ≢ last). SameWords-then mid next new (descriptor page)
    (SetsWords-other mid next (descriptor first) 0 0 0 (descriptor page) (inr (first, refl)) (inr (page, refl)) (descriptor-other page first n1) one)
    (SetsWords-other next new (descriptor last) 0 0 0 (descriptor page) (inr (last, refl)) (inr (page, refl)) (descriptor-other page last n2) two) in
    let c1 = pages_from-covers first first runs (omega arith) (omega (arith, some)) in
    let c2 = pages_from-covers first last runs (omega (arith, some, is)) (omega (arith, some, is)) in
    record {
      pages_are = is;
      laid = LaysList-kept count mid new (without_run first runs) (two.same_length ∙ one.same_length)
          (SameWords-then mid next new free_head (sets_head mid next first 0 0 0 one) (sets_head next new last 0 0 0 two))
          (λ page c. same page (not_first page (covered-without count runs first page h.sound c)) (not_last page (covered-without count runs first page h.sound c)))
          un.laid;
      cleared = λ page low high. elim (cases_eq page last) [
        | inl e ↦ subst (λ (k : ℕ). HasWords new (descriptor k) 0 0 0) (sym e) two.has
        | inr nl ↦ elim (cases_eq page first) [
          | inl e ↦ HasWords-kept next new (descriptor page) 0 0 0 (SetsWords-other next new (descriptor last) 0 0 0 (descriptor page) (inr (last, refl)) (inr (page, refl)) (descriptor-other page last nl) two) (subst (λ (k : ℕ). HasWords next (descriptor k) 0 0 0) (sym e) one.has)
          | inr nf ↦ HasWords-kept mid new (descriptor page) 0 0 0 (same page nf nl) (HasWords-kept old mid (descriptor page) 0 0 0 (un.own page low (omega (arith, high, is))) (tail.between page (omega (arith, low, nf)) (omega (arith, high, nl, is))))
        ]
      ];
      kept = kept_then runs old next new (kept_then runs old mid next un.kept (sets_kept mid next runs first 0 0 0 c1 one)) (sets_kept next new runs last 0 0 0 c2 two);
      free = sets_free next new last 0 0 0 two ∙ sets_free mid next first 0 0 0 one ∙ un.free;
    } where
      not_first : (page : ℕ) → (page < first) ⊎ (first + pages_from first runs ≤ page) → page ≢ first
      not_first page beyond e = elim beyond [ inl l ↦ omega (arith, l, e) | inr g ↦ omega (arith, g, e, some) ]

      not_last : (page : ℕ) → (page < first) ⊎ (first + pages_from first runs ≤ page) → page ≢ first + pages - 1
      not_last page beyond e = elim beyond [ inl l ↦ omega (arith, l, e, is, some) | inr g ↦ omega (arith, g, e, some, is) ]
