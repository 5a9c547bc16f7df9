-- A run comes to the head of the list of free runs.
use Rattle.std.proofs.Common.{ℕ, ◌≡◌, ◌≢◌, ◌⊎◌, ◌+◌, ◌/◌, ◌<◌, ◌≤◌, true, false, List, [], ◌∷◌, sym, subst, ◌∙◌, refl, arith, inl, inr}
use Rattle.std.proofs.lemmas.Bool.{cases_lt}
use Rattle.slab_model.specs.declared.runs.Run.{Run}
use Rattle.slab_model.specs.Runs.{IsRunApart, AreSound, is_covered}
use Rattle.slab_pages.specs.Places.{free_head, pfree_word, descriptor, next_at, prev_at, IsDescriptorOffset, KeepsOthers, is_run_word, descriptor_word, descriptor_page, free_word}
use Rattle.slab_pages.specs.Layout.{LaysFrom}
use Rattle.slab_pages.specs.Frames.{SameWords}
use Rattle.slab_pages.specs.RunSteps.{Links, LaysList, IsBlank, BeginsRun, IsCleared, Relists}
use Rattle.slab_pages.proofs.PlaceLemmas.{descriptor-word, descriptor-head, descriptor-injective, descriptor-other, SameWords-then, Links-slab, Links-next, Links-prev, Links-prev_head}
use Rattle.slab_pages.proofs.ListLemmas.{HasTail-kept, LaysFrom-kept, covered-first, covered-rest, covers-apart}
use Rattle.slab_pages.proofs.UnlinkLemmas.{beyond_run, IsNode, node_place, links_free, links_kept, kept_then}

-- a begun run leaves the descriptors of all other pages, and the header
pub begun_other : (old new : List ℕ) (run : Run) (page : ℕ) → BeginsRun old new run → (page < run.first) ⊎ (run.first + run.pages ≤ page) → SameWords old new (descriptor page)
begun_other old new run page h beyond = record {
  slab = h.others (descriptor page / 8) (elim beyond [ inl l ↦ inl (omega (arith, l, descriptor-word page)) | inr g ↦ inr (omega (arith, g, descriptor-word page)) ]);
  next = h.others (descriptor page / 8 + 1) (elim beyond [ inl l ↦ inl (omega (arith, l, descriptor-word page)) | inr g ↦ inr (omega (arith, g, descriptor-word page)) ]);
  prev = h.others (descriptor page / 8 + 2) (elim beyond [ inl l ↦ inl (omega (arith, l, descriptor-word page)) | inr g ↦ inr (omega (arith, g, descriptor-word page)) ]);
}

pub begun_head : (old new : List ℕ) (run : Run) → BeginsRun old new run → SameWords old new free_head
begun_head old new run h = record { slab = h.others free_word (inl (omega arith)); next = h.others (free_word + 1) (inl (omega arith)); prev = h.others (free_word + 2) (inl (omega arith)) }

-- words outside a part of the runs
pub begun_kept : (old new : List ℕ) (run : Run) (runs : List Run) → ((page : ℕ) → run.first ≤ page → page < run.first + run.pages → is_covered page runs ≡ true) → BeginsRun old new run → KeepsOthers runs old new
begun_kept old new run runs covered h = record {
  same_length = h.same_length;
  others = λ w list is. h.others w (far runs run w covered is);
} where
  far : (runs : List Run) (run : Run) (w : ℕ) → ((page : ℕ) → run.first ≤ page → page < run.first + run.pages → is_covered page runs ≡ true) → is_run_word runs w ≡ false → (w < descriptor_word run.first) ⊎ (descriptor_word (run.first + run.pages) ≤ w)
  far runs run w covered is = elim (cases_lt w (descriptor_word run.first)) [
    | inl l ↦ inl l
    | inr g ↦ elim (cases_lt w (descriptor_word (run.first + run.pages))) [
      | inl inside ↦
          let page = descriptor_page w in
          let c = covered page (omega (arith, g)) (omega (arith, g, inside)) in
          elim (beyond_run runs page w c is) [ inl l ↦ absurd (omega (arith, l, g, descriptor-word page)) | inr after ↦ absurd (omega (arith, after, g, descriptor-word page)) ]
      | inr after ↦ inr after
    ]
  ]

-- two links leave a descriptor that has no part in them
pub links_other : (old new : List ℕ) (a b page : ℕ) → IsDescriptorOffset a → IsDescriptorOffset b → descriptor page ≢ a → descriptor page ≢ b → Links old new a b → SameWords old new (descriptor page)
links_other old new a b page pa pb na nb h = record {
  slab = Links-slab old new a b (descriptor page) pa pb (inr (page, refl)) h;
  next = Links-next old new a b (descriptor page) pa pb (inr (page, refl)) na h;
  prev = Links-prev old new a b (descriptor page) pa pb (inr (page, refl)) nb h;
}

-- the place after the head
pub first_node : (words : List ℕ) (count : ℕ) (runs : List Run) → AreSound count runs → LaysFrom words free_head runs → IsNode (next_at words free_head) runs
first_node words count [] sound h = inl h
first_node words count (y ∷ ys) sound h = inr (y.first, h.0, covered-first y ys y.first (omega arith) (omega (arith, sound.0)))

-- the runs follow the new one
follow : (count : ℕ) (old mid next new : List ℕ) (run : Run) (runs : List Run) → 0 < run.pages → IsRunApart run runs → AreSound count runs → LaysFrom old free_head runs → BeginsRun old mid run → Links mid next (descriptor run.first) (next_at old free_head) → Links next new free_head (descriptor run.first) → LaysFrom new (descriptor run.first) runs
follow count old mid next new run [] some apart sound h begins one two =
    Links-next next new free_head (descriptor run.first) (descriptor run.first) (inl refl) (inr (run.first, refl)) (inr (run.first, refl)) (descriptor-head run.first) two ∙ one.next ∙ h
follow count old mid next new run (y ∷ ys) some apart sound h begins one two =
    let o = descriptor run.first in
    let n = next_at old free_head in
    let po : IsDescriptorOffset o = inr (run.first, refl) in
    let pn : IsDescriptorOffset n = inr (y.first, h.0) in
    let head : IsDescriptorOffset free_head = inl refl in
    let far = λ (page : ℕ) (c : is_covered page (y ∷ ys) ≡ true). covers-apart run (y ∷ ys) page apart c in
    let not_o = λ (page : ℕ) (c : is_covered page (y ∷ ys) ≡ true). descriptor-other page run.first (beyond_first run page some (far page c)) in
    let same = λ (page : ℕ) (c : is_covered page (y ∷ ys) ≡ true) (ne : page ≢ y.first). SameWords-then old next new (descriptor page)
    (SameWords-then old mid next (descriptor page) (begun_other old mid run page begins (far page c)) (links_other mid next o n page po pn (not_o page c) (λ e. ne (descriptor-injective page y.first (e ∙ h.0))) one))
    (links_other next new free_head o page head po (descriptor-head page) (not_o page c) two) in
    let c0 = covered-first y ys y.first (omega arith) (omega (arith, sound.0)) in
    let y0 : IsDescriptorOffset (descriptor y.first) = inr (y.first, refl) in
    let begin0 = begun_other old mid run y.first begins (far y.first c0) in
    let back : prev_at next (descriptor y.first) ≡ o = subst (λ (x : ℕ). prev_at next x ≡ o) h.0 (one.prev (λ e. descriptor-head y.first (sym h.0 ∙ e))) in
    let after = Links-next next new free_head o (descriptor y.first) head po y0 (descriptor-head y.first) two ∙ Links-next mid next o n (descriptor y.first) po pn y0 (not_o y.first c0) one ∙ begin0.next in (
      Links-next next new free_head o o head po po (descriptor-head run.first) two ∙ one.next ∙ h.0,
      Links-slab next new free_head o (descriptor y.first) head po y0 two ∙ Links-slab mid next o n (descriptor y.first) po pn y0 one ∙ begin0.slab ∙ h.1,
      Links-prev next new free_head o (descriptor y.first) head po y0 (not_o y.first c0) two ∙ back,
      HasTail-kept old new y (λ page low high. same page (covered-first y ys page (omega (arith, low)) high) (omega (arith, low))) h.3,
      LaysFrom-kept count old new (descriptor y.first) ys sound.3 after (λ page c. same page (covered-rest y ys page c) (beyond_first y page sound.0 (covers-apart y ys page sound.2 c))) h.4,
    ) where
      beyond_first : (run : Run) (page : ℕ) → 0 < run.pages → (page < run.first) ⊎ (run.first + run.pages ≤ page) → page ≢ run.first
      beyond_first run page some far e = elim far [ inl l ↦ omega (arith, l, e) | inr g ↦ omega (arith, g, e, some) ]

pub added : (count : ℕ) (runs : List Run) (run : Run) (old mid next new : List ℕ) → LaysList count old runs → IsCleared count old runs run → BeginsRun old mid run → Links mid next (descriptor run.first) (next_at old free_head) → Links next new free_head (descriptor run.first) → Relists count (run ∷ runs) (run ∷ runs) old new
added count runs run old mid next new h clear begins one two =
    let o = descriptor run.first in
    let n = next_at old free_head in
    let po : IsDescriptorOffset o = inr (run.first, refl) in
    let node = first_node old count runs h.sound h.linked in
    let pn = node_place n runs node in
    let head : IsDescriptorOffset free_head = inl refl in
    let begin = begun_head old mid run begins in
    let blank : IsBlank old run = record {
      slabs = λ page low high. (clear.cleared page (omega (arith, low)) high).slab_is;
      nexts = λ page low high. (clear.cleared page (omega (arith, low)) high).next_is;
      prevs = λ page low high. (clear.cleared page (omega (arith, low)) (omega (arith, high))).prev_is;
    } in
    let own = λ (page : ℕ) (low : run.first < page) (high : page < run.first + run.pages). SameWords-then mid next new (descriptor page)
    (links_other mid next o n page po pn (descriptor-other page run.first (omega (arith, low))) (not_node runs run page n clear.apart (omega (arith, low)) high node) one)
    (links_other next new free_head o page head po (descriptor-head page) (descriptor-other page run.first (omega (arith, low))) two) in
    let here : IsNode o (run ∷ runs) = inr (run.first, refl, covered-first run runs run.first (omega arith) (omega (arith, clear.some))) in
    let there : IsNode n (run ∷ runs) = elim node [ inl e ↦ inl e | inr m ↦ inr (m.0, m.1, covered-rest run runs m.0 m.2) ] in
    record {
      laid = record {
        small = h.small;
        room = omega (arith, h.room, begins.same_length, one.same_length, two.same_length);
        sound = (clear.some, clear.within, clear.apart, h.sound);
        slab_is = Links-slab next new free_head o free_head head po head two ∙ Links-slab mid next o n free_head po pn head one ∙ begin.slab ∙ h.slab_is;
        prev_is = Links-prev next new free_head o free_head head po head (λ e. descriptor-head run.first (sym e)) two ∙ Links-prev_head mid next o n po pn one ∙ begin.prev ∙ h.prev_is;
        linked = (
          two.next,
          Links-slab next new free_head o o head po po two ∙ Links-slab mid next o n o po pn po one ∙ begins.slab,
          two.prev (descriptor-head run.first),
          HasTail-kept mid new run own (begins.tail blank),
          follow count old mid next new run runs clear.some clear.apart h.sound h.linked begins one two,
        );
      };
      kept = kept_then (run ∷ runs) old next new (kept_then (run ∷ runs) old mid next (begun_kept old mid run (run ∷ runs) (λ page low high. covered-first run runs page low high) begins) (links_kept mid next o n (run ∷ runs) here there one)) (links_kept next new free_head o (run ∷ runs) (inl refl) here two);
      free = links_free next new free_head o head po two ∙ links_free mid next o n po pn one ∙ begins.others pfree_word (inl (omega arith));
    } where
      not_node : (runs : List Run) (run : Run) (page n : ℕ) → IsRunApart run runs → run.first ≤ page → page < run.first + run.pages → IsNode n runs → descriptor page ≢ n
      not_node runs run page n apart low high node e = elim node [
        | inl at ↦ descriptor-head page (e ∙ at)
        | inr m ↦ let same = descriptor-injective page m.0 (e ∙ m.1) in elim (covers-apart run runs m.0 apart m.2) [ inl l ↦ omega (arith, l, same, low) | inr g ↦ omega (arith, g, same, high) ]
      ]
