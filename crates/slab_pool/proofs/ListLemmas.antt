-- A page leaves a class's list, and comes to its head, by the words that the steps write.
use Rattle.std.proofs.Common.{ℕ, ◌≡◌, ◌≢◌, ◌⊎◌, ◌+◌, ◌-◌, ◌/◌, ◌<◌, ◌≤◌, ◌^◌, List, [], ◌∷◌, ◌++◌, length, get_or, set, sym, ap, subst, ◌∙◌, refl, arith, inl, inr}
use Rattle.std.proofs.lemmas.Bool.{cases_eq}
use Rattle.std.proofs.lemmas.Grind.{common_steps}
use Rattle.zone_region.specs.Members.{In, IsDistinct}
use Rattle.zone_region.proofs.MembersLemmas.{In-split, In-middle, In-append_left, In-append_right, IsDistinct-split}
use Rattle.slab_model.specs.declared.shape.Shape.{Shape}
use Rattle.slab_model.specs.declared.runs.Run.{Run}
use Rattle.slab_model.specs.Geometry.{IsInLimits, pages_of, kind_of}
use Rattle.slab_model.specs.Numbers.{without}
use Rattle.slab_model.proofs.ClassLemmas.{zone}
use Rattle.slab_model.proofs.NumberLemmas.{without-none, member_not}
use Rattle.slab_pages.specs.Places.{Image, page_limit, head_word, descriptor_word, class_head, descriptor, next_at, prev_at}
use Rattle.slab_pages.specs.Layout.{LaysRuns, MaySet}
use Rattle.slab_pages.specs.SlabLayout.{type_of}
use Rattle.slab_pages.proofs.PlaceLemmas.{descriptor-word, descriptor-injective}
use Rattle.slab_pages.proofs.SetLemmas.{may_set-before, may_set-used}
use Rattle.slab_pages.proofs.WriteLemmas.{get-written, get-read, length-written}
use Rattle.slab_pool.specs.Links.{Linked, IsNode, LinksPages}
use Rattle.slab_pool.specs.PoolSteps.{HasRuns, IsTaken, IsTakenNode, HasList, KeepsRuns, UnlinksPage, Pushes}
use Rattle.slab_pool.proofs.LinkLemmas.{descriptor-not_head, nodes_apart, linked-next, linked-prev, first_linked, TakesOut, taken_out, PutsFirst, put_first}

-- ---- pages that aren't free

pub taken-room : (image : Image) (page : ℕ) → IsTaken image page → (page ≤ page_limit) × (descriptor page / 8 + 2 < length image.words) × (descriptor page < 2 ^ 32)
taken-room image page t =
    let z = zone image.shape t.limits in
    let sized = t.laid.sized in
    let at = descriptor-word page in
    (omega (arith, t.below, z.many), omega (arith, t.below, z.behind, z.last, sized, at), omega (arith, t.below, z.many, at))

pub taken-later : (old new : Image) (page : ℕ) → KeepsRuns old new → IsTaken old page → IsTaken new page
taken-later old new page k t = record {
  limits = subst (λ (s : Shape). IsInLimits s) (sym k.shape_is) t.limits;
  below = subst (λ (s : Shape). page < pages_of s) (sym k.shape_is) t.below;
  runs = t.runs;
  laid = k.laid t.runs t.laid;
  free = t.free;
}

pub runs-later : (old new : Image) → KeepsRuns old new → HasRuns old → HasRuns new
runs-later old new k h = record { limits = subst (λ (s : Shape). IsInLimits s) (sym k.shape_is) h.limits; runs = h.runs; laid = k.laid h.runs h.laid }

pub keeps-then : (old mid new : Image) → KeepsRuns old mid → KeepsRuns mid new → KeepsRuns old new
keeps-then old mid new h k = record { shape_is = k.shape_is ∙ h.shape_is; laid = λ runs l. k.laid runs (h.laid runs l) }

pub taken-runs : (image : Image) (page : ℕ) → IsTaken image page → HasRuns image
taken-runs image page t = record { limits = t.limits; runs = t.runs; laid = t.laid }

-- one word that may be set
pub set-kept : (old new : Image) (w v : ℕ) → new ≡ record { shape = old.shape; words = set old.words w v } → ((runs : List Run) → LaysRuns old runs → LaysRuns new runs) → KeepsRuns old new
set-kept old new w v is laid = record { shape_is = ap (λ (i : Image). i.shape) is; laid = laid }

-- the words of their descriptors may be set
pub taken-may_set : (image : Image) (page k o : ℕ) → IsTaken image page → k < 3 → o ≡ descriptor page → MaySet image (o / 8 + k)
taken-may_set image page k o t low is =
    let at = descriptor-word page in
    let eight = ap (λ n. n / 8) is in
    may_set-used image t.runs page (o / 8 + k) t.laid (omega (arith, (taken-room image page t).1, low, eight)) t.free (omega (arith, at, eight)) (omega (arith, at, eight, low))

pub node-may_set : (image : Image) (class k o : ℕ) → class < 9 → HasRuns image → k < 3 → IsTakenNode image class o → MaySet image (o / 8 + k)
node-may_set image class k o known h low node = elim node [
  | inl e ↦
      let eight = ap (λ n. n / 8) e in
      let z = zone image.shape h.limits in
      may_set-before image h.runs (o / 8 + k) h.laid (omega (arith, eight, low, known, z.behind, z.last, h.laid.sized)) (omega (arith, eight)) (omega (arith, eight, low, known))
  | inr m ↦ taken-may_set image m.0 k o m.2 low m.1
]

pub node-fits : (image : Image) (class o : ℕ) → class < 9 → IsTakenNode image class o → o < 2 ^ 32
node-fits image class o known node = elim node [ inl e ↦ omega (arith, e, known) | inr m ↦ let r = (taken-room image m.0 m.2).2 in omega (arith, r, m.1) ]

pub node-later : (old new : Image) (class o : ℕ) → KeepsRuns old new → IsTakenNode old class o → IsTakenNode new class o
node-later old new class o k node = elim node [ inl e ↦ inl e | inr m ↦ inr (m.0, m.1, taken-later old new m.0 k m.2) ]

pub node : (image : Image) (class o : ℕ) → IsTakenNode image class o → IsNode class o
node image class o n = elim n [ inl e ↦ inl e | inr m ↦ inr (m.0, m.1) ]

-- words of two nodes
words-apart : (class x y i j : ℕ) → class < 9 → IsNode class x → IsNode class y → x ≢ y → i < 3 → j < 3 → x / 8 + i ≢ y / 8 + j
words-apart class x y i j known a b ne li lj e = elim (nodes_apart class x y known a b ne) [ inl l ↦ omega (arith, l, e, li, lj) | inr g ↦ omega (arith, g, e, li, lj) ]

next-prev : (class x y : ℕ) → class < 9 → IsNode class x → IsNode class y → x / 8 + 1 ≢ y / 8 + 2
next-prev class x y known a b e = elim (cases_eq x y) [ inl same ↦ omega (arith, ap (λ n. n / 8) same, e) | inr ne ↦ words-apart class x y 1 2 known a b ne (omega arith) (omega arith) e ]

-- ---- one link

pub linked_page : (class type : ℕ) (old mid new : Image) (a b v : ℕ) → class < 9 → HasRuns old → IsTakenNode old class a → IsTakenNode old class b → b ≢ class_head class → mid ≡ record { shape = old.shape; words = set old.words (a / 8 + 1) b } → new ≡ record { shape = mid.shape; words = set mid.words (b / 8 + 2) v } → v ≡ a + type → LinksPages class type old.words new.words a b
linked_page class type old mid new a b v known h na nb ne first second v_is =
    let one = ap (λ (i : Image). i.words) first in
    let two = ap (λ (i : Image). i.words) second in
    let ma = node-may_set old class 1 a known h (omega arith) na in
    let mb = node-may_set old class 2 b known h (omega arith) nb in
    record {
      same_length = length-written mid.words new.words _ _ two ∙ length-written old.words mid.words _ _ one;
      next = get-written mid.words new.words _ _ (a / 8 + 1) two (next-prev class a b known (node old class a na) (node old class b nb)) ∙ get-read old.words mid.words _ _ one ma.within;
      prev = λ _. get-read mid.words new.words _ _ two (omega (arith, mb.within, length-written old.words mid.words _ _ one)) ∙ v_is;
      others = λ w x y. get-written mid.words new.words _ _ w two (y ne) ∙ get-written old.words mid.words _ _ w one x;
    }

pub linked_head : (class type : ℕ) (old new : Image) (a b : ℕ) → class < 9 → HasRuns old → IsTakenNode old class a → b ≡ class_head class → new ≡ record { shape = old.shape; words = set old.words (a / 8 + 1) b } → LinksPages class type old.words new.words a b
linked_head class type old new a b known h na at_head first =
    let one = ap (λ (i : Image). i.words) first in
    let ma = node-may_set old class 1 a known h (omega arith) na in
    record {
      same_length = length-written old.words new.words _ _ one;
      next = get-read old.words new.words _ _ one ma.within;
      prev = λ ne. absurd (ne at_head);
      others = λ w x y. get-written old.words new.words _ _ w one x;
    }

-- ---- the first page

pub head-empty : (words : List ℕ) (class type : ℕ) (pages : List ℕ) (h f g : ℕ) → class < 9 → Linked words (class_head class) type (class_head class) pages → h ≡ class_head class → f ≡ next_at words h → f ≡ g → g ≡ class_head class → pages ≡ []
head-empty words class type pages h f g known l at read same again = first_linked words class type pages known l (sym (ap (λ n. next_at words n) at) ∙ sym read ∙ same ∙ again)

pub head-first : (words : List ℕ) (class type : ℕ) (pages : List ℕ) (h f g : ℕ) → class < 9 → Linked words (class_head class) type (class_head class) pages → h ≡ class_head class → f ≡ next_at words h → f ≢ g → g ≡ class_head class → (page : ℕ) × (rest : List ℕ) × (f ≡ descriptor page) × (pages ≡ page ∷ rest)
head-first words class type [] h f g known l at read ne again = absurd (ne (read ∙ ap (λ n. next_at words n) at ∙ l ∙ sym again))
head-first words class type (x ∷ xs) h f g known l at read ne again = (x, xs, read ∙ ap (λ n. next_at words n) at ∙ l.0, refl)

pub first-node : (image : Image) (class : ℕ) (listed : List ℕ) (h f : ℕ) → HasList image class listed → h ≡ class_head class → f ≡ next_at image.words h → IsTakenNode image class f
first-node image class [] h f l at read = inl (read ∙ ap (λ n. next_at image.words n) at ∙ l.linked)
first-node image class (x ∷ xs) h f l at read = inr (x, read ∙ ap (λ n. next_at image.words n) at ∙ l.linked.0, l.taken x (inl refl))

-- ---- a page comes to the head

-- the first node isn't the descriptor of a page that isn't listed
first-other : (image : Image) (class page : ℕ) (listed : List ℕ) → class < 9 → HasList image class listed → (In page listed → ⊥) → next_at image.words (class_head class) ≢ descriptor page
first-other image class page [] known l out e = descriptor-not_head class page known (sym e ∙ l.linked)
first-other image class page (x ∷ xs) known l out e = out (inl (sym (descriptor-injective x page (sym l.linked.0 ∙ e))))

-- it is the head, or that of a listed page
first-word : (image : Image) (class w : ℕ) (listed : List ℕ) → HasList image class listed → ((q : ℕ) → In q listed → w ≢ descriptor_word q + 2) → next_at image.words (class_head class) ≢ class_head class → w ≢ next_at image.words (class_head class) / 8 + 2
first-word image class w [] l out ne e = ne l.linked
first-word image class w (x ∷ xs) l out ne e = out x (inl refl) (omega (arith, e, ap (λ n. n / 8) l.linked.0, descriptor-word x))

pub pushed : (class page : ℕ) (listed : List ℕ) (old mid new : Image) (h o f : ℕ) → class < 9 → HasRuns old → IsTaken old page → h ≡ class_head class → o ≡ descriptor page → f ≡ next_at old.words h → mid.shape ≡ old.shape → LinksPages class (type_of (kind_of old.shape class)) old.words mid.words o f → LinksPages class (type_of (kind_of mid.shape class)) mid.words new.words h o → HasList old class listed → (In page listed → ⊥) → Pushes old.shape class page listed old.words new.words
pushed class page listed old mid new h o f known runs taken h_is o_is f_is shape one two l out =
    go (kind_type (sym h_is) (sym o_is) f_is) where
      head : ℕ
      head = class_head class

      d : ℕ
      d = descriptor page

      first : ℕ
      first = next_at old.words (class_head class)

      type : ℕ
      type = type_of (kind_of old.shape class)

      kind_type : class_head class ≡ h → descriptor page ≡ o → f ≡ next_at old.words h → LinksPages class type old.words mid.words d first × LinksPages class type mid.words new.words head d
      kind_type hh oo ff = (
        subst (λ (n : ℕ). LinksPages class type old.words mid.words n first) (sym oo) (subst (λ (n : ℕ). LinksPages class type old.words mid.words o n) (ff ∙ ap (λ n. next_at old.words n) (sym hh)) one),
        subst (λ (n : ℕ). LinksPages class type mid.words new.words n d) (sym hh) (subst (λ (n : ℕ). LinksPages class type mid.words new.words h n) (sym oo) (subst (λ (s : Shape). LinksPages class (type_of (kind_of s class)) mid.words new.words h o) shape two)),
      )

      go : LinksPages class type old.words mid.words d first × LinksPages class type mid.words new.words head d → Pushes old.shape class page listed old.words new.words
      go ls =
          let a = ls.0 in
          let b = ls.1 in
          let page_node : IsNode class d = inr (page, refl) in
          let head_node : IsNode class head = inl refl in
          let first_node = node old class first (first-node old class listed head first l refl refl) in
          let other = first-other old class page listed known l out in
          let puts : PutsFirst class type old.words new.words page = record {
            head = b.next;
            prev = b.prev (descriptor-not_head class page known);
            next = linked-next class type mid.words new.words head d d known head_node page_node page_node (descriptor-not_head class page known) b ∙ a.next;
            back = λ ne. linked-prev class type mid.words new.words head d first known head_node page_node first_node other b ∙ a.prev ne;
            nexts = λ x nx nh nd. linked-next class type mid.words new.words head d x known head_node page_node nx nh b ∙ linked-next class type old.words mid.words d first x known page_node first_node nx nd a;
            prevs = λ x nx nf nd. linked-prev class type mid.words new.words head d x known head_node page_node nx nd b ∙ linked-prev class type old.words mid.words d first x known page_node first_node nx nf a;
          } in
          record {
            linked = put_first class type old.words new.words page listed known puts out l.once l.linked;
            changes = record {
              same_length = b.same_length ∙ a.same_length;
              others = λ w nh ns.
                  let at = descriptor-word page in
                  let own = ns page (inl refl) in
                  b.others w (λ e. nh (omega (arith, e))) (λ _ e. own.1 (omega (arith, e, at)))
                  ∙ a.others w (λ e. own.0 (omega (arith, e, at))) (λ ne. first-word old class w listed l (λ q m. (ns q (inr m)).1) ne);
            };
          }

-- ---- a page leaves

-- the node before a page of the list, and the one after it
before-of : (words : List ℕ) (head type o : ℕ) (xs : List ℕ) (page : ℕ) (ys : List ℕ) → Linked words head type o (xs ++ page ∷ ys) → (prev_at words (descriptor page) ≡ o + type) ⊎ ((q : ℕ) × (In q xs) × (prev_at words (descriptor page) ≡ descriptor q + type))
before-of words head type o [] page ys l = inl l.1
before-of words head type o (x ∷ xs) page ys l = elim (before-of words head type (descriptor x) xs page ys l.2) [
  | inl here ↦ inr (x, inl refl, here)
  | inr m ↦ inr (m.0, inr m.1, m.2)
]

after-of : (words : List ℕ) (head type o : ℕ) (xs : List ℕ) (page : ℕ) (ys : List ℕ) → Linked words head type o (xs ++ page ∷ ys) → (next_at words (descriptor page) ≡ head) ⊎ ((q : ℕ) × (In q ys) × (next_at words (descriptor page) ≡ descriptor q))
after-of words head type o [] page [] l = inl l.2
after-of words head type o [] page (y ∷ ys) l = inr (y, inl refl, l.2.0)
after-of words head type o (x ∷ xs) page ys l = after-of words head type (descriptor x) xs page ys l.2

-- both, as nodes other than the page's
pub record Neighbours (image : Image) (class page : ℕ) : Type 0 where
  pub before : ℕ
  pub before_is : prev_at image.words (descriptor page) ≡ before + type_of (kind_of image.shape class)
  pub before_node : IsTakenNode image class before
  pub before_ne : before ≢ descriptor page
  pub after_node : IsTakenNode image class (next_at image.words (descriptor page))
  pub after_ne : next_at image.words (descriptor page) ≢ descriptor page

neighbours-split : (image : Image) (class page : ℕ) (xs ys : List ℕ) → class < 9 → HasList image class (xs ++ page ∷ ys) → Neighbours image class page
neighbours-split image class page xs ys known l =
    let type = type_of (kind_of image.shape class) in
    let out = (IsDistinct-split xs page ys l.once).1 in
    let not_head = descriptor-not_head class page known in
    let b : (n : ℕ) × (prev_at image.words (descriptor page) ≡ n + type) × IsTakenNode image class n × (n ≢ descriptor page) = elim (before-of image.words (class_head class) type (class_head class) xs page ys l.linked) [
      | inl e ↦ (class_head class, e, inl refl, λ h. not_head (sym h))
      | inr m ↦ (descriptor m.0, m.2, inr (m.0, refl, l.taken m.0 (In-append_left m.0 xs (page ∷ ys) m.1)), λ h. out (subst (λ (i : ℕ). In i (xs ++ ys)) (descriptor-injective m.0 page h) (In-append_left m.0 xs ys m.1)))
    ] in
    let a : IsTakenNode image class (next_at image.words (descriptor page)) × (next_at image.words (descriptor page) ≢ descriptor page) = elim (after-of image.words (class_head class) type (class_head class) xs page ys l.linked) [
      | inl e ↦ (inl e, λ h. not_head (sym h ∙ e))
      | inr m ↦ (inr (m.0, m.2, l.taken m.0 (In-append_right m.0 xs (page ∷ ys) (inr m.1))), λ h. out (subst (λ (i : ℕ). In i (xs ++ ys)) (descriptor-injective m.0 page (sym m.2 ∙ h)) (In-append_right m.0 xs ys m.1)))
    ] in
    record { before = b.0; before_is = b.1; before_node = b.2; before_ne = b.3; after_node = a.0; after_ne = a.1 }

pub neighbours : (image : Image) (class page : ℕ) (listed : List ℕ) → class < 9 → HasList image class listed → In page listed → Neighbours image class page
neighbours image class page listed known l m = let s = In-split page listed m in neighbours-split image class page s.0 s.1 known (subst (λ (ls : List ℕ). HasList image class ls) s.2 l)

-- what the code reads
pub before-read : (image : Image) (class page o p t : ℕ) → Neighbours image class page → o ≡ descriptor page → p ≡ prev_at image.words o → t ≡ type_of (kind_of image.shape class) → (t ≤ p) × IsTakenNode image class (p - t)
before-read image class page o p t n o_is p_is t_is =
    let e : p ≡ n.before + t = p_is ∙ ap (λ i. prev_at image.words i) o_is ∙ n.before_is ∙ ap (λ i. n.before + i) (sym t_is) in
    (omega (arith, e), subst (λ (i : ℕ). IsTakenNode image class i) (omega (arith, e)) n.before_node)

pub after-read : (image : Image) (class page o f : ℕ) → Neighbours image class page → o ≡ descriptor page → f ≡ next_at image.words o → IsTakenNode image class f
after-read image class page o f n o_is f_is = subst (λ (i : ℕ). IsTakenNode image class i) (sym (f_is ∙ ap (λ i. next_at image.words i) o_is)) n.after_node

without-split : (page : ℕ) (xs ys : List ℕ) → IsDistinct (xs ++ page ∷ ys) → without page (xs ++ page ∷ ys) ≡ xs ++ ys
without-split page [] ys once = own page ys ∙ without-none page ys (member_not page ys once.0) where
  own : (page : ℕ) (ys : List ℕ) → without page (page ∷ ys) ≡ without page ys
  own page ys = grind (arith, common_steps)
without-split page (x ∷ xs) ys once = other x page (xs ++ page ∷ ys) (λ e. once.0 (subst (λ (i : ℕ). In i (xs ++ page ∷ ys)) (sym e) (In-middle xs page ys))) ∙ ap (λ zs. x ∷ zs) (without-split page xs ys once.1) where
  other : (x page : ℕ) (zs : List ℕ) → x ≢ page → without page (x ∷ zs) ≡ x ∷ without page zs
  other x page zs ne = grind (arith, common_steps, ne)

-- what the steps wrote
pub record UnlinkSteps (class page : ℕ) (old mid next new : Image) : Type 0 where
  pub o : ℕ
  pub p : ℕ
  pub t : ℕ
  pub f : ℕ
  pub v : ℕ
  pub o_is : o ≡ descriptor page
  pub p_is : p ≡ prev_at old.words o
  pub t_is : t ≡ type_of (kind_of old.shape class)
  pub f_is : f ≡ next_at old.words o
  pub v_is : v ≡ type_of (kind_of old.shape class)
  pub link : LinksPages class (type_of (kind_of old.shape class)) old.words mid.words (p - t) f
  pub first : next ≡ record { shape = mid.shape; words = set mid.words (o / 8 + 1) 0 }
  pub second : new ≡ record { shape = next.shape; words = set next.words (o / 8 + 2) v }

unlinked-split : (class page : ℕ) (xs ys : List ℕ) (old mid next new : Image) → class < 9 → IsTaken old page → HasList old class (xs ++ page ∷ ys) → UnlinkSteps class page old mid next new → UnlinksPage old.shape class page (xs ++ page ∷ ys) old.words new.words
unlinked-split class page xs ys old mid next new known taken l s = go (neighbours-split old class page xs ys known l) (ap (λ (i : Image). i.words) s.first) (ap (λ (i : Image). i.words) s.second) (ap (λ n. n / 8) s.o_is) where
  d : ℕ
  d = descriptor page

  type : ℕ
  type = type_of (kind_of old.shape class)

  after : ℕ
  after = next_at old.words d

  go : Neighbours old class page → next.words ≡ set mid.words (s.o / 8 + 1) 0 → new.words ≡ set next.words (s.o / 8 + 2) s.v → s.o / 8 ≡ d / 8 → UnlinksPage old.shape class page (xs ++ page ∷ ys) old.words new.words
  go n one two eight =
      let p_before : s.p ≡ n.before + s.t = s.p_is ∙ ap (λ i. prev_at old.words i) s.o_is ∙ n.before_is ∙ ap (λ i. n.before + i) (sym s.t_is) in
      let k : LinksPages class type old.words mid.words n.before after = subst (λ (i : ℕ). LinksPages class type old.words mid.words i after) (omega (arith, p_before)) (subst (λ (i : ℕ). LinksPages class type old.words mid.words (s.p - s.t) i) (s.f_is ∙ ap (λ i. next_at old.words i) s.o_is) s.link) in
      let both = λ (w : ℕ) (a : w ≢ d / 8 + 1) (b : w ≢ d / 8 + 2). get-written next.words new.words _ _ w two (λ e. b (omega (arith, e, eight))) ∙ get-written mid.words next.words _ _ w one (λ e. a (omega (arith, e, eight))) in
      let page_node : IsNode class d = inr (page, refl) in
      let b_node = node old class n.before n.before_node in
      let a_node = node old class after n.after_node in
      let off_next = λ (x : ℕ) (nx : IsNode class x) (ne : x ≢ d). both (x / 8 + 1) (words-apart class x d 1 1 known nx page_node ne (omega arith) (omega arith)) (words-apart class x d 1 2 known nx page_node ne (omega arith) (omega arith)) in
      let off_prev = λ (x : ℕ) (nx : IsNode class x) (ne : x ≢ d). both (x / 8 + 2) (words-apart class x d 2 1 known nx page_node ne (omega arith) (omega arith)) (words-apart class x d 2 2 known nx page_node ne (omega arith) (omega arith)) in
      let same = λ (a : ℕ) (e : prev_at old.words d ≡ a + type). let i : a ≡ n.before = omega (arith, sym e ∙ n.before_is) in i in
      let takes : TakesOut class type old.words new.words page = record {
        next = λ a e. ap (λ i. next_at new.words i) (same a e) ∙ off_next n.before b_node n.before_ne ∙ k.next;
        prev = λ a e ne. off_prev after a_node n.after_ne ∙ k.prev ne ∙ ap (λ i. i + type) (sym (same a e));
        nexts = λ x a nx e ne nd. off_next x nx nd ∙ linked-next class type old.words mid.words n.before after x known b_node a_node nx (λ h. ne (h ∙ sym (same a e))) k;
        prevs = λ x nx na nd. off_prev x nx nd ∙ linked-prev class type old.words mid.words n.before after x known b_node a_node nx na k;
      } in
      let room = taken-room old page taken in
      let long : length next.words ≡ length old.words = length-written mid.words next.words _ _ one ∙ k.same_length in
      record {
        linked = subst (λ (ps : List ℕ). Linked new.words (class_head class) type (class_head class) ps) (sym (without-split page xs ys l.once)) (taken_out class type old.words new.words page (class_head class) xs ys known takes (inl refl) (λ q _. descriptor-not_head class q known) l.once l.linked);
        next = get-written next.words new.words _ _ (d / 8 + 1) two (λ e. omega (arith, e, eight)) ∙ ap (λ i. get_or next.words (i + 1) 0) (sym eight) ∙ get-read mid.words next.words _ _ one (omega (arith, eight, room.1, k.same_length));
        prev = ap (λ i. get_or new.words (i + 2) 0) (sym eight) ∙ get-read next.words new.words _ _ two (omega (arith, eight, room.1, long)) ∙ s.v_is;
        changes = record {
          same_length = length-written next.words new.words _ _ two ∙ long;
          others = λ w nh ns.
              let at = descriptor-word page in
              let own = ns page (inl refl) in
              both w (λ e. own.0 (omega (arith, e, at))) (λ e. own.1 (omega (arith, e, at)))
              ∙ k.others w (before-word w nh (λ q m. (ns q (inr m)).0)) (λ ne. after-word w (λ q m. (ns q (inr m)).1) ne);
        };
      } where
        -- the words of the neighbours are those of the head and of listed pages
        before-word : (w : ℕ) → w ≢ head_word class + 1 → ((q : ℕ) → In q (xs ++ page ∷ ys) → w ≢ descriptor_word q + 1) → w ≢ n.before / 8 + 1
        before-word w nh ns e = elim (before-of old.words (class_head class) type (class_head class) xs page ys l.linked) [
          | inl at ↦ let b : n.before ≡ class_head class = omega (arith, sym at ∙ n.before_is) in nh (omega (arith, e, ap (λ i. i / 8) b))
          | inr m ↦ let b : n.before ≡ descriptor m.0 = omega (arith, sym m.2 ∙ n.before_is) in ns m.0 (In-append_left m.0 xs (page ∷ ys) m.1) (omega (arith, e, ap (λ i. i / 8) b, descriptor-word m.0))
        ]

        after-word : (w : ℕ) → ((q : ℕ) → In q (xs ++ page ∷ ys) → w ≢ descriptor_word q + 2) → after ≢ class_head class → w ≢ after / 8 + 2
        after-word w ns ne e = elim (after-of old.words (class_head class) type (class_head class) xs page ys l.linked) [
          | inl at ↦ ne at
          | inr m ↦ ns m.0 (In-append_right m.0 xs (page ∷ ys) (inr m.1)) (omega (arith, e, ap (λ i. i / 8) m.2, descriptor-word m.0))
        ]

pub unlinked : (class page : ℕ) (listed : List ℕ) (old mid next new : Image) → class < 9 → IsTaken old page → UnlinkSteps class page old mid next new → HasList old class listed → In page listed → UnlinksPage old.shape class page listed old.words new.words
unlinked class page listed old mid next new known taken s l m =
    let split = In-split page listed m in
    subst (λ (ls : List ℕ). UnlinksPage old.shape class page ls old.words new.words) (sym split.2) (unlinked-split class page split.0 split.1 old mid next new known taken (subst (λ (ls : List ℕ). HasList old class ls) split.2 l) s)
