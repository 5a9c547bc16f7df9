-- A page leaves a class's list, and comes to its head.
use Rattle.std.proofs.Common.{ℕ, ◌≡◌, ◌≢◌, ◌⊎◌, ◌+◌, ◌/◌, ◌%◌, ◌<◌, ◌≤◌, List, [], ◌∷◌, ◌++◌, sym, ap, subst, ◌∙◌, refl, arith, inl, inr}
use Rattle.std.proofs.lemmas.Bool.{cases_eq, cases_lt}
use Rattle.zone_region.specs.Members.{In, IsDistinct}
use Rattle.zone_region.proofs.MembersLemmas.{In-middle}
use Rattle.slab_pages.specs.Places.{class_head, descriptor, next_at, prev_at}
use Rattle.slab_pages.proofs.PlaceLemmas.{descriptor-word, descriptor-injective}
use Rattle.slab_pool.specs.Links.{Linked, IsNode, LinksPages}

-- ---- places

pub descriptor-eight : (page : ℕ) → descriptor page % 8 ≡ 0
unfolding descriptor
descriptor-eight page = omega arith

pub descriptor-low : (page : ℕ) → 704 ≤ descriptor page
unfolding descriptor
descriptor-low page = omega arith

pub descriptor-not_head : (class page : ℕ) → class < 9 → descriptor page ≢ class_head class
unfolding descriptor
descriptor-not_head class page known e = omega arith

-- two nodes have three words each
pub nodes_apart : (class x y : ℕ) → class < 9 → IsNode class x → IsNode class y → x ≢ y → (x / 8 + 3 ≤ y / 8) ⊎ (y / 8 + 3 ≤ x / 8)
nodes_apart class x y known px py ne = elim px [
  | inl ex ↦ elim py [
    | inl ey ↦ absurd (ne (ex ∙ sym ey))
    | inr my ↦ let w = ap (λ o. o / 8) my.1 ∙ descriptor-word my.0 in let v = ap (λ o. o / 8) ex in inl (omega (arith, w, v))
  ]
  | inr mx ↦ elim py [
    | inl ey ↦ let w = ap (λ o. o / 8) mx.1 ∙ descriptor-word mx.0 in let v = ap (λ o. o / 8) ey in inr (omega (arith, w, v))
    | inr my ↦
        let w = ap (λ o. o / 8) mx.1 ∙ descriptor-word mx.0 in
        let v = ap (λ o. o / 8) my.1 ∙ descriptor-word my.0 in
        let other : mx.0 ≢ my.0 = λ e. ne (mx.1 ∙ ap (λ n. descriptor n) e ∙ sym my.1) in
        elim (cases_lt mx.0 my.0) [ inl l ↦ inl (omega (arith, w, v, l)) | inr g ↦ inr (omega (arith, w, v, g, other)) ]
  ]
]

-- ---- a new link among the others

pub linked-next : (class type : ℕ) (old new : List ℕ) (a b x : ℕ) → class < 9 → IsNode class a → IsNode class b → IsNode class x → x ≢ a → LinksPages class type old new a b → next_at new x ≡ next_at old x
linked-next class type old new a b x known pa pb px ne l =
    l.others (x / 8 + 1)
    (λ e. elim (nodes_apart class x a known px pa ne) [ inl lo ↦ omega (arith, lo, e) | inr hi ↦ omega (arith, hi, e) ])
    (λ _ e. elim (cases_eq x b) [
      | inl same ↦ let w = ap (λ o. o / 8) same in omega (arith, w, e)
      | inr other ↦ elim (nodes_apart class x b known px pb other) [ inl lo ↦ omega (arith, lo, e) | inr hi ↦ omega (arith, hi, e) ]
    ])

pub linked-prev : (class type : ℕ) (old new : List ℕ) (a b x : ℕ) → class < 9 → IsNode class a → IsNode class b → IsNode class x → x ≢ b → LinksPages class type old new a b → prev_at new x ≡ prev_at old x
linked-prev class type old new a b x known pa pb px ne l =
    l.others (x / 8 + 2)
    (λ e. elim (cases_eq x a) [
      | inl same ↦ let w = ap (λ o. o / 8) same in omega (arith, w, e)
      | inr other ↦ elim (nodes_apart class x a known px pa other) [ inl lo ↦ omega (arith, lo, e) | inr hi ↦ omega (arith, hi, e) ]
    ])
    (λ _ e. elim (nodes_apart class x b known px pb ne) [ inl lo ↦ omega (arith, lo, e) | inr hi ↦ omega (arith, hi, e) ])

-- ---- the list

pub Linked-kept : (old new : List ℕ) (head type o : ℕ) (pages : List ℕ) → next_at new o ≡ next_at old o → ((q : ℕ) → In q pages → next_at new (descriptor q) ≡ next_at old (descriptor q)) → ((q : ℕ) → In q pages → prev_at new (descriptor q) ≡ prev_at old (descriptor q)) → Linked old head type o pages → Linked new head type o pages
Linked-kept old new head type o [] next nexts prevs l = next ∙ l
Linked-kept old new head type o (page ∷ pages) next nexts prevs l = (next ∙ l.0, prevs page (inl refl) ∙ l.1, Linked-kept old new head type (descriptor page) pages (nexts page (inl refl)) (λ q i. nexts q (inr i)) (λ q i. prevs q (inr i)) l.2)

-- the node before a page of the list
pub node_before : (words : List ℕ) (head type o : ℕ) (pages : List ℕ) (page : ℕ) → Linked words head type o pages → In page pages → (prev_at words (descriptor page) ≡ o + type) ⊎ ((q : ℕ) × (In q pages) × (prev_at words (descriptor page) ≡ descriptor q + type))
node_before words head type o [] page l i = absurd i
node_before words head type o (x ∷ xs) page l i = elim i [
  | inl e ↦ inl (subst (λ (n : ℕ). prev_at words (descriptor n) ≡ o + type) (sym e) l.1)
  | inr later ↦ elim (node_before words head type (descriptor x) xs page l.2 later) [
    | inl here ↦ inr (x, inl refl, here)
    | inr m ↦ inr (m.0, inr m.1, m.2)
  ]
]

-- the node after a page of the list
pub node_after : (words : List ℕ) (head type o : ℕ) (pages : List ℕ) (page : ℕ) → Linked words head type o pages → In page pages → (next_at words (descriptor page) ≡ head) ⊎ ((q : ℕ) × (In q pages) × (next_at words (descriptor page) ≡ descriptor q))
node_after words head type o [] page l i = absurd i
node_after words head type o (x ∷ []) page l i = elim i [
  | inl e ↦ inl (subst (λ (n : ℕ). next_at words (descriptor n) ≡ head) (sym e) l.2)
  | inr none ↦ absurd none
]
node_after words head type o (x ∷ y ∷ ys) page l i = elim i [
  | inl e ↦ inr (y, inr (inl refl), subst (λ (n : ℕ). next_at words (descriptor n) ≡ descriptor y) (sym e) l.2.0)
  | inr later ↦ elim (node_after words head type (descriptor x) (y ∷ ys) page l.2 later) [
    | inl end ↦ inl end
    | inr m ↦ inr (m.0, inr m.1, m.2)
  ]
]

-- the first page of the list
pub first_linked : (words : List ℕ) (class type : ℕ) (pages : List ℕ) → class < 9 → Linked words (class_head class) type (class_head class) pages → next_at words (class_head class) ≡ class_head class → pages ≡ []
first_linked words class type [] known l e = refl
first_linked words class type (x ∷ xs) known l e = absurd (descriptor-not_head class x known (sym l.0 ∙ e))

-- what taking a page out of the list wrote
pub record TakesOut (class type : ℕ) (old new : List ℕ) (page : ℕ) : Type 0 where
  pub next : (a : ℕ) → prev_at old (descriptor page) ≡ a + type → next_at new a ≡ next_at old (descriptor page)
  pub prev : (a : ℕ) → prev_at old (descriptor page) ≡ a + type → next_at old (descriptor page) ≢ class_head class → prev_at new (next_at old (descriptor page)) ≡ a + type
  pub nexts : (x a : ℕ) → IsNode class x → prev_at old (descriptor page) ≡ a + type → x ≢ a → x ≢ descriptor page → next_at new x ≡ next_at old x
  pub prevs : (x : ℕ) → IsNode class x → x ≢ next_at old (descriptor page) → x ≢ descriptor page → prev_at new x ≡ prev_at old x

-- no page of these has its descriptor at `o`
abbrev pub Outside : ℕ → List ℕ → Type 0
Outside o pages = (q : ℕ) → In q pages → descriptor q ≢ o

pub taken_out : (class type : ℕ) (old new : List ℕ) (page o : ℕ) (xs ys : List ℕ) → class < 9 → TakesOut class type old new page → IsNode class o → Outside o (xs ++ page ∷ ys) → IsDistinct (xs ++ page ∷ ys) → Linked old (class_head class) type o (xs ++ page ∷ ys) → Linked new (class_head class) type o (xs ++ ys)
taken_out class type old new page o [] [] known t node out once l = t.next o l.1 ∙ l.2
taken_out class type old new page o [] (y ∷ ys) known t node out once l =
    let after : next_at old (descriptor page) ≡ descriptor y = l.2.0 in
    let not_head : next_at old (descriptor page) ≢ class_head class = λ e. descriptor-not_head class y known (sym after ∙ e) in
    let back : prev_at new (descriptor y) ≡ o + type = subst (λ (b : ℕ). prev_at new b ≡ o + type) after (t.prev o l.1 not_head) in
    let not_page = λ (q : ℕ) (i : In q (y ∷ ys)) (e : descriptor q ≡ descriptor page). once.0 (subst (λ (n : ℕ). In n (y ∷ ys)) (descriptor-injective q page e) i) in
    let not_o = λ (q : ℕ) (i : In q (y ∷ ys)) (e : descriptor q ≡ o). out q (inr i) e in
    let not_y = λ (q : ℕ) (i : In q ys) (e : descriptor q ≡ next_at old (descriptor page)). once.1.0 (subst (λ (n : ℕ). In n ys) (descriptor-injective q y (e ∙ after)) i) in
    let nexts = λ (q : ℕ) (i : In q (y ∷ ys)). t.nexts (descriptor q) o (inr (q, refl)) l.1 (not_o q i) (not_page q i) in
    let prevs = λ (q : ℕ) (i : In q ys). t.prevs (descriptor q) (inr (q, refl)) (not_y q i) (not_page q (inr i)) in
    (t.next o l.1 ∙ after, back, Linked-kept old new (class_head class) type (descriptor y) ys (nexts y (inl refl)) (λ q i. nexts q (inr i)) prevs l.2.2)
taken_out class type old new page o (x ∷ xs) ys known t node out once l =
    let not_page : x ≢ page = λ e. once.0 (subst (λ (n : ℕ). In n (xs ++ page ∷ ys)) (sym e) (In-middle xs page ys)) in
    let outside = λ (q : ℕ) (i : In q (xs ++ page ∷ ys)) (e : descriptor q ≡ descriptor x). once.0 (subst (λ (n : ℕ). In n (xs ++ page ∷ ys)) (descriptor-injective q x e) i) in
    let ih = taken_out class type old new page (descriptor x) xs ys known t (inr (x, refl)) outside once.1 l.2 in
    let in_rest = In-middle xs page ys in
    let next_same : next_at new o ≡ next_at old o = elim (node_before old (class_head class) type (descriptor x) (xs ++ page ∷ ys) page l.2 in_rest) [
      | inl here ↦ t.nexts o (descriptor x) node here (λ e. out x (inl refl) (sym e)) (λ e. out page (inr in_rest) (sym e))
      | inr m ↦ t.nexts o (descriptor m.0) node m.2 (λ e. out m.0 (inr m.1) (sym e)) (λ e. out page (inr in_rest) (sym e))
    ] in
    let prev_same : prev_at new (descriptor x) ≡ prev_at old (descriptor x) = t.prevs (descriptor x) (inr (x, refl)) (λ e. elim (node_after old (class_head class) type (descriptor x) (xs ++ page ∷ ys) page l.2 in_rest) [
      | inl end ↦ descriptor-not_head class x known (e ∙ end)
      | inr m ↦ outside m.0 m.1 (sym m.2 ∙ sym e)
    ]) (λ e. not_page (descriptor-injective x page e)) in
    (next_same ∙ l.0, prev_same ∙ l.1, ih)

-- what putting a page at the head of the list wrote
pub record PutsFirst (class type : ℕ) (old new : List ℕ) (page : ℕ) : Type 0 where
  pub head : next_at new (class_head class) ≡ descriptor page
  pub prev : prev_at new (descriptor page) ≡ class_head class + type
  pub next : next_at new (descriptor page) ≡ next_at old (class_head class)
  pub back : next_at old (class_head class) ≢ class_head class → prev_at new (next_at old (class_head class)) ≡ descriptor page + type
  pub nexts : (x : ℕ) → IsNode class x → x ≢ class_head class → x ≢ descriptor page → next_at new x ≡ next_at old x
  pub prevs : (x : ℕ) → IsNode class x → x ≢ next_at old (class_head class) → x ≢ descriptor page → prev_at new x ≡ prev_at old x

pub put_first : (class type : ℕ) (old new : List ℕ) (page : ℕ) (pages : List ℕ) → class < 9 → PutsFirst class type old new page → (In page pages → ⊥) → IsDistinct pages → Linked old (class_head class) type (class_head class) pages → Linked new (class_head class) type (class_head class) (page ∷ pages)
put_first class type old new page [] known p none once l = (p.head, p.prev, p.next ∙ l)
put_first class type old new page (x ∷ xs) known p none once l =
    let first : next_at old (class_head class) ≡ descriptor x = l.0 in
    let not_head : next_at old (class_head class) ≢ class_head class = λ e. descriptor-not_head class x known (sym first ∙ e) in
    let back : prev_at new (descriptor x) ≡ descriptor page + type = subst (λ (b : ℕ). prev_at new b ≡ descriptor page + type) first (p.back not_head) in
    let not_page = λ (q : ℕ) (i : In q (x ∷ xs)) (e : descriptor q ≡ descriptor page). none (subst (λ (n : ℕ). In n (x ∷ xs)) (descriptor-injective q page e) i) in
    let not_x = λ (q : ℕ) (i : In q xs) (e : descriptor q ≡ next_at old (class_head class)). once.0 (subst (λ (n : ℕ). In n xs) (descriptor-injective q x (e ∙ first)) i) in
    let nexts = λ (q : ℕ) (i : In q (x ∷ xs)). p.nexts (descriptor q) (inr (q, refl)) (descriptor-not_head class q known) (not_page q i) in
    let prevs = λ (q : ℕ) (i : In q xs). p.prevs (descriptor q) (inr (q, refl)) (not_x q i) (not_page q (inr i)) in
    (p.head, p.prev, (p.next ∙ first, back, Linked-kept old new (class_head class) type (descriptor x) xs (nexts x (inl refl)) (λ q i. nexts q (inr i)) prevs l.2))
