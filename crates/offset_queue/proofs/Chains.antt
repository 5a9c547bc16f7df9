-- Chains of links: their ends, their parts, and what keeps them.
use Rattle.std.proofs.Common.{ℕ, ◌≡◌, ◌≢◌, ◌⊎◌, ◌+◌, List, [], ◌∷◌, ◌++◌, inl, inr, sym, ap, subst, ◌∙◌, refl}
use Rattle.zone_region.specs.Words.{Words, word_at}
use Rattle.zone_region.specs.Members.{In, IsDistinct}
use Rattle.zone_region.proofs.MembersLemmas.{In-append_left, In-append_right}
use Rattle.offset_queue.specs.Queue.{AreLinked, IsChain}

-- the joint after `a`, in a chain from `a` through these blocks to `z`
abbrev pub front_of : ℕ → List ℕ → ℕ × ℕ → ℕ × ℕ
front_of link [] z = z
front_of link (x ∷ xs) z = (x, link)

-- the joint before `z`
abbrev pub back_of : ℕ → ℕ × ℕ → List ℕ → ℕ × ℕ
back_of link a [] = a
back_of link a (x ∷ xs) = back_of link (x, link) xs

pub chain_front : (m : Words) (link : ℕ) (a : ℕ × ℕ) (xs : List ℕ) (z : ℕ × ℕ) → IsChain m link a xs z → AreLinked m a (front_of link xs z)
chain_front m link a [] z c = c
chain_front m link a (x ∷ xs) z c = c.0

pub chain_back : (m : Words) (link : ℕ) (a : ℕ × ℕ) (xs : List ℕ) (z : ℕ × ℕ) → IsChain m link a xs z → AreLinked m (back_of link a xs) z
chain_back m link a [] z c = c
chain_back m link a (x ∷ xs) z c = chain_back m link (x, link) xs z c.1

-- a chain is one to a block of it, and one from there
pub chain_split : (m : Words) (link : ℕ) (a : ℕ × ℕ) (ys : List ℕ) (b : ℕ) (zs : List ℕ) (z : ℕ × ℕ) → IsChain m link a (ys ++ b ∷ zs) z → IsChain m link a ys (b, link) × IsChain m link (b, link) zs z
chain_split m link a [] b zs z c = c
chain_split m link a (y ∷ ys) b zs z c = let r = chain_split m link (y, link) ys b zs z c.1 in ((c.0, r.0), r.1)

-- the last block of a list that isn't empty
pub back_in : (link : ℕ) (y : ℕ) (ys : List ℕ) → (x : ℕ) × (back_of link (y, link) ys ≡ (x, link)) × In x (y ∷ ys)
back_in link y [] = (y, refl, inl refl)
back_in link y (z ∷ zs) = let r = back_in link z zs in (r.0, r.1, inr r.2)

-- the link words of `a` and `b` that link them to each other are as they were
pub record KeepsLink (m n : Words) (a b : ℕ × ℕ) : Type 0 where
  pub next : word_at n a.0 (a.1 + 1) ≡ word_at m a.0 (a.1 + 1)
  pub prev : word_at n b.0 b.1 ≡ word_at m b.0 b.1

pub linked_kept : (m n : Words) (a b : ℕ × ℕ) → KeepsLink m n a b → AreLinked m a b → AreLinked n a b
linked_kept m n a b k l = record { next = k.next ∙ l.next; prev = k.prev ∙ l.prev }

-- A chain stays where the next link of its beginning, the previous link of its end and both links of its blocks stay.
pub chain_kept : (m n : Words) (link : ℕ) (a : ℕ × ℕ) (xs : List ℕ) (z : ℕ × ℕ) →
    word_at n a.0 (a.1 + 1) ≡ word_at m a.0 (a.1 + 1) → word_at n z.0 z.1 ≡ word_at m z.0 z.1 →
    ((x : ℕ) → In x xs → (word_at n x link ≡ word_at m x link) × (word_at n x (link + 1) ≡ word_at m x (link + 1))) →
    IsChain m link a xs z → IsChain n link a xs z
chain_kept m n link a [] z next prev same c = linked_kept m n a z (record { next = next; prev = prev }) c
chain_kept m n link a (x ∷ xs) z next prev same c =
    let here = same x (inl refl) in
    (linked_kept m n a (x, link) (record { next = next; prev = here.0 }) c.0, chain_kept m n link (x, link) xs z here.1 prev (λ y i. same y (inr i)) c.1)

-- The chain goes on from `a` instead of `y`: only the previous link of its first joint changed.
pub chain_onward : (m n : Words) (link : ℕ) (a y : ℕ × ℕ) (xs : List ℕ) (z : ℕ × ℕ) → IsDistinct xs → (In z.0 xs → ⊥) →
    AreLinked n a (front_of link xs z) →
    ((x : ℕ) → In x xs → word_at n x (link + 1) ≡ word_at m x (link + 1)) →
    ((b : ℕ × ℕ) → (b ≡ z) ⊎ (In b.0 xs × (b.1 ≡ link)) → b.0 ≢ (front_of link xs z).0 → word_at n b.0 b.1 ≡ word_at m b.0 b.1) →
    IsChain m link y xs z → IsChain n link a xs z
chain_onward m n link a y [] z d out l nexts prevs c = l
chain_onward m n link a y (x ∷ xs) z d out l nexts prevs c = (
  l,
  chain_kept m n link (x, link) xs z (nexts x (inl refl)) (prevs z (inl refl) (λ e. out (inl e)))
      (λ b i. (prevs (b, link) (inr (inr i, refl)) (λ e. d.0 (subst (λ (k : ℕ). In k xs) e i)), nexts b (inr i))) c.1,
)

front_apart : (link x : ℕ) (ys zs : List ℕ) (z : ℕ × ℕ) → (In x (ys ++ zs) → ⊥) → x ≢ z.0 → x ≢ (front_of link zs z).0
front_apart link x ys [] z out ne e = ne e
front_apart link x ys (w ∷ ws) z out ne e = out (In-append_right x ys (w ∷ ws) (inl e))

-- A chain to `y` and one from `y'` become one, where the ends are linked to each other.
pub chain_joined : (m n : Words) (link : ℕ) (a : ℕ × ℕ) (ys : List ℕ) (y y' : ℕ × ℕ) (zs : List ℕ) (z : ℕ × ℕ) → IsDistinct (a.0 ∷ ys ++ zs) → (In z.0 (ys ++ zs) → ⊥) →
    AreLinked n (back_of link a ys) (front_of link zs z) →
    ((b : ℕ × ℕ) → (b ≡ a) ⊎ (In b.0 (ys ++ zs) × (b.1 ≡ link)) → b.0 ≢ (back_of link a ys).0 → word_at n b.0 (b.1 + 1) ≡ word_at m b.0 (b.1 + 1)) →
    ((b : ℕ × ℕ) → (b ≡ z) ⊎ (In b.0 (ys ++ zs) × (b.1 ≡ link)) → b.0 ≢ (front_of link zs z).0 → word_at n b.0 b.1 ≡ word_at m b.0 b.1) →
    IsChain m link a ys y → IsChain m link y' zs z → IsChain n link a (ys ++ zs) z
chain_joined m n link a [] y y' zs z d out l nexts prevs c e =
    chain_onward m n link a y' zs z d.1 out l (λ x i. nexts (x, link) (inr (i, refl)) (λ q. d.0 (subst (λ (k : ℕ). In k zs) q i))) prevs e
chain_joined m n link a (x ∷ ys) y y' zs z d out l nexts prevs c e =
    let back = back_in link x ys in
    let later = λ (q : a.0 ≡ (back_of link (x, link) ys).0). d.0 (In-append_left a.0 (x ∷ ys) zs (subst (λ (k : ℕ). In k (x ∷ ys)) (sym (q ∙ ap (λ (p : ℕ × ℕ). p.0) back.1)) back.2)) in (
      linked_kept m n a (x, link) (record { next = nexts a (inl refl) later; prev = prevs (x, link) (inr (inl refl, refl)) (front_apart link x ys zs z d.1.0 (λ q. out (inl (sym q)))) }) c.0,
      chain_joined m n link (x, link) ys y y' zs z d.1 (λ i. out (inr i)) l
          (λ b i. nexts b (elim i [ inl q ↦ inr (inl (ap (λ (p : ℕ × ℕ). p.0) q), ap (λ (p : ℕ × ℕ). p.1) q) | inr j ↦ inr (inr j.0, j.1) ]))
          (λ b i. prevs b (elim i [ inl q ↦ inl q | inr j ↦ inr (inr j.0, j.1) ])) c.1 e,
    )
