-- Whom a choice finds: a record of the list that takes part, and none only where no record does.
use Rattle.std.proofs.Common.{ℕ, zero, suc, ◌≡◌, ◌+◌, ◌<◌, ◌⊎◌, inl, inr, Bool, true, false, cond, List, [], ◌∷◌, Option, Some, None, refl, sym, ap, subst, arith}
use Rattle.std.specs.Prelude.{◌&&◌, ℤ, int_lt, ◌≤ℤ◌, ◌<ℤ◌}
use Rattle.std.proofs.lemmas.Int.{ints}
use Rattle.peer_zone.specs.declared.state.PeerRecord.{PeerRecord}
use Rattle.peer_zone.specs.Records.{peer_at}
use Rattle.peer_zone.specs.Laws.{IsNearest}
use Rattle.peer_zone.specs.Choice.{Part, Found, raised, nearer, best_in, replaces, least_in, raised_in}

pub some_same : {A : Type 0} (x y : A) → Some x ≡ Some y → x ≡ y
some_same x y h = ap (elim [ Some z ↦ z | None ↦ x ]) h

pub both-first : (a b : Bool) → (a && b) ≡ true → a ≡ true
both-first true b h = refl
both-first false b h = absurd (cc)

pub both-second : (a b : Bool) → (a && b) ≡ true → b ≡ true
both-second true b h = h
both-second false b h = absurd (cc)

-- where a found record lies in a list whose first index is `from`
pub record IsFound (part : Part) (from : ℕ) (ps : List PeerRecord) (f : Found) : Type 0 where
  pub place : ℕ
  pub index : f.index ≡ from + place
  pub there : peer_at ps place ≡ Some f.peer
  pub passes : part f.index f.peer ≡ true

found_later : (part : Part) (from : ℕ) (p : PeerRecord) (ps : List PeerRecord) (f : Found) → IsFound part (from + 1) ps f → IsFound part from (p ∷ ps) f
found_later part from p ps f h = record { place = suc h.place; index = let i = h.index in omega (arith, i); there = h.there; passes = h.passes }

found_here : (part : Part) (from : ℕ) (p : PeerRecord) (ps : List PeerRecord) (f : Found) → record { index = from; peer = p } ≡ f → part from p ≡ true → IsFound part from (p ∷ ps) f
found_here part from p ps f is passes = subst (λ (g : Found). IsFound part from (p ∷ ps) g) is (record { place = 0; index = omega arith; there = refl; passes = passes })

-- ---- the best of a round

best-nearer : (part : Part) (from : ℕ) (p : PeerRecord) (ps : List PeerRecord) (f : Found) (later : Option Found) → part from p ≡ true → ((g : Found) → later ≡ Some g → IsFound part (from + 1) ps g) → nearer (record { index = from; peer = p }) later ≡ Some f → IsFound part from (p ∷ ps) f
best-nearer part from p ps f None passes rest is = found_here part from p ps f (some_same _ _ is) passes
best-nearer part from p ps f (Some g) passes rest is = go (int_lt (raised p).current (raised g.peer).current) is where
  go : (b : Bool) → cond b (Some g) (Some (record { index = from; peer = p })) ≡ Some f → IsFound part from (p ∷ ps) f
  go true h = subst (λ (g : Found). IsFound part from (p ∷ ps) g) (some_same _ _ h) (found_later part from p ps g (rest g refl))
  go false h = found_here part from p ps f (some_same _ _ h) passes

pub best-found : (part : Part) (from : ℕ) (ps : List PeerRecord) (f : Found) → best_in part from ps ≡ Some f → IsFound part from ps f
best-found part from [] f is = absurd (cc)
best-found part from (p ∷ ps) f is = go (λ g. best-found part (from + 1) ps g) (part from p) refl is where
  go : ((g : Found) → best_in part (from + 1) ps ≡ Some g → IsFound part (from + 1) ps g) → (b : Bool) → part from p ≡ b → cond b (nearer (record { index = from; peer = p }) (best_in part (from + 1) ps)) (best_in part (from + 1) ps) ≡ Some f → IsFound part from (p ∷ ps) f
  go rest true passes h = best-nearer part from p ps f (best_in part (from + 1) ps) passes rest h
  go rest false fails h = found_later part from p ps f (rest f h)

-- ---- nobody takes part

abbrev pub IsNobody : Part → ℕ → List PeerRecord → Type 0
IsNobody part from ps = (place : ℕ) (p : PeerRecord) → peer_at ps place ≡ Some p → part (from + place) p ≡ false

pub nobody_more : (part : Part) (from : ℕ) (p : PeerRecord) (ps : List PeerRecord) → part from p ≡ false → IsNobody part (from + 1) ps → IsNobody part from (p ∷ ps)
nobody_more part from p ps fails rest zero q there = let same : p ≡ q = some_same p q there in let here : from + 0 ≡ from = omega arith in subst (λ n. part n q ≡ false) (sym here) (subst (λ (r : PeerRecord). part from r ≡ false) same fails)
nobody_more part from p ps fails rest (suc place) q there = let e : from + 1 + place ≡ from + suc place = omega arith in subst (λ n. part n q ≡ false) e (rest place q there)

pub nobody_head : (part : Part) (from : ℕ) (p : PeerRecord) (ps : List PeerRecord) → IsNobody part from (p ∷ ps) → part from p ≡ false
nobody_head part from p ps h = let e : from + 0 ≡ from = omega arith in subst (λ n. part n p ≡ false) e (h 0 p refl)

pub nobody_tail : (part : Part) (from : ℕ) (p : PeerRecord) (ps : List PeerRecord) → IsNobody part from (p ∷ ps) → IsNobody part (from + 1) ps
nobody_tail part from p ps h place q there = let e : from + suc place ≡ from + 1 + place = omega arith in subst (λ n. part n q ≡ false) e (h (suc place) q there)

-- who is found is somebody
pub found_somebody : (part : Part) (from : ℕ) (ps : List PeerRecord) (f : Found) → IsFound part from ps f → IsNobody part from ps → ⊥
found_somebody part from ps f h none = let fails = none h.place f.peer h.there in let passes = subst (λ n. part n f.peer ≡ true) h.index h.passes in absurd (cc)

nearer_some : (f : Found) (later : Option Found) → nearer f later ≡ None → ⊥
nearer_some f None h = absurd (cc)
nearer_some f (Some g) h = go (int_lt (raised f.peer).current (raised g.peer).current) h where
  go : (b : Bool) → cond b (Some g) (Some f) ≡ None → ⊥
  go true h = absurd (cc)
  go false h = absurd (cc)

pub best-none : (part : Part) (from : ℕ) (ps : List PeerRecord) → best_in part from ps ≡ None → IsNobody part from ps
best-none part from [] is = λ place q there. absurd (cc)
best-none part from (p ∷ ps) is = go (best-none part (from + 1) ps) (part from p) refl is where
  go : (best_in part (from + 1) ps ≡ None → IsNobody part (from + 1) ps) → (b : Bool) → part from p ≡ b → cond b (nearer (record { index = from; peer = p }) (best_in part (from + 1) ps)) (best_in part (from + 1) ps) ≡ None → IsNobody part from (p ∷ ps)
  go rest true passes h = absurd (nearer_some (record { index = from; peer = p }) (best_in part (from + 1) ps) h)
  go rest false fails h = nobody_more part from p ps fails (rest h)

pub nobody-best : (part : Part) (from : ℕ) (ps : List PeerRecord) → IsNobody part from ps → best_in part from ps ≡ None
nobody-best part from [] h = refl
nobody-best part from (p ∷ ps) h = rw (nobody_head part from p ps h) (nobody-best part (from + 1) ps (nobody_tail part from p ps h))

pub nobody-raised : (part : Part) (from : ℕ) (ps : List PeerRecord) → IsNobody part from ps → raised_in part from ps ≡ ps
nobody-raised part from [] h = refl
nobody-raised part from (p ∷ ps) h = rw (nobody_head part from p ps h) (ap (λ (qs : List PeerRecord). p ∷ qs) (nobody-raised part (from + 1) ps (nobody_tail part from p ps h)))

-- ---- the least busy one

-- it is one that was found before, or one of these
pub least-found : (part : Part) (from : ℕ) (best : Option Found) (ps : List PeerRecord) (f : Found) → least_in part from best ps ≡ Some f → (best ≡ Some f) ⊎ IsFound part from ps f
least-found part from best [] f is = inl is
least-found part from best (p ∷ ps) f is = go (λ earlier. least-found part (from + 1) earlier ps f) (part from p) (replaces p best) refl is where
  later : IsFound part (from + 1) ps f → (best ≡ Some f) ⊎ IsFound part from (p ∷ ps) f
  later h = inr (found_later part from p ps f h)

  here : part from p ≡ true → (Some (record { index = from; peer = p }) ≡ Some f) ⊎ IsFound part (from + 1) ps f → (best ≡ Some f) ⊎ IsFound part from (p ∷ ps) f
  here passes (inl is) = inr (found_here part from p ps f (some_same _ _ is) passes)
  here passes (inr h) = later h

  kept : (best ≡ Some f) ⊎ IsFound part (from + 1) ps f → (best ≡ Some f) ⊎ IsFound part from (p ∷ ps) f
  kept (inl is) = inl is
  kept (inr h) = later h

  go : ((earlier : Option Found) → least_in part (from + 1) earlier ps ≡ Some f → (earlier ≡ Some f) ⊎ IsFound part (from + 1) ps f) → (b c : Bool) → part from p ≡ b → least_in part (from + 1) (cond (b && c) (Some (record { index = from; peer = p })) best) ps ≡ Some f → (best ≡ Some f) ⊎ IsFound part from (p ∷ ps) f
  go rest true true passes h = here passes (rest (Some (record { index = from; peer = p })) h)
  go rest true false passes h = kept (rest best h)
  go rest false c fails h = kept (rest best h)

least-some : (part : Part) (from : ℕ) (best : Found) (ps : List PeerRecord) → least_in part from (Some best) ps ≡ None → ⊥
least-some part from best [] is = absurd (cc)
least-some part from best (p ∷ ps) is = go (λ earlier. least-some part (from + 1) earlier ps) (part from p && replaces p (Some best)) is where
  go : ((earlier : Found) → least_in part (from + 1) (Some earlier) ps ≡ None → ⊥) → (b : Bool) → least_in part (from + 1) (cond b (Some (record { index = from; peer = p })) (Some best)) ps ≡ None → ⊥
  go rest true h = rest (record { index = from; peer = p }) h
  go rest false h = rest best h

pub least-none : (part : Part) (from : ℕ) (ps : List PeerRecord) → least_in part from None ps ≡ None → IsNobody part from ps
least-none part from [] is = λ place q there. absurd (cc)
least-none part from (p ∷ ps) is = go (least-none part (from + 1) ps) (part from p) refl is where
  go : (least_in part (from + 1) None ps ≡ None → IsNobody part (from + 1) ps) → (b : Bool) → part from p ≡ b → least_in part (from + 1) (cond (b && true) (Some (record { index = from; peer = p })) None) ps ≡ None → IsNobody part from (p ∷ ps)
  go rest true passes h = absurd (least-some part (from + 1) (record { index = from; peer = p }) ps h)
  go rest false fails h = nobody_more part from p ps fails (rest h)

pub nobody-least : (part : Part) (from : ℕ) (ps : List PeerRecord) → IsNobody part from ps → least_in part from None ps ≡ None
nobody-least part from [] h = refl
nobody-least part from (p ∷ ps) h = rw (nobody_head part from p ps h) (nobody-least part (from + 1) ps (nobody_tail part from p ps h))

-- ---- the nearest to its turn

abbrev pub IsNearestIn : Part → ℕ → List PeerRecord → Found → Type 0
IsNearestIn part from ps f = (place : ℕ) (q : PeerRecord) → peer_at ps place ≡ Some q → part (from + place) q ≡ true → IsNearest f.index f.peer (from + place) q

z_refl : (a : ℤ) → a ≤ℤ a
z_refl a = grind (arith, ints)

z_weak : (a b : ℤ) → a <ℤ b → a ≤ℤ b
z_weak a b h = omega (arith, ints, h)

z_trans : (a b c : ℤ) → a ≤ℤ b → b ≤ℤ c → a ≤ℤ c
z_trans a b c h k = omega (arith, ints, h, k)

z_less : (a b : ℤ) → int_lt a b ≡ true → a <ℤ b
z_less a b h = grind (arith, ints)

z_not_less : (a b : ℤ) → int_lt a b ≡ false → b ≤ℤ a
z_not_less a b h = grind (arith, ints)

-- the best is an earlier record than all the others
nearest_here : (part : Part) (from : ℕ) (p : PeerRecord) (ps : List PeerRecord) → ((place : ℕ) (q : PeerRecord) → peer_at ps place ≡ Some q → part (from + 1 + place) q ≡ true → (raised q).current ≤ℤ (raised p).current) → IsNearestIn part from (p ∷ ps) (record { index = from; peer = p })
nearest_here part from p ps rest zero q there passes = let same : p ≡ q = some_same p q there in record { greatest = subst (λ (r : PeerRecord). (raised r).current ≤ℤ (raised p).current) same (z_refl (raised p).current); first = λ before. absurd (omega (arith, before)) }
nearest_here part from p ps rest (suc place) q there passes = let e : from + suc place ≡ from + 1 + place = omega arith in record { greatest = rest place q there (subst (λ n. part n q ≡ true) e passes); first = λ before. absurd (omega (arith, before)) }

-- the best is one of the later records
nearest_later : (part : Part) (from : ℕ) (p : PeerRecord) (ps : List PeerRecord) (f : Found) → (part from p ≡ true → (raised p).current <ℤ (raised f.peer).current) → IsNearestIn part (from + 1) ps f → IsNearestIn part from (p ∷ ps) f
nearest_later part from p ps f here rest zero q there passes =
    let same : p ≡ q = some_same p q there in
    let e : from + 0 ≡ from = omega arith in
    let less = subst (λ (r : PeerRecord). (raised r).current <ℤ (raised f.peer).current) same (here (subst (λ (r : PeerRecord). part from r ≡ true) (sym same) (subst (λ n. part n q ≡ true) e passes))) in
    record { greatest = z_weak _ _ less; first = λ before. less }
nearest_later part from p ps f here rest (suc place) q there passes =
    let e : from + suc place ≡ from + 1 + place = omega arith in
    let h = rest place q there (subst (λ n. part n q ≡ true) e passes) in
    record { greatest = h.greatest; first = λ before. h.first (subst (λ n. n < f.index) e before) }

nearest-nearer : (part : Part) (from : ℕ) (p : PeerRecord) (ps : List PeerRecord) (f : Found) (later : Option Found) → best_in part (from + 1) ps ≡ later → ((g : Found) → best_in part (from + 1) ps ≡ Some g → IsNearestIn part (from + 1) ps g) → nearer (record { index = from; peer = p }) later ≡ Some f → IsNearestIn part from (p ∷ ps) f
nearest-nearer part from p ps f None none rest is =
    let nobody = best-none part (from + 1) ps none in
    subst (λ (g : Found). IsNearestIn part from (p ∷ ps) g) (some_same _ _ is)
    (nearest_here part from p ps (λ place q there passes. let fails = nobody place q there in absurd (cc)))
nearest-nearer part from p ps f (Some g) some rest is = go (int_lt (raised p).current (raised g.peer).current) refl is where
  go : (b : Bool) → int_lt (raised p).current (raised g.peer).current ≡ b → cond b (Some g) (Some (record { index = from; peer = p })) ≡ Some f → IsNearestIn part from (p ∷ ps) f
  go true less h = subst (λ (g : Found). IsNearestIn part from (p ∷ ps) g) (some_same _ _ h) (nearest_later part from p ps g (λ _. z_less _ _ less) (rest g some))
  go false not_less h = subst (λ (g : Found). IsNearestIn part from (p ∷ ps) g) (some_same _ _ h) (nearest_here part from p ps (λ place q there passes. z_trans _ _ _ (rest g some place q there passes).greatest (z_not_less _ _ not_less)))

pub best-nearest : (part : Part) (from : ℕ) (ps : List PeerRecord) (f : Found) → best_in part from ps ≡ Some f → IsNearestIn part from ps f
best-nearest part from [] f is = absurd (cc)
best-nearest part from (p ∷ ps) f is = go (λ g. best-nearest part (from + 1) ps g) (part from p) refl is where
  go : ((g : Found) → best_in part (from + 1) ps ≡ Some g → IsNearestIn part (from + 1) ps g) → (b : Bool) → part from p ≡ b → cond b (nearer (record { index = from; peer = p }) (best_in part (from + 1) ps)) (best_in part (from + 1) ps) ≡ Some f → IsNearestIn part from (p ∷ ps) f
  go rest true passes h = nearest-nearer part from p ps f (best_in part (from + 1) ps) refl rest h
  go rest false fails h = nearest_later part from p ps f (λ passes. absurd (cc)) (rest f h)
