-- Each step keeps the rule.
use Rattle.std.proofs.Common.{◌≡◌, ◌≢◌, ℕ, zero, suc, ◌+◌, ◌<◌, ◌≤◌, true, false, true≢false, List, [], ◌∷◌, ◌++◌, length, set, sym, refl, ap, ◌∙◌, subst, inl, inr, ⊎_elim, arith}
use Rattle.std.specs.Prelude.{◌==◌, Some, None, option_map, unwrap_or, if◌then◌else◌, slice_index, All}
use Rattle.std.proofs.lemmas.Bool.Decides.{nat_tests}
use mathlib.Core.Option.{some, some-injective, some-ne-none}
use lib.ListN.{get_elem?}
use Rattle.crossbeam_queue.specs.Fifo.{Pushes, Pops, Forks, Merges, Learns}
use Rattle.crossbeam_queue.proofs.Lists.{at_set, at_longer, set_else}
use Rattle.zone_object.specs.declared.object.Entry.{Entry}
use Rattle.zone_object.specs.History.{own}
use Rattle.zone_object.proofs.Own.{own-snoc_other}
use Rattle.shared_zone.specs.declared.rule.View.{View}
use Rattle.shared_zone.specs.Callers.{StartsWith}
use Rattle.shared_zone.specs.Rule.{Carried, Plan, Within, Lives, Ended, Lies, Sees, AllSee, IsOut, IsOpen, blank, spent, InTurn, opener, Opens, taker, giver, Takes, maker, made_by, noted, meeter, Meets, ender, Closes}
use Rattle.shared_zone.proofs.Lists.{either_le, all_nil, all_cons, starts_refl, starts_nil, starts_more, starts_both, longer_cases, each_set, each_more, at_here, at_one, own_between}
use Rattle.shared_zone.proofs.Rooms.{same_or}

-- the places of the passes once the pass n has the place i
reseat : (ℕ → ℕ) → ℕ → ℕ → ℕ → ℕ
reseat seat n i k = if k == n then i else seat k

reseat-new : (seat : ℕ → ℕ) (n i : ℕ) → reseat seat n i n ≡ i
unfolding reseat
reseat-new seat n i = let t : (n == n) ≡ true = grind (arith, nat_tests) in rw t refl

reseat-old : (seat : ℕ → ℕ) (n i k : ℕ) → k < n → reseat seat n i k ≡ seat k
unfolding reseat
reseat-old seat n i k lt = let t : (k == n) ≡ false = grind (arith, nat_tests) in rw t refl

module _ {X St C R : Type 0} (Good : St → Carried X (Entry X St C R) → Type 0) where
  -- a view that knows a start is not the first one
  not_blank : (v : View X St C R) (s : St) (views : List (View X St C R)) (place : ℕ) → v.start ≡ Some s → views ≡ blank ∷ [] → get_elem? views place ≡ some v → ⊥
  not_blank v s views place start is at =
      let e : blank ≡ v = at_one blank v place (ap (λ l. get_elem? l place) (sym is) ∙ at) in
      let f : None ≡ Some s = ap (λ (u : View X St C R). u.start) e ∙ start in cc

  -- a view that is set has the turn if the one before had it
  out_set : (keeper : ℕ) (views : List (View X St C R)) (place : ℕ) (v w : View X St C R) → get_elem? views place ≡ some v → w.holding ≡ v.holding → IsOut keeper views → IsOut keeper (set views place w)
  out_set keeper views place v w at same out =
      ⊎_elim (λ (e : keeper ≡ place).
      let v_is : v ≡ out.0 = some-injective v out.0 (sym at ∙ ap (λ k. get_elem? views k) (sym e) ∙ out.1) in
      (w, subst (λ k. get_elem? (set views place w) k ≡ some w) (sym e) (at_here views place v w at), same ∙ ap (λ (u : View X St C R). u.holding) v_is ∙ out.2))
      (λ (e : keeper ≢ place). (out.0, set_else views place keeper w e ∙ out.1, out.2)) (same_or keeper place)

  out_more : (keeper : ℕ) (views : List (View X St C R)) (w : View X St C R) → IsOut keeper views → IsOut keeper (views ++ w ∷ [])
  out_more keeper views w out = (out.0, at_longer views (w ∷ []) keeper out.0 out.1, out.2)

  pub takes : (place : ℕ) (v : View X St C R) (s : St) → v.start ≡ Some s → v.live ≡ true → Pops (InTurn Good) place v (Takes Good v)
  takes place v s is live x items views (inl h) at = let e = h.0 in absurd cc
  takes place v s is live x items views (inr o) at =
      let p = o.plan in
      let k = (o.see place v at).knows s is in
      let w = taker v x.log in
      let q : Plan St (Entry X St C R) = record p { keeper = place } in
      let rest = o.lies.0 in
      let log : x.log ≡ p.log = rest.log in
      let rooms : x.rooms ≡ p.rooms = rest.rooms in
      let whole : StartsWith p.log x.log = subst (λ l. StartsWith p.log l) (sym log) (starts_refl p.log) in
      let mine : Sees q [] place w = record {
        spent = λ none. let e : Some s ≡ None = sym is ∙ none in absurd cc;
        knows = λ t at_t. let m = (o.see place v at).knows t at_t in record {
          start_is = m.start_is;
          rooms = m.rooms;
          seen = whole;
          before = whole;
          met = starts_nil p.log;
          live = λ l. let a = m.live l in record { seat_is = a.seat_is; number = a.number; seen = ap (λ z. own z v.number) (sym log); before = ap (λ z. own z v.number) (sym log) };
          opens = m.opens;
          holds = λ _. record { empty = refl; keeper = refl; live = live; log = log; ended = all_nil _ };
        };
      } in
      let all : AllSee q [] (set views place w) = each_set (λ j u. Sees q [] j u) views place w mine
      (λ j u other e. let z = o.see j u e in record {
        spent = z.spent;
        knows = λ t at_t. let m = z.knows t at_t in record {
          start_is = m.start_is;
          rooms = m.rooms;
          seen = m.seen;
          before = m.before;
          met = m.met;
          live = m.live;
          opens = m.opens;
          holds = λ h. let e = (m.holds h).empty in absurd cc;
        };
      }) in (
        w,
        subst (λ i. InTurn Good i (set views place w)) (sym o.lies.1) (inr (record { plan = q; lies = (w, at_here views place v w at, refl); within = o.within; early = o.early; see = all })),
        record {
          view = refl;
          good = λ t at_t. subst (λ u. Good u x) (sym ((o.see place v at).knows t at_t).start_is) rest.good;
          rooms = k.rooms ∙ sym rooms;
          begins = subst (λ l. StartsWith l v.seen) (sym log) k.seen;
          own_is = ap (λ l. own l v.number) log ∙ (k.live live).seen;
          within = λ who. subst (λ (y : List ℕ × List (Entry X St C R)). length (own y.1 who) ≤ slice_index y.0 who) (λ i. (sym rooms i, sym log i)) (o.within who);
        },
      )

  -- what the holder of the turn knows
  held : (items : List (Carried X (Entry X St C R))) (views : List (View X St C R)) (place : ℕ) (v : View X St C R) (s : St) → v.start ≡ Some s → InTurn Good items views → get_elem? views place ≡ some v → IsOpen Good items views
  held items views place v s is (inl h) at = absurd (not_blank v s views place is h.1 at)
  held items views place v s is (inr o) at = o

  pub gives : (n place : ℕ) (v : View X St C R) (x : Carried X (Entry X St C R)) (e : Entry X St C R) (s : St) → v.start ≡ Some s → Good s x → v.rooms ≡ x.rooms → v.holding ≡ true → x.log ≡ v.seen ++ e ∷ [] → e.caller ≡ v.number → Within x.rooms x.log
      → Pushes (InTurn Good) n place v x (λ w. w ≡ giver v x.log)
  gives n place v x e s is kept rooms_is holding log_is caller within items views room h at =
      let o = held items views place v s is h at in
      let p = o.plan in
      let k = (o.see place v at).knows s is in
      let hold = k.holds holding in
      let lives = k.live hold.live in
      let w = giver v x.log in
      let q : Plan St (Entry X St C R) = record p { log = x.log } in
      let log : x.log ≡ p.log ++ e ∷ [] = log_is ∙ ap (λ l. l ++ e ∷ []) hold.log in
      let rooms : x.rooms ≡ p.rooms = sym rooms_is ∙ k.rooms in
      let mine : Sees q (x ∷ []) place w = record {
        spent = λ none. let e : Some s ≡ None = sym is ∙ none in absurd cc;
        knows = λ t at_t. let m = (o.see place v at).knows t at_t in record {
          start_is = m.start_is;
          rooms = m.rooms;
          seen = starts_refl x.log;
          before = starts_refl x.log;
          met = starts_nil x.log;
          live = λ l. record { seat_is = lives.seat_is; number = lives.number; seen = refl; before = refl };
          opens = m.opens;
          holds = λ h. absurd (true≢false (sym h));
        };
      } in
      let all : AllSee q (x ∷ []) (set views place w) = each_set (λ j u. Sees q (x ∷ []) j u) views place w mine
      (λ j u other e'. let z = o.see j u e' in record {
        spent = z.spent;
        knows = λ t at_t. let m = z.knows t at_t in record {
          start_is = m.start_is;
          rooms = m.rooms;
          seen = subst (λ l. StartsWith l u.seen) (sym log) (starts_more p.log u.seen (e ∷ []) m.seen);
          before = subst (λ l. StartsWith l u.before) (sym log) (starts_more p.log u.before (e ∷ []) m.before);
          met = subst (λ l. StartsWith l u.met) (sym log) (starts_more p.log u.met (e ∷ []) m.met);
          live = λ l. let a = m.live l in
              let differs : e.caller ≢ u.number = λ same. other (sym a.seat_is ∙ ap p.seat (sym same ∙ caller) ∙ lives.seat_is) in
              let stays : own x.log u.number ≡ own p.log u.number = ap (λ z. own z u.number) log ∙ own-snoc_other p.log e u.number differs in
              record { seat_is = a.seat_is; number = a.number; seen = stays ∙ a.seen; before = stays ∙ a.before };
          opens = m.opens;
          holds = λ h. absurd (other ((m.holds h).keeper ∙ sym hold.keeper));
        };
      }) in (
        w,
        subst (λ i. InTurn Good (i ++ x ∷ []) (set views place w)) (sym hold.empty) (inr (record {
          plan = q;
          lies = (record { rooms = rooms; log = refl; good = subst (λ u. Good u x) k.start_is kept }, refl);
          within = λ who. subst (λ r. length (own x.log who) ≤ slice_index r who) rooms (within who);
          early = λ who late. let differs : e.caller ≢ who = λ same. let lt = lives.number in absurd (omega (arith, caller)) in
              ap (λ z. own z who) log ∙ own-snoc_other p.log e who differs ∙ o.early who late;
          see = all;
        })),
        refl,
      )

  pub gives_learns : (place : ℕ) (v : View X St C R) (s : St) → v.start ≡ Some s → v.holding ≡ true → Learns (InTurn Good) place v (λ items. items ≡ [])
  gives_learns place v s is holding items views h at = let o = held items views place v s is h at in (((o.see place v at).knows s is).holds holding).empty

  pub opens : (n place : ℕ) (x : Carried X (Entry X St C R)) (s : St) → x.log ≡ [] → Good s x → Pushes (InTurn Good) n place blank x (Opens Good x)
  opens n place x s none kept items views room (inr o) at = let e = (o.see place blank at).spent refl in absurd (true≢false e)
  opens n place x s none kept items views room (inl h) at =
      let q : Plan St (Entry X St C R) = record { start = s; rooms = x.rooms; log = []; seat = λ _. 0; next = 0; keeper = 0 } in
      let zero_is : place ≡ 0 = first place (ap (λ l. get_elem? l place) (sym h.1) ∙ at) in
      let mine : Sees q (x ∷ []) 0 (opener s x.rooms) = record {
        spent = λ none. let e : Some s ≡ None = none in absurd cc;
        knows = λ t at_t. let e : Some s ≡ Some t = at_t in let f : s ≡ t = cc in record {
          start_is = sym f;
          rooms = refl;
          seen = starts_refl [];
          before = starts_refl [];
          met = starts_refl [];
          live = λ l. absurd (true≢false (sym l));
          opens = λ n e. let g : Some 0 ≡ Some n = e in (refl, cc);
          holds = λ h. absurd (true≢false (sym h));
        };
      } in
      let all : AllSee q (x ∷ []) (opener s x.rooms ∷ []) = λ j u e. one (λ j u. Sees q (x ∷ []) j u) (opener s x.rooms) u j mine e in (
        opener s x.rooms,
        subst (λ (y : List (Carried X (Entry X St C R)) × (List (View X St C R) × ℕ)). InTurn Good (y.0 ++ x ∷ []) (set y.1.0 y.1.1 (opener s x.rooms))) (λ i. (sym h.0 i, (sym h.1 i, sym zero_is i)))
            (inr (record { plan = q; lies = (record { rooms = refl; log = none; good = kept }, refl); within = λ who. omega arith; early = λ who late. refl; see = all })),
        record { start = s; good = kept; view = refl },
      )
    where
      first : (j : ℕ) → get_elem? (blank {X = X} {St = St} {C = C} {R = R} ∷ []) j ≡ some blank → j ≡ 0
      first zero e = refl
      first (suc j) e = absurd (some-ne-none blank (sym e))

      one : (F : ℕ → View X St C R → Type 0) (a u : View X St C R) (j : ℕ) → F 0 a → get_elem? (a ∷ []) j ≡ some u → F j u
      one F a u zero f e = subst (λ y. F 0 y) (some-injective a u e) f
      one F a u (suc j) f e = absurd (some-ne-none u (sym e))

  pub opens_learns : (place : ℕ) → Learns (InTurn Good) place (blank {X = X} {St = St} {C = C} {R = R}) (λ items. items ≡ [])
  opens_learns place items views (inl h) at = h.0
  opens_learns place items views (inr o) at = let e = (o.see place blank at).spent refl in absurd (true≢false e)

  pub begins : InTurn Good [] (blank ∷ [])
  begins = inl (refl, refl)

  -- the turn lies where it lay, whatever becomes of the views of passes that don't have it
  lies_same : (p : Plan St (Entry X St C R)) (seat : ℕ → ℕ) (next : ℕ) (items : List (Carried X (Entry X St C R))) (old new : List (View X St C R)) → (IsOut p.keeper old → IsOut p.keeper new) → Lies Good p items old → Lies Good (record p { seat = seat; next = next }) items new
  lies_same p seat next [] old new out l = out l
  lies_same p seat next (x ∷ xs) old new out l = (record { rooms = l.0.rooms; log = l.0.log; good = l.0.good }, l.1)

  pub makes : (place : ℕ) (v : View X St C R) (s : St) (n : ℕ) → v.start ≡ Some s → v.holding ≡ false → v.next ≡ Some n → Forks (InTurn Good) place v (maker v) (made_by v)
  makes place v s n is calm next_is items views h at =
      let o = held items views place v s is h at in
      let p = o.plan in
      let k = (o.see place v at).knows s is in
      let m = k.opens n next_is in
      let left : View X St C R = maker v in
      let right : View X St C R = made_by v in
      let views' : List (View X St C R) = set views place left in
      let seat' : ℕ → ℕ = reseat p.seat p.next (length views') in
      let q : Plan St (Entry X St C R) = record p { seat = seat'; next = p.next + 1 } in
      let again : (j : ℕ) (u : View X St C R) → Lives p.seat p.next p.log j u → Lives seat' (p.next + 1) p.log j u = λ j u a. let lt = a.number in record {
        seat_is = reseat-old p.seat p.next (length views') u.number lt ∙ a.seat_is;
        number = omega arith;
        seen = a.seen;
        before = a.before;
      } in
      let mine : Sees q items place left = record {
        spent = λ none. let e : Some s ≡ None = sym is ∙ none in absurd cc;
        knows = λ t at_t. let z = (o.see place v at).knows t at_t in record {
          start_is = z.start_is;
          rooms = z.rooms;
          seen = z.seen;
          before = z.before;
          met = z.met;
          live = λ l. let a = z.live l in record { seat_is = (again place v a).seat_is; number = (again place v a).number; seen = a.seen; before = a.before };
          opens = λ i e. let f : Some (n + 1) ≡ Some i = ap (option_map (λ n. n + 1)) (sym next_is) ∙ e in let g : n + 1 ≡ i = cc in (m.0, sym g ∙ ap (λ n. n + 1) m.1);
          holds = λ h. absurd (true≢false (sym h ∙ calm));
        };
      } in
      let others : AllSee q items views' = each_set (λ j u. Sees q items j u) views place left mine
      (λ j u other e. let z = o.see j u e in record {
        spent = z.spent;
        knows = λ t at_t. let w = z.knows t at_t in record {
          start_is = w.start_is;
          rooms = w.rooms;
          seen = w.seen;
          before = w.before;
          met = w.met;
          live = λ l. again j u (w.live l);
          opens = λ i e. absurd (other ((w.opens i e).0 ∙ sym m.0));
          holds = λ h. let b = w.holds h in record { empty = b.empty; keeper = b.keeper; live = b.live; log = b.log; ended = b.ended };
        };
      }) in
      let number : right.number ≡ p.next = ap (λ o. unwrap_or o 0) next_is ∙ m.1 in
      let nothing : own p.log right.number ≡ [] = o.early right.number (omega (arith, number)) in
      let new : Sees q items (length views') right = record {
        spent = λ none. let e : Some s ≡ None = sym is ∙ none in absurd cc;
        knows = λ t at_t. let z = (o.see place v at).knows t at_t in record {
          start_is = z.start_is;
          rooms = z.rooms;
          seen = starts_nil p.log;
          before = starts_nil p.log;
          met = starts_nil p.log;
          live = λ l. record { seat_is = ap seat' number ∙ reseat-new p.seat p.next (length views'); number = omega (arith, number); seen = nothing; before = nothing };
          opens = λ i e. let f : None ≡ Some i = e in absurd cc;
          holds = λ h. absurd (true≢false (sym h));
        };
      } in
      inr (record {
        plan = q;
        lies = lies_same p seat' (p.next + 1) items views (views' ++ right ∷ []) (λ out. out_more p.keeper views' right (out_set p.keeper views place v left at refl out)) o.lies;
        within = o.within;
        early = λ who late. o.early who (omega arith);
        see = each_more (λ j u. Sees q items j u) views' right others new;
      })

  pub notes : (place : ℕ) (v : View X St C R) (s : St) → v.start ≡ Some s → Forks (InTurn Good) place v v (noted v)
  notes place v s is items views h at =
      let o = held items views place v s is h at in
      let p = o.plan in
      let views' : List (View X St C R) = set views place v in
      let others : AllSee p items views' = each_set (λ j u. Sees p items j u) views place v (o.see place v at) (λ j u other e. o.see j u e) in
      let new : Sees p items (length views') (noted v) = record {
        spent = λ none. let e : Some s ≡ None = sym is ∙ none in absurd cc;
        knows = λ t at_t. let z = (o.see place v at).knows t at_t in record {
          start_is = z.start_is;
          rooms = z.rooms;
          seen = z.seen;
          before = starts_nil p.log;
          met = starts_nil p.log;
          live = λ l. absurd (true≢false (sym l));
          opens = λ i e. let f : None ≡ Some i = e in absurd cc;
          holds = λ h. absurd (true≢false (sym h));
        };
      } in
      inr (record {
        plan = p;
        lies = lies_same p p.seat p.next items views (views' ++ noted v ∷ []) (λ out. out_more p.keeper views' (noted v) (out_set p.keeper views place v v at refl out)) o.lies;
        within = o.within;
        early = o.early;
        see = each_more (λ j u. Sees p items j u) views' (noted v) others new;
      })

  -- two views become one: the first one sees what it is shown to see, and the second knows nothing
  merged : (items : List (Carried X (Entry X St C R))) (views : List (View X St C R)) (place other : ℕ) (v w both : View X St C R)
      → (o : IsOpen Good items views) → get_elem? views place ≡ some v → both.holding ≡ v.holding → ¬ (other ≡ place) → get_elem? (set views place both) other ≡ some w → w.holding ≡ false
      → (get_elem? views other ≡ some w → Sees o.plan items place both) → InTurn Good items (set (set views place both) other spent)
  merged items views place other v w both o at as_before apart at_w calm sees =
      let p = o.plan in
      let was : get_elem? views other ≡ some w = ⊎_elim (λ (x : (other ≡ place) × (both ≡ w)). absurd (apart x.0)) (λ (x : (other ≢ place) × (get_elem? views other ≡ some w)). x.1) (at_set views place other both w at_w) in
      let mine : Sees p items other spent = record {
        spent = λ none. refl;
        knows = λ t at_t. let e : None ≡ Some t = at_t in absurd cc;
      } in
      let one : AllSee p items (set views place both) = each_set (λ j u. Sees p items j u) views place both (sees was) (λ j u other e. o.see j u e) in
      inr (record {
        plan = p;
        lies = lies_same p p.seat p.next items views (set (set views place both) other spent) (λ out. out_set p.keeper (set views place both) other w spent at_w (sym calm) (out_set p.keeper views place v both at as_before out)) o.lies;
        within = o.within;
        early = o.early;
        see = each_set (λ j u. Sees p items j u) (set views place both) other spent mine (λ j u differs e. one j u e);
      })

  pub meets : (place : ℕ) (v : View X St C R) (other : ℕ) (w : View X St C R) (s t : St) → v.start ≡ Some s → w.start ≡ Some t → v.holding ≡ false → w.holding ≡ false → Merges (InTurn Good) place v other w (meeter v w) spent
  meets place v other w s t is is' calm calm' items views h at apart at_w =
      let o = held items views place v s is h at in
      let p = o.plan in
      let both : View X St C R = meeter v w in
      merged items views place other v w both o at refl apart at_w calm'
      (λ was. record {
        spent = λ none. let e : Some s ≡ None = sym is ∙ none in absurd cc;
        knows = λ r at_r. let z = (o.see place v at).knows r at_r in
            let met = ((o.see other w was).knows t is').seen in record {
              start_is = z.start_is;
              rooms = z.rooms;
              seen = longer_cases (λ l. StartsWith p.log l) v.seen w.seen z.seen (λ le. met);
              before = z.seen;
              met = met;
              live = λ l. let a = z.live l in record {
                seat_is = a.seat_is;
                number = a.number;
                seen = longer_cases (λ l. own p.log v.number ≡ own l v.number) v.seen w.seen a.seen (λ le. own_between p.log w.seen v.seen v.number met (starts_both p.log v.seen w.seen z.seen met le) a.seen);
                before = a.seen;
              };
              opens = z.opens;
              holds = λ h. absurd (true≢false (sym h ∙ calm));
            };
      })

  pub meets_learns : (place : ℕ) (v : View X St C R) (s : St) → v.start ≡ Some s → v.live ≡ true → Learns (InTurn Good) place v (λ items. Meets v)
  meets_learns place v s is live items views h at =
      let o = held items views place v s is h at in
      let p = o.plan in
      let z = (o.see place v at).knows s is in
      let a = z.live live in
      record {
        either = ⊎_elim (λ le. inr (starts_both p.log v.before v.met z.before z.met le)) (λ le. inl (starts_both p.log v.met v.before z.met z.before le)) (either_le (length v.before) (length v.met));
        own_is = sym a.seen ∙ a.before;
      }

  pub ends : (place : ℕ) (v : View X St C R) (other : ℕ) (w : View X St C R) (s t : St) → v.start ≡ Some s → w.start ≡ Some t → v.holding ≡ true → w.live ≡ true → w.holding ≡ false → Merges (InTurn Good) place v other w (ender v w) spent
  ends place v other w s t is is' holding live calm items views h at apart at_w =
      let o = held items views place v s is h at in
      let p = o.plan in
      let both : View X St C R = ender v w in
      merged items views place other v w both o at refl apart at_w calm
      (λ was. record {
        spent = λ none. let e : Some s ≡ None = sym is ∙ none in absurd cc;
        knows = λ r at_r. let z = (o.see place v at).knows r at_r in
            let y = (o.see other w was).knows t is' in record {
              start_is = z.start_is;
              rooms = z.rooms;
              seen = z.seen;
              before = z.before;
              met = z.met;
              live = λ l. let a = z.live l in record { seat_is = a.seat_is; number = a.number; seen = a.seen; before = a.before };
              opens = z.opens;
              holds = λ h. let b = z.holds h in record {
                empty = b.empty;
                keeper = b.keeper;
                live = b.live;
                log = b.log;
                ended = all_cons (Ended p.log) (w.number, w.seen) v.ended (record { begins = y.seen; own_is = (y.live live).seen }) b.ended;
              };
            };
      })

  pub closes : (place : ℕ) (v : View X St C R) (s : St) → v.start ≡ Some s → v.holding ≡ true → Learns (InTurn Good) place v (λ items. Closes v)
  closes place v s is holding items views h at =
      let o = held items views place v s is h at in
      let b = ((o.see place v at).knows s is).holds holding in
      subst (λ l. All (Ended l) v.ended) (sym b.log) b.ended

  pub opens_at : (n place : ℕ) (v : View X St C R) (x : Carried X (Entry X St C R)) (s : St) → v ≡ blank → x.log ≡ [] → Good s x → Pushes (InTurn Good) n place v x (Opens Good x)
  opens_at n place v x s is none kept = subst (λ (u : View X St C R). Pushes (InTurn Good) n place u x (Opens Good x)) (sym is) (opens n place x s none kept)

  pub opens_learns_at : (place : ℕ) (v : View X St C R) → v ≡ blank → Learns (InTurn Good) place v (λ items. items ≡ [])
  opens_learns_at place v is = subst (λ (u : View X St C R). Learns (InTurn Good) place u (λ items. items ≡ [])) (sym is) (opens_learns place)
