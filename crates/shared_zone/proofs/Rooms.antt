-- How many entries a history has at most.
use Rattle.std.proofs.Common.{◌≡◌, ◌≢◌, ℕ, zero, suc, ◌+◌, ◌-◌, ◌<◌, ◌≤◌, ◌⊎◌, Bool, true, false, List, [], ◌∷◌, ◌++◌, length, set, get_or, sym, refl, ap, ◌∙◌, subst, inl, inr, arith, sum, length-append, get_or-set_same, get_or-set_other}
use Rattle.std.specs.Prelude.{◌==◌, slice_index}
use Rattle.std.proofs.lemmas.List.Sums.{sum_by-set}
use Rattle.std.proofs.lemmas.Bool.Decides.{nat_tests}
use Rattle.zone_object.specs.declared.object.Entry.{Entry}
use Rattle.zone_object.specs.History.{own}
use Rattle.shared_zone.specs.Rule.{Within}
use Rattle.zone_object.proofs.Own.{own-append, own-one, own-other, own-snoc_mine, own-snoc_other}
use Rattle.shared_zone.proofs.Lists.{nil_list}

sum-set : (xs : List ℕ) (i y : ℕ) → i < length xs → sum (set xs i y) + get_or xs i 0 ≡ sum xs + y
sum-set xs i y h = sum_by-set (λ x. x) xs i y 0 h

within_length : (xs : List ℕ) (i : ℕ) → 0 < get_or xs i 0 → i < length xs
within_length [] i h = absurd (omega arith)
within_length (x ∷ xs) zero h = omega arith
within_length (x ∷ xs) (suc i) h = omega (arith, within_length xs i h)

past_end : (xs : List ℕ) (i : ℕ) → length xs ≤ i → get_or xs i 0 ≡ 0
past_end [] i h = refl
past_end (x ∷ xs) zero h = absurd (omega arith)
past_end (x ∷ xs) (suc i) h = past_end xs i (omega arith)

pub same_or : (m n : ℕ) → (m ≡ n) ⊎ (m ≢ n)
same_or m n =
    let f : (t : Bool) → (m == n) ≡ t → (m ≡ n) ⊎ (m ≢ n) = elim [ true ↦ λ e. inl (grind (arith, nat_tests)) | false ↦ λ e. inr (grind (arith, nat_tests)) ] in
    f (m == n) refl

module _ {X St C R : Type 0} where
  -- the rooms are enough for the whole history
  pub total_within : (rooms : List ℕ) (log : List (Entry X St C R)) → Within rooms log → length log ≤ sum rooms
  total_within rooms [] h = omega arith
  total_within rooms (e ∷ es) h =
      let k = e.caller in
      let room = get_or rooms k 0 in
      let mine : own (e ∷ es) k ≡ e ∷ own es k = own-append (e ∷ []) es k ∙ ap (λ l. l ++ own es k) (own-one e k refl) in
      let some : suc (length (own es k)) ≤ room = subst (λ l. length l ≤ room) mine (h k) in
      let lt : k < length rooms = within_length rooms k (omega arith) in
      let less : Within (set rooms k (room - 1)) es = λ who.
      elim (same_or k who) [
        | inl same ↦ subst (λ w. length (own es w) ≤ get_or (set rooms k (room - 1)) w 0) same (rw get_or-set_same (omega arith))
        | inr differs ↦
            let others : own (e ∷ es) who ≡ own es who = own-append (e ∷ []) es who ∙ ap (λ l. l ++ own es who) (own-other e who differs) in
            let apart : who ≢ k = λ s. differs (sym s) in
            rw get_or-set_other (subst (λ l. length l ≤ get_or rooms who 0) others (h who))
      ] in
      let rest = total_within (set rooms k (room - 1)) es less in
      omega (arith, sum-set rooms k (room - 1) lt)

  -- one entry more, of a pass with room left
  pub within_more : (rooms : List ℕ) (log : List (Entry X St C R)) (e : Entry X St C R) → Within rooms log → length (own log e.caller) < slice_index rooms e.caller → Within rooms (log ++ e ∷ [])
  within_more rooms log e h room who =
      elim (same_or e.caller who) [
        | inl same ↦
            let r : length (own log who) < slice_index rooms who = subst (λ w. length (own log w) < slice_index rooms w) same room in
            subst (λ l. length l ≤ slice_index rooms who) (sym (own-snoc_mine log e who same)) (omega (arith, length-append (own log who) (e ∷ [])))
        | inr differs ↦ subst (λ l. length l ≤ slice_index rooms who) (sym (own-snoc_other log e who differs)) (h who)
      ]

  -- a pass with room left finds room in the whole history
  pub short_of : (rooms : List ℕ) (log : List (Entry X St C R)) (k : ℕ) → Within rooms log → length (own log k) < slice_index rooms k → length log < sum rooms
  short_of rooms log k h left =
      let room = get_or rooms k 0 in
      let lt : k < length rooms = within_length rooms k (omega arith) in
      let less : Within (set rooms k (room - 1)) log = λ who.
      elim (same_or k who) [
        | inl same ↦ subst (λ w. length (own log w) ≤ get_or (set rooms k (room - 1)) w 0) same (rw get_or-set_same (omega arith))
        | inr differs ↦ let apart : who ≢ k = λ s. differs (sym s) in rw get_or-set_other (h who)
      ] in
      omega (arith, sum-set rooms k (room - 1) lt, total_within (set rooms k (room - 1)) log less)

  -- there are no callers beyond the rooms
  pub no_others : (rooms : List ℕ) (log : List (Entry X St C R)) → Within rooms log → (who : ℕ) → length rooms ≤ who → own log who ≡ []
  no_others rooms log h who past = nil_list (own log who) (let e = past_end rooms who past in let l = h who in omega arith)
