-- A history of one caller alone: it is what the caller made, and each reply follows from what was made before.
use Rattle.std.proofs.Common.{ℕ, ◌≡◌, ◌+◌, ◌<◌, ◌^◌, true, List, [], ◌∷◌, ◌++◌, length, map, sym, refl, ap, subst, ◌∙◌, arith}
use Rattle.std.specs.Prelude.{◌==◌, sum_by}
use Rattle.std.proofs.lemmas.Bool.Decides.{nat_tests}
use Rattle.std.proofs.lemmas.List.{map-append, length-map}
use Rattle.std.proofs.lemmas.List.Sums.{sum_by-cons}
use Rattle.std.proofs.lemmas.List.Elements.{All-head, All-tail, All-nil, All-cons}
use Rattle.zone_object.specs.declared.object.Entry.{Entry}
use Rattle.zone_object.specs.History.{entry, own, run, IsLegal, IsHistory}
use Rattle.zone_object.proofs.Histories.{at_each-rest, history-snoc}
use Rattle.request_script.specs.Drive.{Made}
use Rattle.replay_share.specs.Logs.{made_of, HasCallersBelow}

module _ {X St C R : Type 0} where
  -- the entry of what caller 0 made
  abbrev pub entry_of : Made C R → Entry X St C R
  entry_of m = entry 0 m.call m.reply

  entry_again : (e : Entry X St C R) → e.caller < 1 → entry_of (made_of e) ≡ e
  entry_again e mine = let is : 0 ≡ e.caller = omega (arith, mine) in ap (λ (n : ℕ). entry n e.call e.reply) is

  own-cons : (e : Entry X St C R) (es : List (Entry X St C R)) → e.caller < 1 → map entry_of (map made_of (own es 0)) ≡ es → map entry_of (map made_of (own (e ∷ es) 0)) ≡ e ∷ es
  own-cons e es mine rest =
      let t : (e.caller == 0) ≡ true = grind (arith, nat_tests, mine) in
      rw t (ap (λ (x : Entry X St C R). x ∷ map entry_of (map made_of (own es 0))) (entry_again e mine) ∙ ap (λ (l : List (Entry X St C R)). e ∷ l) rest)

  -- the history is the entries of what was made
  pub solo-log : (log : List (Entry X St C R)) → HasCallersBelow 1 log → map entry_of (map made_of (own log 0)) ≡ log
  solo-log [] h = refl
  solo-log (e ∷ es) h = own-cons e es (All-head (λ (d : Entry X St C R). d.caller < 1) e es h) (solo-log es (All-tail (λ (d : Entry X St C R). d.caller < 1) e es h))

  -- two histories of what was made are equal
  pub solo-same : (log other : List (Entry X St C R)) (made : List (Made C R)) → HasCallersBelow 1 log → HasCallersBelow 1 other → map made_of (own log 0) ≡ made → map made_of (own other 0) ≡ made → log ≡ other
  solo-same log other made mine theirs is so = sym (solo-log log mine) ∙ ap (map entry_of) (is ∙ sym so) ∙ solo-log other theirs

  module _ (reply_of : St → C → R) (state_after : St → C → St) where
    -- a reply is the one that the state gives to which the calls before it led
    pub solo-reply : (start : St) (log : List (Entry X St C R)) (before after : List (Made C R)) (m : Made C R) → HasCallersBelow 1 log → IsLegal reply_of state_after start log → map made_of (own log 0) ≡ before ++ m ∷ after
        → m.reply ≡ reply_of (run state_after start (map entry_of before)) m.call
    solo-reply start log before after m mine legal is =
        let split : log ≡ map entry_of before ++ entry_of m ∷ map entry_of after = sym (solo-log log mine) ∙ ap (map entry_of) is ∙ map-append entry_of before (m ∷ after) in
        (at_each-rest state_after (λ (s : St) (e : Entry X St C R). e.reply ≡ reply_of s e.call) start (map entry_of before) (entry_of m ∷ map entry_of after) (subst (λ (l : List (Entry X St C R)). IsLegal reply_of state_after start l) split legal)).0

  -- ---- from what was made to a history

  -- the entries of what was made are caller 0's
  pub solo-mine : (made : List (Made C R)) → HasCallersBelow 1 (map entry_of made)
  solo-mine [] = All-nil (λ (d : Entry X St C R). d.caller < 1)
  solo-mine (m ∷ ms) = All-cons (λ (d : Entry X St C R). d.caller < 1) (entry_of m) (map entry_of ms) (omega arith) (solo-mine ms)

  module _ (is_quiet : St → Type 0) (reply_of : St → C → R) (state_after : St → C → St) (permits : List (Entry X St C R) → C → Type 0) where
    -- one call more, which the state answers to which the calls before it led
    pub solo-more : (start : St) (made : List (Made C R)) (m : Made C R) → IsHistory is_quiet reply_of state_after permits start (map entry_of made) → m.reply ≡ reply_of (run state_after start (map entry_of made)) m.call
        → length made + 1 < 2 ^ 32 → permits (own (map entry_of made) 0) m.call → IsHistory is_quiet reply_of state_after permits start (map entry_of (made ++ m ∷ []))
    solo-more start made m h is short may =
        let few : length (map entry_of made) + 1 < 2 ^ 32 = omega (arith, short, length-map made entry_of) in
        subst (λ (l : List (Entry X St C R)). IsHistory is_quiet reply_of state_after permits start l) (sym (map-append entry_of made (m ∷ [])))
        (history-snoc is_quiet reply_of state_after permits start (map entry_of made) (entry_of m) h is few may)

module _ (X St : Type 0) {C R : Type 0} where
  abbrev entries_of : List (Made C R) → List (Entry X St C R)
  entries_of made = map entry_of made

  -- the part of a history of what was made is what was made
  pub solo-part : (made : List (Made C R)) → map made_of (own (entries_of made) 0) ≡ made
  solo-part [] = refl
  solo-part (m ∷ ms) = ap (λ (l : List (Made C R)). m ∷ l) (solo-part ms)

  -- a sum over what was made is the sum over its entries
  solo-sum : (f : Made C R → ℕ) (made : List (Made C R)) → sum_by f made ≡ sum_by (λ (e : Entry X St C R). f (made_of e)) (own (entries_of made) 0)
  solo-sum f [] = refl
  solo-sum f (m ∷ ms) =
      sum_by-cons f m ms ∙ ap (λ (n : ℕ). f m + n) (solo-sum f ms) ∙ sym (sum_by-cons (λ (e : Entry X St C R). f (made_of e)) (entry_of m) (own (entries_of ms) 0))

  -- what was given back is less than what was given, over the entries as over what was made
  pub solo-less : (back given : Made C R → ℕ) (made : List (Made C R)) → sum_by back made < sum_by given made
      → sum_by (λ (e : Entry X St C R). back (made_of e)) (own (entries_of made) 0) < sum_by (λ (e : Entry X St C R). given (made_of e)) (own (entries_of made) 0)
  solo-less back given made less = let b = solo-sum back made in let g = solo-sum given made in omega (arith, less, b, g)
