-- Histories that are joined and split.
use Rattle.std.proofs.Common.{◌≡◌, ℕ, ◌+◌, ◌<◌, ◌^◌, List, [], ◌∷◌, ◌++◌, length, sym, refl, subst, append_assoc, arith, length-append}
use Rattle.std.proofs.lemmas.List.{append-nil}
use Rattle.zone_object.specs.declared.object.Entry.{Entry}
use Rattle.zone_object.specs.History.{entry, own, run, AtEach, IsPermitted, IsReady, IsAnswered, IsHistory, HasRun}

module _ {X St C R : Type 0} where
  module _ (state_after : St → C → St) where
    pub run-append : (s : St) (before after : List (Entry X St C R)) → run state_after s (before ++ after) ≡ run state_after (run state_after s before) after
    run-append s [] after = refl
    run-append s (x ∷ xs) after = run-append (state_after s x.call) xs after

    module _ (Holds : St → Entry X St C R → Type 0) where
      pub at_each-join : (s : St) (before after : List (Entry X St C R)) → AtEach state_after Holds s before → AtEach state_after Holds (run state_after s before) after → AtEach state_after Holds s (before ++ after)
      at_each-join s [] after h k = k
      at_each-join s (x ∷ xs) after h k = (h.0, at_each-join (state_after s x.call) xs after h.1 k)

      pub at_each-front : (s : St) (before after : List (Entry X St C R)) → AtEach state_after Holds s (before ++ after) → AtEach state_after Holds s before
      at_each-front s [] after h = tt
      at_each-front s (x ∷ xs) after h = (h.0, at_each-front (state_after s x.call) xs after h.1)

      pub at_each-rest : (s : St) (before after : List (Entry X St C R)) → AtEach state_after Holds s (before ++ after) → AtEach state_after Holds (run state_after s before) after
      at_each-rest s [] after h = h
      at_each-rest s (x ∷ xs) after h = at_each-rest (state_after s x.call) xs after h.1

    -- what holds at each place gives what follows from it there
    pub at_each-map : (Holds Follows : St → Entry X St C R → Type 0) → ((s : St) (e : Entry X St C R) → Holds s e → Follows s e) → (s : St) (log : List (Entry X St C R)) → AtEach state_after Holds s log → AtEach state_after Follows s log
    at_each-map Holds Follows follows s [] h = tt
    at_each-map Holds Follows follows s (e ∷ es) h = (follows s e h.0, at_each-map Holds Follows follows (state_after s e.call) es h.1)

    pub at_each-both : (Holds Besides : St → Entry X St C R → Type 0) (s : St) (log : List (Entry X St C R)) → AtEach state_after Holds s log → AtEach state_after Besides s log → AtEach state_after (λ t e. Holds t e × Besides t e) s log
    at_each-both Holds Besides s [] h k = tt
    at_each-both Holds Besides s (e ∷ es) h k = ((h.0, k.0), at_each-both Holds Besides (state_after s e.call) es h.1 k.1)

  module _ (permits : List (Entry X St C R) → C → Type 0) where
    pub permitted-join : (before log after : List (Entry X St C R)) → IsPermitted permits before log → IsPermitted permits (before ++ log) after → IsPermitted permits before (log ++ after)
    permitted-join before [] after h k = subst (λ l. IsPermitted permits l after) (append-nil before) k
    permitted-join before (e ∷ es) after h k = (h.0, permitted-join (before ++ e ∷ []) es after h.1 (subst (λ l. IsPermitted permits l after) (sym (append_assoc before (e ∷ []) es)) k))

    pub permitted-front : (before log after : List (Entry X St C R)) → IsPermitted permits before (log ++ after) → IsPermitted permits before log
    permitted-front before [] after h = tt
    permitted-front before (e ∷ es) after h = (h.0, permitted-front (before ++ e ∷ []) es after h.1)

    pub permitted-snoc : (log : List (Entry X St C R)) (e : Entry X St C R) → IsPermitted permits [] log → permits (own log e.caller) e.call → IsPermitted permits [] (log ++ e ∷ [])
    permitted-snoc log e h may = permitted-join [] log (e ∷ []) h (may, tt)

  module _ (is_quiet : St → Type 0) (reply_of : St → C → R) (state_after : St → C → St) (permits : List (Entry X St C R) → C → Type 0) where
    -- a quiet state begins an empty history
    pub history-nil : (s : St) → is_quiet s → IsHistory is_quiet reply_of state_after permits s []
    history-nil s quiet = record { begun = quiet; legal = tt; formed = (omega arith, tt) }

    -- one call more
    pub history-snoc : (s : St) (log : List (Entry X St C R)) (e : Entry X St C R) → IsHistory is_quiet reply_of state_after permits s log → e.reply ≡ reply_of (run state_after s log) e.call → length log + 1 < 2 ^ 32 → permits (own log e.caller) e.call
        → IsHistory is_quiet reply_of state_after permits s (log ++ e ∷ [])
    history-snoc s log e h is short may = record {
      begun = h.begun;
      legal = at_each-join state_after (λ t x. x.reply ≡ reply_of t x.call) s log (e ∷ []) h.legal (is, tt);
      formed = (omega (arith, length-append log (e ∷ [])), permitted-snoc permits log e h.formed.1 may);
    }

    -- what a history begins with is a history
    pub history-front : (s : St) (before after : List (Entry X St C R)) → IsHistory is_quiet reply_of state_after permits s (before ++ after) → IsHistory is_quiet reply_of state_after permits s before
    history-front s before after h = record {
      begun = h.begun;
      legal = at_each-front state_after (λ t x. x.reply ≡ reply_of t x.call) s before after h.legal;
      formed = (let short = h.formed.0 in omega (arith, length-append before after), permitted-front permits [] before after h.formed.1);
    }

    module _ (ready : St → C → Type 0) (law : (start : St) (log : List (Entry X St C R)) → IsHistory is_quiet reply_of state_after permits start log → IsReady state_after ready start log) where
      -- what the law says of one call more
      pub ready_next : (s : St) (log : List (Entry X St C R)) (who : ℕ) (call : C) → IsHistory is_quiet reply_of state_after permits s log → length log + 1 < 2 ^ 32 → permits (own log who) call → ready (run state_after s log) call
      ready_next s log who call h short may =
          let e : Entry X St C R = entry who call (reply_of (run state_after s log) call) in
          (at_each-rest state_after (λ t x. ready t x.call) s log (e ∷ []) (law s (log ++ e ∷ []) (history-snoc s log e h refl short may))).0

      -- each reply of a history is one that its call can be given
      pub answered : (can_answer : St → C → R → Type 0) → ((s : St) (call : C) → ready s call → can_answer s call (reply_of s call)) → (s : St) (log : List (Entry X St C R)) → IsHistory is_quiet reply_of state_after permits s log → IsAnswered state_after can_answer s log
      answered can_answer can s log h = at_each-map state_after (λ t e. ready t e.call × (e.reply ≡ reply_of t e.call)) (λ t e. can_answer t e.call e.reply)
          (λ t e k. subst (λ r. can_answer t e.call r) (sym k.1) (can t e.call k.0)) s log
          (at_each-both state_after (λ t e. ready t e.call) (λ t e. e.reply ≡ reply_of t e.call) s log (law s log h) h.legal)

  module _ (is_quiet : St → Type 0) (lays : X → St → Type 0) (reply_of : St → C → R) (state_after : St → C → St) (permits : List (Entry X St C R) → C → Type 0) where
    -- an object at a quiet state has run nothing from there
    pub has_run-nil : (s : St) (x : X) → is_quiet s → lays x s → HasRun is_quiet lays reply_of state_after permits s x []
    has_run-nil s x quiet laid = record { history = history-nil is_quiet reply_of state_after permits s quiet; laid = laid }

    -- one call more, which the object answered and by which it went on
    pub has_run-snoc : (s : St) (x y : X) (log : List (Entry X St C R)) (e : Entry X St C R) → HasRun is_quiet lays reply_of state_after permits s x log → lays y (state_after (run state_after s log) e.call) → e.reply ≡ reply_of (run state_after s log) e.call → length log + 1 < 2 ^ 32 → permits (own log e.caller) e.call
        → HasRun is_quiet lays reply_of state_after permits s y (log ++ e ∷ [])
    has_run-snoc s x y log e h laid is short may = record {
      history = history-snoc is_quiet reply_of state_after permits s log e h.history is short may;
      laid = subst (λ t. lays y t) (sym (run-append state_after s log (e ∷ []))) laid;
    }

    module _ (ready : St → C → Type 0) (law : (start : St) (log : List (Entry X St C R)) → IsHistory is_quiet reply_of state_after permits start log → IsReady state_after ready start log) where
      -- an object that has run a history lays out a state in which a permitted call is ready
      pub has_run-ready : (s : St) (x : X) (log : List (Entry X St C R)) (who : ℕ) (call : C) → HasRun is_quiet lays reply_of state_after permits s x log → length log + 1 < 2 ^ 32 → permits (own log who) call
          → (t : St) × lays x t × ready t call
      has_run-ready s x log who call h short may = (run state_after s log, h.laid, ready_next is_quiet reply_of state_after permits ready law s log who call h.history short may)

      -- and after `apply` it has run one call more
      pub has_run-apply : (s : St) (x y : X) (log after : List (Entry X St C R)) (who : ℕ) (call : C) (reply : R) → HasRun is_quiet lays reply_of state_after permits s x log → length log + 1 < 2 ^ 32 → permits (own log who) call
          → ((t : St) → lays x t → ready t call → reply ≡ reply_of t call) → ((t : St) → lays x t → ready t call → lays y (state_after t call)) → after ≡ log ++ entry who call reply ∷ []
          → HasRun is_quiet lays reply_of state_after permits s y after
      has_run-apply s x y log after who call reply h short may answers moves is =
          let there = run state_after s log in
          let is_ready = ready_next is_quiet reply_of state_after permits ready law s log who call h.history short may in
          subst (λ l. HasRun is_quiet lays reply_of state_after permits s y l) (sym is)
          (has_run-snoc s x y log (entry who call reply) h (moves there h.laid is_ready) (answers there h.laid is_ready) short may)
