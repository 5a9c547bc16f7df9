-- Expiry takes the oldest entries one after another, and a zone stays whole in each of its steps.
use Rattle.std.proofs.Common.{ℕ, zero, suc, ◌≡◌, ◌+◌, ◌-◌, ◌≤◌, ◌&&◌, Bool, true, false, cond, eqb, List, [], ◌∷◌, ◌++◌, length, take, reverse, refl, sym, ap, subst, ◌∙◌, arith, length-append}
use Rattle.std.proofs.lemmas.List.{reverse-append, take-append-le}
use Rattle.std.proofs.lemmas.Grind.{common_steps}
use Rattle.slab_model.specs.State.{Slab}
use Rattle.slab_model.specs.Return.{give_back}
use Rattle.slab_model.specs.Store.{BlockStore, slab_store}
use Rattle.req_zone.specs.declared.state.ReqEntry.{ReqEntry}
use Rattle.req_zone.specs.declared.state.ReqState.{ReqState}
use Rattle.req_zone.specs.Table.{is_stale}
use Rattle.req_zone.specs.State.{State, give_all}
use Rattle.req_zone.specs.Expiry.{stale_leaving, forced_from, forced_leaving, evict}
use Rattle.req_zone.specs.Object.{parts_of, with_parts}
use Rattle.req_zone.specs.Step.{new_entry}
use Rattle.req_zone.specs.Holding.{IsWhole}
use Rattle.req_zone.specs.Proving.Tables.{missing_none}
use Rattle.req_zone.specs.Proving.Wholes.{whole_evict, whole_none, whole_new}
use Rattle.req_zone.specs.Proving.CallEffects.{call_becomes}
use Rattle.req_zone.specs.Laws.{OldestWholeLaw, AskedWholeLaw, AdmittedWholeLaw, CallWholeLaw, with_table, stale_expired, forced_expired, oldest_left, NoneExpiresLaw, StaleStepLaw, ForcedStepLaw, FirstStepLaw}

module _ {S : Type 0} (memory : BlockStore S) where
  abbrev pub state_of : List ReqEntry → S → State S
  state_of table store = record { table = table; memory = store }

  -- none leaves
  pub evict-none : (table : List ReqEntry) (store : S) → evict memory (state_of table store) 0 ≡ state_of table store
  evict-none table store = let all : take (length table - 0) table ≡ table = grind (arith, common_steps) in ap (λ (xs : List ReqEntry). state_of xs store) all

  -- one more leaves: the oldest, and then the others
  pub evict-oldest : (newer : List ReqEntry) (oldest : ReqEntry) (store : S) (n : ℕ) → evict memory (state_of (newer ++ oldest ∷ []) store) (1 + n) ≡ evict memory (state_of newer (memory.give_back store oldest.block)) n
  evict-oldest newer oldest store n =
      let all = newer ++ oldest ∷ [] in
      let next : 1 + n ≡ suc n = omega arith in
      let turned : reverse all ≡ oldest ∷ reverse newer = reverse-append newer (oldest ∷ []) in
      let place : length all - (1 + n) ≡ length newer - n = omega (arith, length-append newer (oldest ∷ [])) in
      let stay : take (length all - (1 + n)) all ≡ take (length newer - n) newer = ap (λ (k : ℕ). take k all) place ∙ take-append-le (length newer - n) newer (oldest ∷ []) (omega arith) in
      let gone : take (1 + n) (reverse all) ≡ oldest ∷ take n (reverse newer) = ap (λ (k : ℕ). take k (reverse all)) next ∙ ap (λ (xs : List ReqEntry). take (suc n) xs) turned in
      ap (λ (xs : List ReqEntry). state_of xs (give_all memory store (take (1 + n) (reverse all)))) stay
      ∙ ap (λ (xs : List ReqEntry). state_of (take (length newer - n) newer) (give_all memory store xs)) gone

-- the zone with its table written out
written : (s : ReqState) (table : List ReqEntry) → s.table ≡ table → s ≡ with_table s table
written s table is = ap (λ (xs : List ReqEntry). with_table s xs) is

-- a table's own number of leaving entries
turned_stale : (rate now most : ℕ) (newer : List ReqEntry) (oldest : ReqEntry) → stale_leaving rate now (1 + most) (reverse (newer ++ oldest ∷ [])) ≡ cond (eqb oldest.count 0 && is_stale rate now oldest) (1 + stale_leaving rate now most (reverse newer)) 0
turned_stale rate now most newer oldest =
    let next : 1 + most ≡ suc most = omega arith in
    ap (λ (k : ℕ). stale_leaving rate now k (reverse (newer ++ oldest ∷ []))) next
    ∙ ap (λ (xs : List ReqEntry). stale_leaving rate now (suc most) xs) (reverse-append newer (oldest ∷ []))

turned_forced : (rate now : ℕ) (newer : List ReqEntry) (oldest : ReqEntry) → forced_leaving rate now (newer ++ oldest ∷ []) ≡ cond (eqb oldest.count 0) (1 + stale_leaving rate now 2 (reverse newer)) 0
turned_forced rate now newer oldest = ap (λ (xs : List ReqEntry). forced_from rate now xs) (reverse-append newer (oldest ∷ []))

-- as many as a test says leave
by_test : (s : ReqState) (newer : List ReqEntry) (oldest : ReqEntry) (n : ℕ) (b : Bool) → with_parts s (evict slab_store (parts_of (with_table s (newer ++ oldest ∷ []))) (cond b (1 + n) 0)) ≡ cond b (with_parts s (evict slab_store (record { table = newer; memory = give_back s.slab oldest.block }) n)) (with_table s (newer ++ oldest ∷ []))
by_test s newer oldest n true = ap (λ (p : State Slab). with_parts s p) (evict-oldest slab_store newer oldest s.slab n)
by_test s newer oldest n false = ap (λ (p : State Slab). with_parts s p) (evict-none slab_store (newer ++ oldest ∷ []) s.slab)

pub stale_step-law : StaleStepLaw
stale_step-law s now most newer oldest is =
    let t = with_table s (newer ++ oldest ∷ []) in
    let test = eqb oldest.count 0 && is_stale s.rate now oldest in
    ap (λ (z : ReqState). stale_expired (1 + most) now z) (written s (newer ++ oldest ∷ []) is)
    ∙ ap (λ (k : ℕ). with_parts s (evict slab_store (parts_of t) k)) (turned_stale s.rate now most newer oldest)
    ∙ by_test s newer oldest (stale_leaving s.rate now most (reverse newer)) test
    ∙ ap (λ (z : ReqState). cond test (stale_expired most now (oldest_left s newer oldest)) z) (sym (written s (newer ++ oldest ∷ []) is))

pub forced_step-law : ForcedStepLaw
forced_step-law s now newer oldest is =
    let t = with_table s (newer ++ oldest ∷ []) in
    let test = eqb oldest.count 0 in
    ap (λ (z : ReqState). forced_expired z now) (written s (newer ++ oldest ∷ []) is)
    ∙ ap (λ (k : ℕ). with_parts s (evict slab_store (parts_of t) k)) (turned_forced s.rate now newer oldest)
    ∙ by_test s newer oldest (stale_leaving s.rate now 2 (reverse newer)) test
    ∙ ap (λ (z : ReqState). cond test (stale_expired 2 now (oldest_left s newer oldest)) z) (sym (written s (newer ++ oldest ∷ []) is))

empty_stale : (rate now most : ℕ) → stale_leaving rate now most [] ≡ 0
empty_stale rate now zero = refl
empty_stale rate now (suc most) = refl

none_left : (s : ReqState) → with_parts s (evict slab_store (parts_of s) 0) ≡ s
none_left s = ap (λ (p : State Slab). with_parts s p) (evict-none slab_store s.table s.slab)

pub none_expires-law : NoneExpiresLaw
none_expires-law s now = (
  none_left s,
  λ empty most. ap (λ (k : ℕ). with_parts s (evict slab_store (parts_of s) k)) (ap (λ (xs : List ReqEntry). stale_leaving s.rate now most (reverse xs)) empty ∙ empty_stale s.rate now most) ∙ none_left s,
  λ empty. ap (λ (k : ℕ). with_parts s (evict slab_store (parts_of s) k)) (ap (λ (xs : List ReqEntry). forced_leaving s.rate now xs) empty) ∙ none_left s,
)

pub first_step-law : FirstStepLaw
first_step-law s now = refl

-- ---- and the zone stays whole

pub oldest_whole-law : OldestWholeLaw
oldest_whole-law s newer oldest whole is =
    let t = with_table s (newer ++ oldest ∷ []) in
    let w : IsWhole t = subst IsWhole (written s (newer ++ oldest ∷ []) is) whole in
    let one : 1 ≤ length (newer ++ oldest ∷ []) = omega (arith, length-append newer (oldest ∷ [])) in
    subst (λ (p : State Slab). IsWhole (with_parts s p)) (evict-oldest slab_store newer oldest s.slab 0 ∙ evict-none slab_store newer (give_back s.slab oldest.block)) (whole_evict t 1 w one)

pub asked_whole-law : AskedWholeLaw
asked_whole-law s size whole some none = whole_none s size whole some none

pub admitted_whole-law : AdmittedWholeLaw
admitted_whole-law s key now last at whole missing given = whole_new s key now at last whole (missing_none key s.table missing) given (new_entry key now last at) (own_key last) (own_block last) where
  own_key : (last : Bool) → (new_entry key now last at).key ≡ key
  own_key true = refl
  own_key false = refl

  own_block : (last : Bool) → (new_entry key now last at).block ≡ at
  own_block true = refl
  own_block false = refl

pub call_whole-law : CallWholeLaw
call_whole-law s call whole ready = (call_becomes s call whole ready.asked).whole
