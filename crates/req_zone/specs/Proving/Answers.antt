-- What calls are answered, and which entries stay.
use Rattle.std.proofs.Common.{ℕ, ◌≡◌, ◌+◌, ◌-◌, ◌<◌, ◌≤◌, ◌⊎◌, Bool, true, false, cond, eqb, ltb, List, [], ◌∷◌, ◌++◌, length, take, reverse, find, Option, Some, None, refl, sym, ap, ◌∙◌, inl, inr, arith}
use Rattle.std.proofs.lemmas.Bool.{lt-ltb, le-ltb, ltb-true, ltb-false}
use Rattle.std.proofs.lemmas.List.Elements.{All-nil, All-head, All-contains, Contains-append_left, Contains-append_right, Contains-append_cases, Contains-push, Contains-push_cases}
use Rattle.std.proofs.lemmas.List.Sorted.{All-permutation, Contains-permutation}
use Rattle.std.specs.List.{All, Contains}
use Rattle.std.proofs.lemmas.Grind.{common_steps}
use Rattle.slab_model.specs.State.{Slab}
use Rattle.slab_model.specs.Grant.{grant}
use Rattle.slab_model.specs.Store.{slab_store}
use Rattle.req_zone.specs.declared.state.ReqEntry.{ReqEntry}
use Rattle.req_zone.specs.declared.state.ReqState.{ReqState}
use Rattle.req_zone.specs.declared.calls.ReqCall.TheVariants.{Check, Account, Release}
use Rattle.req_zone.specs.declared.calls.ReqReply.{ReqReply}
use Rattle.req_zone.specs.declared.calls.ReqReply.TheVariants.{Busy, NoRoom}
use Rattle.req_zone.specs.Amount.{amount_of}
use Rattle.req_zone.specs.Table.{entry_of, others}
use Rattle.req_zone.specs.Expiry.{first_leaving, forced_leaving, without_oldest}
use Rattle.req_zone.specs.State.{State}
use Rattle.req_zone.specs.Step.{node_size, stored, with_count, within_burst, check_found, new_entry, new_reply, after_second, after_first, check_as, change_at, account_amount}
use Rattle.req_zone.specs.Object.{parts_of, with_parts, answer_of, zone_after, HasRoom, IsExcess, CanCheck}
use Rattle.req_zone.specs.Laws.{with_table, IsWithinBurst, PassLaw, AgainLaw, admitted, FirstRoomLaw, SecondRoomLaw, IsAboveBurst, BusyLaw, BusyKeepsLaw, first_expired, forced_expired, asked_for, before_second, HasNoRoom, NoRoomLaw, NoRoomLeavesLaw, IsStillIn, HeldStaysLaw, AnswerLaw}
use Rattle.req_zone.specs.Proving.Tables.{found_permutes, evicted_permutes}
use Rattle.req_zone.specs.Proving.Expired.{IsFree, first_within, forced_within, first_free, forced_free}
use Rattle.req_zone.specs.Proving.CallEffects.{amount_le, find_all}

-- ---- replies that are told apart

busy_same : (a b : ℕ) → Busy a ≡ Busy b → a ≡ b
busy_same a b h = ap (λ (r : ReqReply). busy_in r) h where
  busy_in : ReqReply → ℕ
  busy_in (Busy excess) = excess
  busy_in reply = 0

no_room_same : (a b : ℕ) → NoRoom a ≡ NoRoom b → a ≡ b
no_room_same a b h = ap (λ (r : ReqReply). evicted_in r) h where
  evicted_in : ReqReply → ℕ
  evicted_in (NoRoom evicted) = evicted
  evicted_in reply = 0

new_not_busy : (last : Bool) (at excess : ℕ) → new_reply last at ≡ Busy excess → ⊥
new_not_busy true at excess h = absurd (cc)
new_not_busy false at excess h = absurd (cc)

new_not_full : (last : Bool) (at evicted : ℕ) → new_reply last at ≡ NoRoom evicted → ⊥
new_not_full true at evicted h = absurd (cc)
new_not_full false at evicted h = absurd (cc)

-- ---- busy

second_not_busy : (key : List ℕ) (now : ℕ) (last : Bool) (evicted : ℕ) (table : List ReqEntry) (o : Option ℕ) (slab : Slab) (excess : ℕ) → (after_second key now last evicted table o slab).0 ≡ Busy excess → ⊥
second_not_busy key now last evicted table None slab excess h = absurd (cc)
second_not_busy key now last evicted table (Some at) slab excess h = new_not_busy last at excess h

first_not_busy : (rate : ℕ) (key : List ℕ) (now : ℕ) (last : Bool) (evicted : ℕ) (table : List ReqEntry) (o : Option ℕ) (slab : Slab) (excess : ℕ) → (after_first slab_store rate key now last evicted table o slab).0 ≡ Busy excess → ⊥
first_not_busy rate key now last evicted table None slab excess h = second_not_busy key now last _ _ _ _ excess h
first_not_busy rate key now last evicted table (Some at) slab excess h = new_not_busy last at excess h

burst_not_busy : (amount now : ℕ) (last : Bool) (e : ReqEntry) (rest : List ReqEntry) (excess : ℕ) → (within_burst amount now last e rest).0 ≡ Busy excess → ⊥
burst_not_busy amount now true e rest excess h = absurd (cc)
burst_not_busy amount now false e rest excess h = absurd (cc)

above : (burst amount now : ℕ) (last : Bool) (e : ReqEntry) (rest : List ReqEntry) (excess : ℕ) (b : Bool) → ltb burst amount ≡ b → (cond b (Busy amount, e ∷ rest) (within_burst amount now last e rest)).0 ≡ Busy excess → (burst < excess) × (excess ≡ amount)
above burst amount now last e rest excess true is h = let same = busy_same amount excess h in let more = ltb-true burst amount is in (omega (arith, same, more), sym same)
above burst amount now last e rest excess false is h = absurd (burst_not_busy amount now last e rest excess h)

is_above : (s : ReqState) (key : List ℕ) (now burst : ℕ) (last : Bool) (excess : ℕ) (o : Option ReqEntry) → entry_of key s.table ≡ o → (check_as slab_store s.rate key now burst last (parts_of s) o).0 ≡ Busy excess → (entry : ReqEntry) × IsAboveBurst s key now burst excess entry
is_above s key now burst last excess None is h =
    let left = first_expired s now in
    let g = grant left.slab (node_size + length key) in
    absurd (first_not_busy s.rate key now last (first_leaving s.rate now s.table) left.table g.0 g.1 excess h)
is_above s key now burst last excess (Some e) is h =
    let amount = amount_of s.rate e.excess e.last now in
    let x = above burst amount now last e (others key s.table) excess (ltb burst amount) refl h in
    (e, record { found = is; above = x.0; amount = x.1 })

busy_found : (s : ReqState) (key : List ℕ) (now burst : ℕ) (last : Bool) (excess : ℕ) (e : ReqEntry) → IsAboveBurst s key now burst excess e → check_found s.rate now burst last e (others key s.table) ≡ (Busy excess, e ∷ others key s.table)
busy_found s key now burst last excess e a =
    let amount = amount_of s.rate e.excess e.last now in
    let more : ltb burst amount ≡ true = lt-ltb burst amount (let x = a.above in let y = a.amount in omega (arith, x, y)) in
    ap (λ (b : Bool). cond b (Busy amount, e ∷ others key s.table) (within_burst amount now last e (others key s.table))) more
    ∙ ap (λ (n : ℕ). let r : ReqReply × List ReqEntry = (Busy n, e ∷ others key s.table) in r) (sym a.amount)

pub busy-law : BusyLaw
busy-law s key now burst last excess = (
  λ h. is_above s key now burst last excess (entry_of key s.table) refl h,
  λ x. ap (λ (o : Option ReqEntry). (check_as slab_store s.rate key now burst last (parts_of s) o).0) x.1.found ∙ ap (λ (f : ReqReply × List ReqEntry). f.0) (busy_found s key now burst last excess x.0 x.1),
)

pub busy_keeps-law : BusyKeepsLaw
busy_keeps-law s key now burst last excess entry a =
    ap (λ (o : Option ReqEntry). with_parts s (check_as slab_store s.rate key now burst last (parts_of s) o).1) a.found
    ∙ ap (λ (f : ReqReply × List ReqEntry). with_parts s (record { table = f.1; memory = s.slab })) (busy_found s key now burst last excess entry a)

-- ---- within the burst

inside_found : (s : ReqState) (key : List ℕ) (now burst excess : ℕ) (last : Bool) (e : ReqEntry) → IsWithinBurst s key now burst excess e → check_found s.rate now burst last e (others key s.table) ≡ within_burst excess now last e (others key s.table)
inside_found s key now burst excess last e a =
    let amount = amount_of s.rate e.excess e.last now in
    let less : ltb burst amount ≡ false = le-ltb burst amount (let x = a.within in let y = a.amount in omega (arith, x, y)) in
    ap (λ (b : Bool). cond b (Busy amount, e ∷ others key s.table) (within_burst amount now last e (others key s.table))) less
    ∙ ap (λ (n : ℕ). within_burst n now last e (others key s.table)) (sym a.amount)

inside_is : (s : ReqState) (key : List ℕ) (now burst excess : ℕ) (last : Bool) (e : ReqEntry) → IsWithinBurst s key now burst excess e
    → (answer_of s (Check key now burst last) ≡ (within_burst excess now last e (others key s.table)).0) × (zone_after s (Check key now burst last) ≡ with_table s (within_burst excess now last e (others key s.table)).1)
inside_is s key now burst excess last e a = (
  ap (λ (o : Option ReqEntry). (check_as slab_store s.rate key now burst last (parts_of s) o).0) a.found ∙ ap (λ (f : ReqReply × List ReqEntry). f.0) (inside_found s key now burst excess last e a),
  ap (λ (o : Option ReqEntry). with_parts s (check_as slab_store s.rate key now burst last (parts_of s) o).1) a.found ∙ ap (λ (f : ReqReply × List ReqEntry). with_table s f.1) (inside_found s key now burst excess last e a),
)

pub pass-law : PassLaw
pass-law s key now burst excess e a = inside_is s key now burst excess true e a

pub again-law : AgainLaw
again-law s key now burst excess e a = inside_is s key now burst excess false e a

-- ---- no room

burst_not_full : (amount now : ℕ) (last : Bool) (e : ReqEntry) (rest : List ReqEntry) (evicted : ℕ) → (within_burst amount now last e rest).0 ≡ NoRoom evicted → ⊥
burst_not_full amount now true e rest evicted h = absurd (cc)
burst_not_full amount now false e rest evicted h = absurd (cc)

found_not_full : (amount now : ℕ) (last : Bool) (e : ReqEntry) (rest : List ReqEntry) (evicted : ℕ) (b : Bool) → (cond b (Busy amount, e ∷ rest) (within_burst amount now last e rest)).0 ≡ NoRoom evicted → ⊥
found_not_full amount now last e rest evicted true h = absurd (cc)
found_not_full amount now last e rest evicted false h = burst_not_full amount now last e rest evicted h

second_full : (key : List ℕ) (now : ℕ) (last : Bool) (n : ℕ) (table : List ReqEntry) (o : Option ℕ) (slab : Slab) (evicted : ℕ) → (after_second key now last n table o slab).0 ≡ NoRoom evicted → (o ≡ None) × (evicted ≡ n)
second_full key now last n table None slab evicted h = (refl, sym (no_room_same n evicted h))
second_full key now last n table (Some at) slab evicted h = absurd (new_not_full last at evicted h)

first_full : (s : ReqState) (key : List ℕ) (now : ℕ) (last : Bool) (n : ℕ) (o : Option ℕ) (slab : Slab) (evicted : ℕ) → (after_first slab_store s.rate key now last n s.table o slab).0 ≡ NoRoom evicted
    → (o ≡ None) × ((grant (forced_expired (with_parts s (record { table = s.table; memory = slab })) now).slab (node_size + length key)).0 ≡ None) × (evicted ≡ n + forced_leaving s.rate now s.table)
first_full s key now last n None slab evicted h = let x = second_full key now last _ _ _ _ evicted h in (refl, x.0, x.1)
first_full s key now last n (Some at) slab evicted h = absurd (new_not_full last at evicted h)

is_full : (s : ReqState) (key : List ℕ) (now burst : ℕ) (last : Bool) (evicted : ℕ) (o : Option ReqEntry) → entry_of key s.table ≡ o → (check_as slab_store s.rate key now burst last (parts_of s) o).0 ≡ NoRoom evicted → HasNoRoom s key now evicted
is_full s key now burst last evicted None is h =
    let left = first_expired s now in
    let g = grant left.slab (node_size + length key) in
    let x = first_full left key now last (first_leaving s.rate now s.table) g.0 g.1 evicted h in
    record { missing = is; before = x.0; after = x.1; left = x.2 }
is_full s key now burst last evicted (Some e) is h =
    let amount = amount_of s.rate e.excess e.last now in
    absurd (found_not_full amount now last e (others key s.table) evicted (ltb burst amount) h)

-- what the check comes to there
full_is : (s : ReqState) (key : List ℕ) (now burst : ℕ) (last : Bool) (evicted : ℕ) → HasNoRoom s key now evicted
    → check_as slab_store s.rate key now burst last (parts_of s) (entry_of key s.table) ≡ (NoRoom evicted, parts_of (asked_for (before_second s now (node_size + length key)) (node_size + length key)))
full_is s key now burst last evicted full =
    let size = node_size + length key in
    let left = first_expired s now in
    let g = grant left.slab size in
    let n = first_leaving s.rate now s.table in
    let second = before_second s now size in
    let again = grant second.slab size in
    let m = forced_leaving s.rate now left.table in
    ap (λ (o : Option ReqEntry). check_as slab_store s.rate key now burst last (parts_of s) o) full.missing
    ∙ ap (λ (o : Option ℕ). after_first slab_store s.rate key now last n left.table o g.1) full.before
    ∙ ap (λ (o : Option ℕ). after_second key now last (n + m) second.table o again.1) full.after
    ∙ ap (λ (k : ℕ). let r : ReqReply × State Slab = (NoRoom k, parts_of (asked_for second size)) in r) (sym full.left)

pub no_room-law : NoRoomLaw
no_room-law s key now burst last evicted = (
  λ h. is_full s key now burst last evicted (entry_of key s.table) refl h,
  λ full. ap (λ (r : ReqReply × State Slab). r.0) (full_is s key now burst last evicted full),
)

pub no_room_leaves-law : NoRoomLeavesLaw
no_room_leaves-law s key now burst last evicted full = ap (λ (r : ReqReply × State Slab). with_parts s r.1) (full_is s key now burst last evicted full)

-- ---- room

first_is : (s : ReqState) (key : List ℕ) (now burst : ℕ) (last : Bool) (at : ℕ) → entry_of key s.table ≡ None → (grant (first_expired s now).slab (node_size + length key)).0 ≡ Some at
    → check_as slab_store s.rate key now burst last (parts_of s) (entry_of key s.table) ≡ (new_reply last at, parts_of (admitted (first_expired s now) key now last at))
first_is s key now burst last at missing given =
    let left = first_expired s now in
    let g = grant left.slab (node_size + length key) in
    ap (λ (o : Option ReqEntry). check_as slab_store s.rate key now burst last (parts_of s) o) missing
    ∙ ap (λ (o : Option ℕ). after_first slab_store s.rate key now last (first_leaving s.rate now s.table) left.table o g.1) given

second_is : (s : ReqState) (key : List ℕ) (now burst : ℕ) (last : Bool) (at : ℕ) → entry_of key s.table ≡ None → (grant (first_expired s now).slab (node_size + length key)).0 ≡ None → (grant (before_second s now (node_size + length key)).slab (node_size + length key)).0 ≡ Some at
    → check_as slab_store s.rate key now burst last (parts_of s) (entry_of key s.table) ≡ (new_reply last at, parts_of (admitted (before_second s now (node_size + length key)) key now last at))
second_is s key now burst last at missing none given =
    let size = node_size + length key in
    let left = first_expired s now in
    let g = grant left.slab size in
    let second = before_second s now size in
    let again = grant second.slab size in
    ap (λ (o : Option ReqEntry). check_as slab_store s.rate key now burst last (parts_of s) o) missing
    ∙ ap (λ (o : Option ℕ). after_first slab_store s.rate key now last (first_leaving s.rate now s.table) left.table o g.1) none
    ∙ ap (λ (o : Option ℕ). after_second key now last (first_leaving s.rate now s.table + forced_leaving s.rate now left.table) second.table o again.1) given

pub first_room-law : FirstRoomLaw
first_room-law s key now burst last at missing given =
    let is = first_is s key now burst last at missing given in
    (ap (λ (r : ReqReply × State Slab). r.0) is, ap (λ (r : ReqReply × State Slab). with_parts s r.1) is)

pub second_room-law : SecondRoomLaw
second_room-law s key now burst last at missing none given =
    let is = second_is s key now burst last at missing none given in
    (ap (λ (r : ReqReply × State Slab). r.0) is, ap (λ (r : ReqReply × State Slab). with_parts s r.1) is)

-- ---- what a call can be answered

new_can : (entries burst : ℕ) (last : Bool) (at : ℕ) → CanCheck entries burst last (new_reply last at)
new_can entries burst true at = (omega arith, omega arith)
new_can entries burst false at = (omega arith, omega arith)

full_can : (entries burst : ℕ) (last : Bool) (evicted : ℕ) → evicted ≤ entries → CanCheck entries burst last (NoRoom evicted)
full_can entries burst true evicted h = h
full_can entries burst false evicted h = h

busy_can : (entries burst : ℕ) (last : Bool) (excess : ℕ) → burst < excess → IsExcess excess → CanCheck entries burst last (Busy excess)
busy_can entries burst true excess h k = (h, k)
busy_can entries burst false excess h k = (h, k)

burst_can : (entries burst amount now : ℕ) (last : Bool) (e : ReqEntry) (rest : List ReqEntry) → amount ≤ burst → IsExcess amount → CanCheck entries burst last (within_burst amount now last e rest).0
burst_can entries burst amount now true e rest h small = (h, small)
burst_can entries burst amount now false e rest h small = (h, small)

found_can : (entries burst amount now : ℕ) (last : Bool) (e : ReqEntry) (rest : List ReqEntry) → IsExcess amount → (b : Bool) → ltb burst amount ≡ b → CanCheck entries burst last (cond b (Busy amount, e ∷ rest) (within_burst amount now last e rest)).0
found_can entries burst amount now last e rest small true is = busy_can entries burst last amount (ltb-true burst amount is) small
found_can entries burst amount now last e rest small false is = burst_can entries burst amount now last e rest (ltb-false burst amount is) small

second_can : (entries burst : ℕ) (key : List ℕ) (now : ℕ) (last : Bool) (evicted : ℕ) (table : List ReqEntry) (o : Option ℕ) (slab : Slab) → evicted ≤ entries → CanCheck entries burst last (after_second key now last evicted table o slab).0
second_can entries burst key now last evicted table None slab h = full_can entries burst last evicted h
second_can entries burst key now last evicted table (Some at) slab h = new_can entries burst last at

first_can : (entries burst rate : ℕ) (key : List ℕ) (now : ℕ) (last : Bool) (evicted : ℕ) (table : List ReqEntry) (o : Option ℕ) (slab : Slab) → evicted + forced_leaving rate now table ≤ entries → CanCheck entries burst last (after_first slab_store rate key now last evicted table o slab).0
first_can entries burst rate key now last evicted table None slab h = second_can entries burst key now last (evicted + forced_leaving rate now table) _ _ _ h
first_can entries burst rate key now last evicted table (Some at) slab h = new_can entries burst last at

left_length : (n : ℕ) (table : List ReqEntry) → n ≤ length table → length (without_oldest n table) ≡ length table - n
left_length n table h = grind (arith, common_steps)

small_amount : (rate now : ℕ) (e : ReqEntry) → HasRoom e → IsExcess (amount_of rate e.excess e.last now)
small_amount rate now e r = let x = r.excess in omega (arith, x, amount_le rate e.excess e.last now)

check_can : (s : ReqState) (key : List ℕ) (now burst : ℕ) (last : Bool) → All HasRoom s.table → (o : Option ReqEntry) → entry_of key s.table ≡ o → CanCheck (length s.table) burst last (check_as slab_store s.rate key now burst last (parts_of s) o).0
check_can s key now burst last room None is =
    let n = first_leaving s.rate now s.table in
    let left = first_expired s now in
    let within = first_within s.rate now s.table in
    let size = left_length n s.table within in
    let g = grant left.slab (node_size + length key) in
    first_can (length s.table) burst s.rate key now last n left.table g.0 g.1 (omega (arith, within, size, forced_within s.rate now left.table))
check_can s key now burst last room (Some e) is =
    let amount = amount_of s.rate e.excess e.last now in
    let order = found_permutes key s.table e is in
    found_can (length s.table) burst amount now last e (others key s.table) (small_amount s.rate now e (All-head HasRoom e (others key s.table) (All-permutation HasRoom s.table (e ∷ others key s.table) order room))) (ltb burst amount) refl

account_can : (rate now : ℕ) (table : List ReqEntry) (p : ReqEntry → Bool) → All HasRoom table → (o : Option ReqEntry) → find p table ≡ o → IsExcess (account_amount rate now o)
account_can rate now table p room None is = omega arith
account_can rate now table p room (Some e) is = small_amount rate now e (find_all HasRoom p table e is room)

pub answer-law : AnswerLaw
answer-law s (Check key now burst last) r = check_can s key now burst last r.room (entry_of key s.table) refl
answer-law s (Account at now) r = account_can s.rate now s.table (λ (entry : ReqEntry). eqb entry.block at) r.room _ refl
answer-law s (Release at) r = tt

-- ---- entries that are held

in_front : (e : ReqEntry) (es : List ReqEntry) → Contains (e ∷ es) e
in_front e es = Contains-append_left (e ∷ []) es e (Contains-push [] e)

behind : (x : ReqEntry) (es : List ReqEntry) (e : ReqEntry) → Contains es e → Contains (x ∷ es) e
behind x es e h = Contains-append_right (x ∷ []) es e h

none_in : (e : ReqEntry) → Contains [] e → ⊥
none_in e h = All-contains (λ (x : ReqEntry). ⊥) [] e (All-nil (λ (x : ReqEntry). ⊥)) h

in_cases : (x : ReqEntry) (es : List ReqEntry) (e : ReqEntry) → Contains (x ∷ es) e → (x ≡ e) ⊎ Contains es e
in_cases x es e h = elim (Contains-append_cases (x ∷ []) es e h) [
  | inl one ↦ elim (Contains-push_cases [] x e one) [
    | inl none ↦ absurd (none_in e none)
    | inr same ↦ inl same
  ]
  | inr rest ↦ inr rest
]

still : (table : List ReqEntry) (e : ReqEntry) → Contains table e → IsStillIn table e
still table e h = record { kept = e; there = h; key = refl; block = refl }

evict_stays : (s : ReqState) (n : ℕ) (e : ReqEntry) → n ≤ length s.table → All IsFree (take n (reverse s.table)) → 0 < e.count → Contains s.table e → Contains (without_oldest n s.table) e
evict_stays s n e within free held h = elim (Contains-append_cases (without_oldest n s.table) (take n (reverse s.table)) e (Contains-permutation s.table (without_oldest n s.table ++ take n (reverse s.table)) e (evicted_permutes n s.table within) h)) [
  | inl stays ↦ stays
  | inr gone ↦ let none : IsFree e = All-contains IsFree (take n (reverse s.table)) e free gone in absurd (omega (arith, none, held))
]

second_stays : (key : List ℕ) (now : ℕ) (last : Bool) (evicted : ℕ) (table : List ReqEntry) (o : Option ℕ) (slab : Slab) (e : ReqEntry) → Contains table e → Contains (after_second key now last evicted table o slab).1.table e
second_stays key now last evicted table None slab e h = h
second_stays key now last evicted table (Some at) slab e h = behind (new_entry key now last at) table e h

first_stays : (s : ReqState) (key : List ℕ) (now : ℕ) (last : Bool) (evicted : ℕ) (o : Option ℕ) (slab : Slab) (e : ReqEntry) → 0 < e.count → Contains s.table e → Contains (after_first slab_store s.rate key now last evicted s.table o slab).1.table e
first_stays s key now last evicted None slab e held h = second_stays key now last _ _ _ _ e (evict_stays s (forced_leaving s.rate now s.table) e (forced_within s.rate now s.table) (forced_free s.rate now s.table) held h)
first_stays s key now last evicted (Some at) slab e held h = behind (new_entry key now last at) s.table e h

front_stays : (x y : ReqEntry) (rest : List ReqEntry) (e : ReqEntry) → y.key ≡ x.key → y.block ≡ x.block → Contains (x ∷ rest) e → IsStillIn (y ∷ rest) e
front_stays x y rest e key block h = elim (in_cases x rest e h) [
  | inl same ↦ record { kept = y; there = in_front y rest; key = key ∙ ap (λ (z : ReqEntry). z.key) same; block = block ∙ ap (λ (z : ReqEntry). z.block) same }
  | inr there ↦ still (y ∷ rest) e (behind y rest e there)
]

burst_stays : (amount now : ℕ) (last : Bool) (x : ReqEntry) (rest : List ReqEntry) (e : ReqEntry) → Contains (x ∷ rest) e → IsStillIn (within_burst amount now last x rest).1 e
burst_stays amount now true x rest e h = front_stays x (stored amount now x) rest e refl refl h
burst_stays amount now false x rest e h = front_stays x (with_count (x.count + 1) x) rest e refl refl h

found_stays : (amount now : ℕ) (last : Bool) (x : ReqEntry) (rest : List ReqEntry) (e : ReqEntry) (b : Bool) → Contains (x ∷ rest) e → IsStillIn (cond b (Busy amount, x ∷ rest) (within_burst amount now last x rest)).1 e
found_stays amount now last x rest e true h = still (x ∷ rest) e h
found_stays amount now last x rest e false h = burst_stays amount now last x rest e h

check_stays : (s : ReqState) (key : List ℕ) (now burst : ℕ) (last : Bool) (e : ReqEntry) → Contains s.table e → 0 < e.count → (o : Option ReqEntry) → entry_of key s.table ≡ o → IsStillIn (check_as slab_store s.rate key now burst last (parts_of s) o).1.table e
check_stays s key now burst last e h held None is =
    let left = first_expired s now in
    let g = grant left.slab (node_size + length key) in
    let kept = evict_stays s (first_leaving s.rate now s.table) e (first_within s.rate now s.table) (first_free s.rate now s.table) held h in
    still _ e (first_stays left key now last (first_leaving s.rate now s.table) g.0 g.1 e held kept)
check_stays s key now burst last e h held (Some x) is =
    let amount = amount_of s.rate x.excess x.last now in
    found_stays amount now last x (others key s.table) e (ltb burst amount) (Contains-permutation s.table (x ∷ others key s.table) e (found_permutes key s.table x is) h)

change_stays : (at : ℕ) (f : ReqEntry → ReqEntry) → ((x : ReqEntry) → (f x).key ≡ x.key) → ((x : ReqEntry) → (f x).block ≡ x.block) → (table : List ReqEntry) (e : ReqEntry) → Contains table e → IsStillIn (change_at at f table) e
change_stays at f key block [] e h = absurd (none_in e h)
change_stays at f key block (x ∷ xs) e h = go (eqb x.block at) (λ k. change_stays at f key block xs e k) where
  longer : (y : ReqEntry) (table : List ReqEntry) → IsStillIn table e → IsStillIn (y ∷ table) e
  longer y table s = record { kept = s.kept; there = behind y table s.kept s.there; key = s.key; block = s.block }

  go : (b : Bool) → (Contains xs e → IsStillIn (change_at at f xs) e) → IsStillIn (cond b (f x ∷ xs) (x ∷ change_at at f xs)) e
  go true rest = front_stays x (f x) xs e (key x) (block x) h
  go false rest = elim (in_cases x xs e h) [
    | inl same ↦ record { kept = x; there = in_front x (change_at at f xs); key = ap (λ (z : ReqEntry). z.key) same; block = ap (λ (z : ReqEntry). z.block) same }
    | inr there ↦ longer x (change_at at f xs) (rest there)
  ]

pub held_stays-law : HeldStaysLaw
held_stays-law s (Check key now burst last) e h held = check_stays s key now burst last e h held (entry_of key s.table) refl
held_stays-law s (Account at now) e h held = change_stays at _ (λ x. refl) (λ x. refl) s.table e h
held_stays-law s (Release at) e h held = change_stays at _ (λ x. refl) (λ x. refl) s.table e h
