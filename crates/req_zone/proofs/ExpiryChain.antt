-- Entries leave one after another, and what a zone has before is there afterwards.
use Rattle.std.proofs.Common.{ℕ, zero, suc, ◌≡◌, ◌+◌, ◌-◌, ◌<◌, ◌≤◌, ◌&&◌, Bool, true, false, cond, eqb, List, [], ◌∷◌, ◌++◌, length, take, reverse, Some, None, refl, sym, ap, subst, ◌∙◌, arith}
use Rattle.std.proofs.lemmas.List.Elements.{All-take}
use Rattle.std.proofs.lemmas.Grind.{common_steps}
use Rattle.std.specs.List.{All}
use Rattle.offset_tree.specs.Bounds.{search_cost}
use Rattle.offset_tree.proofs.BoundLemmas.{search_cost-rises}
use Rattle.slab_model.specs.Grant.{grant}
use Rattle.req_zone.specs.declared.state.ReqEntry.{ReqEntry}
use Rattle.req_zone.specs.declared.state.ReqState.{ReqState}
use Rattle.req_zone.specs.declared.calls.ReqCall.TheVariants.{Check}
use Rattle.req_zone.specs.declared.calls.ReqReply.TheVariants.{NoRoom}
use Rattle.req_zone.specs.Table.{has_key, entry_of, is_stale}
use Rattle.req_zone.specs.Expiry.{stale_leaving, first_leaving, forced_from, forced_leaving}
use Rattle.req_zone.specs.Step.{node_size, new_reply}
use Rattle.req_zone.specs.Object.{answer_of, zone_after, HasRoom}
use Rattle.req_zone.specs.Laws.{stale_expired, forced_expired, first_expired, oldest_left, asked_for, admitted, before_second, HasNoRoom}
use Rattle.req_zone.specs.Proving.Oldest.{none_expires-law, stale_step-law, forced_step-law}
use Rattle.req_zone.specs.Proving.Answers.{first_room-law, second_room-law, no_room-law, no_room_leaves-law}
use Rattle.req_zone.proofs.ExpiryLemmas.{oldest_first}

-- ---- one expiry, entry by entry

-- none may leave
pub none_may : (s : ReqState) (now most : ℕ) → most ≡ 0 → (stale_expired most now s ≡ s) × (0 ≡ stale_leaving s.rate now most (reverse s.table))
none_may s now most none = (
  ap (λ (k : ℕ). stale_expired k now s) none ∙ (none_expires-law s now).0,
  sym (ap (λ (k : ℕ). stale_leaving s.rate now k (reverse s.table)) none),
)

nothing_stale : (rate now most : ℕ) → stale_leaving rate now most [] ≡ 0
nothing_stale rate now zero = refl
nothing_stale rate now (suc most) = refl

-- there is none
pub none_there : (s : ReqState) (now most : ℕ) → s.table ≡ [] → (stale_expired most now s ≡ s) × (0 ≡ stale_leaving s.rate now most (reverse s.table))
none_there s now most empty = (
  (none_expires-law s now).1 empty most,
  sym (ap (λ (table : List ReqEntry). stale_leaving s.rate now most (reverse table)) empty ∙ nothing_stale s.rate now most),
)

one_less : (most : ℕ) → 0 < most → most ≡ 1 + (most - 1)
one_less most some = omega arith

leaving : (rate now most : ℕ) (table newer : List ReqEntry) (oldest : ReqEntry) → 0 < most → table ≡ newer ++ oldest ∷ [] → stale_leaving rate now most (reverse table) ≡ cond (eqb oldest.count 0 && is_stale rate now oldest) (1 + stale_leaving rate now (most - 1) (reverse newer)) 0
leaving rate now zero table newer oldest some is = absurd (omega (arith, some))
leaving rate now (suc most) table newer oldest some is =
    let less : suc most - 1 ≡ most = omega arith in
    ap (λ (xs : List ReqEntry). stale_leaving rate now (suc most) xs) (oldest_first table newer oldest is)
    ∙ ap (λ (k : ℕ). cond (eqb oldest.count 0 && is_stale rate now oldest) (1 + stale_leaving rate now k (reverse newer)) 0) (sym less)

-- the oldest stays
pub stays : (s : ReqState) (now most : ℕ) (newer : List ReqEntry) (oldest : ReqEntry) → 0 < most → s.table ≡ newer ++ oldest ∷ [] → (eqb oldest.count 0 && is_stale s.rate now oldest) ≡ false → (stale_expired most now s ≡ s) × (0 ≡ stale_leaving s.rate now most (reverse s.table))
stays s now most newer oldest some is test = (
  ap (λ (k : ℕ). stale_expired k now s) (one_less most some) ∙ stale_step-law s now (most - 1) newer oldest is
      ∙ ap (λ (b : Bool). cond b (stale_expired (most - 1) now (oldest_left s newer oldest)) s) test,
  sym (leaving s.rate now most s.table newer oldest some is ∙ ap (λ (b : Bool). cond b (1 + stale_leaving s.rate now (most - 1) (reverse newer)) 0) test),
)

-- the oldest leaves, and then the others may
pub leaves : (s : ReqState) (now most : ℕ) (newer : List ReqEntry) (oldest : ReqEntry) → 0 < most → s.table ≡ newer ++ oldest ∷ [] → (eqb oldest.count 0 && is_stale s.rate now oldest) ≡ true
    → (stale_expired most now s ≡ stale_expired (most - 1) now (oldest_left s newer oldest)) × (stale_leaving s.rate now most (reverse s.table) ≡ 1 + stale_leaving s.rate now (most - 1) (reverse newer))
leaves s now most newer oldest some is test = (
  ap (λ (k : ℕ). stale_expired k now s) (one_less most some) ∙ stale_step-law s now (most - 1) newer oldest is
      ∙ ap (λ (b : Bool). cond b (stale_expired (most - 1) now (oldest_left s newer oldest)) s) test,
  leaving s.rate now most s.table newer oldest some is ∙ ap (λ (b : Bool). cond b (1 + stale_leaving s.rate now (most - 1) (reverse newer)) 0) test,
)

-- ---- the forced expiry

-- there is none
pub none_forced : (s : ReqState) (now : ℕ) → s.table ≡ [] → (forced_expired s now ≡ s) × (0 ≡ forced_leaving s.rate now s.table)
none_forced s now empty = ((none_expires-law s now).2 empty, sym (ap (λ (table : List ReqEntry). forced_leaving s.rate now table) empty))

forced : (rate now : ℕ) (table newer : List ReqEntry) (oldest : ReqEntry) → table ≡ newer ++ oldest ∷ [] → forced_leaving rate now table ≡ cond (eqb oldest.count 0) (1 + stale_leaving rate now 2 (reverse newer)) 0
forced rate now table newer oldest is = ap (λ (xs : List ReqEntry). forced_from rate now xs) (oldest_first table newer oldest is)

-- the oldest is held
pub is_held : (s : ReqState) (now : ℕ) (newer : List ReqEntry) (oldest : ReqEntry) → s.table ≡ newer ++ oldest ∷ [] → eqb oldest.count 0 ≡ false → (forced_expired s now ≡ s) × (0 ≡ forced_leaving s.rate now s.table)
is_held s now newer oldest is held = (
  forced_step-law s now newer oldest is ∙ ap (λ (b : Bool). cond b (stale_expired 2 now (oldest_left s newer oldest)) s) held,
  sym (forced s.rate now s.table newer oldest is ∙ ap (λ (b : Bool). cond b (1 + stale_leaving s.rate now 2 (reverse newer)) 0) held),
)

-- it leaves
pub is_forced : (s : ReqState) (now : ℕ) (newer : List ReqEntry) (oldest : ReqEntry) → s.table ≡ newer ++ oldest ∷ [] → eqb oldest.count 0 ≡ true
    → (forced_expired s now ≡ stale_expired 2 now (oldest_left s newer oldest)) × (forced_leaving s.rate now s.table ≡ 1 + stale_leaving s.rate now 2 (reverse newer))
is_forced s now newer oldest is free = (
  forced_step-law s now newer oldest is ∙ ap (λ (b : Bool). cond b (stale_expired 2 now (oldest_left s newer oldest)) s) free,
  forced s.rate now s.table newer oldest is ∙ ap (λ (b : Bool). cond b (1 + stale_leaving s.rate now 2 (reverse newer)) 0) free,
)

-- ---- what stays

-- those that are newer have what all have
pub newer_all : (P : ReqEntry → Type 0) (table newer : List ReqEntry) (oldest : ReqEntry) → table ≡ newer ++ oldest ∷ [] → All P table → All P newer
newer_all P table newer oldest is h =
    let front : take (length newer) (newer ++ oldest ∷ []) ≡ newer = grind (arith, common_steps) in
    subst (λ (xs : List ReqEntry). All P xs) front (All-take P (length newer) (newer ++ oldest ∷ []) (subst (λ (xs : List ReqEntry). All P xs) is h))

-- a key that no entry has is no entry's of the first ones
pub none_among : (key : List ℕ) (n : ℕ) (table : List ReqEntry) → entry_of key table ≡ None → entry_of key (take n table) ≡ None
none_among key zero table none = refl
none_among key (suc n) [] none = refl
none_among key (suc n) (x ∷ xs) none = go (has_key key x) refl none (λ h. none_among key n xs h) where
  go : (b : Bool) → has_key key x ≡ b → cond b (Some x) (entry_of key xs) ≡ None → (entry_of key xs ≡ None → entry_of key (take n xs) ≡ None) → cond (has_key key x) (Some x) (entry_of key (take n xs)) ≡ None
  go true is h rest = absurd (cc)
  go false is h rest = ap (λ (b : Bool). cond b (Some x) (entry_of key (take n xs))) is ∙ rest h

fewer : (n : ℕ) (table : List ReqEntry) → length (take n table) ≤ length table
fewer n table = grind (arith, common_steps)

-- a search among the first ones costs no more
pub cheaper : (n len : ℕ) (table : List ReqEntry) → search_cost (length (take n table)) len ≤ search_cost (length table) len
cheaper n len table = search_cost-rises (length (take n table)) (length table) len (fewer n table)

-- ---- a missing key

-- what an expiry leaves: the key is missing still, each entry has room, and there is no more to search
pub record Left (s t : ReqState) (key : List ℕ) : Type 0 where
  pub missing : entry_of key s.table ≡ None → entry_of key t.table ≡ None
  pub room : All HasRoom s.table → All HasRoom t.table
  pub cost : search_cost (length t.table) (length key) ≤ search_cost (length s.table) (length key)

front_left : (s t : ReqState) (key : List ℕ) (n : ℕ) → t.table ≡ take n s.table → Left s t key
front_left s t key n is = record {
  missing = λ none. subst (λ (xs : List ReqEntry). entry_of key xs ≡ None) (sym is) (none_among key n s.table none);
  room = λ room. subst (λ (xs : List ReqEntry). All HasRoom xs) (sym is) (All-take HasRoom n s.table room);
  cost = subst (λ (xs : List ReqEntry). search_cost (length xs) (length key) ≤ search_cost (length s.table) (length key)) (sym is) (cheaper n (length key) s.table);
}

pub first_left : (s : ReqState) (now : ℕ) (key : List ℕ) → Left s (stale_expired 2 now s) key
first_left s now key = front_left s (stale_expired 2 now s) key (length s.table - stale_leaving s.rate now 2 (reverse s.table)) refl

pub forced_left : (s : ReqState) (now : ℕ) (key : List ℕ) → Left s (forced_expired s now) key
forced_left s now key = front_left s (forced_expired s now) key (length s.table - forced_leaving s.rate now s.table) refl

-- both expiries, with a first refusal between them
pub second_left : (s : ReqState) (now : ℕ) (key : List ℕ) → Left s (before_second s now (node_size + length key)) key
second_left s now key =
    let asked = asked_for (stale_expired 2 now s) (node_size + length key) in
    let one = first_left s now key in
    let two = forced_left asked now key in
    record {
      missing = λ none. two.missing (one.missing none);
      room = λ room. two.room (one.room room);
      cost = let a = one.cost in let b = two.cost in omega (arith, a, b);
    }

-- neither expiry makes room
pub no_room : (s : ReqState) (key : List ℕ) (now burst : ℕ) (last : Bool) (stale more : ℕ) → entry_of key s.table ≡ None → None ≡ (grant (stale_expired 2 now s).slab (node_size + length key)).0 → None ≡ (grant (before_second s now (node_size + length key)).slab (node_size + length key)).0
    → stale ≡ first_leaving s.rate now s.table → more ≡ forced_leaving s.rate now (first_expired s now).table
    → (answer_of s (Check key now burst last) ≡ NoRoom (stale + more)) × (zone_after s (Check key now burst last) ≡ asked_for (before_second s now (node_size + length key)) (node_size + length key))
no_room s key now burst last stale more missing before after one two =
    let full : HasNoRoom s key now (stale + more) = record { missing = missing; before = sym before; after = sym after; left = omega (arith, one, two) } in
    ((no_room-law s key now burst last (stale + more)).1 full, no_room_leaves-law s key now burst last (stale + more) full)

-- the first does
pub first_room : (s : ReqState) (key : List ℕ) (now burst : ℕ) (last : Bool) (at : ℕ) → entry_of key s.table ≡ None → Some at ≡ (grant (stale_expired 2 now s).slab (node_size + length key)).0
    → (answer_of s (Check key now burst last) ≡ new_reply last at) × (zone_after s (Check key now burst last) ≡ admitted (stale_expired 2 now s) key now last at)
first_room s key now burst last at missing given = first_room-law s key now burst last at missing (sym given)

-- the second does
pub second_room : (s : ReqState) (key : List ℕ) (now burst : ℕ) (last : Bool) (at : ℕ) → entry_of key s.table ≡ None → None ≡ (grant (stale_expired 2 now s).slab (node_size + length key)).0 → Some at ≡ (grant (before_second s now (node_size + length key)).slab (node_size + length key)).0
    → (answer_of s (Check key now burst last) ≡ new_reply last at) × (zone_after s (Check key now burst last) ≡ admitted (before_second s now (node_size + length key)) key now last at)
second_room s key now burst last at missing none given = second_room-law s key now burst last at missing (sym none) (sym given)
