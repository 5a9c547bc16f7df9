-- The calls of a request zone in its words: from what the small steps tell to what the call does.
use Rattle.std.proofs.Common.{ℕ, ◌≡◌, ◌+◌, ◌-◌, ◌<◌, ◌≤◌, ◌^◌, ◌&&◌, Bool, true, false, eqb, List, [], ◌∷◌, ◌++◌, length, reverse, Some, None, refl, sym, ap, subst, ◌∙◌}
use Rattle.std.proofs.lemmas.List.Elements.{All-head, All-tail}
use Rattle.std.specs.List.{All}
use Rattle.slab_model.specs.Grant.{grant}
use Rattle.req_zone.specs.declared.numbers.Numbers.{Numbers}
use Rattle.req_zone.specs.declared.words.ReqWords.{ReqWords}
use Rattle.req_zone.specs.declared.state.ReqEntry.{ReqEntry}
use Rattle.req_zone.specs.declared.state.ReqState.{ReqState}
use Rattle.req_zone.specs.declared.calls.ReqCall.TheVariants.{Check, Account, Release}
use Rattle.req_zone.specs.declared.calls.ReqReply.TheVariants.{Pass, Again, Busy, NoRoom, Accounted}
use Rattle.req_zone.specs.Amount.{IsRate, IsMoment, amount_of}
use Rattle.req_zone.specs.Table.{entry_of, is_stale}
use Rattle.req_zone.specs.Expiry.{stale_leaving, forced_leaving}
use Rattle.req_zone.specs.Step.{node_size, stored, with_count, new_reply}
use Rattle.req_zone.specs.Object.{answer_of, zone_after, HasRoom, Ready, holds_at}
use Rattle.req_zone.specs.Laws.{with_table, stale_expired, forced_expired, oldest_left, asked_for, admitted, before_second, IsHeldBy}
use Rattle.req_zone.specs.Lays.{Lays, IsFound, StandsAt, IsNode, numbers_of, with_numbers}
use Rattle.req_zone.specs.Proving.CallEffects.{find_all}
use Rattle.req_zone.specs.Proving.Named.{held_entry-law}
use Rattle.req_zone.proofs.CheckLemmas.{Parts, parts, Place, place, accounted, released, busy, passes, holds}
use Rattle.req_zone.proofs.ExpiryChain.{none_may, stays, leaves, none_there, none_forced, is_held, is_forced, newer_all, first_left, second_left, no_room, first_room, second_room}

-- ---- what the small steps tell

-- the numbers of the node in block `at`
abbrev pub Reads : ReqWords → ℕ → Numbers → Type 0
Reads z at numbers = (s : ReqState) (newer : List ReqEntry) (entry : ReqEntry) (older : List ReqEntry) → Lays z s → StandsAt s at newer entry older → numbers ≡ numbers_of entry

-- the node in block `at` counts so
abbrev pub Writes : ReqWords → ReqWords → ℕ → Numbers → Type 0
Writes old new at numbers = (s : ReqState) (newer : List ReqEntry) (entry : ReqEntry) (older : List ReqEntry) → Lays old s → StandsAt s at newer entry older → Lays new (with_table s (newer ++ with_numbers numbers entry ∷ older))

-- the node in block `at` is the newest
abbrev pub Touches : ReqWords → ReqWords → ℕ → Type 0
Touches old new at = (s : ReqState) (newer : List ReqEntry) (entry : ReqEntry) (older : List ReqEntry) → Lays old s → StandsAt s at newer entry older → Lays new (with_table s (entry ∷ newer ++ older))

-- the oldest node is in block `at`
abbrev pub HasOldest : ReqWords → ℕ → Type 0
HasOldest z at = (s : ReqState) → Lays z s → (newer : List ReqEntry) × (entry : ReqEntry) × StandsAt s at newer entry []

-- the oldest node, in block `at`, is gone
abbrev pub Removes : ReqWords → ReqWords → ℕ → Type 0
Removes old new at = (s : ReqState) (newer : List ReqEntry) (entry : ReqEntry) → Lays old s → StandsAt s at newer entry [] → Lays new (oldest_left s newer entry)

-- some state is laid out, whose entries have room
abbrev pub LaysRoom : ReqWords → Type 0
LaysRoom z = (s : ReqState) × Lays z s × All HasRoom s.table

-- the numbers that the node of an entry with room counts
pub record Roomy (numbers : Numbers) : Type 0 where
  pub excess : numbers.excess < 2 ^ 51
  pub last : IsMoment numbers.last
  pub count : numbers.count < 2 ^ 32

roomy : (numbers : Numbers) (e : ReqEntry) → numbers ≡ numbers_of e → HasRoom e → Roomy numbers
roomy numbers e is room = subst (λ (n : Numbers). Roomy n) (sym is) (record { excess = room.excess; last = room.last; count = room.count })

pub laid_rate : (z : ReqWords) (s : ReqState) → Lays z s → IsRate z.rate
laid_rate z s l = subst IsRate (sym l.rate_is) l.rate_in

amount_is : (z : ReqWords) (s : ReqState) (numbers : Numbers) (e : ReqEntry) (now excess : ℕ) → Lays z s → numbers ≡ numbers_of e → excess ≡ amount_of z.rate numbers.excess numbers.last now → excess ≡ amount_of s.rate e.excess e.last now
amount_is z s numbers e now excess l is amount =
    amount ∙ ap (λ (rate : ℕ). amount_of rate numbers.excess numbers.last now) l.rate_is ∙ ap (λ (n : Numbers). amount_of s.rate n.excess n.last now) is

-- ---- a block that is held

-- the entry of the block, where it stands, and that it is held
pub record HeldNode (s : ReqState) (at : ℕ) : Type 0 where
  pub entry : ReqEntry
  pub held : IsHeldBy s.table at entry
  pub place : Place at s.table entry
  pub stands : StandsAt s at place.newer entry place.older

-- a block that is held is that of an entry
pub held_node : (z : ReqWords) (s : ReqState) (at : ℕ) → Lays z s → 0 < holds_at at s.table → HeldNode s at
held_node z s at l some =
    let x = held_entry-law s at l.words.whole some in
    let p = place at s.table x.0 x.1.found in
    record { entry = x.0; held = x.1; place = p; stands = record { table_is = p.table_is; block_is = x.1.block } }

pub held_is_node : (z : ReqWords) (s : ReqState) (at : ℕ) → Lays z s → 0 < holds_at at s.table → (x : ReqState) × Lays z x × IsNode x at
held_is_node z s at l some = let n = held_node z s at l some in (s, l, (n.place.newer, n.entry, n.place.older, n.stands))

pub held_count : (z : ReqWords) (s : ReqState) (at : ℕ) (numbers : Numbers) → Lays z s → 0 < holds_at at s.table → Reads z at numbers → 0 < numbers.count
held_count z s at numbers l some reads =
    let n = held_node z s at l some in
    subst (λ (m : Numbers). 0 < m.count) (sym (reads s n.place.newer n.entry n.place.older l n.stands)) n.held.held

pub held_roomy : (z : ReqWords) (s : ReqState) (at : ℕ) (numbers : Numbers) → Lays z s → All HasRoom s.table → 0 < holds_at at s.table → Reads z at numbers → Roomy numbers
held_roomy z s at numbers l room some reads =
    let n = held_node z s at l some in
    roomy numbers n.entry (reads s n.place.newer n.entry n.place.older l n.stands) (find_all HasRoom (λ (entry : ReqEntry). eqb entry.block at) s.table n.entry n.held.found room)

-- an account does what the model's does
pub accounts : (old new : ReqWords) (s : ReqState) (at now excess : ℕ) (numbers kept out : Numbers) → Lays old s → Ready s (Account at now) → Reads old at numbers → excess ≡ amount_of old.rate numbers.excess numbers.last now
    → ((entry : ReqEntry) → numbers ≡ numbers_of entry → with_numbers kept entry ≡ stored excess now entry)
    → ((entry : ReqEntry) → kept ≡ numbers_of entry → with_numbers out entry ≡ with_count (entry.count - 1) entry)
    → Writes old new at out
    → (Accounted excess ≡ answer_of s (Account at now)) × Lays new (zone_after s (Account at now))
accounts old new s at now excess numbers kept out l ready reads amount keeps lets writes =
    let n = held_node old s at l ready.asked.1 in
    let e = n.entry in
    let is = reads s n.place.newer e n.place.older l n.stands in
    let counted = amount_is old s numbers e now excess l is amount in
    let done = accounted s at now e n.held n.place in
    let same : with_numbers out e ≡ with_count (e.count - 1) (stored excess now e) = lets (with_numbers kept e) refl ∙ ap (λ (x : ReqEntry). with_count (x.count - 1) x) (keeps e is) in
    let whole : with_numbers out e ≡ with_count (e.count - 1) (stored (amount_of s.rate e.excess e.last now) now e) = same ∙ ap (λ (k : ℕ). with_count (e.count - 1) (stored k now e)) counted in (
      ap (λ (k : ℕ). Accounted k) counted ∙ sym done.0,
      subst (λ (t : ReqState). Lays new t) (sym done.1)
          (subst (λ (x : ReqEntry). Lays new (with_table s (n.place.newer ++ x ∷ n.place.older))) whole (writes s n.place.newer e n.place.older l n.stands)),
    )

-- and a release
pub releases : (old new : ReqWords) (s : ReqState) (at : ℕ) (numbers out : Numbers) → Lays old s → Ready s (Release at) → Reads old at numbers
    → ((entry : ReqEntry) → numbers ≡ numbers_of entry → with_numbers out entry ≡ with_count (entry.count - 1) entry)
    → Writes old new at out → Lays new (zone_after s (Release at))
releases old new s at numbers out l ready reads lets writes =
    let n = held_node old s at l ready.asked in
    let e = n.entry in
    let is = reads s n.place.newer e n.place.older l n.stands in
    subst (λ (t : ReqState). Lays new t) (sym (released s at e n.place))
    (subst (λ (x : ReqEntry). Lays new (with_table s (n.place.newer ++ x ∷ n.place.older))) (lets e is) (writes s n.place.newer e n.place.older l n.stands))

-- ---- the check of a key that has an entry

-- some state is laid out, whose entries have room, and in which a key has its entry in block `at`
abbrev pub LaysFound : ReqWords → ℕ → Type 0
LaysFound z at = (s : ReqState) × (key : List ℕ) × (entry : ReqEntry) × Lays z s × All HasRoom s.table × IsFound s key at entry

found_stands : (s : ReqState) (key : List ℕ) (at : ℕ) (e : ReqEntry) → (f : IsFound s key at e) → (p : Parts key s.table e) → StandsAt s at p.newer e p.older
found_stands s key at e f p = record { table_is = p.table_is; block_is = f.block_is }

pub found_is_node : (z : ReqWords) (at : ℕ) → LaysFound z at → (x : ReqState) × Lays z x × IsNode x at
found_is_node z at h =
    let s = h.0 in
    let p = parts h.1 s.table h.2 h.5.found in
    (s, h.3, (p.newer, h.2, p.older, found_stands s h.1 at h.2 h.5 p))

-- the node once it is the newest
pub record Front (z : ReqWords) (s : ReqState) (at : ℕ) (entry : ReqEntry) (rest : List ReqEntry) : Type 0 where
  pub laid : Lays z (with_table s (entry ∷ rest))
  pub stands : StandsAt (with_table s (entry ∷ rest)) at [] entry rest

front : (old mid : ReqWords) (s : ReqState) (key : List ℕ) (at : ℕ) (e : ReqEntry) → Lays old s → (f : IsFound s key at e) → (p : Parts key s.table e) → Touches old mid at → Front mid s at e (p.newer ++ p.older)
front old mid s key at e l f p touches = record { laid = touches s p.newer e p.older l (found_stands s key at e f p); stands = record { table_is = refl; block_is = f.block_is } }

pub front_is_node : (old mid : ReqWords) (at : ℕ) → LaysFound old at → Touches old mid at → (x : ReqState) × Lays mid x × IsNode x at
front_is_node old mid at h touches =
    let s = h.0 in
    let e = h.2 in
    let p = parts h.1 s.table e h.5.found in
    let t = front old mid s h.1 at e h.3 h.5 p touches in
    (with_table s (e ∷ p.newer ++ p.older), t.laid, ([], e, p.newer ++ p.older, t.stands))

pub front_rate : (old mid : ReqWords) (at : ℕ) → LaysFound old at → Touches old mid at → IsRate mid.rate
front_rate old mid at h touches = let x = front_is_node old mid at h touches in laid_rate mid x.0 x.1

pub front_roomy : (old mid : ReqWords) (at : ℕ) (numbers : Numbers) → LaysFound old at → Touches old mid at → Reads mid at numbers → Roomy numbers
front_roomy old mid at numbers h touches reads =
    let s = h.0 in
    let e = h.2 in
    let p = parts h.1 s.table e h.5.found in
    let t = front old mid s h.1 at e h.3 h.5 p touches in
    roomy numbers e (reads (with_table s (e ∷ p.newer ++ p.older)) [] e (p.newer ++ p.older) t.laid t.stands) (find_all HasRoom _ s.table e h.5.found h.4)

-- the rate and the numbers of the newest node
front_amount : (mid : ReqWords) (s : ReqState) (at now excess : ℕ) (e : ReqEntry) (rest : List ReqEntry) (numbers : Numbers) → Front mid s at e rest → Reads mid at numbers → excess ≡ amount_of mid.rate numbers.excess numbers.last now → excess ≡ amount_of s.rate e.excess e.last now
front_amount mid s at now excess e rest numbers t reads amount = amount_is mid (with_table s (e ∷ rest)) numbers e now excess t.laid (reads (with_table s (e ∷ rest)) [] e rest t.laid t.stands) amount

front_written : (mid new : ReqWords) (s : ReqState) (at : ℕ) (e f : ReqEntry) (rest : List ReqEntry) (out : Numbers) → Front mid s at e rest → Writes mid new at out → with_numbers out e ≡ f → Lays new (with_table s (f ∷ rest))
front_written mid new s at e f rest out t writes same = subst (λ (x : ReqEntry). Lays new (with_table s (x ∷ rest))) same (writes (with_table s (e ∷ rest)) [] e rest t.laid t.stands)

-- above the burst
pub found_busy : (old mid : ReqWords) (s : ReqState) (key : List ℕ) (at now burst excess : ℕ) (last : Bool) (e : ReqEntry) (numbers : Numbers) → Lays old s → IsFound s key at e → Touches old mid at → Reads mid at numbers
    → excess ≡ amount_of mid.rate numbers.excess numbers.last now → burst < excess
    → (Busy excess ≡ answer_of s (Check key now burst last)) × Lays mid (zone_after s (Check key now burst last))
found_busy old mid s key at now burst excess last e numbers l f touches reads amount more =
    let p = parts key s.table e f.found in
    let t = front old mid s key at e l f p touches in
    let h = busy s key now burst last excess e f.found more (front_amount mid s at now excess e (p.newer ++ p.older) numbers t reads amount) p in
    (sym h.0, subst (λ (x : ReqState). Lays mid x) (sym h.1) t.laid)

-- within it, at the last limit of the request
pub found_passes : (old mid new : ReqWords) (s : ReqState) (key : List ℕ) (at now burst excess : ℕ) (last : Bool) (e : ReqEntry) (numbers out : Numbers) → Lays old s → IsFound s key at e → Touches old mid at → Reads mid at numbers
    → excess ≡ amount_of mid.rate numbers.excess numbers.last now → excess ≤ burst → last ≡ true
    → ((entry : ReqEntry) → numbers ≡ numbers_of entry → with_numbers out entry ≡ stored excess now entry) → Writes mid new at out
    → (Pass excess ≡ answer_of s (Check key now burst last)) × Lays new (zone_after s (Check key now burst last))
found_passes old mid new s key at now burst excess last e numbers out l f touches reads amount less is_last keeps writes =
    let p = parts key s.table e f.found in
    let rest = p.newer ++ p.older in
    let t = front old mid s key at e l f p touches in
    let h = passes s key now burst excess last e is_last f.found less (front_amount mid s at now excess e rest numbers t reads amount) p in
    let is = reads (with_table s (e ∷ rest)) [] e rest t.laid t.stands in
    (sym h.0, subst (λ (x : ReqState). Lays new x) (sym h.1) (front_written mid new s at e (stored excess now e) rest out t writes (keeps e is)))

-- and at an earlier one
pub found_holds : (old mid new : ReqWords) (s : ReqState) (key : List ℕ) (at now burst excess : ℕ) (last : Bool) (e : ReqEntry) (numbers out : Numbers) → Lays old s → IsFound s key at e → Touches old mid at → Reads mid at numbers
    → excess ≡ amount_of mid.rate numbers.excess numbers.last now → excess ≤ burst → last ≡ false
    → ((entry : ReqEntry) → numbers ≡ numbers_of entry → with_numbers out entry ≡ with_count (entry.count + 1) entry) → Writes mid new at out
    → (Again excess at ≡ answer_of s (Check key now burst last)) × Lays new (zone_after s (Check key now burst last))
found_holds old mid new s key at now burst excess last e numbers out l f touches reads amount less is_last keeps writes =
    let p = parts key s.table e f.found in
    let rest = p.newer ++ p.older in
    let t = front old mid s key at e l f p touches in
    let h = holds s key now burst excess last e is_last f.found less (front_amount mid s at now excess e rest numbers t reads amount) p in
    let is = reads (with_table s (e ∷ rest)) [] e rest t.laid t.stands in
    (ap (λ (n : ℕ). Again excess n) (sym f.block_is) ∙ sym h.0, subst (λ (x : ReqState). Lays new x) (sym h.1) (front_written mid new s at e (with_count (e.count + 1) e) rest out t writes (keeps e is)))

-- ---- expiry

pub oldest_roomy : (z : ReqWords) (at : ℕ) (numbers : Numbers) → LaysRoom z → HasOldest z at → Reads z at numbers → Roomy numbers
oldest_roomy z at numbers h oldest reads =
    let o = oldest h.0 h.1 in
    roomy numbers o.1 (reads h.0 o.0 o.1 [] h.1 o.2) (oldest_has HasRoom o.0 o.1 (subst (λ (table : List ReqEntry). All HasRoom table) o.2.table_is h.2))
  where
    oldest_has : (P : ReqEntry → Type 0) (newer : List ReqEntry) (e : ReqEntry) → All P (newer ++ e ∷ []) → P e
    oldest_has P [] e h = All-head P e [] h
    oldest_has P (x ∷ xs) e h = oldest_has P xs e (All-tail P x (xs ++ e ∷ []) h)

-- the zone that the others leave has room too
pub room_left : (old new : ReqWords) (at : ℕ) → LaysRoom old → HasOldest old at → Removes old new at → LaysRoom new
room_left old new at h oldest removes =
    let o = oldest h.0 h.1 in
    (oldest_left h.0 o.0 o.1, removes h.0 o.0 o.1 h.1 o.2, newer_all HasRoom h.0.table o.0 o.1 o.2.table_is h.2)

-- a state with its entries that leave as stale
abbrev pub Expired : ReqWords → ReqState → ℕ → ℕ → ℕ → Type 0
Expired z s now most left = Lays z (stale_expired most now s) × (left ≡ stale_leaving s.rate now most (reverse s.table))

-- none may leave
pub none_more : (z : ReqWords) (s : ReqState) (now most : ℕ) → Lays z s → most ≡ 0 → Expired z s now most 0
none_more z s now most l none = let h = none_may s now most none in (subst (λ (t : ReqState). Lays z t) (sym h.0) l, h.1)

-- there is none
pub no_entry : (z : ReqWords) (s : ReqState) (now most : ℕ) → Lays z s → s.table ≡ [] → Expired z s now most 0
no_entry z s now most l empty = let h = none_there s now most empty in (subst (λ (t : ReqState). Lays z t) (sym h.0) l, h.1)

-- the oldest entry stays
pub oldest_stays : (z : ReqWords) (s : ReqState) (at now most : ℕ) (numbers : Numbers) → Lays z s → HasOldest z at → Reads z at numbers → 0 < most
    → ((entry : ReqEntry) → numbers ≡ numbers_of entry → (eqb entry.count 0 && is_stale z.rate now entry) ≡ false) → Expired z s now most 0
oldest_stays z s at now most numbers l oldest reads some tested =
    let o = oldest s l in
    let test = tested o.1 (reads s o.0 o.1 [] l o.2) in
    let h = stays s now most o.0 o.1 some o.2.table_is (subst (λ (rate : ℕ). (eqb o.1.count 0 && is_stale rate now o.1) ≡ false) l.rate_is test) in
    (subst (λ (t : ReqState). Lays z t) (sym h.0) l, h.1)

not_free : (a b : Bool) → a ≡ false → (a && b) ≡ false
not_free a b is = ap (λ (x : Bool). x && b) is

not_stale : (a b : Bool) → b ≡ false → (a && b) ≡ false
not_stale true b is = is
not_stale false b is = refl

free_and_stale : (a b : Bool) → a ≡ true → b ≡ true → (a && b) ≡ true
free_and_stale a b is also = ap (λ (x : Bool). x && b) is ∙ also

-- the oldest entry is held
pub held_stays : (z : ReqWords) (s : ReqState) (at now most : ℕ) (numbers : Numbers) → Lays z s → HasOldest z at → Reads z at numbers → 0 < most → eqb numbers.count 0 ≡ false → Expired z s now most 0
held_stays z s at now most numbers l oldest reads some held =
    oldest_stays z s at now most numbers l oldest reads some (λ entry is. not_free (eqb entry.count 0) (is_stale z.rate now entry) (subst (λ (n : Numbers). eqb n.count 0 ≡ false) is held))

-- it is not stale
pub fresh_stays : (z : ReqWords) (s : ReqState) (at now most : ℕ) (numbers : Numbers) → Lays z s → HasOldest z at → Reads z at numbers → 0 < most → ((entry : ReqEntry) → numbers ≡ numbers_of entry → false ≡ is_stale z.rate now entry) → Expired z s now most 0
fresh_stays z s at now most numbers l oldest reads some fresh =
    oldest_stays z s at now most numbers l oldest reads some (λ entry is. not_stale (eqb entry.count 0) (is_stale z.rate now entry) (sym (fresh entry is)))

-- what the rest of the expiry makes of the zone that the oldest left
abbrev pub Expires : ReqWords → ReqWords → ℕ → ℕ → ℕ → Type 0
Expires old new now most left = (s : ReqState) → Lays old s → Expired new s now most left

-- it leaves, and then the others may
pub oldest_leaves : (z mid new : ReqWords) (s : ReqState) (at now most left : ℕ) (numbers : Numbers) → Lays z s → HasOldest z at → Reads z at numbers → 0 < most
    → ((entry : ReqEntry) → numbers ≡ numbers_of entry → (eqb entry.count 0 && is_stale z.rate now entry) ≡ true) → Removes z mid at → Expires mid new now (most - 1) left → Expired new s now most (1 + left)
oldest_leaves z mid new s at now most left numbers l oldest reads some tested removes rest =
    let o = oldest s l in
    let test = tested o.1 (reads s o.0 o.1 [] l o.2) in
    let h = leaves s now most o.0 o.1 some o.2.table_is (subst (λ (rate : ℕ). (eqb o.1.count 0 && is_stale rate now o.1) ≡ true) l.rate_is test) in
    let r = rest (oldest_left s o.0 o.1) (removes s o.0 o.1 l o.2) in
    (subst (λ (t : ReqState). Lays new t) (sym h.0) r.0, ap (λ (k : ℕ). 1 + k) r.1 ∙ sym h.1)

-- it is stale, and no request holds it
pub stale_leaves : (z mid new : ReqWords) (s : ReqState) (at now most left : ℕ) (numbers : Numbers) → Lays z s → HasOldest z at → Reads z at numbers → 0 < most → eqb numbers.count 0 ≡ true
    → ((entry : ReqEntry) → numbers ≡ numbers_of entry → true ≡ is_stale z.rate now entry) → Removes z mid at → Expires mid new now (most - 1) left → Expired new s now most (1 + left)
stale_leaves z mid new s at now most left numbers l oldest reads some free stale removes rest =
    oldest_leaves z mid new s at now most left numbers l oldest reads some
    (λ entry is. free_and_stale (eqb entry.count 0) (is_stale z.rate now entry) (subst (λ (n : Numbers). eqb n.count 0 ≡ true) is free) (sym (stale entry is))) removes rest

-- ---- the forced expiry

-- a state after the forced expiry, with its entries that leave
abbrev pub Forced : ReqWords → ReqState → ℕ → ℕ → Type 0
Forced z s now left = Lays z (forced_expired s now) × (left ≡ forced_leaving s.rate now s.table)

-- there is none
pub none_to_force : (z : ReqWords) (s : ReqState) (now : ℕ) → Lays z s → s.table ≡ [] → Forced z s now 0
none_to_force z s now l empty = let h = none_forced s now empty in (subst (λ (t : ReqState). Lays z t) (sym h.0) l, h.1)

-- the oldest is held
pub oldest_held : (z : ReqWords) (s : ReqState) (at now : ℕ) (numbers : Numbers) → Lays z s → HasOldest z at → Reads z at numbers → eqb numbers.count 0 ≡ false → Forced z s now 0
oldest_held z s at now numbers l oldest reads held =
    let o = oldest s l in
    let is = reads s o.0 o.1 [] l o.2 in
    let h = is_held s now o.0 o.1 o.2.table_is (subst (λ (n : Numbers). eqb n.count 0 ≡ false) is held) in
    (subst (λ (t : ReqState). Lays z t) (sym h.0) l, h.1)

-- it leaves, stale or not
pub oldest_forced : (z mid new : ReqWords) (s : ReqState) (at now left : ℕ) (numbers : Numbers) → Lays z s → HasOldest z at → Reads z at numbers → eqb numbers.count 0 ≡ true → Removes z mid at → Expires mid new now 2 left → Forced new s now (1 + left)
oldest_forced z mid new s at now left numbers l oldest reads free removes rest =
    let o = oldest s l in
    let is = reads s o.0 o.1 [] l o.2 in
    let h = is_forced s now o.0 o.1 o.2.table_is (subst (λ (n : Numbers). eqb n.count 0 ≡ true) is free) in
    let r = rest (oldest_left s o.0 o.1) (removes s o.0 o.1 l o.2) in
    (subst (λ (t : ReqState). Lays new t) (sym h.0) r.0, ap (λ (k : ℕ). 1 + k) r.1 ∙ sym h.1)

-- ---- the check of a key that has no entry

-- some state is laid out, in which the key has no entry
abbrev pub LaysMissing : ReqWords → List ℕ → Type 0
LaysMissing z key = (s : ReqState) × Lays z s × All HasRoom s.table × (entry_of key s.table ≡ None)

-- the pool was asked for the key's node, and nothing else is new
abbrev pub Asks : ReqWords → ReqWords → List ℕ → Type 0
Asks old new key = (s : ReqState) → Lays old s → entry_of key s.table ≡ None → Lays new (asked_for s (node_size + length key))

-- it gives no block for it
abbrev pub Refuses : ReqWords → List ℕ → Type 0
Refuses old key = (s : ReqState) → Lays old s → None ≡ (grant s.slab (node_size + length key)).0

-- it gives this block
abbrev pub Gives : ReqWords → List ℕ → ℕ → Type 0
Gives old key at = (s : ReqState) → Lays old s → Some at ≡ (grant s.slab (node_size + length key)).0

-- in which the key's entry is the newest
abbrev pub Admits : ReqWords → ReqWords → List ℕ → ℕ → Bool → ℕ → Type 0
Admits old new key now last at = (s : ReqState) → Lays old s → entry_of key s.table ≡ None → Lays new (admitted s key now last at)

-- the forced expiry takes each state to its next
abbrev pub Forces : ReqWords → ReqWords → ℕ → ℕ → Type 0
Forces old new now left = (s : ReqState) → Lays old s → Forced new s now left

pub first_admit : (old one : ReqWords) (key : List ℕ) (now left : ℕ) → LaysMissing old key → Expires old one now 2 left → (s : ReqState) × Lays one s × (entry_of key s.table ≡ None)
first_admit old one key now left h expires = let s = h.0 in (stale_expired 2 now s, (expires s h.1).0, (first_left s now key).missing h.3)

pub forced_room : (old one two : ReqWords) (key : List ℕ) (now left : ℕ) → LaysMissing old key → Expires old one now 2 left → Asks one two key → LaysRoom two
forced_room old one two key now left h expires asks =
    let s = h.0 in
    let k = first_left s now key in
    (asked_for (stale_expired 2 now s) (node_size + length key), asks (stale_expired 2 now s) (expires s h.1).0 (k.missing h.3), k.room h.2)

-- the zone before the second grant
pub before : (old one two three : ReqWords) (s : ReqState) (key : List ℕ) (now left more : ℕ) → Lays old s → entry_of key s.table ≡ None → Expires old one now 2 left → Asks one two key → Forces two three now more → Forced three (asked_for (stale_expired 2 now s) (node_size + length key)) now more
before old one two three s key now left more l missing expires asks forces =
    forces (asked_for (stale_expired 2 now s) (node_size + length key)) (asks (stale_expired 2 now s) (expires s l).0 ((first_left s now key).missing missing))

pub second_admit : (old one two three : ReqWords) (key : List ℕ) (now left more : ℕ) → LaysMissing old key → Expires old one now 2 left → Asks one two key → Forces two three now more → (s : ReqState) × Lays three s × (entry_of key s.table ≡ None)
second_admit old one two three key now left more h expires asks forces =
    let s = h.0 in
    (before_second s now (node_size + length key), (before old one two three s key now left more h.1 h.3 expires asks forces).0, (second_left s now key).missing h.3)

-- there is room after the first expiry
pub missing_first : (old one two : ReqWords) (s : ReqState) (key : List ℕ) (now burst left at : ℕ) (last : Bool) → Lays old s → entry_of key s.table ≡ None → Expires old one now 2 left → Gives one key at → Admits one two key now last at
    → (new_reply last at ≡ answer_of s (Check key now burst last)) × Lays two (zone_after s (Check key now burst last))
missing_first old one two s key now burst left at last l missing expires gives admits =
    let t = stale_expired 2 now s in
    let laid = (expires s l).0 in
    let h = first_room s key now burst last at missing (gives t laid) in
    (sym h.0, subst (λ (x : ReqState). Lays two x) (sym h.1) (admits t laid ((first_left s now key).missing missing)))

-- or after the forced one
pub missing_second : (old one two three four : ReqWords) (s : ReqState) (key : List ℕ) (now burst left more at : ℕ) (last : Bool) → Lays old s → entry_of key s.table ≡ None → Expires old one now 2 left → Refuses one key → Asks one two key → Forces two three now more
    → Gives three key at → Admits three four key now last at
    → (new_reply last at ≡ answer_of s (Check key now burst last)) × Lays four (zone_after s (Check key now burst last))
missing_second old one two three four s key now burst left more at last l missing expires refuses asks forces gives admits =
    let size = node_size + length key in
    let laid = (before old one two three s key now left more l missing expires asks forces).0 in
    let h = second_room s key now burst last at missing (refuses (stale_expired 2 now s) (expires s l).0) (gives (before_second s now size) laid) in
    (sym h.0, subst (λ (x : ReqState). Lays four x) (sym h.1) (admits (before_second s now size) laid ((second_left s now key).missing missing)))

-- or not at all
pub missing_full : (old one two three four : ReqWords) (s : ReqState) (key : List ℕ) (now burst left more : ℕ) (last : Bool) → Lays old s → entry_of key s.table ≡ None → Expires old one now 2 left → Refuses one key → Asks one two key → Forces two three now more
    → Refuses three key → Asks three four key
    → (NoRoom (left + more) ≡ answer_of s (Check key now burst last)) × Lays four (zone_after s (Check key now burst last))
missing_full old one two three four s key now burst left more last l missing expires refuses asks forces again asked =
    let size = node_size + length key in
    let b = before old one two three s key now left more l missing expires asks forces in
    let e = expires s l in
    let h = no_room s key now burst last left more missing (refuses (stale_expired 2 now s) e.0) (again (before_second s now size) b.0) e.1 b.1 in
    (sym h.0, subst (λ (x : ReqState). Lays four x) (sym h.1) (asked (before_second s now size) b.0 ((second_left s now key).missing missing)))
