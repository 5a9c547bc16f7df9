-- What a call of a request zone makes of a whole zone.
use Rattle.std.proofs.Common.{ℕ, ◌≡◌, ◌+◌, ◌-◌, ◌*◌, ◌<◌, ◌≤◌, Bool, true, false, cond, eqb, ltb, List, [], ◌∷◌, length, take, reverse, find, Option, Some, None, refl, sym, ap, subst, ◌∙◌, arith}
use Rattle.std.proofs.lemmas.Bool.{eqb-true, ltb-false}
use Rattle.std.proofs.lemmas.List.Elements.{All-nil, All-cons, All-head, All-tail, All-weaker, All-take}
use Rattle.std.proofs.lemmas.List.Sorted.{All-permutation}
use Rattle.std.specs.List.{All}
use Rattle.std.specs.List.Sorted.{IsPermutation}
use Rattle.std.specs.Str.{bytes_eq}
use Rattle.std.proofs.lemmas.List.Sums.{sum_by-take-le}
use Rattle.slab_model.specs.Blocks.{live_bytes}
use Rattle.slab_model.specs.Grant.{grant, block_bytes}
use Rattle.slab_model.specs.Store.{slab_store}
use Rattle.slab_model.proofs.LiveLemmas.{live_most}
use Rattle.req_zone.specs.declared.state.ReqEntry.{ReqEntry}
use Rattle.req_zone.specs.declared.state.ReqState.{ReqState}
use Rattle.req_zone.specs.declared.calls.ReqCall.{ReqCall}
use Rattle.req_zone.specs.declared.calls.ReqCall.TheVariants.{Check, Account, Release}
use Rattle.req_zone.specs.declared.calls.ReqReply.{ReqReply}
use Rattle.req_zone.specs.declared.calls.ReqReply.TheVariants.{Pass, Again, Busy, Accounted, Released}
use Rattle.req_zone.specs.Amount.{IsMoment, greatest_burst, elapsed, allowance, amount_of, stamp}
use Rattle.req_zone.specs.Table.{has_key, entry_of, others}
use Rattle.req_zone.specs.Expiry.{first_leaving, forced_leaving, evict}
use Rattle.req_zone.specs.Step.{node_size, stored, with_count, within_burst, new_entry, new_reply, after_second, by_force, after_first, check_missing, check_as, change_at, account_amount}
use Rattle.req_zone.specs.Object.{parts_of, with_parts, answer_of, zone_after, IsAsked, IsReadyAt, once_at, given_by, back_by, holds_at}
use Rattle.req_zone.specs.Holding.{entries_of, nodes_at, HasNode, IsWhole, IsWithin}
use Rattle.req_zone.specs.Proving.Tables.{some_same, found_permutes, missing_none, holds_permute, nodes_permute, keys_permute, holds_more, nodes_more, keys_more}
use Rattle.req_zone.specs.Proving.Expired.{IsFree, first_within, forced_within, first_free, forced_free}
use Rattle.req_zone.specs.Proving.Wholes.{changed, whole_evict, evict_holds, whole_new, whole_none, whole_table}

-- ---- what is no call's doing, and what is

-- a change by which no entry's numbers change and no hold is given or comes back
pub record Keeps (s t : ReqState) : Type 0 where
  pub whole : IsWhole t
  pub within : (n : ℕ) → All (IsWithin n) s.table → All (IsWithin n) t.table
  pub held : (at : ℕ) → holds_at at t.table ≡ holds_at at s.table
  pub missing : (key : List ℕ) → entries_of key s.table ≡ 0 → entries_of key t.table ≡ 0

-- what a call makes of a zone
pub record Becomes (s t : ReqState) (call : ReqCall) (reply : ReqReply) : Type 0 where
  pub whole : IsWhole t
  pub within : (n : ℕ) → All (IsWithin n) s.table → All (IsWithin (n + 1)) t.table
  pub held : (at : ℕ) → holds_at at t.table + back_by at call ≡ holds_at at s.table + given_by at reply

more_calls : (n : ℕ) (e : ReqEntry) → IsWithin n e → IsWithin (n + 1) e
more_calls n e w = let x = w.excess in let c = w.count in record { key = w.key; excess = omega (arith, x); last = w.last; count = omega (arith, c) }

all_more : (n : ℕ) (table : List ReqEntry) → All (IsWithin n) table → All (IsWithin (n + 1)) table
all_more n table h = All-weaker (IsWithin n) (IsWithin (n + 1)) (more_calls n) table h

becomes_after : (s t u : ReqState) (call : ReqCall) (reply : ReqReply) → Keeps s t → Becomes t u call reply → Becomes s u call reply
becomes_after s t u call reply k b = record {
  whole = b.whole;
  within = λ n h. b.within n (k.within n h);
  held = λ at. let x = b.held at in let y = k.held at in omega (arith, x, y);
}

none_left : (a b : ℕ) → a ≤ b → b ≡ 0 → a ≡ 0
none_left a b h z = omega arith

evict_keeps : (s : ReqState) (n : ℕ) → IsWhole s → n ≤ length s.table → All IsFree (take n (reverse s.table)) → Keeps s (with_parts s (evict slab_store (parts_of s) n))
evict_keeps s n whole within free = record {
  whole = whole_evict s n whole within;
  within = λ m h. All-take (IsWithin m) (length s.table - n) s.table h;
  held = λ at. evict_holds s n at within free;
  missing = λ key none. none_left _ _ (sum_by-take-le (λ (entry : ReqEntry). cond (has_key key entry) 1 0) s.table (length s.table - n)) none;
}

none_keeps : (s : ReqState) (size : ℕ) → IsWhole s → 0 < size → (grant s.slab size).0 ≡ None → Keeps s (changed s s.table (grant s.slab size).1)
none_keeps s size whole some none = record {
  whole = whole_none s size whole some none;
  within = λ n h. h;
  held = λ at. refl;
  missing = λ key h. h;
}

-- ---- a key that is missing

no_count : (b : Bool) → ◌≡◌ {A = ℕ} (cond b 0 0) 0
no_count true = refl
no_count false = refl

new_becomes : (s : ReqState) (key : List ℕ) (now burst : ℕ) (last : Bool) (at : ℕ) → IsWhole s → entries_of key s.table ≡ 0 → IsAsked key now burst → (grant s.slab (node_size + length key)).0 ≡ Some at
    → Becomes s (changed s (new_entry key now last at ∷ s.table) (grant s.slab (node_size + length key)).1) (Check key now burst last) (new_reply last at)
new_becomes s key now burst true at whole missing asked given = record {
  whole = whole_new s key now at true whole missing given (new_entry key now true at) refl refl;
  within = λ n h. All-cons (IsWithin (n + 1)) (new_entry key now true at) s.table (record { key = asked.named; excess = omega arith; last = asked.early; count = omega arith }) (all_more n s.table h);
  held = λ a. let m = holds_more a (new_entry key now true at) s.table in let z = no_count (eqb at a) in omega (arith, m, z);
}
new_becomes s key now burst false at whole missing asked given = record {
  whole = whole_new s key now at false whole missing given (new_entry key now false at) refl refl;
  within = λ n h. All-cons (IsWithin (n + 1)) (new_entry key now false at) s.table (record { key = asked.named; excess = omega arith; last = omega arith; count = omega arith }) (all_more n s.table h);
  held = λ a. let m = holds_more a (new_entry key now false at) s.table in omega (arith, m);
}

second_becomes : (s : ReqState) (key : List ℕ) (now burst : ℕ) (last : Bool) (evicted : ℕ) → IsWhole s → entries_of key s.table ≡ 0 → IsAsked key now burst → (o : Option ℕ) → (grant s.slab (node_size + length key)).0 ≡ o
    → Becomes s (with_parts s (after_second key now last evicted s.table o (grant s.slab (node_size + length key)).1).1) (Check key now burst last) (after_second key now last evicted s.table o (grant s.slab (node_size + length key)).1).0
second_becomes s key now burst last evicted whole missing asked None is =
    let k = none_keeps s (node_size + length key) whole (omega arith) is in
    record { whole = k.whole; within = λ n h. all_more n s.table h; held = λ at. refl }
second_becomes s key now burst last evicted whole missing asked (Some at) is = new_becomes s key now burst last at whole missing asked is

force_becomes : (s : ReqState) (key : List ℕ) (now burst : ℕ) (last : Bool) (evicted : ℕ) → IsWhole s → entries_of key s.table ≡ 0 → IsAsked key now burst
    → Becomes s (with_parts s (by_force slab_store s.rate key now last evicted (parts_of s)).1) (Check key now burst last) (by_force slab_store s.rate key now last evicted (parts_of s)).0
force_becomes s key now burst last evicted whole missing asked =
    let n = forced_leaving s.rate now s.table in
    let t = with_parts s (evict slab_store (parts_of s) n) in
    let k = evict_keeps s n whole (forced_within s.rate now s.table) (forced_free s.rate now s.table) in
    let b = second_becomes t key now burst last (evicted + n) k.whole (k.missing key missing) asked (grant t.slab (node_size + length key)).0 refl in
    becomes_after s t _ (Check key now burst last) _ k b

first_becomes : (s : ReqState) (key : List ℕ) (now burst : ℕ) (last : Bool) (evicted : ℕ) → IsWhole s → entries_of key s.table ≡ 0 → IsAsked key now burst → (o : Option ℕ) → (grant s.slab (node_size + length key)).0 ≡ o
    → Becomes s (with_parts s (after_first slab_store s.rate key now last evicted s.table o (grant s.slab (node_size + length key)).1).1) (Check key now burst last) (after_first slab_store s.rate key now last evicted s.table o (grant s.slab (node_size + length key)).1).0
first_becomes s key now burst last evicted whole missing asked None is =
    let t = changed s s.table (grant s.slab (node_size + length key)).1 in
    let k = none_keeps s (node_size + length key) whole (omega arith) is in
    becomes_after s t _ (Check key now burst last) _ k (force_becomes t key now burst last evicted k.whole missing asked)
first_becomes s key now burst last evicted whole missing asked (Some at) is = new_becomes s key now burst last at whole missing asked is

missing_becomes : (s : ReqState) (key : List ℕ) (now burst : ℕ) (last : Bool) → IsWhole s → entries_of key s.table ≡ 0 → IsAsked key now burst
    → Becomes s (with_parts s (check_missing slab_store s.rate key now last (parts_of s)).1) (Check key now burst last) (check_missing slab_store s.rate key now last (parts_of s)).0
missing_becomes s key now burst last whole missing asked =
    let n = first_leaving s.rate now s.table in
    let t = with_parts s (evict slab_store (parts_of s) n) in
    let k = evict_keeps s n whole (first_within s.rate now s.table) (first_free s.rate now s.table) in
    let b = first_becomes t key now burst last n k.whole (k.missing key missing) asked (grant t.slab (node_size + length key)).0 refl in
    becomes_after s t _ (Check key now burst last) _ k b

-- ---- a key that is there

sub_le : (a b : ℕ) → a - b ≤ a
sub_le a b = omega arith

pub amount_le : (rate excess last now : ℕ) → amount_of rate excess last now ≤ excess + 1000
amount_le rate excess last now = sub_le (excess + 1000) (allowance rate (elapsed last now))

stamp_early : (last now : ℕ) → IsMoment last → IsMoment now → IsMoment (stamp last now)
stamp_early last now was is = go (eqb (elapsed last now) 0) where
  go : (b : Bool) → IsMoment (cond b last now)
  go true = was
  go false = is

-- the entry that comes to the front keeps its key and its block
front_becomes : (s : ReqState) (e f : ReqEntry) (rest : List ReqEntry) (call : ReqCall) (reply : ReqReply) → IsWhole s → IsPermutation s.table (e ∷ rest) → f.key ≡ e.key → f.block ≡ e.block
    → ((n : ℕ) → IsWithin n e → IsWithin (n + 1) f)
    → ((at : ℕ) → cond (eqb f.block at) f.count 0 + back_by at call ≡ cond (eqb e.block at) e.count 0 + given_by at reply)
    → Becomes s (changed s (f ∷ rest) s.slab) call reply
front_becomes s e f rest call reply whole order key block numbers counts =
    let nodes = All-permutation (HasNode s.slab) s.table (e ∷ rest) order whole.nodes in
    record {
      whole = whole_table s (f ∷ rest) whole
          (λ at. let p = nodes_permute at s.table (e ∷ rest) order in let one : once_at at f.block ≡ once_at at e.block = ap (λ (n : ℕ). once_at at n) block in omega (arith, p, one, nodes_more at f rest, nodes_more at e rest))
          (λ k. let p = keys_permute k s.table (e ∷ rest) order in let one : ◌≡◌ {A = ℕ} (cond (has_key k f) 1 0) (cond (has_key k e) 1 0) = same_test k f e key in omega (arith, p, one, keys_more k f rest, keys_more k e rest))
          (All-cons (HasNode s.slab) f rest (ap (λ (n : ℕ). live_bytes s.slab n) block ∙ All-head (HasNode s.slab) e rest nodes ∙ ap (λ (k : List ℕ). block_bytes s.slab (node_size + length k)) (sym key)) (All-tail (HasNode s.slab) e rest nodes));
      within = λ n h.
          let w = All-permutation (IsWithin n) s.table (e ∷ rest) order h in
          All-cons (IsWithin (n + 1)) f rest (numbers n (All-head (IsWithin n) e rest w)) (all_more n rest (All-tail (IsWithin n) e rest w));
      held = λ at. let p = holds_permute at s.table (e ∷ rest) order in let c = counts at in omega (arith, p, c, holds_more at f rest, holds_more at e rest);
    }
  where
    same_test : (k : List ℕ) (f e : ReqEntry) → f.key ≡ e.key → ◌≡◌ {A = ℕ} (cond (has_key k f) 1 0) (cond (has_key k e) 1 0)
    same_test k f e key = ap {B = ℕ} (λ (o : List ℕ). cond (bytes_eq k o) 1 0) key

one_hold_more : (b : Bool) (count : ℕ) → cond b (count + 1) 0 + 0 ≡ cond b count 0 + cond b 1 0
one_hold_more true count = omega arith
one_hold_more false count = omega arith

burst_becomes : (s : ReqState) (key : List ℕ) (now burst amount : ℕ) (last : Bool) (e : ReqEntry) (rest : List ReqEntry) → IsWhole s → IsAsked key now burst → IsPermutation s.table (e ∷ rest) → amount ≤ burst
    → Becomes s (changed s (within_burst amount now last e rest).1 s.slab) (Check key now burst last) (within_burst amount now last e rest).0
burst_becomes s key now burst amount true e rest whole asked order below =
    front_becomes s e (stored amount now e) rest (Check key now burst true) (Pass amount) whole order refl refl
    (λ n w. let small = asked.small in let c = w.count in record { key = w.key; excess = omega (arith, below, small); last = stamp_early e.last now w.last asked.early; count = omega (arith, c) })
    (λ at. refl)
burst_becomes s key now burst amount false e rest whole asked order below =
    front_becomes s e (with_count (e.count + 1) e) rest (Check key now burst false) (Again amount e.block) whole order refl refl
    (λ n w. let x = w.excess in let c = w.count in record { key = w.key; excess = omega (arith, x); last = w.last; count = omega (arith, c) })
    (λ at. one_hold_more (eqb e.block at) e.count)

found_becomes : (s : ReqState) (key : List ℕ) (now burst amount : ℕ) (last : Bool) (e : ReqEntry) (rest : List ReqEntry) → IsWhole s → IsAsked key now burst → IsPermutation s.table (e ∷ rest) → (b : Bool) → ltb burst amount ≡ b
    → Becomes s (changed s (cond b (Busy amount, e ∷ rest) (within_burst amount now last e rest)).1 s.slab) (Check key now burst last) (cond b (Busy amount, e ∷ rest) (within_burst amount now last e rest)).0
found_becomes s key now burst amount last e rest whole asked order true is = front_becomes s e e rest (Check key now burst last) (Busy amount) whole order refl refl (λ n w. more_calls n e w) (λ at. refl)
found_becomes s key now burst amount last e rest whole asked order false is = burst_becomes s key now burst amount last e rest whole asked order (ltb-false burst amount is)

check_becomes : (s : ReqState) (key : List ℕ) (now burst : ℕ) (last : Bool) → IsWhole s → IsAsked key now burst → (o : Option ReqEntry) → entry_of key s.table ≡ o
    → Becomes s (with_parts s (check_as slab_store s.rate key now burst last (parts_of s) o).1) (Check key now burst last) (check_as slab_store s.rate key now burst last (parts_of s) o).0
check_becomes s key now burst last whole asked None is = missing_becomes s key now burst last whole (missing_none key s.table is) asked
check_becomes s key now burst last whole asked (Some e) is = found_becomes s key now burst (amount_of s.rate e.excess e.last now) last e (others key s.table) whole asked (found_permutes key s.table e is) (ltb burst (amount_of s.rate e.excess e.last now)) refl

-- ---- an entry that is held

module _ (at : ℕ) (f : ReqEntry → ReqEntry) where
  changed_nodes : ((e : ReqEntry) → (f e).block ≡ e.block) → (a : ℕ) (table : List ReqEntry) → nodes_at a (change_at at f table) ≡ nodes_at a table
  changed_nodes same a [] = refl
  changed_nodes same a (e ∷ es) = go (eqb e.block at) (changed_nodes same a es) where
    go : (b : Bool) → nodes_at a (change_at at f es) ≡ nodes_at a es → nodes_at a (cond b (f e ∷ es) (e ∷ change_at at f es)) ≡ nodes_at a (e ∷ es)
    go true h = let one : once_at a (f e).block ≡ once_at a e.block = ap (λ (n : ℕ). once_at a n) (same e) in omega (arith, one, nodes_more a (f e) es, nodes_more a e es)
    go false h = omega (arith, h, nodes_more a e (change_at at f es), nodes_more a e es)

  changed_keys : ((e : ReqEntry) → (f e).key ≡ e.key) → (key : List ℕ) (table : List ReqEntry) → entries_of key (change_at at f table) ≡ entries_of key table
  changed_keys same key [] = refl
  changed_keys same key (e ∷ es) = go (eqb e.block at) (changed_keys same key es) where
    go : (b : Bool) → entries_of key (change_at at f es) ≡ entries_of key es → entries_of key (cond b (f e ∷ es) (e ∷ change_at at f es)) ≡ entries_of key (e ∷ es)
    go true h = let one : ◌≡◌ {A = ℕ} (cond (has_key key (f e)) 1 0) (cond (has_key key e) 1 0) = ap {B = ℕ} (λ (o : List ℕ). cond (bytes_eq key o) 1 0) (same e) in omega (arith, one, keys_more key (f e) es, keys_more key e es)
    go false h = omega (arith, h, keys_more key e (change_at at f es), keys_more key e es)

  changed_all : (P Q : ReqEntry → Type 0) → ((e : ReqEntry) → P e → Q (f e)) → ((e : ReqEntry) → P e → Q e) → (table : List ReqEntry) → All P table → All Q (change_at at f table)
  changed_all P Q new old [] h = All-nil Q
  changed_all P Q new old (e ∷ es) h = go (eqb e.block at) (changed_all P Q new old es (All-tail P e es h)) where
    go : (b : Bool) → All Q (change_at at f es) → All Q (cond b (f e ∷ es) (e ∷ change_at at f es))
    go true rest = All-cons Q (f e) es (new e (All-head P e es h)) (All-weaker P Q old es (All-tail P e es h))
    go false rest = All-cons Q e (change_at at f es) (old e (All-head P e es h)) rest

-- a block that no entry has isn't held
pub unnamed : (at : ℕ) (table : List ReqEntry) → nodes_at at table ≡ 0 → holds_at at table ≡ 0
unnamed at [] none = refl
unnamed at (e ∷ es) none = go (eqb e.block at) refl (λ h. unnamed at es h) where
  go : (b : Bool) → eqb e.block at ≡ b → (nodes_at at es ≡ 0 → holds_at at es ≡ 0) → holds_at at (e ∷ es) ≡ 0
  go true is rest = let one : once_at at e.block ≡ 1 = ap {B = ℕ} (λ (b : Bool). cond b 1 0) is in absurd (omega (arith, none, one, nodes_more at e es))
  go false is rest =
      let zero_holds : cond (eqb e.block at) e.count 0 ≡ 0 = ap {B = ℕ} (λ (b : Bool). cond b e.count 0) is in
      let left = rest (omega (arith, none, nodes_more at e es)) in
      omega (arith, zero_holds, left, holds_more at e es)

one_hold_less : (b : Bool) (count : ℕ) → 0 < count → cond b (count - 1) 0 + cond b 1 0 ≡ cond b count 0
one_hold_less true count some = omega arith
one_hold_less false count some = omega arith

-- the entry of a held block is held once less
changed_holds : (at : ℕ) (f : ReqEntry → ReqEntry) → ((e : ReqEntry) → (f e).block ≡ e.block) → ((e : ReqEntry) → (f e).count ≡ e.count - 1) → (table : List ReqEntry) → nodes_at at table ≤ 1 → 0 < holds_at at table
    → (a : ℕ) → holds_at a (change_at at f table) + once_at a at ≡ holds_at a table
changed_holds at f same less [] once some a = let none : holds_at at [] ≡ 0 = refl in absurd (omega (arith, none, some))
changed_holds at f same less (e ∷ es) once some a = go (eqb e.block at) refl (λ o h. changed_holds at f same less es o h a) where
  go : (b : Bool) → eqb e.block at ≡ b → (nodes_at at es ≤ 1 → 0 < holds_at at es → holds_at a (change_at at f es) + once_at a at ≡ holds_at a es) → holds_at a (cond b (f e ∷ es) (e ∷ change_at at f es)) + once_at a at ≡ holds_at a (e ∷ es)
  go true is rest =
      let here : e.block ≡ at = eqb-true e.block at is in
      let one : once_at at e.block ≡ 1 = ap {B = ℕ} (λ (b : Bool). cond b 1 0) is in
      let alone = unnamed at es (omega (arith, once, one, nodes_more at e es)) in
      let own : cond (eqb e.block at) e.count 0 ≡ e.count = ap {B = ℕ} (λ (b : Bool). cond b e.count 0) is in
      let held : 0 < e.count = omega (arith, own, alone, some, holds_more at e es) in
      let step = one_hold_less (eqb e.block a) e.count held in
      let now : cond (eqb (f e).block a) (f e).count 0 ≡ cond (eqb e.block a) (e.count - 1) 0 = ap {B = ℕ} (λ (n : ℕ). cond (eqb n a) (f e).count 0) (same e) ∙ ap {B = ℕ} (λ (n : ℕ). cond (eqb e.block a) n 0) (less e) in
      let by : once_at a at ≡ cond (eqb e.block a) 1 0 = ap {B = ℕ} (λ (n : ℕ). cond (eqb n a) 1 0) (sym here) in
      omega (arith, step, now, by, holds_more a (f e) es, holds_more a e es)
  go false is rest =
      let none : once_at at e.block ≡ 0 = ap {B = ℕ} (λ (b : Bool). cond b 1 0) is in
      let free : cond (eqb e.block at) e.count 0 ≡ 0 = ap {B = ℕ} (λ (b : Bool). cond b e.count 0) is in
      let left = rest (omega (arith, once, none, nodes_more at e es)) (omega (arith, some, free, holds_more at e es)) in
      omega (arith, left, holds_more a e (change_at at f es), holds_more a e es)

-- an entry changes where it stands, keeps its key and its block, and is held once less
held_becomes : (s : ReqState) (at : ℕ) (f : ReqEntry → ReqEntry) (call : ReqCall) (reply : ReqReply) → IsWhole s → 0 < holds_at at s.table
    → ((e : ReqEntry) → (f e).key ≡ e.key) → ((e : ReqEntry) → (f e).block ≡ e.block) → ((e : ReqEntry) → (f e).count ≡ e.count - 1)
    → ((n : ℕ) → All (IsWithin n) s.table → (e : ReqEntry) → IsWithin n e → IsWithin (n + 1) (f e))
    → ((a : ℕ) → back_by a call ≡ once_at a at) → ((a : ℕ) → given_by a reply ≡ 0)
    → Becomes s (changed s (change_at at f s.table) s.slab) call reply
held_becomes s at f call reply whole some key block less numbers back given =
    record {
      whole = whole_table s (change_at at f s.table) whole (λ a. changed_nodes at f block a s.table) (λ k. changed_keys at f key k s.table)
          (changed_all at f (HasNode s.slab) (HasNode s.slab)
          (λ e h. ap (λ (n : ℕ). live_bytes s.slab n) (block e) ∙ h ∙ ap (λ (k : List ℕ). block_bytes s.slab (node_size + length k)) (sym (key e))) (λ e h. h) s.table whole.nodes);
      within = λ n h. changed_all at f (IsWithin n) (IsWithin (n + 1)) (numbers n h) (more_calls n) s.table h;
      held = λ a.
          let named = whole.named at in
          let once : nodes_at at s.table ≤ 1 = omega (arith, named, live_most s.slab at) in
          let h = changed_holds at f block less s.table once some a in
          let b = back a in
          let g = given a in
          omega (arith, h, b, g);
    }

pub find_all : (P : ReqEntry → Type 0) (p : ReqEntry → Bool) (table : List ReqEntry) (e : ReqEntry) → find p table ≡ Some e → All P table → P e
find_all P p [] e found h = absurd (cc)
find_all P p (x ∷ xs) e found h = go (p x) found (λ f. find_all P p xs e f (All-tail P x xs h)) where
  go : (b : Bool) → cond b (Some x) (find p xs) ≡ Some e → (find p xs ≡ Some e → P e) → P e
  go true f rest = subst P (some_same x e f) (All-head P x xs h)
  go false f rest = rest f

account_le : (rate now n : ℕ) (table : List ReqEntry) (p : ReqEntry → Bool) → All (IsWithin n) table → (o : Option ReqEntry) → find p table ≡ o → account_amount rate now o ≤ greatest_burst + 1000 * (n + 1)
account_le rate now n table p h None is = omega arith
account_le rate now n table p h (Some e) is = let w = find_all (IsWithin n) p table e is h in let x = w.excess in omega (arith, x, amount_le rate e.excess e.last now)

account_becomes : (s : ReqState) (at now : ℕ) → IsWhole s → IsMoment now → 0 < holds_at at s.table → Becomes s (zone_after s (Account at now)) (Account at now) (answer_of s (Account at now))
account_becomes s at now whole early some =
    let found = find (λ (entry : ReqEntry). eqb entry.block at) s.table in
    let amount = account_amount s.rate now found in
    held_becomes s at (λ (entry : ReqEntry). with_count (entry.count - 1) (stored amount now entry)) (Account at now) (Accounted amount) whole some (λ e. refl) (λ e. refl) (λ e. refl)
    (λ n h e w. let c = w.count in record { key = w.key; excess = account_le s.rate now n s.table (λ (entry : ReqEntry). eqb entry.block at) h found refl; last = stamp_early e.last now w.last early; count = omega (arith, c) })
    (λ a. refl) (λ a. refl)

release_becomes : (s : ReqState) (at : ℕ) → IsWhole s → 0 < holds_at at s.table → Becomes s (zone_after s (Release at)) (Release at) (answer_of s (Release at))
release_becomes s at whole some =
    held_becomes s at (λ (entry : ReqEntry). with_count (entry.count - 1) entry) (Release at) Released whole some (λ e. refl) (λ e. refl) (λ e. refl)
    (λ n h e w. let x = w.excess in let c = w.count in record { key = w.key; excess = omega (arith, x); last = w.last; count = omega (arith, c) })
    (λ a. refl) (λ a. refl)

-- what each call makes of a whole zone in which it is ready
pub call_becomes : (s : ReqState) (call : ReqCall) → IsWhole s → IsReadyAt s.table call → Becomes s (zone_after s call) call (answer_of s call)
call_becomes s (Check key now burst last) whole asked = check_becomes s key now burst last whole asked (entry_of key s.table) refl
call_becomes s (Account at now) whole asked = account_becomes s at now whole asked.0 asked.1
call_becomes s (Release at) whole asked = release_becomes s at whole asked
