-- A zone stays whole.
use Rattle.std.proofs.Common.{ℕ, ◌≡◌, ◌+◌, ◌-◌, ◌<◌, ◌≤◌, Bool, true, false, cond, List, [], ◌∷◌, ◌++◌, length, take, reverse, get_or, Some, None, refl, sym, ap, ◌∙◌, inl, inr, arith}
use Rattle.std.proofs.lemmas.Bool.{cases_eq}
use Rattle.std.proofs.lemmas.List.Elements.{All-cons, All-get_or, All-from_get_or, All-take}
use Rattle.std.proofs.lemmas.List.Sums.{sum_by-take-le}
use Rattle.std.specs.List.{All}
use Rattle.slab_model.specs.State.{Slab}
use Rattle.slab_model.specs.Blocks.{live_bytes}
use Rattle.slab_model.specs.Grant.{grant, block_bytes}
use Rattle.slab_model.specs.Soundness.{IsSound}
use Rattle.slab_model.specs.Store.{slab_store}
use Rattle.slab_model.proofs.Laws.{grant-sound}
use Rattle.slab_model.proofs.BlockLaws.{grant-grants, grant-none}
use Rattle.slab_model.proofs.ShapeLemmas.{grant_shape, bytes_same}
use Rattle.slab_model.proofs.LiveLemmas.{once_here, once_there, live_some, live_none, live_same}
use Rattle.req_zone.specs.declared.state.ReqEntry.{ReqEntry}
use Rattle.req_zone.specs.declared.state.ReqState.{ReqState}
use Rattle.req_zone.specs.Table.{has_key}
use Rattle.req_zone.specs.State.{give_all}
use Rattle.req_zone.specs.Expiry.{without_oldest, evict}
use Rattle.req_zone.specs.Step.{node_size}
use Rattle.req_zone.specs.Object.{parts_of, with_parts, once_at, holds_at, context_size, name_size}
use Rattle.req_zone.specs.Holding.{entries_of, nodes_at, named_at, HasNode, IsWhole}
use Rattle.req_zone.specs.Proving.Tables.{evicted_permutes, same_key, holds_permute, nodes_permute, holds_join, nodes_join, nodes_more, keys_more, each_named}
use Rattle.req_zone.specs.Proving.Expired.{IsFree, free_holds}
use Rattle.req_zone.specs.Proving.Blocks.{Owns, given_back}

no_entry : ReqEntry
no_entry = record { key = []; block = 0; excess = 0; last = 0; count = 0 }

-- another table and another slab
abbrev pub changed : ReqState → List ReqEntry → Slab → ReqState
changed s table slab = with_parts s (record { table = table; memory = slab })

-- ---- the blocks of a whole zone

pub context_named : (s : ReqState) → 0 < named_at s s.context
context_named s = let one = once_here s.context in omega (arith, one)

pub name_named : (s : ReqState) → 0 < named_at s s.name_block
name_named s = let one = once_here s.name_block in omega (arith, one)

pub node_named : (s : ReqState) (i : ℕ) (d : ReqEntry) → i < length s.table → 0 < named_at s (get_or s.table i d).block
node_named s i d low = let h = each_named s.table i d low in omega (arith, h)

-- the slab changes and keeps the blocks of the zone
pub nodes_kept : (s : ReqState) (slab : Slab) → IsWhole s → slab.shape ≡ s.slab.shape → ((at : ℕ) → 0 < named_at s at → live_bytes slab at ≡ live_bytes s.slab at) → All (HasNode slab) s.table
nodes_kept s slab whole shape kept = All-from_get_or (HasNode slab) s.table no_entry
    (λ i low. kept (get_or s.table i no_entry).block (node_named s i no_entry low) ∙ All-get_or (HasNode s.slab) s.table i no_entry low whole.nodes ∙ sym (bytes_same s.slab slab (node_size + length (get_or s.table i no_entry).key) shape))

pub whole_slab : (s : ReqState) (slab : Slab) → IsWhole s → IsSound slab → slab.shape ≡ s.slab.shape → ((at : ℕ) → live_bytes slab at ≡ live_bytes s.slab at) → IsWhole (changed s s.table slab)
whole_slab s slab whole sound shape same = record {
  sound = sound;
  named = λ at. whole.named at ∙ sym (live_same s.slab slab at (same at));
  context = same s.context ∙ whole.context ∙ sym (bytes_same s.slab slab context_size shape);
  name = same s.name_block ∙ whole.name ∙ sym (bytes_same s.slab slab (name_size s.name) shape);
  nodes = nodes_kept s slab whole shape (λ at some. same at);
  keys = whole.keys;
}

-- the table changes and keeps keys and blocks
pub whole_table : (s : ReqState) (table : List ReqEntry) → IsWhole s → ((at : ℕ) → nodes_at at table ≡ nodes_at at s.table) → ((key : List ℕ) → entries_of key table ≡ entries_of key s.table) → All (HasNode s.slab) table → IsWhole (changed s table s.slab)
whole_table s table whole nodes keys has = record {
  sound = whole.sound;
  named = λ at. let n = nodes at in let h = whole.named at in omega (arith, n, h);
  context = whole.context;
  name = whole.name;
  nodes = has;
  keys = λ key. let k = keys key in let h = whole.keys key in omega (arith, k, h);
}

-- ---- the oldest leave

base_of : ReqState → List ReqEntry → ℕ → ℕ
base_of s stay at = once_at at s.context + once_at at s.name_block + nodes_at at stay

pub whole_evict : (s : ReqState) (n : ℕ) → IsWhole s → n ≤ length s.table → IsWhole (with_parts s (evict slab_store (parts_of s) n))
unfolding base_of
whole_evict s n whole within =
    let stay = without_oldest n s.table in
    let gone = take n (reverse s.table) in
    let order = evicted_permutes n s.table within in
    let owns : Owns (base_of s stay) s.slab gone = record {
      sound = whole.sound;
      named = λ at. let h = whole.named at in let p = nodes_permute at s.table (stay ++ gone) order in let j = nodes_join at stay gone in omega (arith, h, p, j);
    } in
    let gave = given_back (base_of s stay) s.slab gone owns in
    let slab = give_all slab_store s.slab gone in
    let left = changed s stay s.slab in
    record {
      sound = gave.sound;
      named = gave.named;
      context = gave.kept s.context (context_named left) ∙ whole.context ∙ sym (bytes_same s.slab slab context_size gave.shape);
      name = gave.kept s.name_block (name_named left) ∙ whole.name ∙ sym (bytes_same s.slab slab (name_size s.name) gave.shape);
      nodes = All-from_get_or (HasNode slab) stay no_entry
          (λ i low. gave.kept (get_or stay i no_entry).block (node_named left i no_entry low)
          ∙ All-get_or (HasNode s.slab) stay i no_entry low (All-take (HasNode s.slab) (length s.table - n) s.table whole.nodes)
          ∙ sym (bytes_same s.slab slab (node_size + length (get_or stay i no_entry).key) gave.shape));
      keys = λ key. let h = whole.keys key in let le = sum_by-take-le (λ (entry : ReqEntry). cond (has_key key entry) 1 0) s.table (length s.table - n) in omega (arith, h, le);
    }

pub evict_holds : (s : ReqState) (n at : ℕ) → n ≤ length s.table → All IsFree (take n (reverse s.table)) → holds_at at (without_oldest n s.table) ≡ holds_at at s.table
evict_holds s n at within free =
    let stay = without_oldest n s.table in
    let gone = take n (reverse s.table) in
    let p = holds_permute at s.table (stay ++ gone) (evicted_permutes n s.table within) in
    let j = holds_join at stay gone in
    let none = free_holds at gone free in
    omega (arith, p, j, none)

-- ---- a new entry

pub whole_new : (s : ReqState) (key : List ℕ) (now at : ℕ) (last : Bool) → IsWhole s → entries_of key s.table ≡ 0 → (grant s.slab (node_size + length key)).0 ≡ Some at
    → (e : ReqEntry) → e.key ≡ key → e.block ≡ at → IsWhole (changed s (e ∷ s.table) (grant s.slab (node_size + length key)).1)
whole_new s key now at last whole missing given e own here =
    let size = node_size + length key in
    let slab = (grant s.slab size).1 in
    let some : 0 < size = omega arith in
    let g = grant-grants s.slab size at whole.sound some given in
    let shape = grant_shape s.slab size in
    let apart : (other : ℕ) → 0 < named_at s other → live_bytes slab other ≡ live_bytes s.slab other = λ other named.
    let h = whole.named other in
    g.0.others other (λ same. absurd (omega (arith, h, named, live_none s.slab other (ap (λ (n : ℕ). live_bytes s.slab n) same ∙ g.0.fresh)))) in
    record {
      sound = grant-sound s.slab size whole.sound some;
      named = λ other.
          let h = whole.named other in
          let more = nodes_more other e s.table in
          elim (cases_eq other at) [
            | inl same ↦
                let one : once_at other e.block ≡ 1 = ap (λ (n : ℕ). once_at n e.block) (same ∙ sym here) ∙ once_here e.block in
                let was = live_none s.slab other (ap (λ (n : ℕ). live_bytes s.slab n) same ∙ g.0.fresh) in
                let now_live = live_some slab other (let b = ap (λ (n : ℕ). live_bytes slab n) same ∙ g.0.bytes in omega (arith, b, g.1, some)) in
                omega (arith, h, more, one, was, now_live)
            | inr ne ↦
                let none = once_there other e.block (λ same. ne (same ∙ here)) in
                let stays = live_same s.slab slab other (g.0.others other ne) in
                omega (arith, h, more, none, stays)
          ];
      context = apart s.context (context_named s) ∙ whole.context ∙ sym (bytes_same s.slab slab context_size shape);
      name = apart s.name_block (name_named s) ∙ whole.name ∙ sym (bytes_same s.slab slab (name_size s.name) shape);
      nodes = All-cons (HasNode slab) e s.table (ap (λ (n : ℕ). live_bytes slab n) here ∙ g.0.bytes ∙ sym (bytes_same s.slab slab size shape) ∙ ap (λ (k : List ℕ). block_bytes slab (node_size + length k)) (sym own)) (nodes_kept s slab whole shape apart);
      keys = λ other.
          let h = whole.keys other in
          let more = keys_more other e s.table in
          at_most other (has_key other e) refl h more;
    }
  where
    at_most : (other : List ℕ) (b : Bool) → has_key other e ≡ b → entries_of other s.table ≤ 1 → entries_of other (e ∷ s.table) ≡ cond (has_key other e) 1 0 + entries_of other s.table → entries_of other (e ∷ s.table) ≤ 1
    at_most other true is h more =
        let same : other ≡ key = same_key other e.key is ∙ own in
        let none : entries_of other s.table ≡ 0 = ap (λ (k : List ℕ). entries_of k s.table) same ∙ missing in
        let one : cond (has_key other e) 1 0 ≡ 1 = ap {B = ℕ} (λ (b : Bool). cond b 1 0) is in
        omega (arith, none, one, more)
    at_most other false is h more =
        let none : cond (has_key other e) 1 0 ≡ 0 = ap {B = ℕ} (λ (b : Bool). cond b 1 0) is in
        omega (arith, h, none, more)

-- a grant that gives nothing
pub whole_none : (s : ReqState) (size : ℕ) → IsWhole s → 0 < size → (grant s.slab size).0 ≡ None → IsWhole (changed s s.table (grant s.slab size).1)
whole_none s size whole some none = let same = grant-none s.slab size none in whole_slab s (grant s.slab size).1 whole (grant-sound s.slab size whole.sound some) (grant_shape s.slab size) same.blocks
