-- Keys that are found or missing in a zone's table, and a new entry in it.
use Rattle.std.proofs.Common.{ℕ, ◌≡◌, ◌≢◌, ◌⊎◌, ◌+◌, ◌*◌, ◌^◌, ◌<◌, ◌≤◌, zero, suc, Bool, true, false, cond, List, [], ◌∷◌, ◌++◌, length, Option, Some, None, sym, ap, subst, ◌∙◌, refl, arith, inl, inr, length-append}
use Rattle.std.proofs.lemmas.Bool.{cases_eq}
use Rattle.std.proofs.lemmas.List.{length-map}
use Rattle.std.proofs.lemmas.List.Elements.{All-cons, All-head, All-tail}
use Rattle.std.proofs.lemmas.Slice.Eq.{bytes_eq-Decides}
use Rattle.std.specs.List.{All}
use Rattle.zone_region.specs.Words.{Words}
use Rattle.zone_region.specs.Members.{In, IsDistinct}
use Rattle.zone_region.specs.Holding.{HoldsBlocks}
use Rattle.zone_region.specs.Granting.{GrantsWords}
use Rattle.zone_region.proofs.HoldingLemmas.{holds_kept}
use Rattle.zone_region.proofs.MembersLemmas.{In-split, In-more, IsDistinct-split}
use Rattle.zone_key.specs.Crc.{crc32_of}
use Rattle.block_bytes.proofs.BytesLemmas.{holds_bytes-same}
use Rattle.slab_model.specs.State.{Slab}
use Rattle.slab_model.specs.Grant.{grant}
use Rattle.slab_pages.specs.Places.{Image}
use Rattle.slab_pool.specs.Pool.{LaysPool}
use Rattle.slab_pool.specs.Live.{block_words, rest_of, KeepsPages}
use Rattle.slab_pool.proofs.RestLemmas.{rest-laid, rest-root}
use Rattle.slab_pool.proofs.HeldLemmas.{holds-blocks}
use Rattle.offset_tree.specs.Keys.{Rank}
use Rattle.offset_table.specs.declared.table.Table.{Table}
use Rattle.offset_table.specs.Table.{rank_at, IsTable, CanAdd, ChangesTable}
use Rattle.offset_table.proofs.Keeping.{can_add}
use Rattle.req_zone.specs.declared.state.ReqEntry.{ReqEntry}
use Rattle.req_zone.specs.declared.state.ReqState.{ReqState}
use Rattle.req_zone.specs.declared.numbers.Numbers.{Numbers}
use Rattle.req_zone.specs.Table.{entry_of, has_key}
use Rattle.req_zone.specs.Step.{node_size, new_entry}
use Rattle.req_zone.specs.Object.{with_parts}
use Rattle.req_zone.specs.Holding.{IsWhole, entries_of}
use Rattle.req_zone.specs.Laws.{blocks_of, admitted}
use Rattle.req_zone.specs.Words.{name_text, table_in, blocks_in, HoldsEntry, LaysReq}
use Rattle.req_zone.specs.Lays.{IsFound, entry_with, SetsNode}
use Rattle.req_zone.specs.Proving.Tables.{keys_more}
use Rattle.req_zone.specs.Proving.Oldest.{admitted_whole-law}
use Rattle.req_zone.proofs.NodeLemmas.{entry_rank, entry_room, kept_entry, same_entry, table_entry, kept_entries}
use Rattle.req_zone.proofs.ZoneLemmas.{apart, live_words, kept_sentinel, same_sentinel, table_entries}

-- ---- keys

has_own : (key : List ℕ) (e : ReqEntry) → key ≡ e.key → has_key key e ≡ true
has_own key e same = (bytes_eq-Decides key e.key).1 same

-- a node with a key is that of an entry with it
own_key : (m : Words) (hash : ℕ) (key : List ℕ) (e : ReqEntry) (x : ℕ) → HoldsEntry m e → rank_at m x ≡ (hash, key) → x ≡ e.block → key ≡ e.key
own_key m hash key e x h is at = ap (λ (r : Rank). r.1) (sym is ∙ (ap (λ (b : ℕ). rank_at m b) at ∙ entry_rank m e h))

-- no node has the hash and the key where the key has no entry
pub no_rank : (m : Words) (hash : ℕ) (key : List ℕ) (es : List ReqEntry) → All (HoldsEntry m) es → entry_of key es ≡ None → (x : ℕ) → In x (blocks_in es) → rank_at m x ≢ (hash, key)
no_rank m hash key [] all none x i is = absurd i
no_rank m hash key (e ∷ es) all none x i is = go (has_key key e) refl none i (λ n j. no_rank m hash key es (All-tail (HoldsEntry m) e es all) n x j is) where
  go : (b : Bool) → has_key key e ≡ b → cond b (Some e) (entry_of key es) ≡ None → (x ≡ e.block) ⊎ In x (blocks_in es) → (entry_of key es ≡ None → In x (blocks_in es) → ⊥) → ⊥
  go true h n j rest = absurd (cc)
  go false h n (inl at) rest = let own = has_own key e (own_key m hash key e x (All-head (HoldsEntry m) e es all) is at) in absurd (cc)
  go false h n (inr j) rest = rest n j

-- the key has no entry where no node has its hash and it
pub none_found : (m : Words) (key : List ℕ) (es : List ReqEntry) → All (HoldsEntry m) es → ((x : ℕ) → In x (blocks_in es) → rank_at m x ≢ (crc32_of key, key)) → entry_of key es ≡ None
none_found m key [] all none = refl
none_found m key (e ∷ es) all none = go (has_key key e) refl (none_found m key es (All-tail (HoldsEntry m) e es all) (λ x i. none x (inr i))) where
  go : (b : Bool) → has_key key e ≡ b → entry_of key es ≡ None → cond b (Some e) (entry_of key es) ≡ None
  go true h rest =
      let same : key ≡ e.key = (bytes_eq-Decides key e.key).0 h in
      absurd (none e.block (inl refl) (entry_rank m e (All-head (HoldsEntry m) e es all) ∙ ap (λ (k : List ℕ). let p : Rank = (crc32_of k, k) in p) (sym same)))
  go false h rest = rest

-- a node with the key is that of an entry
counted : (m : Words) (hash : ℕ) (key : List ℕ) (es : List ReqEntry) → All (HoldsEntry m) es → (x : ℕ) → In x (blocks_in es) → rank_at m x ≡ (hash, key) → 0 < entries_of key es
counted m hash key [] all x i is = absurd i
counted m hash key (e ∷ es) all x (inl at) is =
    let one : cond (has_key key e) 1 0 ≡ 1 = ap {B = ℕ} (λ (b : Bool). cond b 1 0) (has_own key e (own_key m hash key e x (All-head (HoldsEntry m) e es all) is at)) in
    omega (arith, one, keys_more key e es)
counted m hash key (e ∷ es) all x (inr i) is = omega (arith, counted m hash key es (All-tail (HoldsEntry m) e es all) x i is, keys_more key e es)

-- and of the one that is found, since no key has two
pub one_found : (m : Words) (hash : ℕ) (key : List ℕ) (es : List ReqEntry) → All (HoldsEntry m) es → entries_of key es ≤ 1 → (x : ℕ) → In x (blocks_in es) → rank_at m x ≡ (hash, key) → (e : ReqEntry) × (entry_of key es ≡ Some e) × (e.block ≡ x)
one_found m hash key [] all once x i is = absurd i
one_found m hash key (e ∷ es) all once x i is = go (has_key key e) refl i (λ few j. one_found m hash key es (All-tail (HoldsEntry m) e es all) few x j is) where
  go : (b : Bool) → has_key key e ≡ b → (x ≡ e.block) ⊎ In x (blocks_in es) → (entries_of key es ≤ 1 → In x (blocks_in es) → (f : ReqEntry) × (entry_of key es ≡ Some f) × (f.block ≡ x)) → (f : ReqEntry) × (cond (has_key key e) (Some e) (entry_of key es) ≡ Some f) × (f.block ≡ x)
  go true h (inl at) rest = (e, ap (λ (b : Bool). cond b (Some e) (entry_of key es)) h, sym at)
  go true h (inr j) rest =
      let one : cond (has_key key e) 1 0 ≡ 1 = ap {B = ℕ} (λ (b : Bool). cond b 1 0) h in
      absurd (omega (arith, one, once, keys_more key e es, counted m hash key es (All-tail (HoldsEntry m) e es all) x j is))
  go false h (inl at) rest = let own = has_own key e (own_key m hash key e x (All-head (HoldsEntry m) e es all) is at) in absurd (cc)
  go false h (inr j) rest =
      let r = rest (omega (arith, once, keys_more key e es)) j in
      (r.0, ap (λ (b : Bool). cond b (Some e) (entry_of key es)) h ∙ r.1, r.2)

pub found : (image : Image) (s : ReqState) (hash : ℕ) (key : List ℕ) (x : ℕ) → LaysReq image s → In x (blocks_in s.table) → rank_at (block_words image) x ≡ (hash, key) → (e : ReqEntry) × IsFound s key x e
found image s hash key x l i is = let r = one_found (block_words image) hash key s.table l.nodes (l.whole.keys key) x i is in (r.0, record { found = r.1; block_is = r.2 })

-- ---- a table has few entries

member : (n : ℕ) (xs : List ℕ) → In n xs ⊎ (In n xs → ⊥)
member n [] = inr (λ i. i)
member n (x ∷ xs) = elim (cases_eq n x) [
  | inl e ↦ inl (inl e)
  | inr ne ↦ elim (member n xs) [ inl i ↦ inl (inr i) | inr out ↦ inr (λ i. elim i [ inl e ↦ ne e | inr j ↦ out j ]) ]
]

count_below : (n : ℕ) (xs : List ℕ) → IsDistinct xs → ((x : ℕ) → In x xs → x < n) → length xs ≤ n
count_below zero [] d low = omega arith
count_below zero (x ∷ xs) d low = absurd (omega (arith, low x (inl refl)))
count_below (suc n) xs d low = elim (member n xs) [
  | inl i ↦
      let s = In-split n xs i in
      let out = IsDistinct-split s.0 n s.1 (subst (λ (ys : List ℕ). IsDistinct ys) s.2 d) in
      let rest = count_below n (s.0 ++ s.1) out.0 (λ x j. less x (low x (subst (λ (ys : List ℕ). In x ys) (sym s.2) (In-more x s.0 n s.1 j))) (λ e. out.1 (subst (λ (y : ℕ). In y (s.0 ++ s.1)) e j))) in
      omega (arith, rest, ap (λ (ys : List ℕ). length ys) s.2, length-append s.0 (n ∷ s.1), length-append s.0 s.1)
  | inr out ↦ let rest = count_below n xs d (λ x j. less x (low x j) (λ e. out (subst (λ (y : ℕ). In y xs) e j))) in omega (arith, rest)
] where
  less : (x : ℕ) → x < suc n → x ≢ n → x < n
  less x h ne = omega (arith, h, ne)

pub few_entries : (image : Image) (s : ReqState) → LaysReq image s → length s.table ≤ 2 ^ 63
few_entries image s l =
    let few = count_below (2 ^ 63) (blocks_in s.table) l.table.queue.holds.distinct.1 (λ x i. omega (arith, l.table.queue.holds.below x (inr i), l.table.queue.holds.live x (inr i))) in
    omega (arith, few, length-map s.table (λ (entry : ReqEntry). entry.block))

-- ---- a new entry

-- a block was granted, and its words became the node of an entry
pub record Comes (old mid node : Image) (s : ReqState) (e : ReqEntry) (count : ℕ) : Type 0 where
  pub missing : entry_of e.key s.table ≡ None
  pub room : 80 + length e.key ≤ 8 * length (block_words mid e.block)
  pub laid : LaysPool mid (grant s.slab (node_size + length e.key)).1
  pub given : (grant s.slab (node_size + length e.key)).0 ≡ Some e.block
  pub words : GrantsWords (block_words old) (block_words mid) e.block count
  pub kept : KeepsPages old mid
  pub sets : SetsNode (block_words mid) (block_words node) e
  pub rest : rest_of node ≡ rest_of mid

-- the block is none of the zone's
new_block : (old mid node : Image) (s : ReqState) (e : ReqEntry) (count : ℕ) → LaysReq old s → Comes old mid node s e count → (z : ℕ) → In z (blocks_of s) → z ≢ e.block
new_block old mid node s e count l c z i q = absurd (omega (arith, live_words old s z l i, ap (λ (b : ℕ). length (block_words old b)) q, ap (λ (ws : List ℕ). length ws) c.words.fresh))

-- whose words stay
old_block : (old mid node : Image) (s : ReqState) (e : ReqEntry) (count : ℕ) → LaysReq old s → Comes old mid node s e count → (z : ℕ) → In z (blocks_of s) → (block_words mid z ≡ block_words old z) × (block_words node z ≡ block_words old z)
old_block old mid node s e count l c z i = let ne = new_block old mid node s e count l c z i in (c.words.others z ne, c.sets.others z ne ∙ c.words.others z ne)

in_table : (s : ReqState) (z : ℕ) → In z (s.context ∷ blocks_in s.table) → In z (blocks_of s)
in_table s z (inl e) = inl e
in_table s z (inr i) = inr (inr i)

pub can_come : (old mid node : Image) (s : ReqState) (e : ReqEntry) (count : ℕ) → LaysReq old s → Comes old mid node s e count → CanAdd (block_words node) (table_in s) e.block e.key (blocks_in s.table)
can_come old mid node s e count l c =
    let a = apart s l.whole in
    let new = new_block old mid node s e count l c in
    let same = old_block old mid node s e count l c in
    let distinct : IsDistinct (s.context ∷ e.block ∷ blocks_in s.table) = (
      λ i. elim i [ inl q ↦ new s.context (inl refl) q | inr j ↦ a.context j ],
      (λ i. new e.block (inr (inr i)) refl, a.nodes),
    ) in
    let there = λ (z : ℕ) (i : In z (blocks_of s)). let r : 0 < length (block_words mid z) = omega (arith, live_words old s z l i, ap (λ (ws : List ℕ). length ws) (same z i).0) in r in
    let live = λ (z : ℕ) (i : In z (s.context ∷ e.block ∷ blocks_in s.table)). elim i as (λ _. 0 < length (block_words mid z)) [
      | inl q ↦ there z (inl q)
      | inr j ↦ elim j [ inl q ↦ omega (arith, c.room, ap (λ (b : ℕ). length (block_words mid b)) q) | inr k ↦ there z (inr (inr k)) ]
    ] in
    let holds : HoldsBlocks (block_words node) (s.context ∷ e.block ∷ blocks_in s.table) = holds_kept (block_words mid) (block_words node) (s.context ∷ e.block ∷ blocks_in s.table) (λ z i. c.sets.lengths z) (holds-blocks mid (grant s.slab (node_size + length e.key)).1 (s.context ∷ e.block ∷ blocks_in s.table) c.laid distinct live) in
    can_add (block_words old) (block_words node) (table_in s) e.block (crc32_of e.key) e.key (blocks_in s.table) (λ z i. (same z (in_table s z i)).1) l.table
    (no_rank (block_words old) (crc32_of e.key) e.key s.table l.nodes c.missing) holds
    (entry_room (block_words node) e c.sets.node (omega (arith, c.room, c.sets.lengths e.block)))
    (entry_rank (block_words node) e c.sets.node)

-- the block is a node of the table
pub record IsAdded (node new : Image) (t : Table) (at : ℕ) (order : List ℕ) : Type 0 where
  pub table : IsTable (block_words new) t (at ∷ order)
  pub changes : ChangesTable (block_words node) (block_words new) t (at ∷ order)
  pub rest : rest_of new ≡ rest_of node

-- the zone with an entry more
pub with_entry : ReqState → ReqEntry → ReqState
with_entry s e = with_parts s (record { table = e ∷ s.table; memory = (grant s.slab (node_size + length e.key)).1 })

pub came : (old mid node new : Image) (s : ReqState) (e : ReqEntry) (count : ℕ) → LaysReq old s → IsWhole (with_entry s e) → Comes old mid node s e count → IsAdded node new (table_in s) e.block (blocks_in s.table) → LaysReq new (with_entry s e)
unfolding with_entry
came old mid node new s e count l whole c d =
    let a = apart s l.whole in
    let new_at = new_block old mid node s e count l c in
    let same = old_block old mid node s e count l c in
    let context = new_at s.context (inl refl) in
    let name = new_at s.name_block (inr (inl refl)) in
    let rest = d.rest ∙ c.rest in
    let root = rest-root mid new (grant s.slab (node_size + length e.key)).1 rest c.laid in
    record {
      whole = whole;
      slab = rest-laid mid new (grant s.slab (node_size + length e.key)).1 rest c.laid;
      log_ctx = root.0 ∙ c.kept.log_ctx ∙ l.log_ctx;
      data_is = root.1 ∙ c.kept.data_is ∙ l.data_is;
      name = holds_bytes-same (block_words old) (block_words new) s.name_block 0 (name_text s.name)
          (d.changes.others s.name_block a.context_name (λ i. elim i [ inl q ↦ name q | inr j ↦ a.name j ]) ∙ (same s.name_block (inr (inl refl))).1) l.name;
      sentinel = kept_sentinel (block_words node) (block_words new) (table_in s) (e.block ∷ blocks_in s.table) d.changes (same_sentinel (block_words old) (block_words node) s.context (same s.context (inl refl)).1 l.sentinel);
      table = d.table;
      nodes = All-cons (HoldsEntry (block_words new)) e s.table
          (kept_entry (block_words node) (block_words new) e (table_entry (block_words node) (block_words new) (table_in s) (e.block ∷ blocks_in s.table) e.block (λ q. context (sym q)) d.changes) c.sets.node)
          (table_entries (block_words node) (block_words new) (table_in s) (e.block ∷ blocks_in s.table) s.table a.context d.changes
          (kept_entries (block_words old) (block_words node) s.table (λ at i. same_entry (block_words old) (block_words node) at (same at (inr (inr i))).1) l.nodes));
    }

-- the same for the entry that a check makes
pub admitted_zone : (old mid node new : Image) (s : ReqState) (key : List ℕ) (now : ℕ) (last : Bool) (at : ℕ) (numbers : Numbers) (count : ℕ) → entry_with key at numbers ≡ new_entry key now last at → LaysReq old s
    → Comes old mid node s (entry_with key at numbers) count → IsAdded node new (table_in s) at (blocks_in s.table) → LaysReq new (admitted s key now last at)
unfolding with_entry
admitted_zone old mid node new s key now last at numbers count is l c d =
    let P : ReqEntry → ReqState = λ x. with_parts s (record { table = x ∷ s.table; memory = (grant s.slab (node_size + length key)).1 }) in
    let whole : IsWhole (P (new_entry key now last at)) = admitted_whole-law s key now last at l.whole c.missing c.given in
    subst (λ (x : ReqEntry). LaysReq new (P x)) is (came old mid node new s (entry_with key at numbers) count l (subst (λ (x : ReqEntry). IsWhole (P x)) (sym is) whole) c d)
