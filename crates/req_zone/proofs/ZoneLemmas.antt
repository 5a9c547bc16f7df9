-- What the steps of a request zone leave of the state that its words lay out.
use Rattle.std.proofs.Common.{ℕ, ◌≡◌, ◌≢◌, ◌⊎◌, ◌+◌, ◌*◌, ◌/◌, ◌^◌, ◌<◌, ◌≤◌, List, [], ◌∷◌, ◌++◌, length, get_or, Some, None, sym, ap, subst, ◌∙◌, refl, arith, inl, inr}
use Rattle.std.proofs.lemmas.Bool.{cases_eq}
use Rattle.std.proofs.lemmas.List.{map-append, append-nil}
use Rattle.std.proofs.lemmas.List.Elements.{All-cons, All-append}
use Rattle.std.specs.List.{All}
use Rattle.zone_region.specs.Words.{Words, word_at}
use Rattle.zone_region.specs.Members.{In, IsDistinct}
use Rattle.zone_region.specs.Granting.{ReturnsWords, SameBlockWords}
use Rattle.zone_region.proofs.MembersLemmas.{In-middle, In-append_left, In-append_right, IsDistinct-split}
use Rattle.block_bytes.proofs.BytesLemmas.{holds_bytes-same}
use Rattle.slab_model.specs.State.{Slab}
use Rattle.slab_model.specs.Blocks.{IsLive, live_bytes}
use Rattle.slab_model.specs.Grant.{grant}
use Rattle.slab_model.specs.Return.{give_back}
use Rattle.slab_pages.specs.Places.{Image}
use Rattle.slab_pool.specs.Pool.{LaysPool}
use Rattle.slab_pool.specs.Live.{block_words, rest_of, KeepsPages}
use Rattle.slab_pool.proofs.BlockWords.{block_room, length-block}
use Rattle.slab_pool.proofs.RestLemmas.{rest-laid, rest-root}
use Rattle.offset_queue.proofs.Keeping.{kept_queue}
use Rattle.offset_tree.proofs.Keeping.{kept_tree, kept_request_nodes}
use Rattle.offset_table.specs.declared.table.Table.{Table}
use Rattle.offset_table.specs.Table.{tree_of, queue_of, IsTable, ChangesTable}
use Rattle.offset_table.proofs.Keeping.{kept_table}
use Rattle.req_zone.specs.declared.state.ReqEntry.{ReqEntry}
use Rattle.req_zone.specs.declared.state.ReqState.{ReqState}
use Rattle.req_zone.specs.declared.numbers.Numbers.{Numbers}
use Rattle.req_zone.specs.Step.{node_size}
use Rattle.req_zone.specs.Holding.{IsWhole, HasNode, nodes_at, entries_of}
use Rattle.req_zone.specs.Laws.{blocks_of, with_table, oldest_left, asked_for}
use Rattle.req_zone.specs.Words.{name_text, table_in, blocks_in, HasSentinel, HoldsEntry, LaysReq}
use Rattle.req_zone.specs.Lays.{StandsAt, with_numbers, SetsNumbers}
use Rattle.req_zone.specs.Proving.Tables.{nodes_more, nodes_join, keys_more, keys_join}
use Rattle.req_zone.specs.Proving.Wholes.{whole_table}
use Rattle.req_zone.specs.Proving.Named.{whole-law, space-law}
use Rattle.req_zone.specs.Proving.Oldest.{oldest_whole-law, asked_whole-law}
use Rattle.req_zone.proofs.NodeLemmas.{KeepsEntry, same_entry, table_entry, kept_entries, set_entry, blocks_join, all_before, all_at, all_behind}

-- ---- the blocks of a zone

-- the blocks of context and name and those of entries differ
pub record AreApart (s : ReqState) : Type 0 where
  pub context_name : s.name_block ≢ s.context
  pub context : In s.context (blocks_in s.table) → ⊥
  pub name : In s.name_block (blocks_in s.table) → ⊥
  pub nodes : IsDistinct (blocks_in s.table)

pub apart : (s : ReqState) → IsWhole s → AreApart s
apart s whole = let d = (whole-law s whole).0 in record { context_name = λ e. d.0 (inl (sym e)); context = λ i. d.0 (inr i); name = d.1.0; nodes = d.1.1 }

-- each of them has words
pub live_words : (image : Image) (s : ReqState) (at : ℕ) → LaysReq image s → In at (blocks_of s) → 0 < length (block_words image at)
live_words image s at l i =
    let live = ((whole-law s l.whole).1 at).0 i in
    omega (arith, live, (block_room image s.slab at l.slab live).long, length-block image s.slab at l.slab)

-- a block that was granted for so many bytes has words for them
pub block_size : (image : Image) (slab : Slab) (at size : ℕ) → LaysPool image slab → 0 < size → size ≤ live_bytes slab at → size ≤ 8 * length (block_words image at)
block_size image slab at size p some h =
    let live : IsLive slab at = omega (arith, some, h) in
    omega (arith, h, (block_room image slab at p live).long, length-block image slab at p)

-- ---- an entry of the table

pub stands : (P : ReqEntry → Type 0) (s : ReqState) (at : ℕ) (newer : List ReqEntry) (e : ReqEntry) (older : List ReqEntry) → StandsAt s at newer e older → All P s.table → All P (newer ++ e ∷ older)
stands P s at newer e older h all = subst (λ (es : List ReqEntry). All P es) h.table_is all

pub stands_at : (P : ReqEntry → Type 0) (s : ReqState) (at : ℕ) (newer : List ReqEntry) (e : ReqEntry) (older : List ReqEntry) → StandsAt s at newer e older → All P s.table → P e
stands_at P s at newer e older h all = all_at P newer e older (stands P s at newer e older h all)

pub stands_order : (s : ReqState) (at : ℕ) (newer : List ReqEntry) (e : ReqEntry) (older : List ReqEntry) → StandsAt s at newer e older → blocks_in s.table ≡ blocks_in newer ++ at ∷ blocks_in older
stands_order s at newer e older h = ap (λ (es : List ReqEntry). blocks_in es) h.table_is ∙ blocks_join newer e older ∙ ap (λ (b : ℕ). blocks_in newer ++ b ∷ blocks_in older) h.block_is

pub stands_in : (s : ReqState) (at : ℕ) (newer : List ReqEntry) (e : ReqEntry) (older : List ReqEntry) → StandsAt s at newer e older → In at (blocks_in s.table)
stands_in s at newer e older h = subst (λ (xs : List ℕ). In at xs) (sym (stands_order s at newer e older h)) (In-middle (blocks_in newer) at (blocks_in older))

-- its block has words for its node
pub node_words : (image : Image) (s : ReqState) (at : ℕ) (newer : List ReqEntry) (e : ReqEntry) (older : List ReqEntry) → LaysReq image s → StandsAt s at newer e older → 10 ≤ length (block_words image at)
node_words image s at newer e older l h =
    let bytes : node_size + length e.key ≤ live_bytes s.slab e.block = stands_at (λ (entry : ReqEntry). node_size + length entry.key ≤ live_bytes s.slab entry.block) s at newer e older h (space-law s l.whole).nodes in
    let words = block_size image s.slab e.block (node_size + length e.key) l.slab (omega arith) bytes in
    omega (arith, words, ap (λ (b : ℕ). length (block_words image b)) h.block_is)

-- ---- the words and the table change, and the slab stays

pub relaid : (old new : Image) (s : ReqState) (table : List ReqEntry) → LaysReq old s → IsWhole (with_table s table) → rest_of new ≡ rest_of old → block_words new s.name_block ≡ block_words old s.name_block → HasSentinel (block_words new) s.context → IsTable (block_words new) (table_in s) (blocks_in table) → All (HoldsEntry (block_words new)) table → LaysReq new (with_table s table)
relaid old new s table l whole rest name sentinel order nodes =
    let root = rest-root old new s.slab rest l.slab in
    record {
      whole = whole;
      slab = rest-laid old new s.slab rest l.slab;
      log_ctx = root.0 ∙ l.log_ctx;
      data_is = root.1 ∙ l.data_is;
      name = holds_bytes-same (block_words old) (block_words new) s.name_block 0 (name_text s.name) name l.name;
      sentinel = sentinel;
      table = order;
      nodes = nodes;
    }

-- what a table's calls leave of the context's other words
pub kept_sentinel : (m n : Words) (t : Table) (xs : List ℕ) → ChangesTable m n t xs → HasSentinel m t.context.at → HasSentinel n t.context.at
kept_sentinel m n t xs c h = record {
  offset = c.head 1 (λ e. omega (arith, e)) (λ e. omega (arith, e)) (λ e. omega (arith, e)) ∙ h.offset;
  none = c.head 2 (λ e. omega (arith, e)) (λ e. omega (arith, e)) (λ e. omega (arith, e)) ∙ h.none;
  sentinel = λ i low high. c.head i (λ e. omega (arith, e, low)) (λ e. omega (arith, e, high)) (λ e. omega (arith, e, high)) ∙ h.sentinel i low high;
}

pub same_sentinel : (m n : Words) (at : ℕ) → n at ≡ m at → HasSentinel m at → HasSentinel n at
same_sentinel m n at same h = record {
  offset = ap (λ (ws : List ℕ). get_or ws 1 0) same ∙ h.offset;
  none = ap (λ (ws : List ℕ). get_or ws 2 0) same ∙ h.none;
  sentinel = λ i low high. ap (λ (ws : List ℕ). get_or ws i 0) same ∙ h.sentinel i low high;
}

-- and of the nodes
pub table_entries : (m n : Words) (t : Table) (xs : List ℕ) (es : List ReqEntry) → (In t.context.at (blocks_in es) → ⊥) → ChangesTable m n t xs → All (HoldsEntry m) es → All (HoldsEntry n) es
table_entries m n t xs es away c all = kept_entries m n es (λ at i. table_entry m n t xs at (λ e. away (subst (λ (z : ℕ). In z (blocks_in es)) e i)) c) all

-- ---- an entry comes to the front

whole_moved : (s : ReqState) (newer : List ReqEntry) (e : ReqEntry) (older : List ReqEntry) → IsWhole s → s.table ≡ newer ++ e ∷ older → IsWhole (with_table s (e ∷ newer ++ older))
whole_moved s newer e older whole is =
    let all = subst (λ (es : List ReqEntry). All (HasNode s.slab) es) is whole.nodes in
    whole_table s (e ∷ newer ++ older) whole
    (λ at. omega (arith, ap (λ (es : List ReqEntry). nodes_at at es) is, nodes_join at newer (e ∷ older), nodes_more at e older, nodes_more at e (newer ++ older), nodes_join at newer older))
    (λ key. omega (arith, ap (λ (es : List ReqEntry). entries_of key es) is, keys_join key newer (e ∷ older), keys_more key e older, keys_more key e (newer ++ older), keys_join key newer older))
    (All-cons (HasNode s.slab) e (newer ++ older) (all_at (HasNode s.slab) newer e older all) (All-append (HasNode s.slab) newer older (all_before (HasNode s.slab) newer e older all) (all_behind (HasNode s.slab) newer e older all)))

pub touched : (old new : Image) (s : ReqState) (t : Table) (at : ℕ) (newer : List ReqEntry) (e : ReqEntry) (older : List ReqEntry) → LaysReq old s → t ≡ table_in s → StandsAt s at newer e older
    → (IsTable (block_words old) t (blocks_in newer ++ at ∷ blocks_in older) → IsTable (block_words new) t (at ∷ blocks_in newer ++ blocks_in older))
    → (IsTable (block_words old) t (blocks_in s.table) → In at (blocks_in s.table) → ChangesTable (block_words old) (block_words new) t (blocks_in s.table))
    → rest_of new ≡ rest_of old → LaysReq new (with_table s (e ∷ newer ++ older))
touched old new s t at newer e older l t_is h lays changes rest =
    let was : IsTable (block_words old) t (blocks_in s.table) = subst (λ (u : Table). IsTable (block_words old) u (blocks_in s.table)) (sym t_is) l.table in
    let order = stands_order s at newer e older h in
    let c : ChangesTable (block_words old) (block_words new) (table_in s) (blocks_in s.table) = subst (λ (u : Table). ChangesTable (block_words old) (block_words new) u (blocks_in s.table)) t_is (changes was (stands_in s at newer e older h)) in
    let now : IsTable (block_words new) (table_in s) (at ∷ blocks_in newer ++ blocks_in older) = subst (λ (u : Table). IsTable (block_words new) u (at ∷ blocks_in newer ++ blocks_in older)) t_is (lays (subst (λ (xs : List ℕ). IsTable (block_words old) t xs) order was)) in
    let moved : at ∷ blocks_in newer ++ blocks_in older ≡ blocks_in (e ∷ newer ++ older) = ap (λ (b : ℕ). b ∷ blocks_in newer ++ blocks_in older) (sym h.block_is) ∙ ap (λ (xs : List ℕ). e.block ∷ xs) (sym (map-append (λ (entry : ReqEntry). entry.block) newer older)) in
    let a = apart s l.whole in
    let nodes = stands (HoldsEntry (block_words new)) s at newer e older h (table_entries (block_words old) (block_words new) (table_in s) (blocks_in s.table) s.table a.context c l.nodes) in
    relaid old new s (e ∷ newer ++ older) l (whole_moved s newer e older l.whole h.table_is) rest
    (c.others s.name_block a.context_name a.name)
    (kept_sentinel (block_words old) (block_words new) (table_in s) (blocks_in s.table) c l.sentinel)
    (subst (λ (xs : List ℕ). IsTable (block_words new) (table_in s) xs) moved now)
    (All-cons (HoldsEntry (block_words new)) e (newer ++ older) (all_at (HoldsEntry (block_words new)) newer e older nodes) (All-append (HoldsEntry (block_words new)) newer older (all_before (HoldsEntry (block_words new)) newer e older nodes) (all_behind (HoldsEntry (block_words new)) newer e older nodes)))

-- ---- an entry's numbers are set

-- another word than the three
numbers_word : (m n : Words) (at z i : ℕ) (numbers : Numbers) → SetsNumbers m n at numbers → (i < 7) ⊎ (9 < i) → word_at n z i ≡ word_at m z i
numbers_word m n at z i numbers c k = elim (cases_eq z at) [
  | inl e ↦ subst (λ (x : ℕ). word_at n x i ≡ word_at m x i) (sym e) (c.rest i k)
  | inr ne ↦ ap (λ (ws : List ℕ). get_or ws i 0) (c.others z ne)
]

numbers_table : (m n : Words) (t : Table) (at : ℕ) (numbers : Numbers) (order : List ℕ) → (t.context.at ≢ at) → SetsNumbers m n at numbers → IsTable m t order → IsTable n t order
numbers_table m n t at numbers order away c h = record {
  sorted = h.sorted;
  queue = kept_queue m n (queue_of t) 5 order (record {
    lengths = λ z j. c.lengths z;
    head_prev = ap (λ (ws : List ℕ). get_or ws 8 0) (c.others t.context.at away);
    head_next = ap (λ (ws : List ℕ). get_or ws 9 0) (c.others t.context.at away);
    prevs = λ z j. numbers_word m n at z 5 numbers c (inl (omega arith));
    nexts = λ z j. numbers_word m n at z 6 numbers c (inl (omega arith));
  }) h.queue;
  tree = kept_tree m n (tree_of t) h.sorted (kept_request_nodes m n (tree_of t) h.sorted refl (record {
    lengths = λ z j. c.lengths z;
    root = ap (λ (ws : List ℕ). get_or ws 0 0) (c.others t.context.at away);
    nodes = λ z k j w. numbers_word m n at z k numbers c (elim w [ inl low ↦ inl (omega (arith, low)) | inr high ↦ inr (omega (arith, high)) ]);
  })) h.tree;
  there = h.there;
  back = h.back;
}

whole_numbered : (s : ReqState) (newer : List ReqEntry) (e : ReqEntry) (older : List ReqEntry) (numbers : Numbers) → IsWhole s → s.table ≡ newer ++ e ∷ older → IsWhole (with_table s (newer ++ with_numbers numbers e ∷ older))
whole_numbered s newer e older numbers whole is =
    let all = subst (λ (es : List ReqEntry). All (HasNode s.slab) es) is whole.nodes in
    let f : ReqEntry = with_numbers numbers e in
    whole_table s (newer ++ f ∷ older) whole
    (λ at. omega (arith, ap (λ (es : List ReqEntry). nodes_at at es) is, nodes_join at newer (e ∷ older), nodes_more at e older, nodes_join at newer (f ∷ older), nodes_more at f older))
    (λ key. omega (arith, ap (λ (es : List ReqEntry). entries_of key es) is, keys_join key newer (e ∷ older), keys_more key e older, keys_join key newer (f ∷ older), keys_more key f older))
    (All-append (HasNode s.slab) newer (f ∷ older) (all_before (HasNode s.slab) newer e older all) (All-cons (HasNode s.slab) f older (all_at (HasNode s.slab) newer e older all) (all_behind (HasNode s.slab) newer e older all)))

pub numbered : (old new : Image) (s : ReqState) (at : ℕ) (newer : List ReqEntry) (e : ReqEntry) (older : List ReqEntry) (numbers : Numbers) → LaysReq old s → StandsAt s at newer e older → SetsNumbers (block_words old) (block_words new) at numbers → rest_of new ≡ rest_of old → LaysReq new (with_table s (newer ++ with_numbers numbers e ∷ older))
numbered old new s at newer e older numbers l h c rest =
    let a = apart s l.whole in
    let here = stands_in s at newer e older h in
    let f : ReqEntry = with_numbers numbers e in
    let away : s.context ≢ at = λ q. a.context (subst (λ (z : ℕ). In z (blocks_in s.table)) (sym q) here) in
    let name : s.name_block ≢ at = λ q. a.name (subst (λ (z : ℕ). In z (blocks_in s.table)) (sym q) here) in
    let own : SetsNumbers (block_words old) (block_words new) e.block numbers = subst (λ (b : ℕ). SetsNumbers (block_words old) (block_words new) b numbers) (sym h.block_is) c in
    let order = stands_order s at newer e older h in
    let split = subst (λ (xs : List ℕ). IsDistinct xs) order a.nodes in
    let out = IsDistinct-split (blocks_in newer) at (blocks_in older) split in
    let was = stands (HoldsEntry (block_words old)) s at newer e older h l.nodes in
    let other = λ (z : ℕ) (i : In z (blocks_in newer ++ blocks_in older)). let r : KeepsEntry (block_words old) (block_words new) z = same_entry (block_words old) (block_words new) z (c.others z (λ q. out.1 (subst (λ (x : ℕ). In x (blocks_in newer ++ blocks_in older)) q i))) in r in
    let before = kept_entries (block_words old) (block_words new) newer (λ z i. other z (In-append_left z (blocks_in newer) (blocks_in older) i)) (all_before (HoldsEntry (block_words old)) newer e older was) in
    let behind = kept_entries (block_words old) (block_words new) older (λ z i. other z (In-append_right z (blocks_in newer) (blocks_in older) i)) (all_behind (HoldsEntry (block_words old)) newer e older was) in
    let node = set_entry (block_words old) (block_words new) e numbers own (all_at (HoldsEntry (block_words old)) newer e older was) in
    let same : blocks_in s.table ≡ blocks_in (newer ++ f ∷ older) = ap (λ (es : List ReqEntry). blocks_in es) h.table_is ∙ blocks_join newer e older ∙ sym (blocks_join newer f older) in
    relaid old new s (newer ++ f ∷ older) l (whole_numbered s newer e older numbers l.whole h.table_is) rest (c.others s.name_block name)
    (same_sentinel (block_words old) (block_words new) s.context (c.others s.context away) l.sentinel)
    (subst (λ (xs : List ℕ). IsTable (block_words new) (table_in s) xs) same (numbers_table (block_words old) (block_words new) (table_in s) at numbers (blocks_in s.table) away c l.table))
    (All-append (HoldsEntry (block_words new)) newer (f ∷ older) before (All-cons (HoldsEntry (block_words new)) f older node behind))

-- ---- the oldest entry leaves

pub record Leaves (old mid new : Image) (s : ReqState) (t : Table) (at : ℕ) (newer : List ReqEntry) : Type 0 where
  pub removed : (ys zs : List ℕ) → IsTable (block_words old) t (ys ++ at ∷ zs) → IsTable (block_words mid) t (ys ++ zs)
  pub changes : (order : List ℕ) → IsTable (block_words old) t order → In at order → ChangesTable (block_words old) (block_words mid) t order
  pub rest : rest_of mid ≡ rest_of old
  pub given : (slab : Slab) → LaysPool mid slab → LaysPool new (give_back slab at)
  pub words : ReturnsWords (block_words mid) (block_words new) at
  pub kept : KeepsPages mid new

pub left : (old mid new : Image) (s : ReqState) (t : Table) (at : ℕ) (newer : List ReqEntry) (e : ReqEntry) → LaysReq old s → t ≡ table_in s → StandsAt s at newer e [] → Leaves old mid new s t at newer → LaysReq new (oldest_left s newer e)
left old mid new s t at newer e l t_is h step =
    let a = apart s l.whole in
    let here = stands_in s at newer e [] h in
    let order = stands_order s at newer e [] h in
    let was : IsTable (block_words old) t (blocks_in s.table) = subst (λ (u : Table). IsTable (block_words old) u (blocks_in s.table)) (sym t_is) l.table in
    let c : ChangesTable (block_words old) (block_words mid) (table_in s) (blocks_in s.table) = subst (λ (u : Table). ChangesTable (block_words old) (block_words mid) u (blocks_in s.table)) t_is (step.changes (blocks_in s.table) was here) in
    let none : blocks_in newer ++ [] ≡ blocks_in newer = append-nil (blocks_in newer) in
    let now : IsTable (block_words mid) (table_in s) (blocks_in newer) = subst (λ (xs : List ℕ). IsTable (block_words mid) (table_in s) xs) none
    (subst (λ (u : Table). IsTable (block_words mid) u (blocks_in newer ++ [])) t_is (step.removed (blocks_in newer) [] (subst (λ (xs : List ℕ). IsTable (block_words old) t xs) order was))) in
    let out = IsDistinct-split (blocks_in newer) at [] (subst (λ (xs : List ℕ). IsDistinct xs) order a.nodes) in
    let gone : In at (blocks_in newer) → ⊥ = λ i. out.1 (subst (λ (xs : List ℕ). In at xs) (sym none) i) in
    let away : s.context ≢ at = λ q. a.context (subst (λ (z : ℕ). In z (blocks_in s.table)) (sym q) here) in
    let name : s.name_block ≢ at = λ q. a.name (subst (λ (z : ℕ). In z (blocks_in s.table)) (sym q) here) in
    let apart_from = λ (z : ℕ) (i : In z (blocks_in newer)). let r : z ≢ at = λ q. gone (subst (λ (x : ℕ). In x (blocks_in newer)) q i) in r in
    let laid = rest-laid old mid s.slab step.rest l.slab in
    let root = rest-root old mid s.slab step.rest l.slab in
    let held = stands (HoldsEntry (block_words mid)) s at newer e [] h (table_entries (block_words old) (block_words mid) (table_in s) (blocks_in s.table) s.table a.context c l.nodes) in
    record {
      whole = oldest_whole-law s newer e l.whole h.table_is;
      slab = subst (λ (b : ℕ). LaysPool new (give_back s.slab b)) (sym h.block_is) (step.given s.slab laid);
      log_ctx = step.kept.log_ctx ∙ root.0 ∙ l.log_ctx;
      data_is = step.kept.data_is ∙ root.1 ∙ l.data_is;
      name = holds_bytes-same (block_words old) (block_words new) s.name_block 0 (name_text s.name) (step.words.others s.name_block name ∙ c.others s.name_block a.context_name a.name) l.name;
      sentinel = same_sentinel (block_words mid) (block_words new) s.context (step.words.others s.context away) (kept_sentinel (block_words old) (block_words mid) (table_in s) (blocks_in s.table) c l.sentinel);
      table = kept_table (block_words mid) (block_words new) (table_in s) (blocks_in newer) (λ z i. step.words.others z (elim i [ inl q ↦ λ r. away (sym q ∙ r) | inr j ↦ apart_from z j ])) now;
      nodes = kept_entries (block_words mid) (block_words new) newer (λ z i. same_entry (block_words mid) (block_words new) z (step.words.others z (apart_from z i))) (all_before (HoldsEntry (block_words mid)) newer e [] held);
    }

-- ---- the pool has no block

pub refused : (old new : Image) (s : ReqState) (size : ℕ) → LaysReq old s → 0 < size → (grant s.slab size).0 ≡ None → LaysPool new (grant s.slab size).1 → SameBlockWords (block_words old) (block_words new) → KeepsPages old new → LaysReq new (asked_for s size)
refused old new s size l some none laid same kept = record {
  whole = asked_whole-law s size l.whole some none;
  slab = laid;
  log_ctx = kept.log_ctx ∙ l.log_ctx;
  data_is = kept.data_is ∙ l.data_is;
  name = holds_bytes-same (block_words old) (block_words new) s.name_block 0 (name_text s.name) (same s.name_block) l.name;
  sentinel = same_sentinel (block_words old) (block_words new) s.context (same s.context) l.sentinel;
  table = kept_table (block_words old) (block_words new) (table_in s) (blocks_in s.table) (λ z i. same z) l.table;
  nodes = kept_entries (block_words old) (block_words new) s.table (λ z i. same_entry (block_words old) (block_words new) z (same z)) l.nodes;
}
