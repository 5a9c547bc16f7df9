-- The steps of a call, from words that lay out one state to words that lay out the next.
use Rattle.std.proofs.Common.{ℕ, ◌≡◌, ◌≢◌, ◌+◌, ◌*◌, ◌^◌, ◌<◌, ◌≤◌, Bool, List, ◌∷◌, ◌++◌, length, Option, Some, None, MatchOption, refl, sym, ap, subst, ◌∙◌, inr, arith}
use Rattle.std.specs.Prelude.{find}
use Rattle.zone_key.specs.Crc.{crc32_of}
use Rattle.zone_region.specs.Words.{word_at, SetsWord}
use Rattle.zone_region.specs.Members.{In}
use Rattle.zone_region.specs.Granting.{ReturnsWords, SameBlockWords}
use Rattle.zone_region.specs.declared.blocks.Block.{Block}
use Rattle.zone_region.proofs.MembersLemmas.{In-split}
use Rattle.slab_model.specs.State.{Slab}
use Rattle.slab_model.specs.Grant.{grant}
use Rattle.slab_model.specs.Return.{give_back}
use Rattle.slab_pages.specs.Places.{Image}
use Rattle.slab_pool.specs.Pool.{LaysPool}
use Rattle.slab_pool.specs.Live.{block_words, rest_of, KeepsPages}
use Rattle.slab_pool.proofs.RestLemmas.{rest-laid, rest-root}
use Rattle.offset_tree.specs.declared.tree.Tree.{Tree}
use Rattle.offset_tree.specs.Keys.{rank_of, IsForm}
use Rattle.offset_tree.specs.Changes.{ChangesNodes}
use Rattle.offset_tree.specs.Layout.{IsTree, CanInsert, Inserted}
use Rattle.conn_zone.specs.declared.state.ConnEntry.{ConnEntry}
use Rattle.conn_zone.specs.declared.state.ConnState.{ConnState}
use Rattle.conn_zone.specs.Table.{has_key, is_at, entry_of, entry_at, with_count}
use Rattle.conn_zone.specs.Step.{node_size, new_entry, after_grant}
use Rattle.conn_zone.specs.Object.{with_parts}
use Rattle.conn_zone.specs.Holding.{nodes_at}
use Rattle.conn_zone.specs.Layout.{count_in, Recounts, LaysNode, LaysFrom, LaysCounted, tree_at}
use Rattle.conn_zone.specs.Changes.{WritesNode, IsFound, recounted, with_missing, without_entry}
use Rattle.conn_zone.specs.Proving.Tables.{found_passes, found_all, same_block}
use Rattle.conn_zone.specs.Proving.Wholes.{changed, whole_counted, whole_new, whole_none, whole_left}
use Rattle.conn_zone.proofs.Finding.{as_many, not_found, is_found, found_node}
use Rattle.conn_zone.proofs.Named.{nodes_in}
use Rattle.conn_zone.proofs.Keeping.{blocks_same, blocks_recounted, fresh_named, IsNewNode, new_node, blocks_new, blocks_left}
use Rattle.conn_zone.proofs.Answering.{few_below, same_count, one_fewer}

-- ---- the tree

-- the zone's tree, as the code names it
pub tree_in : (image : Image) (context : ℕ) (s : ConnState) (t : Tree) (l : LaysFrom image context s) → t ≡ tree_at context → IsTree (block_words image) t l.zone.blocks.entries.blocks
tree_in image context s t l is = subst (λ (u : Tree). IsTree (block_words image) u l.zone.blocks.entries.blocks) (ap (λ (c : ℕ). tree_at c) l.context_is ∙ sym is) l.zone.blocks.entries.tree

pub nodes_are : (image : Image) (context : ℕ) (s : ConnState) (l : LaysFrom image context s) → length l.zone.blocks.entries.blocks ≡ length s.table
nodes_are image context s l = as_many (block_words image) s l.zone.blocks.entries l.zone.whole

-- the tree of a zone has fewer nodes than there are numbers of 64 bits
pub few_entries : (image : Image) (context : ℕ) (s : ConnState) → LaysFrom image context s → length s.table ≤ 2 ^ 63
few_entries image context s l =
    let holds = l.zone.blocks.entries.tree.holds in
    let few = few_below (2 ^ 63) l.zone.blocks.entries.blocks holds.distinct.1 (λ x i. omega (arith, holds.below x (inr i), holds.live x (inr i))) in
    omega (arith, few, nodes_are image context s l)

-- what a search finds is the entry of the key
pub search_found : (image : Image) (context : ℕ) (s : ConnState) (t : Tree) (hash : ℕ) (key : List ℕ) (result : Option Block) → LaysFrom image context s → t ≡ tree_at context → hash ≡ crc32_of key
    → ((xs : List ℕ) → IsTree (block_words image) t xs → MatchOption result ((x : ℕ) → In x xs → rank_of (block_words image) t.form x ≢ (hash, key)) (λ b. In b.at xs × (rank_of (block_words image) t.form b.at ≡ (hash, key))))
    → MatchOption result (entry_of key s.table ≡ None) (λ b. ((entry : ConnEntry) × IsFound s key b.at entry))
search_found image context s t hash key result l is crc found = go result (subst (λ (u : Tree). F u (crc32_of key)) (is ∙ sym (ap (λ (c : ℕ). tree_at c) l.context_is)) (subst (λ (h : ℕ). F t h) crc found) l.zone.blocks.entries.blocks l.zone.blocks.entries.tree) where
  Finds : Option Block → Tree → ℕ → List ℕ → Type 0
  Finds r u h xs = MatchOption r ((x : ℕ) → In x xs → rank_of (block_words image) u.form x ≢ (h, key)) (λ b. In b.at xs × (rank_of (block_words image) u.form b.at ≡ (h, key)))

  F : Tree → ℕ → Type 0
  F u h = (xs : List ℕ) → IsTree (block_words image) u xs → Finds result u h xs

  go : (r : Option Block) → Finds r (tree_at s.context) (crc32_of key) l.zone.blocks.entries.blocks → MatchOption r (entry_of key s.table ≡ None) (λ b. ((entry : ConnEntry) × IsFound s key b.at entry))
  go None none = not_found (block_words image) s key l.zone.blocks none
  go (Some b) some = is_found (block_words image) s key b.at l.zone.blocks l.zone.whole some.0 some.1

-- ---- another count

-- word 4 of a node was set
pub record SetsCount (old new : Image) (at word v count : ℕ) : Type 0 where
  pub room : 4 < length (block_words old at)
  pub word_is : word ≡ word_at (block_words old) at 4
  pub set : SetsWord (block_words old) (block_words new) at 4 v
  pub recounts : Recounts word v count
  pub rest : rest_of new ≡ rest_of old

pub recounted_zone : (old new : Image) (context : ℕ) (s : ConnState) (test : ConnEntry → Bool) (e : ConnEntry) (at word v count : ℕ) → SetsCount old new at word v count → LaysFrom old context s → find test s.table ≡ Some e → e.block ≡ at → LaysFrom new context (recounted s test count e)
recounted_zone old new context s test e at word v count sets l found block =
    let root = rest-root old new s.slab sets.rest l.zone.slab in
    record {
      zone = record {
        whole = whole_counted s test e count l.zone.whole found;
        slab = rest-laid old new s.slab sets.rest l.zone.slab;
        log_ctx = root.0 ∙ l.zone.log_ctx;
        data_is = root.1 ∙ l.zone.data_is;
        blocks = blocks_recounted (block_words old) (block_words new) s test e count (record {
          whole = l.zone.whole;
          found = found;
          room = subst (λ (z : ℕ). 4 < length (block_words old z)) (sym block) sets.room;
          word = v;
          set = subst (λ (z : ℕ). SetsWord (block_words old) (block_words new) z 4 v) (sym block) sets.set;
          recounts = subst (λ (w : ℕ). Recounts w v count) (sets.word_is ∙ ap (λ (z : ℕ). word_at (block_words old) z 4) (sym block)) sets.recounts;
        }) l.zone.blocks;
      };
      context_is = l.context_is;
    }

-- ---- a new node

-- the slab gave no block
pub refused_zone : (old new : Image) (context : ℕ) (s : ConnState) (key : List ℕ) → LaysFrom old context s → (grant s.slab (node_size + length key)).0 ≡ None → LaysPool new (grant s.slab (node_size + length key)).1 → SameBlockWords (block_words old) (block_words new) → KeepsPages old new
    → LaysFrom new context (with_missing s key)
refused_zone old new context s key l none laid same keeps =
    let slab = (grant s.slab (node_size + length key)).1 in
    let now : LaysFrom new context (changed s s.table slab) = record {
      zone = record {
        whole = whole_none s (node_size + length key) l.zone.whole (omega arith) none;
        slab = laid;
        log_ctx = keeps.log_ctx ∙ l.zone.log_ctx;
        data_is = keeps.data_is ∙ l.zone.data_is;
        blocks = blocks_same (block_words old) (block_words new) s slab same l.zone.blocks;
      };
      context_is = l.context_is;
    } in
    subst (λ (g : Option ℕ). LaysFrom new context (with_parts s (after_grant key s.table g slab).1)) (sym none) now

-- the slab gave a block, which became the node of the key
pub record GetsNode (old mid new : Image) (context : ℕ) (s : ConnState) (key : List ℕ) (at : ℕ) : Type 0 where
  pub lays : LaysFrom old context s
  pub missing : entry_of key s.table ≡ None
  pub given : (grant s.slab (node_size + length key)).0 ≡ Some at
  pub laid : LaysPool mid (grant s.slab (node_size + length key)).1
  pub others : (z : ℕ) → z ≢ at → block_words mid z ≡ block_words old z
  pub room : node_size + length key ≤ 8 * length (block_words mid at)
  pub keeps : KeepsPages old mid
  pub writes : WritesNode (block_words mid) (block_words new) at key
  pub rest : rest_of new ≡ rest_of mid

is_new : (old mid new : Image) (context : ℕ) (s : ConnState) (key : List ℕ) (at : ℕ) → GetsNode old mid new context s key at → IsNewNode old mid new s at key
is_new old mid new context s key at g = record {
  whole = g.lays.zone.whole;
  lays = g.lays.zone.blocks;
  missing = g.missing;
  apart = fresh_named s (node_size + length key) at g.lays.zone.whole (omega arith) g.given;
  slab = (grant s.slab (node_size + length key)).1;
  laid = g.laid;
  others = g.others;
  room = g.room;
  writes = g.writes;
}

pub can_add : (old mid new : Image) (context : ℕ) (s : ConnState) (key : List ℕ) (at : ℕ) (t : Tree) → (g : GetsNode old mid new context s key at) → t ≡ tree_at context → CanInsert (block_words new) t at key g.lays.zone.blocks.entries.blocks
unfolding is_new
can_add old mid new context s key at t g is = subst (λ (u : Tree). CanInsert (block_words new) u at key g.lays.zone.blocks.entries.blocks) (ap (λ (c : ℕ). tree_at c) g.lays.context_is ∙ sym is) (new_node old mid new s at key (is_new old mid new context s key at g))

pub added_zone : (old mid new last : Image) (context : ℕ) (s : ConnState) (key : List ℕ) (at : ℕ) (t : Tree) → (g : GetsNode old mid new context s key at) → t ≡ tree_at context → Inserted (block_words new) (block_words last) t at g.lays.zone.blocks.entries.blocks → rest_of last ≡ rest_of new
    → LaysFrom last context (with_missing s key)
unfolding is_new
added_zone old mid new last context s key at t g is inserted rest =
    let slab = (grant s.slab (node_size + length key)).1 in
    let all = rest ∙ g.rest in
    let root = rest-root mid last slab all g.laid in
    let ins = subst (λ (u : Tree). Inserted (block_words new) (block_words last) u at g.lays.zone.blocks.entries.blocks) (is ∙ sym (ap (λ (c : ℕ). tree_at c) g.lays.context_is)) inserted in
    let now : LaysFrom last context (changed s (new_entry key at ∷ s.table) slab) = record {
      zone = record {
        whole = whole_new s key at g.lays.zone.whole g.missing g.given;
        slab = rest-laid mid last slab all g.laid;
        log_ctx = root.0 ∙ g.keeps.log_ctx ∙ g.lays.zone.log_ctx;
        data_is = root.1 ∙ g.keeps.data_is ∙ g.lays.zone.data_is;
        blocks = blocks_new old mid new (block_words last) s at key slab (is_new old mid new context s key at g) ins;
      };
      context_is = g.lays.context_is;
    } in
    subst (λ (b : Option ℕ). LaysFrom last context (with_parts s (after_grant key s.table b slab).1)) (sym g.given) now

-- ---- a node leaves

-- the node is one of the tree's
pub node_there : (image : Image) (context : ℕ) (s : ConnState) (at : ℕ) (e : ConnEntry) (l : LaysFrom image context s) → entry_at at s.table ≡ Some e → In at l.zone.blocks.entries.blocks
node_there image context s at e l found =
    let own = same_block at e (found_passes (is_at at) s.table e found) in
    (l.zone.blocks.entries.members at).1 (nodes_in at s.table (subst (λ (z : ℕ). 0 < nodes z) own (found_node (is_at at) s.table e found))) where
      nodes : ℕ → ℕ
      nodes z = nodes_at z s.table

-- it was taken out, and then its block came back
pub record TakesOut (old mid new : Image) (t : Tree) (at : ℕ) : Type 0 where
  pub removed : (before after : List ℕ) → IsTree (block_words old) t (before ++ at ∷ after) → IsTree (block_words mid) t (before ++ after)
  pub changes : (xs : List ℕ) → IsTree (block_words old) t xs → In at xs → ChangesNodes (block_words old) (block_words mid) t.context.at xs
  pub rest : rest_of mid ≡ rest_of old
  pub laid : (slab : Slab) → LaysPool mid slab → LaysPool new (give_back slab at)
  pub returned : ReturnsWords (block_words mid) (block_words new) at
  pub keeps : KeepsPages mid new

pub left_zone : (old mid new : Image) (context : ℕ) (s : ConnState) (at : ℕ) (e : ConnEntry) (t : Tree) → TakesOut old mid new t at → t ≡ tree_at context → LaysFrom old context s → entry_at at s.table ≡ Some e → LaysFrom new context (without_entry s at)
left_zone old mid new context s at e t takes is l found =
    let there = node_there old context s at e l found in
    let same : t ≡ tree_at s.context = is ∙ sym (ap (λ (c : ℕ). tree_at c) l.context_is) in
    let out = subst (λ (u : Tree). TakesOut old mid new u at) same takes in
    let blocks = l.zone.blocks.entries.blocks in
    let split = In-split at blocks there in
    let root = rest-root old mid s.slab out.rest l.zone.slab in
    let kept = rest-laid old mid s.slab out.rest l.zone.slab in
    record {
      zone = record {
        whole = whole_left s at e l.zone.whole found;
        slab = out.laid s.slab kept;
        log_ctx = out.keeps.log_ctx ∙ root.0 ∙ l.zone.log_ctx;
        data_is = out.keeps.data_is ∙ root.1 ∙ l.zone.data_is;
        blocks = blocks_left (block_words old) (block_words mid) (block_words new) s at e l.zone.blocks (record {
          whole = l.zone.whole;
          found = found;
          before = split.0;
          after = split.1;
          is = split.2;
          tree = out.removed split.0 split.1 (subst (λ (xs : List ℕ). IsTree (block_words old) (tree_at s.context) xs) split.2 l.zone.blocks.entries.tree);
          changes = out.changes blocks l.zone.blocks.entries.tree there;
          returned = out.returned;
        });
      };
      context_is = l.context_is;
    }

-- ---- for the code's own terms

-- the tree of a zone has connection nodes
pub is_form : (t : Tree) (context : ℕ) → t ≡ tree_at context → IsForm t.form
is_form t context is = subst (λ (u : Tree). IsForm u.form) (sym is) (record { len_place = inr (refl, refl, refl) })

-- the bytes of a node, as the code adds them up
pub given_size : (s : ConnState) (size : ℕ) (key : List ℕ) (answer : Option ℕ) → size ≡ node_size + length key → answer ≡ (grant s.slab size).0 → answer ≡ (grant s.slab (node_size + length key)).0
given_size s size key answer is given = given ∙ ap (λ (n : ℕ). (grant s.slab n).0) is

pub laid_size : (image : Image) (s : ConnState) (size : ℕ) (key : List ℕ) → size ≡ node_size + length key → LaysPool image (grant s.slab size).1 → LaysPool image (grant s.slab (node_size + length key)).1
laid_size image s size key is laid = subst (λ (n : ℕ). LaysPool image (grant s.slab n).1) is laid

-- a node has its five words
pub node_room : (image : Image) (context : ℕ) (s : ConnState) (key : List ℕ) (at : ℕ) (e : ConnEntry) → LaysFrom image context s → IsFound s key at e → 4 < length (block_words image at)
node_room image context s key at e l found =
    let there = (l.zone.blocks.entries.members e.block).1 (nodes_in e.block s.table (found_node (has_key key) s.table e found.by_key)) in
    let room = (l.zone.blocks.entries.tree.room.nodes e.block there).links in
    subst (λ (z : ℕ). 4 < length (block_words image z)) found.at_block (omega (arith, room))

pub closed_room : (image : Image) (context : ℕ) (s : ConnState) (at : ℕ) (e : ConnEntry) → LaysFrom image context s → entry_at at s.table ≡ Some e → 4 < length (block_words image at)
closed_room image context s at e l found = omega (arith, (l.zone.blocks.entries.tree.room.nodes at (node_there image context s at e l found)).links)

-- the count that is read from it is that of its entry
pub counted_as : (image : Image) (context : ℕ) (s : ConnState) (key : List ℕ) (at : ℕ) (e : ConnEntry) → LaysFrom image context s → IsFound s key at e → (word count : ℕ) → word ≡ word_at (block_words image) at 4 → count ≡ count_in word → count ≡ e.count
counted_as image context s key at e l found word count read is =
    is ∙ ap (λ (w : ℕ). count_in w) (read ∙ ap (λ (z : ℕ). word_at (block_words image) z 4) (sym found.at_block)) ∙ (found_all (LaysNode (block_words image)) (has_key key) s.table e found.by_key l.zone.blocks.nodes).count_is

pub closed_as : (image : Image) (context : ℕ) (s : ConnState) (at : ℕ) (e : ConnEntry) → LaysFrom image context s → entry_at at s.table ≡ Some e → (word count : ℕ) → word ≡ word_at (block_words image) at 4 → count ≡ count_in word → count ≡ e.count
closed_as image context s at e l found word count read is =
    let own = same_block at e (found_passes (is_at at) s.table e found) in
    is ∙ ap (λ (w : ℕ). count_in w) (read ∙ ap (λ (z : ℕ). word_at (block_words image) z 4) (sym own)) ∙ (found_all (LaysNode (block_words image)) (is_at at) s.table e found l.zone.blocks.nodes).count_is

-- another count leaves as many entries
pub counted_next : (image : Image) (context entries : ℕ) (s : ConnState) (test : ConnEntry → Bool) (count : ℕ) (e : ConnEntry) (after : ConnState) → find test s.table ≡ Some e → length s.table ≡ entries → LaysFrom image context (recounted s test count e) → recounted s test count e ≡ after → LaysCounted image context entries after
counted_next image context entries s test count e after found counted l is = subst (λ (t : ConnState). LaysCounted image context entries t) is (record { words = l; counted = same_count test (with_count count e) s.table e found ∙ counted })

pub left_next : (image : Image) (context entries left : ℕ) (s : ConnState) (at : ℕ) (e : ConnEntry) (after : ConnState) → entry_at at s.table ≡ Some e → length s.table ≡ entries → left + 1 ≡ entries → LaysFrom image context (without_entry s at) → without_entry s at ≡ after → LaysCounted image context left after
left_next image context entries left s at e after found counted less l is = subst (λ (t : ConnState). LaysCounted image context left t) is (record { words = l; counted = let fewer = one_fewer (is_at at) s.table e found in omega (arith, fewer, counted, less) })
