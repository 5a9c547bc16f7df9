-- What changes of blocks leave of a zone.
use Rattle.std.proofs.Common.{ℕ, ◌≡◌, ◌≢◌, ◌⊎◌, ◌+◌, ◌*◌, ◌/◌, ◌%◌, ◌<◌, ◌≤◌, Bool, List, [], ◌∷◌, ◌++◌, length, get_or, Some, None, refl, sym, ap, subst, ◌∙◌, inl, inr, arith}
use Rattle.std.specs.Prelude.{find}
use Rattle.std.proofs.lemmas.Bool.{cases_eq}
use Rattle.std.proofs.lemmas.List.Elements.{All-nil, All-cons, All-from_get_or}
use Rattle.zone_region.specs.Words.{Words, word_at, SetsWord}
use Rattle.zone_region.specs.Members.{In, IsDistinct}
use Rattle.zone_region.specs.Granting.{ReturnsWords}
use Rattle.zone_region.proofs.WordLemmas.{word_at-set_same, word_at-set_block, word_at-set_index, length-set_word}
use Rattle.zone_region.proofs.MembersLemmas.{In-more, In-one_more, In-middle, IsDistinct-split}
use Rattle.zone_region.proofs.HoldingLemmas.{holds_kept}
use Rattle.zone_key.specs.Crc.{crc32_of}
use Rattle.block_bytes.proofs.BytesLemmas.{holds_bytes-same}
use Rattle.slab_model.specs.State.{Slab}
use Rattle.slab_model.specs.Grant.{grant}
use Rattle.slab_model.specs.Return.{give_back}
use Rattle.slab_model.proofs.BlockLaws.{grant-grants}
use Rattle.slab_model.proofs.LiveLemmas.{once_here, once_there, live_none}
use Rattle.slab_pages.specs.Places.{Image}
use Rattle.slab_pool.specs.Pool.{LaysPool}
use Rattle.slab_pool.specs.Live.{block_words}
use Rattle.slab_pool.proofs.HeldLemmas.{holds-blocks}
use Rattle.offset_tree.specs.Changes.{ChangesNodes}
use Rattle.offset_tree.specs.Keys.{key_len}
use Rattle.offset_tree.specs.Layout.{IsTree, CanInsert, Inserted}
use Rattle.offset_tree.proofs.Keeping.{KeepsTree, kept_tree, kept_blocks, can_insert, rank_of-connection}
use Rattle.conn_zone.specs.declared.state.ConnEntry.{ConnEntry}
use Rattle.conn_zone.specs.declared.state.ConnState.{ConnState}
use Rattle.conn_zone.specs.Table.{is_at, entry_of, entry_at, with_count, replace_first}
use Rattle.conn_zone.specs.Step.{node_size, new_entry}
use Rattle.conn_zone.specs.Object.{once_at}
use Rattle.conn_zone.specs.Holding.{nodes_at, named_at, IsWhole}
use Rattle.conn_zone.specs.Layout.{count_in, front_in, Recounts, LaysNode, LaysContext, LaysEntries, LaysBlocks, tree_at}
use Rattle.conn_zone.specs.Changes.{WritesNode}
use Rattle.conn_zone.specs.Proving.Tables.{found_passes, found_all, replaced_sum, node_weight, sum_one, same_block, each_named}
use Rattle.conn_zone.specs.Proving.Wholes.{changed}
use Rattle.conn_zone.proofs.Named.{in_nodes, nodes_in}
use Rattle.conn_zone.proofs.NodeWords.{node_rank, node_kept, node_same, node_recounted}
use Rattle.conn_zone.proofs.Finding.{node_apart, roots_apart, few_nodes, found_node, no_rank, others_apart}

no_entry : ConnEntry
no_entry = record { key = []; block = 0; count = 0 }

-- a word of a block that stays
word_same : (m n : Words) (z i : ℕ) → n z ≡ m z → word_at n z i ≡ word_at m z i
word_same m n z i same = ap (λ (ws : List ℕ). get_or ws i 0) same

context_same : (m n : Words) (context : ℕ) → ((i : ℕ) → i ≢ 0 → word_at n context i ≡ word_at m context i) → LaysContext m context → LaysContext n context
context_same m n context same l = record {
  sentinel = same 1 (λ e. omega (arith, e)) ∙ l.sentinel;
  zeros = λ i low high. same i (λ e. omega (arith, e, low)) ∙ l.zeros i low high;
}

-- ---- no block changed

pub blocks_same : (m n : Words) (s : ConnState) (slab : Slab) → ((z : ℕ) → n z ≡ m z) → LaysBlocks m s → LaysBlocks n (changed s s.table slab)
blocks_same m n s slab same l = record {
  context = context_same m n s.context (λ i ne. word_same m n s.context i (same s.context)) l.context;
  name = holds_bytes-same m n s.name_block 0 _ (same s.name_block) l.name;
  nodes = λ k d low. node_same m n _ (same _) (l.nodes k d low);
  entries = record {
    blocks = l.entries.blocks;
    tree = kept_tree m n (tree_at s.context) l.entries.blocks (kept_blocks m n (tree_at s.context) l.entries.blocks (λ z i. same z)) l.entries.tree;
    members = l.entries.members;
  };
}

-- ---- a count changed

-- the tree stays
recounted_tree : (m n : Words) (context at v : ℕ) (blocks : List ℕ) → context ≢ at → 4 < length (m at) → SetsWord m n at 4 v → v % 65536 ≡ word_at m at 4 % 65536 → front_in v ≡ front_in (word_at m at 4) → KeepsTree m n (tree_at context) blocks
recounted_tree m n context at v blocks apart room set low front = record {
  lengths = λ z i. length-set_word m n at 4 v z set;
  root = word_at-set_block m n at 4 v context 0 set apart;
  nodes = λ z i. record {
    left = word_at-set_index m n at 4 v z 1 set (λ e. omega (arith, e));
    right = word_at-set_index m n at 4 v z 2 set (λ e. omega (arith, e));
    parent = word_at-set_index m n at 4 v z 3 set (λ e. omega (arith, e));
    colour = low_byte (word_at n z 4) (word_at m z 4) (lower z);
  };
  keys = λ z i. rank_of-connection m n (tree_at context).form z refl refl refl
      (word_at-set_index m n at 4 v z 0 set (λ e. omega (arith, e)))
      (second_byte (word_at n z 4) (word_at m z 4) (lower z))
      (upper z)
      (λ i high. word_at-set_index m n at 4 v z i set (λ e. omega (arith, e, high)));
} where
  low_byte : (a b : ℕ) → a % 65536 ≡ b % 65536 → a % 256 ≡ b % 256
  low_byte a b e = omega (arith, e)

  second_byte : (a b : ℕ) → a % 65536 ≡ b % 65536 → a / 256 % 256 ≡ b / 256 % 256
  second_byte a b e = omega (arith, e)

  lower : (z : ℕ) → word_at n z 4 % 65536 ≡ word_at m z 4 % 65536
  lower z = elim (cases_eq z at) [
    | inl e ↦ subst (λ (y : ℕ). word_at n y 4 % 65536 ≡ word_at m y 4 % 65536) (sym e) (ap (λ (w : ℕ). w % 65536) (word_at-set_same m n at 4 v set room) ∙ low)
    | inr ne ↦ ap (λ (w : ℕ). w % 65536) (word_at-set_block m n at 4 v z 4 set ne)
  ]

  upper : (z : ℕ) → word_at n z 4 / 4294967296 ≡ word_at m z 4 / 4294967296
  upper z = elim (cases_eq z at) [
    | inl e ↦ subst (λ (y : ℕ). word_at n y 4 / 4294967296 ≡ word_at m y 4 / 4294967296) (sym e) (ap (λ (w : ℕ). w / 4294967296) (word_at-set_same m n at 4 v set room) ∙ front)
    | inr ne ↦ ap (λ (w : ℕ). w / 4294967296) (word_at-set_block m n at 4 v z 4 set ne)
  ]

-- word 4 of the node of an entry now has another count
pub record IsRecounted (m n : Words) (s : ConnState) (test : ConnEntry → Bool) (e : ConnEntry) (count : ℕ) : Type 0 where
  pub whole : IsWhole s
  pub found : find test s.table ≡ Some e
  pub room : 4 < length (m e.block)
  pub word : ℕ
  pub set : SetsWord m n e.block 4 word
  pub recounts : Recounts (word_at m e.block 4) word count

pub blocks_recounted : (m n : Words) (s : ConnState) (test : ConnEntry → Bool) (e : ConnEntry) (count : ℕ) → IsRecounted m n s test e count → LaysBlocks m s → LaysBlocks n (changed s (replace_first test (with_count count e ∷ []) s.table) s.slab)
blocks_recounted m n s test e count h l =
    let new = with_count count e in
    let apart = node_apart s e.block h.whole (found_node test s.table e h.found) in
    let word = word_at-set_same m n e.block 4 h.word h.set h.room in
    let node = node_recounted m n e new refl refl
    (word_at-set_index m n e.block 4 h.word e.block 0 h.set (λ e. omega (arith, e)))
    (ap (λ (w : ℕ). count_in w) word ∙ h.recounts.counted)
    (ap (λ (w : ℕ). w % 65536) word ∙ h.recounts.low)
    (ap (λ (w : ℕ). front_in w) word ∙ h.recounts.front)
    (λ i high. word_at-set_index m n e.block 4 h.word e.block i h.set (λ e. omega (arith, e, high)))
    (found_all (LaysNode m) test s.table e h.found l.nodes) in
    let same_nodes = λ (z : ℕ). let r : nodes_at z (replace_first test (new ∷ []) s.table) ≡ nodes_at z s.table = let sums = replaced_sum (node_weight z) test (new ∷ []) s.table e h.found in let one = sum_one (node_weight z) new in omega (arith, sums, one) in r in
    record {
      context = context_same m n s.context (λ i ne. word_same m n s.context i (h.set.others s.context apart.context)) l.context;
      name = holds_bytes-same m n s.name_block 0 _ (h.set.others s.name_block apart.name) l.name;
      nodes = others_apart (LaysNode n) test (new ∷ []) s.table e h.found (few_nodes s e.block h.whole)
          (λ k d low ne. node_same m n _ (h.set.others _ ne) (l.nodes k d low))
          (All-cons (LaysNode n) new [] node (All-nil (LaysNode n)));
      entries = record {
        blocks = l.entries.blocks;
        tree = kept_tree m n (tree_at s.context) l.entries.blocks (recounted_tree m n s.context e.block h.word l.entries.blocks apart.context h.room h.set h.recounts.low h.recounts.front) l.entries.tree;
        members = λ at. (
          λ i. nodes_in at _ (let some = in_nodes at s.table ((l.entries.members at).0 i) in omega (arith, some, same_nodes at)),
          λ i. (l.entries.members at).1 (nodes_in at s.table (let some = in_nodes at _ i in omega (arith, some, same_nodes at))),
        );
      };
    }

-- ---- a node more

-- the block of a grant is none of the zone's
pub fresh_named : (s : ConnState) (size at : ℕ) → IsWhole s → 0 < size → (grant s.slab size).0 ≡ Some at → named_at s at ≡ 0
fresh_named s size at whole some given = let h = whole.named at in let none = live_none s.slab at (grant-grants s.slab size at whole.sound some given).0.fresh in omega (arith, h, none)

-- a granted block was made the node of a key that was missing
pub record IsNewNode (old mid new : Image) (s : ConnState) (at : ℕ) (key : List ℕ) : Type 0 where
  pub whole : IsWhole s
  pub lays : LaysBlocks (block_words old) s
  pub missing : entry_of key s.table ≡ None
  pub apart : named_at s at ≡ 0
  pub slab : Slab
  pub laid : LaysPool mid slab
  pub others : (z : ℕ) → z ≢ at → block_words mid z ≡ block_words old z
  pub room : node_size + length key ≤ 8 * length (block_words mid at)
  pub writes : WritesNode (block_words mid) (block_words new) at key

-- every other block is as it was
new_same : (old mid new : Image) (s : ConnState) (at : ℕ) (key : List ℕ) → IsNewNode old mid new s at key → (z : ℕ) → z ≢ at → block_words new z ≡ block_words old z
new_same old mid new s at key h z ne = h.writes.others z ne ∙ h.others z ne

-- the blocks of the tree are others
tree_apart : (m : Words) (s : ConnState) (at : ℕ) → LaysBlocks m s → named_at s at ≡ 0 → (l : LaysEntries m s.context s.table) → (z : ℕ) → In z (s.context ∷ l.blocks) → z ≢ at
tree_apart m s at lays none l z (inl e) same = absurd (let one : once_at at s.context ≡ 1 = ap (λ (n : ℕ). once_at at n) (sym e ∙ same) ∙ once_here at in omega (arith, none, one))
tree_apart m s at lays none l z (inr i) same = absurd (let some = in_nodes z s.table ((l.members z).0 i) in let also : nodes_at z s.table ≡ nodes_at at s.table = ap (λ (n : ℕ). nodes_at n s.table) same in omega (arith, none, some, also))

pub new_node : (old mid new : Image) (s : ConnState) (at : ℕ) (key : List ℕ) → (h : IsNewNode old mid new s at key) → CanInsert (block_words new) (tree_at s.context) at key h.lays.entries.blocks
new_node old mid new s at key h =
    let xs = h.lays.entries.blocks in
    let tree = h.lays.entries.tree in
    let apart = tree_apart (block_words old) s at h.lays h.apart h.lays.entries in
    let same = λ (z : ℕ) (i : In z (s.context ∷ xs)). new_same old mid new s at key h z (apart z i) in
    let mid_live = λ (z : ℕ) (i : In z (s.context ∷ xs)). let r : 0 < length (block_words mid z) = omega (arith, tree.holds.live z i, ap (λ (ws : List ℕ). length ws) (h.others z (apart z i))) in r in
    let live = λ (z : ℕ) (i : In z (s.context ∷ at ∷ xs)). elim i as (λ _. 0 < length (block_words mid z)) [
      | inl e ↦ mid_live z (inl e)
      | inr j ↦ elim j [ inl e ↦ subst (λ (y : ℕ). 0 < length (block_words mid y)) (sym e) (omega (arith, h.room)) | inr k ↦ mid_live z (inr k) ]
    ] in
    let distinct : IsDistinct (s.context ∷ at ∷ xs) = (
      λ i. elim i [ inl e ↦ apart s.context (inl refl) e | inr j ↦ tree.holds.distinct.0 j ],
      (λ i. apart at (inr i) refl, tree.holds.distinct.1),
    ) in
    let holds = holds_kept (block_words mid) (block_words new) (s.context ∷ at ∷ xs) (λ z i. h.writes.lengths z) (holds-blocks mid h.slab (s.context ∷ at ∷ xs) h.laid distinct live) in
    let long = h.writes.lengths at in
    let len : key_len (block_words new) (tree_at s.context).form at ≡ length key = h.writes.node.length_is in
    can_insert (block_words old) (block_words new) (tree_at s.context) at (crc32_of key) key xs (kept_blocks (block_words old) (block_words new) (tree_at s.context) xs same) tree
    (no_rank (block_words old) s key h.lays h.missing) holds
    (record { links = omega (arith, long, h.room); key = omega (arith, long, len, h.room) })
    (node_rank (block_words new) (new_entry key at) s.context h.writes.node)

pub blocks_new : (old mid new : Image) (last : Words) (s : ConnState) (at : ℕ) (key : List ℕ) (slab : Slab) → (h : IsNewNode old mid new s at key) → Inserted (block_words new) last (tree_at s.context) at h.lays.entries.blocks → LaysBlocks last (changed s (new_entry key at ∷ s.table) slab)
blocks_new old mid new last s at key slab h ins =
    let l = h.lays in
    let xs = ins.before ++ at ∷ ins.after in
    let apart = tree_apart (block_words old) s at l h.apart l.entries in
    let nodes_apart = λ (z : ℕ) (some : 0 < nodes_at z s.table). node_apart s z h.whole some in
    let there = λ (z : ℕ) (i : In z xs). let r : (z ≡ at) ⊎ In z l.entries.blocks = elim (In-one_more z ins.before at ins.after i) [ inl e ↦ inl e | inr j ↦ inr (subst (λ (ys : List ℕ). In z ys) (sym ins.is) j) ] in r in
    let name_ne : s.name_block ≢ at = λ same. absurd (let one : once_at at s.name_block ≡ 1 = ap (λ (n : ℕ). once_at at n) same ∙ once_here at in let none = h.apart in omega (arith, none, one)) in
    let name_out : In s.name_block xs → ⊥ = λ i. elim (there s.name_block i) [
      | inl e ↦ name_ne e
      | inr j ↦ (nodes_apart s.name_block (in_nodes s.name_block s.table ((l.entries.members s.name_block).0 j))).name refl
    ] in
    let context_ne = apart s.context (inl refl) in
    record {
      context = context_same (block_words old) last s.context (λ i ne. ins.changes.head i ne ∙ word_same (block_words old) (block_words new) s.context i (new_same old mid new s at key h s.context context_ne)) l.context;
      name = holds_bytes-same (block_words old) last s.name_block 0 _ (ins.changes.others s.name_block (roots_apart s h.whole) name_out ∙ new_same old mid new s at key h s.name_block name_ne) l.name;
      nodes = All-cons (LaysNode last) (new_entry key at) s.table
          (after (new_entry key at) (λ e. context_ne (sym e)) h.writes.node)
          (All-from_get_or (LaysNode last) s.table no_entry (λ i low.
          let e = get_or s.table i no_entry in
          let some = each_named s.table i no_entry low in
          let ne : e.block ≢ at = λ same. absurd (let also : nodes_at e.block s.table ≡ nodes_at at s.table = ap (λ (n : ℕ). nodes_at n s.table) same in let none = h.apart in omega (arith, none, some, also)) in
          after e (λ same. (nodes_apart e.block some).context (sym same)) (node_same (block_words old) (block_words new) e (new_same old mid new s at key h e.block ne) (l.nodes i no_entry low))));
      entries = record {
        blocks = xs;
        tree = ins.tree;
        members = λ z. (
          λ i. elim (there z i) [ inl e ↦ inl e | inr j ↦ inr ((l.entries.members z).0 j) ],
          λ i. elim i [ inl e ↦ subst (λ (y : ℕ). In y xs) (sym e) (In-middle ins.before at ins.after) | inr j ↦ In-more z ins.before at ins.after (subst (λ (ys : List ℕ). In z ys) ins.is ((l.entries.members z).1 j)) ],
        );
      };
    } where
      after : (e : ConnEntry) → e.block ≢ s.context → LaysNode (block_words new) e → LaysNode last e
      after e ne n = node_kept (block_words new) last e (ins.changes.nodes e.block 0 ne (inl refl)) (ins.changes.flags e.block ne) (λ i high. ins.changes.nodes e.block i ne (inr high)) n

-- ---- a node less

-- a node was taken out of the tree and its block given back
pub record IsTakenOut (m n o : Words) (s : ConnState) (at : ℕ) (e : ConnEntry) (l : LaysBlocks m s) : Type 0 where
  pub whole : IsWhole s
  pub found : entry_at at s.table ≡ Some e
  pub before : List ℕ
  pub after : List ℕ
  pub is : l.entries.blocks ≡ before ++ at ∷ after
  pub tree : IsTree n (tree_at s.context) (before ++ after)
  pub changes : ChangesNodes m n s.context l.entries.blocks
  pub returned : ReturnsWords n o at

pub blocks_left : (m n o : Words) (s : ConnState) (at : ℕ) (e : ConnEntry) (l : LaysBlocks m s) → IsTakenOut m n o s at e l → LaysBlocks o (changed s (replace_first (is_at at) [] s.table) (give_back s.slab at))
blocks_left m n o s at e l h =
    let ys = h.before in
    let zs = h.after in
    let table = replace_first (is_at at) [] s.table in
    let own = same_block at e (found_passes (is_at at) s.table e h.found) in
    let some : 0 < nodes_at at s.table = subst (λ (z : ℕ). 0 < nodes_at z s.table) own (found_node (is_at at) s.table e h.found) in
    let apart = node_apart s at h.whole some in
    let few = few_nodes s at h.whole in
    let split = IsDistinct-split ys at zs (subst (λ (xs : List ℕ). IsDistinct xs) h.is l.entries.tree.holds.distinct.1) in
    let name_out : In s.name_block l.entries.blocks → ⊥ = λ i. (node_apart s s.name_block h.whole (in_nodes s.name_block s.table ((l.entries.members s.name_block).0 i))).name refl in
    let gone = λ (z : ℕ). let r : nodes_at z table + once_at z at ≡ nodes_at z s.table =
    let sums = replaced_sum (node_weight z) (is_at at) [] s.table e h.found in
    let nothing : nodes_at z [] ≡ 0 = refl in
    let here : once_at z e.block ≡ once_at z at = ap (λ (b : ℕ). once_at z b) own in
    omega (arith, sums, nothing, here) in r in
    let there = λ (z : ℕ) (i : In z (ys ++ zs)). let r : z ≢ at = λ same. split.1 (subst (λ (y : ℕ). In y (ys ++ zs)) same i) in r in
    record {
      context = context_same m o s.context (λ i ne. word_same n o s.context i (h.returned.others s.context apart.context) ∙ h.changes.head i ne) l.context;
      name = holds_bytes-same m o s.name_block 0 _ (h.returned.others s.name_block apart.name ∙ h.changes.others s.name_block (roots_apart s h.whole) name_out) l.name;
      nodes = others_apart (LaysNode o) (is_at at) [] s.table e h.found (omega (arith, few, ap (λ (z : ℕ). nodes_at z s.table) own))
          (λ k d low ne. kept _ (λ same. (node_apart s _ h.whole (each_named s.table k d low)).context (sym same)) (λ same. ne (same ∙ sym own)) (l.nodes k d low))
          (All-nil (LaysNode o));
      entries = record {
        blocks = ys ++ zs;
        tree = kept_tree n o (tree_at s.context) (ys ++ zs) (kept_blocks n o (tree_at s.context) (ys ++ zs) (λ z i. h.returned.others z (elim i [ inl e ↦ (λ same. apart.context (sym e ∙ same)) | inr j ↦ there z j ]))) h.tree;
        members = λ z. (
          λ i. nodes_in z table (
              let all = in_nodes z s.table ((l.entries.members z).0 (subst (λ (xs : List ℕ). In z xs) (sym h.is) (In-more z ys at zs i))) in
              let none = once_there z at (there z i) in
              omega (arith, all, none, gone z)
              ),
          λ i. let left = in_nodes z table i in elim (In-one_more z ys at zs (subst (λ (xs : List ℕ). In z xs) h.is ((l.entries.members z).1 (nodes_in z s.table (omega (arith, left, gone z)))))) [
            | inl same ↦ absurd (let one : once_at z at ≡ 1 = ap (λ (y : ℕ). once_at y at) same ∙ once_here at in let all : nodes_at z s.table ≡ nodes_at at s.table = ap (λ (y : ℕ). nodes_at y s.table) same in omega (arith, left, one, all, few, gone z))
            | inr j ↦ j
          ],
        );
      };
    } where
      kept : (x : ConnEntry) → x.block ≢ s.context → x.block ≢ at → LaysNode m x → LaysNode o x
      kept x ne other node = node_same n o x (h.returned.others x.block other) (node_kept m n x (h.changes.nodes x.block 0 ne (inl refl)) (h.changes.flags x.block ne) (λ i high. h.changes.nodes x.block i ne (inr high)) node)
