-- Trees in blocks of a pool.
use Rattle.std.proofs.Common.{ℕ, ◌≡◌, ◌≢◌, ◌+◌, ◌*◌, ◌/◌, ◌<◌, ◌≤◌, zero, suc, List, [], ◌∷◌, ◌++◌, length, take, slice_index, Some, None, MatchOption, true, false, ap, subst, sym, ◌∙◌, refl, inl, inr, arith}
use Rattle.std.proofs.lemmas.List.{length-append, length-take-le}
use Rattle.std.specs.Int.{w64, to_le_bytes}
use Rattle.std.specs.Option.{is_some}
use Rattle.std.specs.declared.option.Option.{Option}
use Rattle.zone_region.specs.declared.blocks.Block.{Block}
use Rattle.zone_region.specs.Words.{Words, SetsWord}
use Rattle.zone_region.specs.Members.{In, IsDistinct}
use Rattle.zone_region.proofs.WordLemmas.{word_at-set_same, word_at-set_index, length-set_word}
use Rattle.zone_region.proofs.MembersLemmas.{IsDistinct-split}
use Rattle.zone_region.proofs.HoldingLemmas.{holds_kept}
use Rattle.zone_key.specs.Crc.{crc32_of}
use Rattle.slab_model.specs.Geometry.{class_of, class_size}
use Rattle.slab_model.specs.State.{Slab}
use Rattle.slab_model.specs.Grant.{block_bytes}
use Rattle.slab_pages.specs.Places.{Image}
use Rattle.slab_pool.specs.Pool.{LaysPool}
use Rattle.slab_pool.specs.Live.{block_words}
use Rattle.zone_region.specs.Granting.{GrantsWords, ReturnsWords}
use Rattle.slab_pool.proofs.HeldLemmas.{holds-blocks}
use Rattle.offset_tree.specs.declared.tree.Tree.{Tree}
use Rattle.offset_tree.specs.declared.tree.Form.{Form}
use Rattle.offset_tree.specs.Keys.{Rank, bytes_of, key_len, rank_of, IsForm}
use Rattle.offset_tree.specs.Bounds.{bits, search_cost}
use Rattle.offset_tree.specs.Layout.{IsContext, IsTree, CanInsert, Inserted}
use Rattle.offset_tree.proofs.BoundLemmas.{search_cost-rises}
use Rattle.offset_tree.proofs.Keeping.{kept_blocks, kept_tree, can_insert}
use Rattle.offset_tests.specs.declared.keys.Keys.{Keys}
use Rattle.offset_tests.specs.Grid.{key_at, rank_at}
use Rattle.offset_tests.proofs.KeyLemmas.{SetsThree}
use Rattle.pool_tests.specs.Nodes.{HoldsTree}

-- ---- the bytes of blocks

-- a block for a node has room for its links and eight bytes of key
pub record IsNodeSize (f : Form) (words : ℕ) : Type 0 where
  pub room : 5 < words
  pub more : f.len_bytes ≡ 2 → 10 < words
  pub key : f.key_at + 4 ≤ 8 * words

request_bytes : (slab : Slab) → block_bytes slab 84 ≡ 128
unfolding block_bytes class_of class_size
request_bytes slab = refl

connection_bytes : (slab : Slab) → block_bytes slab 40 ≡ 64
unfolding block_bytes class_of class_size
connection_bytes slab = refl

pub context_bytes : (slab : Slab) → block_bytes slab 80 ≡ 128
unfolding block_bytes class_of class_size
context_bytes slab = refl

pub node_size : (slab : Slab) (f : Form) → IsForm f → IsNodeSize f (block_bytes slab (f.key_at + 4) / 8)
node_size slab f form = elim form.len_place [
  | inl r ↦
      let at : f.key_at + 4 ≡ 84 = omega (arith, r.2) in
      let bytes = ap (λ n. block_bytes slab n) at ∙ request_bytes slab in
      record { room = omega (arith, bytes); more = λ e. omega (arith, bytes); key = omega (arith, bytes, r.2) }
  | inr c ↦
      let at : f.key_at + 4 ≡ 40 = omega (arith, c.2) in
      let bytes = ap (λ n. block_bytes slab n) at ∙ connection_bytes slab in
      record { room = omega (arith, bytes); more = λ e. absurd (omega (arith, e, c.1)); key = omega (arith, bytes, c.2) }
]

-- the context's block
pub is_context : (old new : Image) (before after : Slab) (t : Tree) → LaysPool new after → GrantsWords (block_words old) (block_words new) t.context.at (block_bytes before 80 / 8) → IsContext (block_words new) t
is_context old new before after t p g =
    let long : length (block_words new t.context.at) ≡ 16 = omega (arith, g.long, context_bytes before) in
    let one = holds-blocks new after (t.context.at ∷ []) p (λ none. none, tt)
    (λ x i. elim i [ inl e ↦ subst (λ (z : ℕ). 0 < length (block_words new z)) (sym e) (omega (arith, long)) | inr none ↦ absurd none ]) in
    record { room = omega (arith, long); above = one.above t.context.at (inl refl); below = one.below t.context.at (inl refl) }

-- ---- one block more

length-bytes_of : (m : Words) (x j len : ℕ) → length (bytes_of m x j len) ≡ len
length-bytes_of m x j zero = refl
length-bytes_of m x j (suc len) = ap (λ (k : ℕ). suc k) (length-bytes_of m x (j + 1) len)

-- a granted block with a key that no block of the tree has can be put in
pub record IsNewNode (old mid new : Image) (t : Tree) (b hash : ℕ) (key xs : List ℕ) : Type 0 where
  pub slab : Slab
  pub laid : LaysPool mid slab
  pub tree : IsTree (block_words old) t xs
  pub none : (x : ℕ) → In x xs → rank_of (block_words old) t.form x ≢ (hash, key)
  pub count : ℕ
  pub granted : GrantsWords (block_words old) (block_words mid) b count
  pub size : IsNodeSize t.form count
  pub lengths : (z : ℕ) → length (block_words new z) ≡ length (block_words mid z)
  pub others : (z : ℕ) → z ≢ b → block_words new z ≡ block_words mid z
  pub rank : rank_of (block_words new) t.form b ≡ (hash, key)
  pub four : length key ≡ 4

pub new_node : (old mid new : Image) (t : Tree) (b hash : ℕ) (key xs : List ℕ) → IsNewNode old mid new t b hash key xs → CanInsert (block_words new) t b key xs
new_node old mid new t b hash key xs h =
    let apart = λ (z : ℕ) (i : In z (t.context.at ∷ xs)). let r : z ≢ b = λ e. empty (block_words old z) (h.tree.holds.live z i) (subst (λ (y : ℕ). block_words old y ≡ []) (sym e) h.granted.fresh) in r in
    let same = λ (z : ℕ) (i : In z (t.context.at ∷ xs)). let r : block_words new z ≡ block_words old z = h.others z (apart z i) ∙ h.granted.others z (apart z i) in r in
    let long : length (block_words mid b) ≡ h.count = h.granted.long in
    let live = λ (z : ℕ) (i : In z (t.context.at ∷ b ∷ xs)). elim i as (λ _. 0 < length (block_words mid z)) [
      | inl e ↦ old_live z (inl e)
      | inr j ↦ elim j [ inl e ↦ subst (λ (y : ℕ). 0 < length (block_words mid y)) (sym e) (omega (arith, long, h.size.room)) | inr k ↦ old_live z (inr k) ]
    ] in
    let distinct : IsDistinct (t.context.at ∷ b ∷ xs) = (
      λ i. elim i [ inl e ↦ apart t.context.at (inl refl) e | inr j ↦ h.tree.holds.distinct.0 j ],
      (λ i. apart b (inr i) refl, h.tree.holds.distinct.1),
    ) in
    let holds = holds_kept (block_words mid) (block_words new) (t.context.at ∷ b ∷ xs) (λ z i. h.lengths z) (holds-blocks mid h.slab (t.context.at ∷ b ∷ xs) h.laid distinct live) in
    let words : length (block_words new b) ≡ h.count = h.lengths b ∙ long in
    let len : key_len (block_words new) t.form b ≡ 4 = sym (length-bytes_of (block_words new) b t.form.key_at (key_len (block_words new) t.form b)) ∙ ap (λ (r : Rank). length r.1) h.rank ∙ h.four in
    can_insert (block_words old) (block_words new) t b hash key xs (kept_blocks (block_words old) (block_words new) t xs same) h.tree h.none holds
    (record { links = omega (arith, words, h.size.room); key = omega (arith, words, len, h.size.key) }) h.rank
  where
    empty : (ws : List ℕ) → 0 < length ws → ws ≡ [] → ⊥
    empty ws some e = omega (arith, some, ap (λ (l : List ℕ). length l) e)

    old_live : (z : ℕ) → In z (t.context.at ∷ xs) → 0 < length (block_words mid z)
    old_live z i =
        let apart : z ≢ b = λ e. empty (block_words old z) (h.tree.holds.live z i) (subst (λ (y : ℕ). block_words old y ≡ []) (sym e) h.granted.fresh) in
        omega (arith, h.tree.holds.live z i, ap (λ (l : List ℕ). length l) (h.granted.others z apart))

pub one_more : (m n : Words) (t : Tree) (b : ℕ) (xs : List ℕ) (i : Inserted m n t b xs) (k : ℕ) → length xs ≤ k → length (i.before ++ b ∷ i.after) ≤ k + 1
one_more m n t b xs i k few = omega (arith, few, ap (λ (l : List ℕ). length l) i.is, length-append i.before i.after, length-append i.before (b ∷ i.after))

-- a search that finds nothing
pub missed : (found : Option Block) (A : Type 0) (B : Block → Type 0) → is_some found ≡ false → MatchOption found A B → A
missed None A B e a = a
missed (Some b) A B e a = absurd (no e) where
  no : true ≡ false → ⊥
  no tf = cc

-- the hash and the key that were looked for are those of the key's place
pub rank_given : (keys : Keys) (k hash : ℕ) (key : List ℕ) → key ≡ key_at keys k → hash ≡ crc32_of key → rank_at keys k ≡ (hash, key)
rank_given keys k hash key same crc = ap (λ (bs : List ℕ). let p : Rank = (crc32_of bs, bs) in p) (sym same) ∙ ap (λ (a : ℕ). let p : Rank = (a, key) in p) (sym crc)

pub holds_most : (pool : Image) (t : Tree) (n most : ℕ) → HoldsTree pool t n → n ≤ most → HoldsTree pool t most
holds_most pool t n most h le = record { slab = h.slab; laid = h.laid; blocks = h.blocks; tree = h.tree; few = omega (arith, h.few, le) }

-- ---- one block less

-- a block that was taken out of the tree comes back to the pool
pub tree_less : (old mid new : Words) (t : Tree) (b : ℕ) (ys zs : List ℕ) → IsTree old t (ys ++ b ∷ zs) → IsTree mid t (ys ++ zs) → ReturnsWords mid new b → IsTree new t (ys ++ zs)
tree_less old mid new t b ys zs was now back =
    let split = IsDistinct-split ys b zs was.holds.distinct.1 in
    let apart = λ (z : ℕ) (i : In z (t.context.at ∷ ys ++ zs)). elim i as (λ _. z ≢ b) [
      | inl e ↦ λ q. was.holds.distinct.0 (subst (λ (y : ℕ). In y (ys ++ b ∷ zs)) (sym q ∙ e) (In-here ys))
      | inr j ↦ λ q. split.1 (subst (λ (y : ℕ). In y (ys ++ zs)) q j)
    ] in
    kept_tree mid new t (ys ++ zs) (kept_blocks mid new t (ys ++ zs) (λ z i. back.others z (apart z i))) now
  where
    In-here : (vs : List ℕ) → In b (vs ++ b ∷ zs)
    In-here [] = inl refl
    In-here (v ∷ vs) = inr (In-here vs)

pub one_less : (xs ys : List ℕ) (b : ℕ) (zs : List ℕ) (n : ℕ) → xs ≡ ys ++ b ∷ zs → length xs ≤ n → length (ys ++ zs) ≤ n
one_less xs ys b zs n is few = omega (arith, few, ap (λ (l : List ℕ). length l) is, length-append ys zs, length-append ys (b ∷ zs))

-- ---- what a search costs

cost_of_thousand : search_cost 1000 4 ≡ 105
unfolding search_cost bits
cost_of_thousand = refl

pub length-key_at : (keys : Keys) (k : ℕ) (key : List ℕ) → keys.len ≡ 4 → key ≡ key_at keys k → length key ≡ 4
length-key_at keys k key four is = ap (λ (l : List ℕ). length l) is ∙ length-take-le keys.len (to_le_bytes w64 (slice_index keys.numbers.items k)) (omega (arith, four)) ∙ four

pub cost_at_most : (n len : ℕ) → n ≤ 1000 → len ≡ 4 → search_cost n len ≤ 105
cost_at_most n len few four = let rises = search_cost-rises n 1000 len few in omega (arith, rises, ap (λ (l : ℕ). search_cost 1000 l) four, cost_of_thousand)

-- ---- the words of a key

-- three words of a block are set, one after the other
pub sets_three : (l m n o : Words) (z a u b v c w : ℕ) → a < b → b < c → c < length (l z) → SetsWord l m z a u → SetsWord m n z b v → SetsWord n o z c w → SetsThree o z a u b v c w
sets_three l m n o z a u b v c w ab bc few x y q =
    let lm = length-set_word l m z a u z x in
    let mn = length-set_word m n z b v z y in
    record {
      first = word_at-set_index n o z c w z a q (λ e. omega (arith, e, ab, bc)) ∙ word_at-set_index m n z b v z a y (λ e. omega (arith, e, ab)) ∙ word_at-set_same l m z a u x (omega (arith, ab, bc, few));
      second = word_at-set_index n o z c w z b q (λ e. omega (arith, e, bc)) ∙ word_at-set_same m n z b v y (omega (arith, lm, bc, few));
      third = word_at-set_same n o z c w q (omega (arith, lm, mn, few));
    }

-- the same at the values that the code has
pub rank_there : (rank : Rank) (keys : Keys) (k v hash : ℕ) (key : List ℕ) → rank ≡ (hash, take keys.len (to_le_bytes w64 v)) → v ≡ slice_index keys.numbers.items k → key ≡ key_at keys k → hash ≡ crc32_of key → rank ≡ rank_at keys k
rank_there rank keys k v hash key r number same crc =
    let bytes : take keys.len (to_le_bytes w64 v) ≡ key_at keys k = ap (λ (n : ℕ). take keys.len (to_le_bytes w64 n)) number in
    let first : hash ≡ crc32_of (key_at keys k) = crc ∙ ap (λ bs. crc32_of bs) same in
    r ∙ (ap (λ (bs : List ℕ). let p : Rank = (hash, bs) in p) bytes ∙ ap (λ (h : ℕ). let p : Rank = (h, key_at keys k) in p) first)
