-- The small steps of a zone: what each asks and what it leaves.
use Rattle.std.proofs.Common.{ℕ, ◌≡◌, ◌≢◌, ◌+◌, ◌-◌, ◌*◌, ◌/◌, ◌<◌, ◌≤◌, Bool, List, [], ◌∷◌, ◌++◌, length, Option, Some, None, MatchOption, sym, ap, subst, ◌∙◌, refl, arith, length-append}
use Rattle.std.proofs.lemmas.List.{length-map}
use Rattle.std.specs.List.{All}
use Rattle.zone_region.specs.declared.blocks.Block.{Block}
use Rattle.zone_region.specs.Words.{word_at}
use Rattle.zone_region.specs.Members.{In}
use Rattle.zone_key.specs.Crc.{crc32_of}
use Rattle.zone_region.specs.Granting.{GrantsWords}
use Rattle.slab_model.specs.State.{Slab}
use Rattle.slab_model.specs.Grant.{grant, block_bytes}
use Rattle.slab_pages.specs.Places.{Image}
use Rattle.slab_pool.specs.Pool.{LaysPool}
use Rattle.slab_pool.specs.Live.{block_words, rest_of, KeepsPages}
use Rattle.offset_tree.specs.Bounds.{search_cost}
use Rattle.offset_table.specs.Table.{rank_at, IsTable, CanAdd, ChangesTable}
use Rattle.offset_table.specs.declared.table.Table.{Table}
use Rattle.req_zone.specs.declared.numbers.Numbers.{Numbers}
use Rattle.req_zone.specs.declared.words.ReqWords.{ReqWords}
use Rattle.req_zone.specs.declared.state.ReqEntry.{ReqEntry}
use Rattle.req_zone.specs.declared.state.ReqState.{ReqState}
use Rattle.req_zone.specs.Table.{entry_of}
use Rattle.req_zone.specs.Step.{node_size}
use Rattle.req_zone.specs.Words.{table_in, blocks_in, HoldsEntry, LaysReq}
use Rattle.req_zone.specs.Lays.{Lays, IsFound, StandsAt, numbers_of, entry_with, SetsNode}
use Rattle.req_zone.proofs.NodeLemmas.{last_entry}
use Rattle.req_zone.proofs.ZoneLemmas.{stands_at}
use Rattle.req_zone.proofs.AdmitLemmas.{none_found, found, Comes, can_come, IsAdded}

-- ---- reading

-- the zone's table is that of its state
pub order_laid : (z : ReqWords) (s : ReqState) → Lays z s → IsTable (block_words z.pool) z.table (blocks_in s.table)
order_laid z s h = subst (λ (t : Table). IsTable (block_words z.pool) t (blocks_in s.table)) (sym h.table_is) h.words.table

pub count_blocks : (s : ReqState) → length (blocks_in s.table) ≡ length s.table
count_blocks s = length-map s.table (λ (entry : ReqEntry). entry.block)

-- what holds of a result that there may be
pub match_more : (o : Option Block) (A A' : Type 0) (B B' : Block → Type 0) → (A → A') → ((b : Block) → B b → B' b) → MatchOption o A B → MatchOption o A' B'
match_more None A A' B B' f g h = f h
match_more (Some b) A A' B B' f g h = g b h

pub match_none : (o : Option Block) (A : Type 0) (B : Block → Type 0) → o ≡ None → A → MatchOption o A B
match_none o A B e a = subst (λ (p : Option Block). MatchOption p A B) (sym e) a

pub is_missing : (z : ReqWords) (s : ReqState) (hash : ℕ) (key : List ℕ) → Lays z s → hash ≡ crc32_of key → ((x : ℕ) → In x (blocks_in s.table) → rank_at (block_words z.pool) x ≢ (hash, key)) → entry_of key s.table ≡ None
is_missing z s hash key h crc none = none_found (block_words z.pool) key s.table h.words.nodes (subst (λ (n : ℕ). (x : ℕ) → In x (blocks_in s.table) → rank_at (block_words z.pool) x ≢ (n, key)) crc none)

pub is_found : (z : ReqWords) (s : ReqState) (hash : ℕ) (key : List ℕ) (b : Block) → Lays z s → In b.at (blocks_in s.table) × (rank_at (block_words z.pool) b.at ≡ (hash, key)) → (entry : ReqEntry) × IsFound s key b.at entry
is_found z s hash key b h f = found z.pool s hash key b.at h.words f.0 f.1

pub no_blocks : (es : List ReqEntry) → blocks_in es ≡ [] → es ≡ []
no_blocks [] e = refl
no_blocks (x ∷ xs) e = absurd (omega (arith, ap (λ (bs : List ℕ). length bs) e))

pub is_oldest : (s : ReqState) (b : Block) → (ys : List ℕ) × (blocks_in s.table ≡ ys ++ b.at ∷ []) → (newer : List ReqEntry) × (entry : ReqEntry) × StandsAt s b.at newer entry []
is_oldest s b h = let r = last_entry s.table h.0 b.at h.1 in (r.0, r.1, record { table_is = r.2; block_is = r.3 })

pub read_numbers : (image : Image) (s : ReqState) (at : ℕ) (newer : List ReqEntry) (e : ReqEntry) (older : List ReqEntry) (excess last count : ℕ) → LaysReq image s → StandsAt s at newer e older
    → excess ≡ word_at (block_words image) at 8 → last ≡ word_at (block_words image) at 7 → count ≡ word_at (block_words image) at 9 → (let n : Numbers = record { excess = excess; last = last; count = count } in n) ≡ numbers_of e
read_numbers image s at newer e older excess last count l h x y z =
    let node = stands_at (HoldsEntry (block_words image)) s at newer e older h l.nodes in
    let there = λ (i : ℕ). ap (λ (b : ℕ). word_at (block_words image) b i) (sym h.block_is) in
    let f : ℕ → ℕ → ℕ → Numbers = λ a b c. record { excess = a; last = b; count = c } in
    ap (λ a. f a last count) (x ∙ there 8 ∙ node.excess) ∙ ap (λ b. f e.excess b count) (y ∙ there 7 ∙ node.last) ∙ ap (λ c. f e.excess e.last c) (z ∙ there 9 ∙ node.count)

-- ---- the number of entries

pub count_touched : (s : ReqState) (at n : ℕ) (newer : List ReqEntry) (e : ReqEntry) (older : List ReqEntry) → StandsAt s at newer e older → n ≡ length s.table → n ≡ length (e ∷ newer ++ older)
count_touched s at n newer e older h is = omega (arith, is, ap (λ (es : List ReqEntry). length es) h.table_is, length-append newer (e ∷ older), length-append newer older)

pub count_numbered : (s : ReqState) (at n : ℕ) (newer : List ReqEntry) (e f : ReqEntry) (older : List ReqEntry) → StandsAt s at newer e older → n ≡ length s.table → n ≡ length (newer ++ f ∷ older)
count_numbered s at n newer e f older h is = omega (arith, is, ap (λ (es : List ReqEntry). length es) h.table_is, length-append newer (e ∷ older), length-append newer (f ∷ older))

pub count_left : (s : ReqState) (at n : ℕ) (newer : List ReqEntry) (e : ReqEntry) → StandsAt s at newer e [] → n ≡ length s.table → (0 < n) × (n - 1 ≡ length newer)
count_left s at n newer e h is = let long : n ≡ length newer + 1 = omega (arith, is, ap (λ (es : List ReqEntry). length es) h.table_is, length-append newer (e ∷ [])) in (omega (arith, long), omega (arith, long))

-- ---- a new entry

-- what the pool leaves where it gives a block
pub record IsGiven (old mid : Image) (at size : ℕ) : Type 0 where
  pub block : (slab : Slab) → LaysPool old slab → Some at ≡ (grant slab size).0
  pub laid : (slab : Slab) → LaysPool old slab → LaysPool mid (grant slab size).1
  pub words : (slab : Slab) → LaysPool old slab → GrantsWords (block_words old) (block_words mid) at (block_bytes slab size / 8)
  pub room : size ≤ 8 * length (block_words mid at)
  pub kept : KeepsPages old mid

pub comes : (z : ReqWords) (mid node : Image) (s : ReqState) (key k : List ℕ) (at size : ℕ) (numbers : Numbers) → Lays z s → entry_of key s.table ≡ None → IsGiven z.pool mid at size → size ≡ node_size + length key → k ≡ key → SetsNode (block_words mid) (block_words node) (entry_with k at numbers) → rest_of node ≡ rest_of mid → Comes z.pool mid node s (entry_with key at numbers) (block_bytes s.slab size / 8)
comes z mid node s key k at size numbers h none g is same sets rest = record {
  missing = none;
  room = omega (arith, g.room, is);
  laid = subst (λ (n : ℕ). LaysPool mid (grant s.slab n).1) is (g.laid s.slab h.words.slab);
  given = subst (λ (n : ℕ). (grant s.slab n).0 ≡ Some at) is (sym (g.block s.slab h.words.slab));
  words = g.words s.slab h.words.slab;
  kept = g.kept;
  sets = subst (λ (bytes : List ℕ). SetsNode (block_words mid) (block_words node) (entry_with bytes at numbers)) same sets;
  rest = rest;
}

pub can_be_added : (z : ReqWords) (mid node : Image) (s : ReqState) (e : ReqEntry) (count : ℕ) → Lays z s → Comes z.pool mid node s e count → CanAdd (block_words node) z.table e.block e.key (blocks_in s.table)
can_be_added z mid node s e count h c = subst (λ (t : Table). CanAdd (block_words node) t e.block e.key (blocks_in s.table)) (sym h.table_is) (can_come z.pool mid node s e count h.words c)

-- what the table leaves where a node is added
pub is_added : (z : ReqWords) (node new : Image) (s : ReqState) (at : ℕ) → Lays z s → IsTable (block_words new) z.table (at ∷ blocks_in s.table) → ChangesTable (block_words node) (block_words new) z.table (at ∷ blocks_in s.table) → rest_of new ≡ rest_of node → IsAdded node new (table_in s) at (blocks_in s.table)
is_added z node new s at h table changes rest = record {
  table = subst (λ (t : Table). IsTable (block_words new) t (at ∷ blocks_in s.table)) h.table_is table;
  changes = subst (λ (t : Table). ChangesTable (block_words node) (block_words new) t (at ∷ blocks_in s.table)) h.table_is changes;
  rest = rest;
}
