-- How a connection zone lies in words.
use Rattle.std.specs.Prelude.{ℕ, ◌≡◌, ◌↔◌, ◌+◌, ◌/◌, ◌%◌, ◌<◌, ◌≤◌, List, [], ◌∷◌, ◌++◌, length, map, take, drop, codes, slice_index}
use Rattle.std.specs.List.{All}
use Rattle.zone_key.specs.Crc.{crc32_of}
use Rattle.zone_key.specs.Word.{little_endian}
use Rattle.zone_region.specs.Words.{Words, word_at}
use Rattle.zone_region.specs.Members.{In}
use Rattle.block_bytes.specs.Bytes.{HoldsBytes}
use Rattle.offset_tree.specs.declared.tree.Tree.{Tree}
use Rattle.offset_tree.specs.Layout.{IsTree}
use Rattle.slab_pages.specs.Places.{Image, log_ctx_word, data_word}
use Rattle.slab_pool.specs.Pool.{LaysPool}
use Rattle.slab_pool.specs.Live.{block_words}
use Rattle.conn_zone.specs.declared.state.ConnEntry.{ConnEntry}
use Rattle.conn_zone.specs.declared.state.ConnState.{ConnState}
use Rattle.conn_zone.specs.Holding.{IsWhole}

-- ---- word 4 of a node: its colour, and these

-- the length of the key, in the second byte
abbrev pub length_in : ℕ → ℕ
length_in word = word / 256 % 256

-- the number of connections, in the next two
abbrev pub count_in : ℕ → ℕ
count_in word = word / 65536 % 65536

-- the first four bytes of the key, in the upper half
abbrev pub front_in : ℕ → ℕ
front_in word = word / 4294967296

-- the word has so many connections now, and its other parts are as they were
pub record Recounts (old new count : ℕ) : Type 0 where
  pub counted : count_in new ≡ count
  pub low : new % 65536 ≡ old % 65536
  pub front : front_in new ≡ front_in old

-- ---- blocks

-- each is a byte
abbrev pub AreBytes : List ℕ → Type 0
AreBytes bytes = All (λ (b : ℕ). b < 256) bytes

-- the node of an entry holds it: the key's hash, its length, the connections and the key, whose bytes begin in the middle of word 4
pub record LaysNode (m : Words) (entry : ConnEntry) : Type 0 where
  pub hash : word_at m entry.block 0 ≡ crc32_of entry.key
  pub length_is : length_in (word_at m entry.block 4) ≡ length entry.key
  pub count_is : count_in (word_at m entry.block 4) ≡ entry.count
  pub front : front_in (word_at m entry.block 4) ≡ little_endian (take 4 entry.key)
  pub rest : HoldsBytes m entry.block 5 (drop 4 entry.key)
  pub bytes : AreBytes entry.key

-- the context has the sentinel in its fourth word, and all words behind the sentinel's offset are 0
pub record LaysContext (m : Words) (context : ℕ) : Type 0 where
  pub sentinel : word_at m context 1 ≡ context + 24
  pub zeros : (i : ℕ) → 2 ≤ i → i ≤ 7 → word_at m context i ≡ 0

-- what the name block holds
abbrev pub name_bytes : List ℕ → List ℕ
name_bytes name = codes " in limit_conn_zone \"" ++ name ++ 34 ∷ 0 ∷ []

-- the tree of connection nodes with this context
abbrev pub tree_at : ℕ → Tree
tree_at context = record { context = record { at = context }; form = record { len_at = 33; len_bytes = 1; key_at = 36 } }

-- the tree has just the entries' nodes, in the order of hash and key
pub record LaysEntries (m : Words) (context : ℕ) (table : List ConnEntry) : Type 0 where
  pub blocks : List ℕ
  pub tree : IsTree m (tree_at context) blocks
  pub members : (at : ℕ) → In at blocks ↔ In at (map (λ (entry : ConnEntry). entry.block) table)

-- the blocks of a zone hold what they were granted for
pub record LaysBlocks (m : Words) (s : ConnState) : Type 0 where
  pub context : LaysContext m s.context
  pub name : HoldsBytes m s.name_block 0 (name_bytes s.name)
  pub nodes : All (LaysNode m) s.table
  pub entries : LaysEntries m s.context s.table

-- the words of the zone lay out this state
pub record LaysZone (image : Image) (s : ConnState) : Type 0 where
  pub whole : IsWhole s
  pub slab : LaysPool image s.slab
  pub log_ctx : slice_index image.words log_ctx_word ≡ s.name_block
  pub data_is : slice_index image.words data_word ≡ s.context
  pub blocks : LaysBlocks (block_words image) s

-- the same, with the block of the context
pub record LaysFrom (image : Image) (context : ℕ) (s : ConnState) : Type 0 where
  pub zone : LaysZone image s
  pub context_is : s.context ≡ context

-- the same, with the number of entries
pub record LaysCounted (image : Image) (context entries : ℕ) (s : ConnState) : Type 0 where
  pub words : LaysFrom image context s
  pub counted : length s.table ≡ entries

-- ---- an object

-- a zone as its calls see it: its words, the block of its context, its name, and the number of its entries
pub record Zone : Type 0 where
  pub image : Image
  pub context : ℕ
  pub name : List ℕ
  pub entries : ℕ

-- the zone lays out this state
pub record Lays (zone : Zone) (s : ConnState) : Type 0 where
  pub laid : LaysCounted zone.image zone.context zone.entries s
  pub name_is : s.name ≡ zone.name

-- these words of a zone lay out this state
abbrev pub LaysWords : List ℕ → ConnState → Type 0
LaysWords words s = LaysZone (record { shape = s.slab.shape; words = words }) s
