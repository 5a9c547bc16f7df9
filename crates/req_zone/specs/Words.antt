-- How the words of a zone lay out the state of a request zone (`ngx_http_limit_req_shctx_t`, `ngx_http_limit_req_node_t`).
use Rattle.std.specs.Prelude.{◌≡◌, ℕ, ◌+◌, ◌*◌, ◌/◌, ◌^◌, ◌<◌, ◌≤◌, List, [], ◌∷◌, ◌++◌, length, map, slice_index, codes}
use Rattle.std.specs.List.{All}
use Rattle.zone_region.specs.Words.{Words, word_at}
use Rattle.zone_key.specs.Crc.{crc32_of}
use Rattle.block_bytes.specs.Bytes.{HoldsBytes}
use Rattle.slab_pages.specs.Places.{Image, log_ctx_word, data_word}
use Rattle.slab_pool.specs.Pool.{LaysPool}
use Rattle.slab_pool.specs.Live.{block_words}
use Rattle.offset_table.specs.declared.table.Table.{Table}
use Rattle.offset_table.specs.Table.{IsTable}
use Rattle.req_zone.specs.declared.state.ReqEntry.{ReqEntry}
use Rattle.req_zone.specs.declared.state.ReqState.{ReqState}
use Rattle.req_zone.specs.Holding.{IsWhole}

-- the bytes of a zone's name block: ` in limit_req zone "NAME"` and a 0 byte
abbrev pub name_text : List ℕ → List ℕ
name_text name = codes " in limit_req zone " ++ (34 ∷ name ++ 34 ∷ 0 ∷ [])

-- the table whose context is the zone's
abbrev pub table_in : ReqState → Table
table_in s = record { context = record { at = s.context } }

-- the blocks of entries
abbrev pub blocks_in : List ReqEntry → List ℕ
blocks_in entries = map (λ (entry : ReqEntry). entry.block) entries

-- the words of the context that never change: the sentinel's offset, a word 0, and the sentinel
pub record HasSentinel (m : Words) (context : ℕ) : Type 0 where
  pub offset : word_at m context 1 ≡ context + 24
  pub none : word_at m context 2 ≡ 0
  pub sentinel : (i : ℕ) → 3 ≤ i → i ≤ 7 → word_at m context i ≡ 0

-- a list of bytes
abbrev pub AreBytes : List ℕ → Type 0
AreBytes bytes = (i : ℕ) → slice_index bytes i < 256

-- The node of an entry: the hash in word 0, the key's length in word 4 above 16 bits of which only the lowest byte, the
-- colour, isn't 0, then the moment, the excess and the count, and the key's bytes from word 10 on.
pub record HoldsEntry (m : Words) (entry : ReqEntry) : Type 0 where
  pub bytes : AreBytes entry.key
  pub short : length entry.key < 2 ^ 16
  pub hash : word_at m entry.block 0 ≡ crc32_of entry.key
  pub size : word_at m entry.block 4 / 2 ^ 8 ≡ 2 ^ 8 * length entry.key
  pub last : word_at m entry.block 7 ≡ entry.last
  pub excess : word_at m entry.block 8 ≡ entry.excess
  pub count : word_at m entry.block 9 ≡ entry.count
  pub key : HoldsBytes m entry.block 10 entry.key

-- The words of the zone lay out this state: a whole zone, whose header names the blocks of its name and of its context,
-- whose name block has the name, and whose entries, newest first, are the nodes of the context's table.
pub record LaysReq (image : Image) (s : ReqState) : Type 0 where
  pub whole : IsWhole s
  pub slab : LaysPool image s.slab
  pub log_ctx : slice_index image.words log_ctx_word ≡ s.name_block
  pub data_is : slice_index image.words data_word ≡ s.context
  pub name : HoldsBytes (block_words image) s.name_block 0 (name_text s.name)
  pub sentinel : HasSentinel (block_words image) s.context
  pub table : IsTable (block_words image) (table_in s) (blocks_in s.table)
  pub nodes : All (HoldsEntry (block_words image)) s.table

-- the same of the words from the zone's first byte on
abbrev pub LaysImage : List ℕ → ReqState → Type 0
LaysImage words s = LaysReq (record { shape = s.slab.shape; words = words }) s
