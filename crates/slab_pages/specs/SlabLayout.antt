-- How a whole slab is laid out in the words of a zone.
use Rattle.std.specs.Prelude.{ℕ, ◌≡◌, ◌⊎◌, ◌+◌, ◌/◌, ◌%◌, ◌^◌, ◌<◌, ◌≤◌, ◌↔◌, true, List, [], ◌∷◌, slice_index, IsBitSet}
use Rattle.slab_model.specs.declared.stat.Stat.{Stat}
use Rattle.slab_model.specs.declared.page.PageState.TheVariants.{First, Class}
use Rattle.slab_model.specs.Geometry.{pages_of, start_of, blocks_in_page, first_index, kind_of, Kind, small, exact, big}
use Rattle.zone_region.specs.Members.{In}
use Rattle.slab_model.specs.declared.shape.Shape.{Shape}
use Rattle.slab_model.specs.State.{Slab, classes_in, page_at, list_of, stat_of, fresh_slab}
use Rattle.slab_model.specs.Blocks.{is_full}
use Rattle.slab_pages.specs.Places.{Image, byte_of, lock_word, wait_word, min_size_word, min_shift_word, pages_word, last_word, stats_word, start_word, end_word, mutex_word, log_ctx_word, zero_word, log_nomem_word, data_word, addr_word, stat_word, descriptor_word, class_head, page_word, descriptor, slab_at, next_at, prev_at}
use Rattle.slab_pages.specs.Layout.{LaysRuns, HasUsedRun}

-- the pool header, but for the words of the page list, `log_ctx` and `data`
pub record LaysHeader (shape : Shape) (words : List ℕ) : Type 0 where
  pub lock : slice_index words lock_word ≡ 0
  pub wait : slice_index words wait_word ≡ 0
  pub min_size : slice_index words min_size_word ≡ 8
  pub min_shift : slice_index words min_shift_word ≡ 3
  pub pages : slice_index words pages_word ≡ descriptor 0
  pub last : slice_index words last_word ≡ descriptor (pages_of shape)
  pub stats : slice_index words stats_word ≡ byte_of (stat_word 0)
  pub start : slice_index words start_word ≡ start_of shape
  pub end : slice_index words end_word ≡ shape.bytes
  pub mutex : (w : ℕ) → mutex_word ≤ w → w < log_ctx_word → slice_index words w ≡ 0
  pub zero : slice_index words zero_word ≡ 0
  pub log_nomem : slice_index words log_nomem_word ≡ 0
  pub addr : slice_index words addr_word ≡ 0

-- the statistics of a class
pub record LaysStat (words : List ℕ) (class : ℕ) (stat : Stat) : Type 0 where
  pub total : slice_index words (stat_word class) ≡ stat.total
  pub used : slice_index words (stat_word class + 1) ≡ stat.used
  pub reqs : slice_index words (stat_word class + 2) ≡ stat.reqs
  pub fails : slice_index words (stat_word class + 3) ≡ stat.fails

-- the type of a class's pages, in the low two bits of their prev word
abbrev pub type_of : Kind → ℕ
type_of small = 3
type_of exact = 2
type_of big = 1

-- from the descriptor at `o` on, these pages of the class are linked, and back at the class's head the list ends
abbrev pub LaysPages : List ℕ → Shape → ℕ → ℕ → List ℕ → Type 0
LaysPages words shape class o [] = next_at words o ≡ class_head class
LaysPages words shape class o (page ∷ pages) = (next_at words o ≡ descriptor page) × (prev_at words (descriptor page) ≡ o + type_of (kind_of shape class)) × LaysPages words shape class (descriptor page) pages

-- a class's list of pages that can grant a block
pub record LaysClass (words : List ℕ) (shape : Shape) (class : ℕ) (pages : List ℕ) : Type 0 where
  pub slab_is : slab_at words (class_head class) ≡ 0
  pub prev_is : prev_at words (class_head class) ≡ 0
  pub linked : LaysPages words shape class (class_head class) pages

-- the word of a small class's page that has the bit of this block
abbrev pub bits_at : List ℕ → Shape → ℕ → ℕ → ℕ
bits_at words shape page index = slice_index words (page_word shape page + index / 64)

-- a small class's page: its bits stand in its first words, and those of its own blocks are set
pub record LaysSmallBits (words : List ℕ) (shape : Shape) (page class : ℕ) (used : List ℕ) : Type 0 where
  pub shift : slab_at words (descriptor page) ≡ 3 + class
  pub bits : (index : ℕ) → index < blocks_in_page shape class → IsBitSet (bits_at words shape page index) (index % 64) ↔ ((index < first_index shape class) ⊎ In index used)

-- a page of 64 blocks: its slab word is their bits
abbrev pub LaysExactBits : List ℕ → ℕ → List ℕ → Type 0
LaysExactBits words page used = (index : ℕ) → index < 64 → IsBitSet (slab_at words (descriptor page)) index ↔ In index used

-- a big class's page: its bits are the upper half of its slab word
pub record LaysBigBits (words : List ℕ) (page class : ℕ) (used : List ℕ) : Type 0 where
  pub shift : slab_at words (descriptor page) % 2 ^ 32 ≡ 3 + class
  pub bits : (index : ℕ) → index < 32 → IsBitSet (slab_at words (descriptor page) / 2 ^ 32) index ↔ In index used

-- the bits of a page's blocks, each set where its block is used
abbrev pub LaysBits : Kind → List ℕ → Shape → ℕ → ℕ → List ℕ → Type 0
LaysBits small words shape page class used = LaysSmallBits words shape page class used
LaysBits exact words shape page class used = LaysExactBits words page used
LaysBits big words shape page class used = LaysBigBits words page class used

-- a page of a class: its bits, and where it is full the links of a page in no list
pub record LaysClassPage (words : List ℕ) (shape : Shape) (page class : ℕ) (used : List ℕ) : Type 0 where
  pub bits : LaysBits (kind_of shape class) words shape page class used
  pub next_if_full : is_full shape class used ≡ true → next_at words (descriptor page) ≡ 0
  pub prev_if_full : is_full shape class used ≡ true → prev_at words (descriptor page) ≡ type_of (kind_of shape class)

-- the words lay out this slab
pub record LaysSlab (words : List ℕ) (slab : Slab) : Type 0 where
  pub header : LaysHeader slab.shape words
  pub runs : LaysRuns (record { shape = slab.shape; words = words }) slab.runs
  pub lists : (class : ℕ) → class < classes_in slab → LaysClass words slab.shape class (list_of slab class)
  pub stats : (class : ℕ) → class < classes_in slab → LaysStat words class (stat_of slab class)
  pub used_runs : (page count : ℕ) → page_at slab.pages page ≡ First count → HasUsedRun words page count
  pub classes : (page class : ℕ) (used : List ℕ) → page_at slab.pages page ≡ Class class used → LaysClassPage words slab.shape page class used

-- a fresh zone: its words lay out a fresh slab, and every word that the layout doesn't give is 0
pub record IsOpened (shape : Shape) (image : Image) : Type 0 where
  pub shape_is : image.shape ≡ shape
  pub laid : LaysSlab image.words (fresh_slab shape)
  pub log_ctx : slice_index image.words log_ctx_word ≡ 0
  pub data_is : slice_index image.words data_word ≡ 0
  pub rest : (w : ℕ) → descriptor_word (pages_of shape) ≤ w → slice_index image.words w ≡ 0
