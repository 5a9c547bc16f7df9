-- Where the words of a zone stand, by the names of `ngx_slab_pool_t`, `ngx_slab_stat_t` and `ngx_slab_page_t`. A place is the number of a word; links hold byte offsets.
use Rattle.std.specs.Prelude.{ℕ, ◌≡◌, ◌⊎◌, length, ◌+◌, ◌*◌, ◌-◌, ◌/◌, ◌^◌, Bool, false, ◌&&◌, ◌||◌, nat_le, nat_eq, List, slice_index}
use Rattle.slab_model.specs.declared.runs.Run.{Run}
use Rattle.slab_model.specs.declared.shape.Shape.{Shape}
use Rattle.slab_model.specs.Geometry.{only_shift, blocks_in_page, greatest_zone, page_offset}
use Rattle.slab_model.specs.Runs.{is_covered}

-- a zone: its shape, and its words
pub record Image : Type 0 where
  pub shape : Shape
  pub words : List ℕ

-- the byte offset of a word
abbrev pub byte_of : ℕ → ℕ
byte_of w = 8 * w

-- no zone has more pages: the smallest have two to the only page shift bytes
abbrev pub page_limit : ℕ
page_limit = greatest_zone / 2 ^ only_shift

-- no zone has more words
abbrev pub word_limit : ℕ
word_limit = greatest_zone / 8

-- ---- the header, the 25 words of `ngx_slab_pool_t`

-- the lock
abbrev pub lock_word : ℕ
lock_word = 0

-- how many wait for it
abbrev pub wait_word : ℕ
wait_word = 1

-- the least size of a block
abbrev pub min_size_word : ℕ
min_size_word = 2

-- the binary logarithm of that size
abbrev pub min_shift_word : ℕ
min_shift_word = 3

-- the byte offset of the first descriptor
abbrev pub pages_word : ℕ
pages_word = 4

-- the byte offset of the end of the last descriptor
abbrev pub last_word : ℕ
last_word = 5

-- the head of the list of free runs, which is laid out like a descriptor: slab, next and prev
abbrev pub free_word : ℕ
free_word = 6

-- the byte offset of the statistics
abbrev pub stats_word : ℕ
stats_word = 9

-- the number of free pages
abbrev pub pfree_word : ℕ
pfree_word = 10

-- the byte offset of the first page
abbrev pub start_word : ℕ
start_word = 11

-- the byte offset of the end of the zone
abbrev pub end_word : ℕ
end_word = 12

-- the first of the seven words of the mutex
abbrev pub mutex_word : ℕ
mutex_word = 13

-- the byte offset of the block with the zone's name, or 0
abbrev pub log_ctx_word : ℕ
log_ctx_word = 20

-- the byte that ends an empty text
abbrev pub zero_word : ℕ
zero_word = 21

-- whether a want of memory is logged
abbrev pub log_nomem_word : ℕ
log_nomem_word = 22

-- the byte offset of the block with the zone's context, or 0
abbrev pub data_word : ℕ
data_word = 23

-- the address of the pool
abbrev pub addr_word : ℕ
addr_word = 24

-- ---- behind the header: the heads, the statistics and the descriptors

-- the number of classes, each of which has a head and statistics
abbrev pub head_count : ℕ
head_count = 9

-- the head of a class's list of pages, which is laid out like a descriptor
abbrev pub head_word : ℕ → ℕ
head_word class = addr_word + 1 + 3 * class

-- the first of the four words of a class's statistics: total, used, reqs and fails
abbrev pub stat_word : ℕ → ℕ
stat_word class = head_word head_count + 4 * class

-- the first of the three words of a page's descriptor: slab, next and prev
abbrev pub descriptor_word : ℕ → ℕ
descriptor_word page = stat_word head_count + 3 * page

-- the page whose descriptor has this word
abbrev pub descriptor_page : ℕ → ℕ
descriptor_page w = (w - descriptor_word 0) / 3

-- the first word of a page
abbrev pub page_word : Shape → ℕ → ℕ
page_word shape page = page_offset shape page / 8

-- the words of the bits of a small class's page, one bit for each of its blocks
abbrev pub bitmap_words : Shape → ℕ → ℕ
bitmap_words shape class = (blocks_in_page shape class + 63) / 64

-- ---- what links hold

-- byte offset of the head of the list of free runs
abbrev pub free_head : ℕ
free_head = byte_of free_word

-- byte offset of the head of a class's list
abbrev pub class_head : ℕ → ℕ
class_head class = byte_of (head_word class)

-- byte offset of a page's descriptor
unfoldable pub descriptor : ℕ → ℕ
descriptor page = byte_of (descriptor_word page)

-- the offset of the head, or of a page's descriptor
abbrev pub IsDescriptorOffset : ℕ → Type 0
IsDescriptorOffset o = (o ≡ free_head) ⊎ ((page : ℕ) × (o ≡ descriptor page))

-- the word slab of the descriptor at a byte offset
abbrev pub slab_at : List ℕ → ℕ → ℕ
slab_at words o = slice_index words (o / 8)

-- its word next
abbrev pub next_at : List ℕ → ℕ → ℕ
next_at words o = slice_index words (o / 8 + 1)

-- its word prev
abbrev pub prev_at : List ℕ → ℕ → ℕ
prev_at words o = slice_index words (o / 8 + 2)

-- the descriptor at a byte offset has these words
pub record HasWords (words : List ℕ) (o slab next prev : ℕ) : Type 0 where
  pub slab_is : slab_at words o ≡ slab
  pub next_is : next_at words o ≡ next
  pub prev_is : prev_at words o ≡ prev

-- the header words of the page list: the head's slab, next and prev, and the count of free pages
abbrev pub is_list_word : ℕ → Bool
is_list_word w = (nat_eq w free_word || nat_eq w (free_word + 1)) || (nat_eq w (free_word + 2) || nat_eq w pfree_word)

-- the word is one of the descriptor of a page of these runs
abbrev pub is_run_word : List Run → ℕ → Bool
is_run_word runs w = nat_le (descriptor_word 0) w && is_covered (descriptor_page w) runs

-- every word is as before, but for those of the page list's header and of the descriptors of these runs
pub record KeepsOthers (runs : List Run) (old new : List ℕ) : Type 0 where
  pub same_length : length new ≡ length old
  pub others : (w : ℕ) → is_list_word w ≡ false → is_run_word runs w ≡ false → slice_index new w ≡ slice_index old w
