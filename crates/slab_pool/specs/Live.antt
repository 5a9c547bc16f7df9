-- The live blocks of a pool and their words, as descriptors and bits tell them.
use Rattle.std.specs.Prelude.{ℕ, ◌≡◌, ◌+◌, ◌-◌, ◌*◌, ◌/◌, ◌%◌, ◌^◌, ◌<◌, ◌≤◌, ◌⊎◌, suc, Bool, false, not, ◌&&◌, ◌||◌, nat_eq, nat_lt, nat_le, List, [], ◌∷◌, length, slice_index, slice_range, if◌then◌else◌}
use Rattle.std.specs.Int.{bit_at}
use Rattle.zone_region.specs.Words.{Words}
use Rattle.slab_model.specs.declared.shape.Shape.{Shape}
use Rattle.slab_model.specs.Geometry.{page_size, start_of, pages_of, class_size, first_index, kind_of}
use Rattle.slab_model.specs.Blocks.{page_number, place_in_page}
use Rattle.slab_pages.specs.Frames.{ChangesFrom}
use Rattle.slab_pages.specs.Places.{Image, log_ctx_word, data_word, bitmap_words, descriptor_word, descriptor, slab_at, prev_at}
use Rattle.slab_pool.specs.Bits.{bits_word}

-- ---- what a page's descriptor tells

-- the type of a page: 0 whole pages, 1 big, 2 exact, 3 small
abbrev pub page_type : List ℕ → ℕ → ℕ
page_type words page = prev_at words (descriptor page) % 4

-- the class of 64 blocks in a page
abbrev pub exact_class : ℕ
exact_class = 3

-- the class of a page of a class: that of 64 blocks, or the one whose shift stands in the slab word
abbrev pub class_in : List ℕ → ℕ → ℕ
class_in words page = if nat_eq (page_type words page) 2 then exact_class else slab_at words (descriptor page) % 2 ^ 32 - 3

-- ---- live blocks

-- the bytes of the used run that begins so far into a page with this slab word, 0 where none does
abbrev pub run_bytes : Shape → ℕ → ℕ → ℕ
run_bytes shape slab place = if nat_eq place 0 && (nat_le (2 ^ 63) slab && not (nat_eq slab (2 ^ 64 - 1))) then page_size shape * (slab - 2 ^ 63) else 0

-- the bit of the block is set, and it isn't one of those that hold the bits
abbrev pub is_used_at : List ℕ → Shape → ℕ → ℕ → ℕ → Bool
is_used_at words shape page class index = nat_le (first_index shape class) index && nat_eq (bit_at (bits_word (kind_of shape class) words shape page (index / 64)) (index % 64)) 1

-- the bytes of the used block of the class that begins so far into a page, 0 where none does
abbrev pub class_bytes : List ℕ → Shape → ℕ → ℕ → ℕ → ℕ
class_bytes words shape page class place = if nat_eq (place % class_size class) 0 && is_used_at words shape page class (place / class_size class) then class_size class else 0

-- the bytes of the live block that begins at this place of a page, 0 where none begins there
abbrev pub bytes_in_page : List ℕ → Shape → ℕ → ℕ → ℕ
bytes_in_page words shape page place = if nat_eq (page_type words page) 0 then run_bytes shape (slab_at words (descriptor page)) place else class_bytes words shape page (class_in words page) place

-- the bytes of the live block that begins at this offset, 0 where none begins there
unfoldable pub bytes_at : Image → ℕ → ℕ
bytes_at image at = if nat_lt at (start_of image.shape) || nat_le (pages_of image.shape) (page_number image.shape at) then 0 else bytes_in_page image.words image.shape (page_number image.shape at) (place_in_page image.shape at)

-- its words
unfoldable pub block_words : Image → Words
block_words image at = slice_range image.words (at / 8) (at / 8 + bytes_at image at / 8)

-- ---- the other words

-- the word is one of the bits at the beginning of a small class's page
unfoldable pub is_bitmap_word : Image → ℕ → Bool
is_bitmap_word image w = nat_le (start_of image.shape) (8 * w) && (nat_lt (page_number image.shape (8 * w)) (pages_of image.shape) && (nat_eq (page_type image.words (page_number image.shape (8 * w))) 3 && nat_lt (place_in_page image.shape (8 * w) / 8) (bitmap_words image.shape (class_in image.words (page_number image.shape (8 * w))))))

-- the word stands before the pages, or is one of a bitmap
abbrev pub is_layout_word : Image → ℕ → Bool
is_layout_word image w = nat_lt (8 * w) (start_of image.shape) || is_bitmap_word image w

-- these words, from word `w` on, with 0 for each that isn't one of the layout
abbrev pub layout_words : Image → ℕ → List ℕ → List ℕ
layout_words image w [] = []
layout_words image w (v ∷ vs) = (if is_layout_word image w then v else 0) ∷ layout_words image (suc w) vs

-- what a pool is but for the words of its blocks: the zone's shape, and its words with 0 for those of the pages but for bitmaps
unfoldable pub rest_of : Image → List ℕ
rest_of image = image.shape.bytes ∷ image.shape.page_shift ∷ layout_words image 0 image.words

-- ---- what a call leaves

-- no word of a page but for those of bitmaps changed, and the words that name the context and the name block didn't
pub record KeepsPages (old new : Image) : Type 0 where
  pub shape_is : new.shape ≡ old.shape
  pub same_length : length new.words ≡ length old.words
  pub pages : (w : ℕ) → descriptor_word (pages_of old.shape) ≤ w → is_bitmap_word old w ≡ false → is_bitmap_word new w ≡ false → slice_index new.words w ≡ slice_index old.words w
  pub log_ctx : slice_index new.words log_ctx_word ≡ slice_index old.words log_ctx_word
  pub data_is : slice_index new.words data_word ≡ slice_index old.words data_word

-- the same, but for this block of so many words
pub record KeepsPagesBut (old new : Image) (at count : ℕ) : Type 0 where
  pub shape_is : new.shape ≡ old.shape
  pub same_length : length new.words ≡ length old.words
  pub pages : (w : ℕ) → descriptor_word (pages_of old.shape) ≤ w → (w < at / 8) ⊎ (at / 8 + count ≤ w) → is_bitmap_word old w ≡ false → is_bitmap_word new w ≡ false → slice_index new.words w ≡ slice_index old.words w
  pub log_ctx : slice_index new.words log_ctx_word ≡ slice_index old.words log_ctx_word
  pub data_is : slice_index new.words data_word ≡ slice_index old.words data_word

-- these words are 0 now, and every other one is as before
pub record ClearsWords (old new : Image) (from count : ℕ) : Type 0 where
  pub shape_is : new.shape ≡ old.shape
  pub changes : ChangesFrom old.words new.words from (from + count)
  pub cleared : (w : ℕ) → from ≤ w → w < from + count → slice_index new.words w ≡ 0
