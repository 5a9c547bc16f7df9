-- What the steps of a grant and of a return leave of a zone's words.
use Rattle.std.specs.Prelude.{ℕ, ◌≡◌, ◌≢◌, ◌⊎◌, ◌+◌, ◌<◌, ◌≤◌, false, true, List, [], ◌∷◌, length, slice_index, slice_set, Option}
use Rattle.zone_region.specs.Members.{In, IsDistinct}
use Rattle.slab_model.specs.declared.shape.Shape.{Shape}
use Rattle.slab_model.specs.declared.runs.Run.{Run}
use Rattle.slab_model.specs.declared.page.PageState.TheVariants.{Class}
use Rattle.slab_model.specs.Geometry.{IsInLimits, small, kind_of, pages_of, first_index, blocks_in_page, usable_blocks}
use Rattle.slab_model.specs.Numbers.{is_member, without}
use Rattle.slab_model.specs.Runs.{is_covered}
use Rattle.slab_model.specs.State.{Slab, page_at, stat_of}
use Rattle.slab_model.specs.Counting.{count_grant}
use Rattle.slab_pages.specs.Places.{Image, log_ctx_word, data_word, head_word, descriptor_word, class_head, page_word, bitmap_words, descriptor, next_at, prev_at}
use Rattle.slab_pages.specs.Layout.{LaysRuns}
use Rattle.slab_pages.specs.SlabLayout.{LaysSlab, type_of}
use Rattle.slab_pool.specs.Bits.{bits_word, HasShift, HasBits}
use Rattle.slab_pool.specs.Links.{Linked}
use Rattle.slab_pool.specs.Pool.{LaysPool}

-- ---- what a step asks

-- the zone's free runs are laid out
pub record HasRuns (image : Image) : Type 0 where
  pub limits : IsInLimits image.shape
  pub runs : List Run
  pub laid : LaysRuns image runs

-- the page is one of the zone, and not free
pub record IsTaken (image : Image) (page : ℕ) : Type 0 where
  pub limits : IsInLimits image.shape
  pub below : page < pages_of image.shape
  pub runs : List Run
  pub laid : LaysRuns image runs
  pub free : is_covered page runs ≡ false

-- the offset of the head of the class's list, or of the descriptor of a page that isn't free
abbrev pub IsTakenNode : Image → ℕ → ℕ → Type 0
IsTakenNode image class o = (o ≡ class_head class) ⊎ ((page : ℕ) × (o ≡ descriptor page) × IsTaken image page)

-- the class's list of pages, none of which is free
pub record HasList (image : Image) (class : ℕ) (listed : List ℕ) : Type 0 where
  pub linked : Linked image.words (class_head class) (type_of (kind_of image.shape class)) (class_head class) listed
  pub once : IsDistinct listed
  pub taken : (page : ℕ) → In page listed → IsTaken image page

-- ---- what a step leaves

-- free runs that were laid out still are
pub record KeepsRuns (old new : Image) : Type 0 where
  pub shape_is : new.shape ≡ old.shape
  pub laid : (runs : List Run) → LaysRuns old runs → LaysRuns new runs

-- the word isn't one of the bitmap of the page, if its class is a small one
abbrev pub IsOutside : Shape → ℕ → ℕ → ℕ → Type 0
IsOutside shape class page w = kind_of shape class ≡ small → (w < page_word shape page) ⊎ (page_word shape page + bitmap_words shape class ≤ w)

-- no word changed but the slab word and the bitmap of the page
pub record ChangesBits (shape : Shape) (class page : ℕ) (old new : List ℕ) : Type 0 where
  pub same_length : length new ≡ length old
  pub others : (w : ℕ) → w ≢ descriptor_word page → IsOutside shape class page w → slice_index new w ≡ slice_index old w

-- word `j` of the bits of the page is `v`, and their other words are as before
pub record SetsBits (shape : Shape) (class page j v : ℕ) (old new : List ℕ) : Type 0 where
  pub set : bits_word (kind_of shape class) new shape page j ≡ v
  pub others : (i : ℕ) → i ≢ j → i < bitmap_words shape class → bits_word (kind_of shape class) new shape page i ≡ bits_word (kind_of shape class) old shape page i
  pub shift : (kind_of shape class ≡ small → HasShift small old page class) → HasShift (kind_of shape class) new page class

-- no word changed but the links of these pages and of this one, and where the head of the class's list points
pub record RelinksPages (class page : ℕ) (listed : List ℕ) (old new : List ℕ) : Type 0 where
  pub same_length : length new ≡ length old
  pub others : (w : ℕ) → w ≢ head_word class + 1 → ((q : ℕ) → (q ≡ page) ⊎ In q listed → (w ≢ descriptor_word q + 1) × (w ≢ descriptor_word q + 2)) → slice_index new w ≡ slice_index old w

-- the page left the class's list, and its descriptor is that of a page in no list
pub record UnlinksPage (shape : Shape) (class page : ℕ) (listed : List ℕ) (old new : List ℕ) : Type 0 where
  pub linked : Linked new (class_head class) (type_of (kind_of shape class)) (class_head class) (without page listed)
  pub next : next_at new (descriptor page) ≡ 0
  pub prev : prev_at new (descriptor page) ≡ type_of (kind_of shape class)
  pub changes : RelinksPages class page listed old new

-- the page came to the head of the class's list
pub record Pushes (shape : Shape) (class page : ℕ) (listed : List ℕ) (old new : List ℕ) : Type 0 where
  pub linked : Linked new (class_head class) (type_of (kind_of shape class)) (class_head class) (page ∷ listed)
  pub changes : RelinksPages class page listed old new

-- no word past the descriptors changed but for the bitmap of the page, and neither did the words that name the context and the name block
pub record KeepsBehind (shape : Shape) (class page : ℕ) (old new : List ℕ) : Type 0 where
  pub same_length : length new ≡ length old
  pub behind : (w : ℕ) → descriptor_word (pages_of shape) ≤ w → IsOutside shape class page w → slice_index new w ≡ slice_index old w
  pub log_ctx : slice_index new log_ctx_word ≡ slice_index old log_ctx_word
  pub data_is : slice_index new data_word ≡ slice_index old data_word

-- ---- what a step reads

-- `r` is the lowest index of the class's page from `from` on that isn't used; it is the number of the blocks where all are
pub record IsFirstUnused (shape : Shape) (class from : ℕ) (used : List ℕ) (r : ℕ) : Type 0 where
  pub low : from ≤ r
  pub high : r ≤ blocks_in_page shape class
  pub between : (k : ℕ) → from ≤ k → k < r → is_member k used ≡ true
  pub unused : r < blocks_in_page shape class → is_member r used ≡ false

-- ---- a page that a grant fills

-- once this index is used too, the page can grant another block, and no word changed; or all its blocks are used, and it left the class's list
pub data LeavesIfFull (shape : Shape) (class page index : ℕ) (used listed : List ℕ) (old new : List ℕ) : Type 0 where
  stays : (k : ℕ) → index < k → k < blocks_in_page shape class → is_member k used ≡ false → new ≡ old → LeavesIfFull shape class page index used listed old new
  leaves : ((k : ℕ) → index < k → k < blocks_in_page shape class → is_member k used ≡ true) → UnlinksPage shape class page listed old new → LeavesIfFull shape class page index used listed old new

-- ---- a whole grant or return

-- what the slab answers, and the slab that the words lay out afterwards
pub record Answers (answer : Option ℕ × Slab) (result : Option ℕ) (new : Image) : Type 0 where
  pub result_is : result ≡ answer.0
  pub laid : LaysPool new answer.1

-- the slab with a page that was taken as the class's only listed page, with its first block granted
abbrev pub begun : Slab → ℕ → ℕ → Slab
begun slab class page = record {
  shape = slab.shape;
  pages = slice_set slab.pages page (Class class (first_index slab.shape class ∷ []));
  runs = slab.runs;
  lists = slice_set slab.lists class (page ∷ []);
  stats = slice_set slab.stats class (count_grant (usable_blocks slab.shape class) (stat_of slab class));
}

-- the words lay out the slab with the new page
pub record BeginsPage (slab : Slab) (class page : ℕ) (new : Image) : Type 0 where
  pub shape_is : slab.shape ≡ new.shape
  pub laid : LaysSlab new.words (begun slab class page)

-- ---- a block of a page that came back

-- from the words `before`, which lay out the slab, only the bit of this used index was cleared
pub record HasBitCleared (before : Image) (slab : Slab) (class page : ℕ) (used : List ℕ) (index : ℕ) (now : Image) : Type 0 where
  pub laid : LaysPool before slab
  pub is : page_at slab.pages page ≡ Class class used
  pub member : is_member index used ≡ true
  pub runs : KeepsRuns before now
  pub changes : ChangesBits before.shape class page before.words now.words
  pub bits : HasBits now.words before.shape page class (without index used)
