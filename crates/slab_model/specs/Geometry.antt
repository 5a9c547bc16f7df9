-- How a zone is cut into pages, and a page into blocks of one class. All sizes are in bytes.
-- What depends on the bytes of a page is a function of the zone's shape; so far every page has 4096.
use Rattle.std.specs.Prelude.{ℕ, ◌≡◌, ◌+◌, ◌*◌, ◌-◌, ◌/◌, ◌^◌, ◌≤◌, nat_le, nat_lt, nat_eq, [], ◌∷◌, Option, position, min, max, if◌then◌else◌}
use Rattle.slab_model.specs.declared.shape.Shape.{Shape}

-- ---- pages

-- the binary logarithm of a page's bytes, so far the only one
abbrev pub only_shift : ℕ
only_shift = 12

-- a zone of so many bytes in pages of 4096
abbrev pub shape_of : ℕ → Shape
shape_of bytes = record { bytes = bytes; page_shift = only_shift }

-- a page, two to the page shift
abbrev pub page_size : Shape → ℕ
page_size shape = 4096

-- the pool header, the heads of the lists and the statistics, before the first descriptor
abbrev pub prefix_size : Shape → ℕ
prefix_size shape = 704

-- the descriptor of one page
abbrev pub descriptor_size : ℕ
descriptor_size = 24

-- the least bytes of a zone, eight pages: where a zone's geometry is made, fewer are refused
abbrev pub least_zone : Shape → ℕ
least_zone shape = 8 * page_size shape

-- the most bytes of a zone: a condition of the calls that open one, which their callers have to keep
abbrev pub greatest_zone : ℕ
greatest_zone = 67108864

-- the shape is that of a zone that can be opened
pub record IsInLimits (shape : Shape) : Type 0 where
  pub large : least_zone shape ≤ shape.bytes
  pub small : shape.bytes ≤ greatest_zone
  pub shift : shape.page_shift ≡ only_shift

-- the pages that fit together with their descriptors
unfoldable pub most_pages : Shape → ℕ
most_pages shape = (shape.bytes - prefix_size shape) / (page_size shape + descriptor_size)

-- the first multiple of a page's size at or after the last descriptor
unfoldable pub start_of : Shape → ℕ
start_of shape = (prefix_size shape + descriptor_size * most_pages shape + (page_size shape - 1)) / page_size shape * page_size shape

-- the number of pages, which begin at the start
unfoldable pub pages_of : Shape → ℕ
pages_of shape = min (most_pages shape) ((shape.bytes - start_of shape) / page_size shape)

-- the offset of a page
abbrev pub page_offset : Shape → ℕ → ℕ
page_offset shape page = start_of shape + page_size shape * page

-- the whole pages that hold this many bytes
unfoldable pub pages_for : Shape → ℕ → ℕ
pages_for shape size = (size + (page_size shape - 1)) / page_size shape

-- ---- classes

-- the number of classes
abbrev pub class_count : Shape → ℕ
class_count shape = 9

-- no zone has more classes, whatever its pages
abbrev pub most_classes : ℕ
most_classes = 13

-- the size of a class's blocks
unfoldable pub class_size : ℕ → ℕ
class_size class = 8 * 2 ^ class

-- the class of a request, the first whose blocks are large enough; none where whole pages serve it
unfoldable pub class_of : Shape → ℕ → Option ℕ
class_of shape size = position (λ block. nat_le size block) (8 ∷ 16 ∷ 32 ∷ 64 ∷ 128 ∷ 256 ∷ 512 ∷ 1024 ∷ 2048 ∷ [])

-- the blocks of a class in a page
unfoldable pub blocks_in_page : Shape → ℕ → ℕ
blocks_in_page shape class = page_size shape / class_size class

-- where a class keeps which blocks of a page are used: in the page itself, in one word, in half a word
pub data Kind : Type 0 where
  small : Kind
  exact : Kind
  big : Kind

-- the kind of a class
unfoldable pub kind_of : Shape → ℕ → Kind
kind_of shape class = if nat_lt 64 (blocks_in_page shape class) then small else if nat_eq (blocks_in_page shape class) 64 then exact else big

-- the blocks of a small class's page that hold its own bits, at least one; none in the other kinds
unfoldable pub first_index : Shape → ℕ → ℕ
first_index shape class = if nat_lt 64 (blocks_in_page shape class) then max 1 (blocks_in_page shape class / (8 * class_size class)) else 0

-- the blocks of a class in a page that can be granted
unfoldable pub usable_blocks : Shape → ℕ → ℕ
usable_blocks shape class = blocks_in_page shape class - first_index shape class

-- the offset of a block of a class in a page
abbrev pub block_offset : Shape → ℕ → ℕ → ℕ → ℕ
block_offset shape page class index = page_offset shape page + class_size class * index
