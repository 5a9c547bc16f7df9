-- The words of live blocks: where they stand, and which changes leave them.
use Rattle.std.proofs.Common.{ℕ, ◌≡◌, ◌+◌, ◌*◌, ◌-◌, ◌/◌, ◌%◌, ◌<◌, ◌≤◌, Bool, true, false, ◌&&◌, eqb, leb, ltb, List, [], ◌∷◌, length, get_or, take, drop, sym, ap, subst, ◌∙◌, refl, arith, inl, inr}
use Rattle.std.proofs.lemmas.Bool.{agree_below_at, cases_eq}
use Rattle.std.proofs.lemmas.List.{get_or-take, get_or-drop, same_lists, get_or_default}
use Rattle.std.proofs.lemmas.List.Edits.{length-between}
use Rattle.std.proofs.Math.Nat.{mul-le-mul_left}
use Rattle.std.proofs.lemmas.Grind.{common_steps}
use Rattle.slab_model.specs.declared.shape.Shape.{Shape}
use Rattle.slab_model.specs.Geometry.{kind_of, page_size, class_size, blocks_in_page, first_index, start_of, pages_of, page_offset}
use Rattle.slab_model.specs.State.{Slab}
use Rattle.slab_model.specs.Blocks.{IsLive, live_bytes, page_number, place_in_page}
use Rattle.slab_model.proofs.ClassLemmas.{cuts, zone}
use Rattle.slab_model.proofs.BlockLemmas.{Lies, in_page, over_pages, lies, page_number-is, place_in_page-is, block_end}
use Rattle.slab_model.proofs.BlockLaws.{blocks-law}
use Rattle.slab_model.proofs.StateLemmas.{used-usable}
use Rattle.slab_model.proofs.NumberLemmas.{member}
use Rattle.slab_pages.specs.Places.{Image, bitmap_words, descriptor_word}
use Rattle.slab_pages.specs.SlabLayout.{type_of}
use Rattle.slab_pool.specs.Pool.{LaysPool}
use Rattle.slab_pool.specs.Live.{page_type, class_in, bytes_at, block_words, is_bitmap_word, KeepsPages}
use Rattle.slab_pool.proofs.BitLemmas.{at_small, at_exact, at_big, kind_at}
use Rattle.slab_pool.proofs.DecodeLemmas.{class-type, class_in-class, first-type, later-type, bytes_at-is}

-- ---- a word of a page

-- what it takes for a word not to be one of a bitmap
pub record InPage (image : Image) (w page place : ℕ) : Type 0 where
  pub at : 8 * w ≡ page_offset image.shape page + place
  pub fits : place < page_size image.shape
  pub none : page_type image.words page ≡ 3 → bitmap_words image.shape (class_in image.words page) ≤ place / 8

no_bitmap : (image : Image) (w page place : ℕ) → InPage image w page place → is_bitmap_word image w ≡ false
unfolding is_bitmap_word
no_bitmap image w page place h =
    let number : page_number image.shape (8 * w) ≡ page = ap (λ n. page_number image.shape n) h.at ∙ page_number-is image.shape page place h.fits in
    let rest : place_in_page image.shape (8 * w) ≡ place = ap (λ n. place_in_page image.shape n) h.at ∙ place_in_page-is image.shape page place h.fits in
    go (page_number image.shape (8 * w)) (place_in_page image.shape (8 * w)) number rest h.none where
      go : (number where_in : ℕ) → number ≡ page → where_in ≡ place → (page_type image.words page ≡ 3 → bitmap_words image.shape (class_in image.words page) ≤ place / 8) → (leb (start_of image.shape) (8 * w) && (ltb number (pages_of image.shape) && (eqb (page_type image.words number) 3 && ltb (where_in / 8) (bitmap_words image.shape (class_in image.words number))))) ≡ false
      go number where_in e f none = subst (λ (n : ℕ). (leb (start_of image.shape) (8 * w) && (ltb n (pages_of image.shape) && (eqb (page_type image.words n) 3 && ltb (where_in / 8) (bitmap_words image.shape (class_in image.words n))))) ≡ false) (sym e)
          (subst (λ (n : ℕ). (leb (start_of image.shape) (8 * w) && (ltb page (pages_of image.shape) && (eqb (page_type image.words page) 3 && ltb (n / 8) (bitmap_words image.shape (class_in image.words page))))) ≡ false) (sym f)
          (tests (leb (start_of image.shape) (8 * w)) (ltb page (pages_of image.shape)) (page_type image.words page) (place / 8) (bitmap_words image.shape (class_in image.words page)) none))
        where
          tests : (a b : Bool) (type n m : ℕ) → (type ≡ 3 → m ≤ n) → (a && (b && (eqb type 3 && ltb n m))) ≡ false
          tests a b type n m none = elim (cases_eq type 3) [
            | inl e ↦ let h = none e in grind (arith, common_steps, h)
            | inr ne ↦ grind (arith, common_steps, ne)
          ]

-- a small class's bitmap lies in blocks that it can't grant
bitmap_test : Shape → ℕ → Bool
bitmap_test shape class = leb (8 * bitmap_words shape class) (class_size class * first_index shape class)

bitmap_first : (shape : Shape) (class : ℕ) → class < 3 → 8 * bitmap_words shape class ≤ class_size class * first_index shape class
unfolding bitmap_test blocks_in_page class_size first_index
bitmap_first shape class low = let test = agree_below_at (bitmap_test shape) (λ _. true) 3 class refl low in grind (arith, common_steps, test)

-- ---- a word of a live block

pub record IsBlockWord (image : Image) (w : ℕ) : Type 0 where
  pub behind : start_of image.shape ≤ 8 * w
  pub low : descriptor_word (pages_of image.shape) ≤ w
  pub within : w < length image.words
  pub no_bits : is_bitmap_word image w ≡ false

-- a live block begins at a multiple of 8 and lies in the words
pub record HasRoom (image : Image) (at bytes : ℕ) : Type 0 where
  pub even : 8 * (at / 8) ≡ at
  pub long : 8 * (bytes / 8) ≡ bytes
  pub behind : start_of image.shape ≤ at
  pub fits : at / 8 + bytes / 8 ≤ length image.words

pub block_room : (image : Image) (slab : Slab) (at : ℕ) → LaysPool image slab → IsLive slab at → HasRoom image at (live_bytes slab at)
block_room image slab at p live =
    let l = (blocks-law slab p.sound).1 at live in
    let start = ap (λ (n : Shape). start_of n) p.shape_is in
    record {
      even = omega (arith, l.even);
      long = omega (arith, l.words);
      behind = omega (arith, l.low, start);
      fits = omega (arith, l.inside, l.even, l.words, p.laid.runs.sized);
    }

block_in_page : (image : Image) (slab : Slab) (at i : ℕ) → LaysPool image slab → HasRoom image at (live_bytes slab at) → Lies slab at → 8 * i + 8 ≤ live_bytes slab at → (page : ℕ) × (place : ℕ) × InPage image (at / 8 + i) page place
block_in_page image slab at i p room (in_page page class used index is ok there at_is bytes) inside =
    let c = cuts slab.shape class ok.known in
    let end = block_end (class_size class) index (blocks_in_page slab.shape class) c.whole (used-usable slab.shape class index used ok ((member index used).0 there)).1 in
    let offset = ap (λ (n : Shape). page_offset n page) p.shape_is in (
      page,
      class_size class * index + 8 * i,
      record {
        at = omega (arith, room.even, at_is, offset);
        fits = omega (arith, end, inside, bytes);
        none = λ type.
            let kind = small_type class ok.known (sym (class-type image slab page class used p is) ∙ type) in
            let first = mul-le-mul_left (class_size class) (used-usable slab.shape class index used ok ((member index used).0 there)).0 in
            let map = bitmap_first slab.shape class kind in
            let same = ap (λ k. bitmap_words image.shape k) (class_in-class image slab page class used p is) ∙ ap (λ (n : Shape). bitmap_words n class) (sym p.shape_is) in
            omega (arith, first, map, same);
      },
    ) where
      small_type : (class : ℕ) → class < 9 → type_of (kind_of slab.shape class) ≡ 3 → class < 3
      small_type class known t = elim (kind_at slab.shape class known) [
        | at_small low kind ↦ low
        | at_exact same kind ↦ absurd (omega (arith, sym (ap type_of kind) ∙ t))
        | at_big high kind ↦ absurd (omega (arith, sym (ap type_of kind) ∙ t))
      ]
block_in_page image slab at i p room (over_pages page count is at_is bytes) inside =
    let offset = ap (λ (n : Shape). page_offset n page) p.shape_is in
    let more = ap (λ (n : Shape). start_of n) p.shape_is in
    let q : ℕ = page + 8 * i / 4096 in (
      q,
      8 * i % 4096,
      record {
        at = omega (arith, room.even, at_is, offset, more);
        fits = omega arith;
        none = λ type. absurd (whole (8 * i / 4096) (omega (arith, inside, bytes)) type);
      },
    ) where
      whole : (k : ℕ) → k < count → page_type image.words (page + k) ≡ 3 → ⊥
      whole k low type = elim (cases_eq k 0) [
        | inl e ↦ let here : page + k ≡ page = omega (arith, e) in let t = ap (λ n. page_type image.words n) here ∙ (first-type image slab page count p is).0 in omega (arith, t, type)
        | inr ne ↦ let later = (p.sound.used_runs.followed page count is).2 (page + k) (omega (arith, ne)) (omega (arith, low)) in omega (arith, (later-type image slab (page + k) p later).0, type)
      ]

pub block_word : (image : Image) (slab : Slab) (at i : ℕ) → LaysPool image slab → i < live_bytes slab at / 8 → IsBlockWord image (at / 8 + i)
block_word image slab at i p low =
    let live : IsLive slab at = omega (arith, low) in
    let room = block_room image slab at p live in
    let inside : 8 * i + 8 ≤ live_bytes slab at = omega (arith, room.long, low) in
    let h = block_in_page image slab at i p room (lies slab at p.sound live) inside in
    let z = zone slab.shape p.sound.limits in
    let start = ap (λ (n : Shape). start_of n) p.shape_is in
    let count = ap (λ (n : Shape). pages_of n) p.shape_is in
    record {
      behind = omega (arith, room.behind, room.even);
      low = omega (arith, room.behind, room.even, z.behind, start, count);
      within = omega (arith, room.fits, low);
      no_bits = no_bitmap image (at / 8 + i) h.0 h.1 h.2;
    }

-- ---- the words of a block

pub length-block : (image : Image) (slab : Slab) (at : ℕ) → LaysPool image slab → length (block_words image at) ≡ live_bytes slab at / 8
unfolding block_words
length-block image slab at p =
    let bytes = bytes_at-is image slab at p in
    elim (cases_eq (live_bytes slab at) 0) [
      | inl none ↦ let z : bytes_at image at / 8 ≡ 0 = omega (arith, bytes, none) in length-take_none image.words (at / 8) (bytes_at image at / 8) z ∙ omega (arith, none)
      | inr ne ↦ let room = block_room image slab at p (omega (arith, ne)) in length-between image.words (at / 8) (at / 8 + bytes_at image at / 8) (omega (arith, room.fits, bytes)) ∙ omega (arith, bytes)
    ] where
      length-take_none : (xs : List ℕ) (a n : ℕ) → n ≡ 0 → length (take (a + n - a) (drop a xs)) ≡ 0
      length-take_none xs a n z = let e : a + n - a ≡ 0 = omega (arith, z) in ap (λ k. length (take k (drop a xs))) e

pub word-block : (image : Image) (slab : Slab) (at i : ℕ) → LaysPool image slab → i < live_bytes slab at / 8 → get_or (block_words image at) i 0 ≡ get_or image.words (at / 8 + i) 0
unfolding block_words
word-block image slab at i p low = let bytes = bytes_at-is image slab at p in get_or-take (at / 8 + bytes_at image at / 8 - at / 8) (drop (at / 8) image.words) i 0 (omega (arith, low, bytes)) ∙ get_or-drop (at / 8) image.words i 0

-- a block whose bytes and words are the same in two pools
pub same-block : (old new : Image) (before after : Slab) (at : ℕ) → LaysPool old before → LaysPool new after → live_bytes after at ≡ live_bytes before at → ((i : ℕ) → i < live_bytes before at / 8 → get_or new.words (at / 8 + i) 0 ≡ get_or old.words (at / 8 + i) 0) → block_words new at ≡ block_words old at
same-block old new before after at p q bytes same =
    same_lists (block_words new at) (block_words old at)
    (length-block new after at q ∙ ap (λ n. n / 8) bytes ∙ sym (length-block old before at p))
    (λ k d low.
    let inside : k < live_bytes before at / 8 = omega (arith, low, length-block new after at q, bytes) in
    let here : k < live_bytes after at / 8 = omega (arith, inside, bytes) in
    get_or_default (block_words new at) k d 0 low
    ∙ word-block new after at k q here ∙ same k inside ∙ sym (word-block old before at k p inside)
    ∙ get_or_default (block_words old at) k 0 d (omega (arith, inside, length-block old before at p)))

-- no block is live where the slab has none
pub no-block : (image : Image) (slab : Slab) (at : ℕ) → LaysPool image slab → live_bytes slab at ≡ 0 → block_words image at ≡ []
no-block image slab at p none = empty (block_words image at) (length-block image slab at p ∙ omega (arith, none)) where
  empty : (xs : List ℕ) → length xs ≡ 0 → xs ≡ []
  empty [] e = refl
  empty (x ∷ xs) e = absurd (omega (arith, e))

pub live-block : (image : Image) (slab : Slab) (at : ℕ) → LaysPool image slab → 0 < length (block_words image at) → IsLive slab at
live-block image slab at p some = omega (arith, some, length-block image slab at p)

-- where only bitmaps change, each block that stays live keeps its words
pub kept-block : (old new : Image) (before after : Slab) (at : ℕ) → LaysPool old before → LaysPool new after → KeepsPages old new → live_bytes after at ≡ live_bytes before at → block_words new at ≡ block_words old at
kept-block old new before after at p q kept bytes = same-block old new before after at p q bytes (λ i low.
    let b = block_word old before at i p low in
    let n = block_word new after at i q (omega (arith, low, bytes)) in
    kept.pages (at / 8 + i) b.low b.no_bits n.no_bits)
