-- What a pool is but for the words of its blocks: a word of a live block doesn't belong to it, and it tells the slab.
use Rattle.std.proofs.Common.{ℕ, ◌≡◌, ◌≢◌, ◌⊎◌, ◌+◌, ◌*◌, ◌-◌, ◌/◌, ◌%◌, ◌^◌, ◌<◌, ◌≤◌, zero, suc, Bool, true, false, ◌&&◌, ◌||◌, eqb, leb, ltb, cond, List, [], ◌∷◌, length, get_or, set, sym, ap, subst, ◌∙◌, refl, arith, inl, inr, get_or-set_other}
use Rattle.std.proofs.lemmas.Bool.{cases_lt, cases_eq, cases_Bool}
use Rattle.std.proofs.lemmas.List.{length-set, same_lists, get_or_default}
use Rattle.std.proofs.lemmas.Grind.{common_steps}
use Rattle.slab_model.specs.declared.page.PageState.TheVariants.{Class}
use Rattle.slab_model.specs.declared.shape.Shape.{Shape}
use Rattle.slab_model.specs.Geometry.{small, kind_of, start_of, pages_of, page_offset}
use Rattle.slab_model.specs.State.{Slab, page_at}
use Rattle.slab_model.specs.Blocks.{live_bytes, page_number, place_in_page}
use Rattle.slab_model.proofs.ClassLemmas.{zone}
use Rattle.slab_model.proofs.BlockLemmas.{page_number-is, place_in_page-is}
use Rattle.slab_pages.specs.Places.{Image, bitmap_words, descriptor, descriptor_word, page_word, slab_at, log_ctx_word, data_word}
use Rattle.slab_pages.specs.SlabLayout.{type_of}
use Rattle.slab_pages.proofs.PlaceLemmas.{descriptor-word}
use Rattle.slab_model.proofs.SoundLemmas.{class_page-in}
use Rattle.slab_pages.proofs.FrameLemmas.{LaysSlab-kept}
use Rattle.slab_pool.specs.Pool.{LaysPool}
use Rattle.slab_pool.specs.Live.{page_type, class_in, is_bitmap_word, is_layout_word, layout_words, rest_of}
use Rattle.slab_pool.proofs.DecodeLemmas.{class-type, class_in-class}
use Rattle.slab_pool.proofs.KindLemmas.{numbers}
use Rattle.slab_pool.proofs.BlockWords.{block_word}

-- ---- the list of these words

length-layout : (image : Image) (w : ℕ) (vs : List ℕ) → length (layout_words image w vs) ≡ length vs
length-layout image w [] = refl
length-layout image w (v ∷ vs) = ap suc (length-layout image (suc w) vs)

get-layout : (image : Image) (w : ℕ) (vs : List ℕ) (i : ℕ) → get_or (layout_words image w vs) i 0 ≡ cond (is_layout_word image (w + i)) (get_or vs i 0) 0
get-layout image w [] i = elim (cases_Bool (is_layout_word image (w + i))) [ inl kept ↦ grind (arith, common_steps, kept) | inr gone ↦ grind (arith, common_steps, gone) ]
get-layout image w (v ∷ vs) zero = let e : w + 0 ≡ w = omega arith in ap (λ n. cond (is_layout_word image n) v 0) (sym e)
get-layout image w (v ∷ vs) (suc i) = let e : suc w + i ≡ w + suc i = omega arith in get-layout image (suc w) vs i ∙ ap (λ n. cond (is_layout_word image n) (get_or vs i 0) 0) e

get-layout_all : (image : Image) (i : ℕ) → get_or (layout_words image 0 image.words) i 0 ≡ cond (is_layout_word image i) (get_or image.words i 0) 0
get-layout_all image i = let e : 0 + i ≡ i = omega arith in get-layout image 0 image.words i ∙ ap (λ n. cond (is_layout_word image n) (get_or image.words i 0) 0) e

-- ---- which words belong to it

-- it is told by the zone's bytes and the words before the pages
pub record SameStart (old new : Image) : Type 0 where
  pub shape_is : new.shape ≡ old.shape
  pub low : (w : ℕ) → w < descriptor_word (pages_of old.shape) → get_or new.words w 0 ≡ get_or old.words w 0

same-page_type : (old new : Image) (page : ℕ) → SameStart old new → page < pages_of old.shape → page_type new.words page ≡ page_type old.words page
same-page_type old new page s low = ap (λ n. n % 4) (s.low (descriptor page / 8 + 2) (omega (arith, low, descriptor-word page)))

same-class_in : (old new : Image) (page : ℕ) → SameStart old new → page < pages_of old.shape → class_in new.words page ≡ class_in old.words page
same-class_in old new page s low =
    let type = same-page_type old new page s low in
    let slab = s.low (descriptor page / 8) (omega (arith, low, descriptor-word page)) in
    both (page_type old.words page) (page_type new.words page) (slab_at old.words (descriptor page)) (slab_at new.words (descriptor page)) type slab where
      both : (t u a b : ℕ) → u ≡ t → b ≡ a → cond (eqb u 2) 3 (b % 2 ^ 32 - 3) ≡ cond (eqb t 2) 3 (a % 2 ^ 32 - 3)
      both t u a b e f = cc

pub same-bitmap : (old new : Image) (w : ℕ) → SameStart old new → is_bitmap_word new w ≡ is_bitmap_word old w
unfolding is_bitmap_word
same-bitmap old new w s =
    let bytes = s.shape_is in
    ap (λ (n : Shape). leb (start_of n) (8 * w) && (ltb (page_number n (8 * w)) (pages_of n) && (eqb (page_type new.words (page_number n (8 * w))) 3 && ltb (place_in_page n (8 * w) / 8) (bitmap_words n (class_in new.words (page_number n (8 * w))))))) bytes
    ∙ elim (cases_lt (page_number old.shape (8 * w)) (pages_of old.shape)) [
      | inl within ↦ let t = same-page_type old new (page_number old.shape (8 * w)) s within in let c = same-class_in old new (page_number old.shape (8 * w)) s within in inside (leb (start_of old.shape) (8 * w)) (ltb (page_number old.shape (8 * w)) (pages_of old.shape)) _ _ (place_in_page old.shape (8 * w) / 8) _ _ t c
      | inr past ↦ outside (leb (start_of old.shape) (8 * w)) (page_number old.shape (8 * w)) (pages_of old.shape) _ _ past
    ] where
      inside : (a b : Bool) (t u place c d : ℕ) → u ≡ t → d ≡ c → (a && (b && (eqb u 3 && ltb place (bitmap_words old.shape d)))) ≡ (a && (b && (eqb t 3 && ltb place (bitmap_words old.shape c))))
      inside a b t u place c d e f = cc

      outside : (a : Bool) (number count : ℕ) (x y : Bool) → count ≤ number → (a && (ltb number count && x)) ≡ (a && (ltb number count && y))
      outside a number count x y past = grind (arith, common_steps)

same-layout : (old new : Image) (w : ℕ) → SameStart old new → is_layout_word new w ≡ is_layout_word old w
same-layout old new w s = let b = same-bitmap old new w s in let n = ap (λ (k : Shape). start_of k) s.shape_is in both (start_of old.shape) (start_of new.shape) (is_bitmap_word old w) (is_bitmap_word new w) n b where
  both : (a b : ℕ) (x y : Bool) → b ≡ a → y ≡ x → (ltb (8 * w) b || y) ≡ (ltb (8 * w) a || x)
  both a b x y e f = cc

-- a word of the bitmap of a small class's page belongs to it
pub bitmap-belongs : (image : Image) (slab : Slab) (page class : ℕ) (used : List ℕ) (w : ℕ) → LaysPool image slab → page_at slab.pages page ≡ Class class used → kind_of slab.shape class ≡ small → page_word slab.shape page ≤ w → w < page_word slab.shape page + bitmap_words slab.shape class → bitmap_words slab.shape class ≤ 8 → is_layout_word image w ≡ true
unfolding is_bitmap_word
bitmap-belongs image slab page class used w p is kind low high few =
    let z = zone slab.shape p.sound.limits in
    let offset : page_offset image.shape page ≡ page_offset slab.shape page = ap (λ (n : Shape). page_offset n page) (sym p.shape_is) in
    let at : 8 * w ≡ page_offset image.shape page + (8 * w - page_offset image.shape page) = omega (arith, offset, z.eights, low) in
    let fits : 8 * w - page_offset image.shape page < 4096 = omega (arith, offset, z.eights, low, high, few) in
    let number : page_number image.shape (8 * w) ≡ page = ap (λ n. page_number image.shape n) at ∙ page_number-is image.shape page (8 * w - page_offset image.shape page) fits in
    let place : place_in_page image.shape (8 * w) ≡ 8 * w - page_offset image.shape page = ap (λ n. place_in_page image.shape n) at ∙ place_in_page-is image.shape page (8 * w - page_offset image.shape page) fits in
    let behind : start_of image.shape ≤ 8 * w = omega (arith, at) in
    let within : page < pages_of image.shape = omega (arith, class_page-in slab class page used p.sound is, ap (λ (n : Shape). pages_of n) p.shape_is) in
    let type : page_type image.words page ≡ 3 = class-type image slab page class used p is ∙ ap type_of kind in
    let inside : (8 * w - page_offset image.shape page) / 8 < bitmap_words image.shape class = omega (arith, offset, z.eights, low, high, ap (λ (n : Shape). bitmap_words n class) p.shape_is) in
    tests (page_number image.shape (8 * w)) (place_in_page image.shape (8 * w)) number place behind within type (class_in-class image slab page class used p is) inside where
      tests : (number place : ℕ) → number ≡ page → place ≡ 8 * w - page_offset image.shape page → start_of image.shape ≤ 8 * w → page < pages_of image.shape → page_type image.words page ≡ 3 → class_in image.words page ≡ class → (8 * w - page_offset image.shape page) / 8 < bitmap_words image.shape class → (ltb (8 * w) (start_of image.shape) || (leb (start_of image.shape) (8 * w) && (ltb number (pages_of image.shape) && (eqb (page_type image.words number) 3 && ltb (place / 8) (bitmap_words image.shape (class_in image.words number)))))) ≡ true
      tests number place e f behind within type class_is inside =
          subst (λ (n : ℕ). (ltb (8 * w) (start_of image.shape) || (leb (start_of image.shape) (8 * w) && (ltb n (pages_of image.shape) && (eqb (page_type image.words n) 3 && ltb (place / 8) (bitmap_words image.shape (class_in image.words n)))))) ≡ true) (sym e)
          (plain (8 * w) (start_of image.shape) page (pages_of image.shape) (page_type image.words page) (place / 8) (bitmap_words image.shape (class_in image.words page)) behind within type (omega (arith, inside, ap (λ n. n / 8) f, ap (λ n. bitmap_words image.shape n) class_is)))
        where
          plain : (at start page count type place few : ℕ) → start ≤ at → page < count → type ≡ 3 → place < few → (ltb at start || (leb start at && (ltb page count && (eqb type 3 && ltb place few)))) ≡ true
          plain at start page count type place few a b c d = grind (arith, common_steps)

-- ---- it tells the slab

-- the same rest, word by word
pub record SameRest (old new : Image) : Type 0 where
  pub shape_is : new.shape ≡ old.shape
  pub same_length : length new.words ≡ length old.words
  pub words : (w : ℕ) → cond (is_layout_word new w) (get_or new.words w 0) 0 ≡ cond (is_layout_word old w) (get_or old.words w 0) 0

pub same-rest : (old new : Image) → rest_of new ≡ rest_of old → SameRest old new
unfolding rest_of
same-rest old new e =
    let bytes : new.shape.bytes ≡ old.shape.bytes = cc in
    let shift : new.shape.page_shift ≡ old.shape.page_shift = cc in
    let words : layout_words new 0 new.words ≡ layout_words old 0 old.words = cc in
    record {
      shape_is = both new.shape old.shape bytes shift;
      same_length = sym (length-layout new 0 new.words) ∙ ap length words ∙ length-layout old 0 old.words;
      words = λ w. sym (get-layout_all new w) ∙ ap (λ vs. get_or vs w 0) words ∙ get-layout_all old w;
    } where
      both : (a b : Shape) → a.bytes ≡ b.bytes → a.page_shift ≡ b.page_shift → a ≡ b
      both a b bytes shift =
          let f : ℕ → ℕ → Shape = λ m n. record { bytes = m; page_shift = n } in
          ap (λ m. f m a.page_shift) bytes ∙ ap (λ n. f b.bytes n) shift

start-belongs : (image : Image) (w : ℕ) → 8 * w < start_of image.shape → is_layout_word image w ≡ true
start-belongs image w low = grind (arith, common_steps)

both_belong : (a b : Bool) (v u : ℕ) → a ≡ true → b ≡ true → cond a v 0 ≡ cond b u 0 → v ≡ u
both_belong a b v u x y e = grind (arith, common_steps)

same-start : (old new : Image) (slab : Slab) → LaysPool old slab → SameRest old new → SameStart old new
same-start old new slab p r = record {
  shape_is = r.shape_is;
  low = λ w low.
      let z = zone slab.shape p.sound.limits in
      let start = ap (λ (n : Shape). start_of n) p.shape_is in
      let count = ap (λ (n : Shape). pages_of n) p.shape_is in
      let before : 8 * w < start_of old.shape = omega (arith, low, z.behind, start, count) in
      let after : 8 * w < start_of new.shape = omega (arith, before, ap (λ (n : Shape). start_of n) r.shape_is) in
      both_belong (is_layout_word new w) (is_layout_word old w) _ _ (start-belongs new w after) (start-belongs old w before) (r.words w);
}

-- a bitmap has at most eight words
pub few_words : (shape : Shape) (class : ℕ) → class < 9 → bitmap_words shape class ≤ 8
few_words shape class known = (numbers shape class known).words

-- with the same rest, each slab that was laid out still is, and the header's words `log_ctx` and `data` are as before
pub rest-laid : (old new : Image) (slab : Slab) → rest_of new ≡ rest_of old → LaysPool old slab → LaysPool new slab
rest-laid old new slab e p =
    let r = same-rest old new e in
    let s = same-start old new slab p r in
    record {
      shape_is = p.shape_is ∙ sym r.shape_is;
      sound = p.sound;
      laid = LaysSlab-kept slab old.words new.words p.sound (record {
        same_length = r.same_length;
        low = λ w low _ _. s.low w (omega (arith, low, ap (λ (n : Shape). pages_of n) p.shape_is));
        bitmaps = λ page class used is kind w low high.
            let here = bitmap-belongs old slab page class used w p is kind low high (few_words slab.shape class (p.sound.used page class used is).known) in
            both_belong (is_layout_word new w) (is_layout_word old w) _ _ (same-layout old new w s ∙ here) here (r.words w);
      }) p.laid;
    }

pub rest-root : (old new : Image) (slab : Slab) → rest_of new ≡ rest_of old → LaysPool old slab → (get_or new.words log_ctx_word 0 ≡ get_or old.words log_ctx_word 0) × (get_or new.words data_word 0 ≡ get_or old.words data_word 0)
rest-root old new slab e p = let s = same-start old new slab p (same-rest old new e) in (s.low log_ctx_word (omega arith), s.low data_word (omega arith))

-- ---- one word of a live block

pub rest-set : (old new : Image) (slab : Slab) (at i v : ℕ) → LaysPool old slab → i < live_bytes slab at / 8 → new ≡ record { shape = old.shape; words = set old.words (at / 8 + i) v } → rest_of new ≡ rest_of old
unfolding rest_of
rest-set old new slab at i v p low is =
    let b = block_word old slab at i p low in
    let bytes : new.shape ≡ old.shape = ap (λ (m : Image). m.shape) is in
    let words : new.words ≡ set old.words (at / 8 + i) v = ap (λ (m : Image). m.words) is in
    let z = zone slab.shape p.sound.limits in
    let s : SameStart old new = record { shape_is = bytes; low = λ w l. other words w (λ e. omega (arith, e, l, b.low)) } in
    ap (λ (n : Shape). n.bytes ∷ n.page_shift ∷ layout_words new 0 new.words) bytes ∙ ap (λ vs. old.shape.bytes ∷ old.shape.page_shift ∷ vs)
    (same_lists (layout_words new 0 new.words) (layout_words old 0 old.words)
    (length-layout new 0 new.words ∙ ap length words ∙ length-set old.words (at / 8 + i) v ∙ sym (length-layout old 0 old.words))
    (λ k d l.
    let inside : k < length old.words = omega (arith, l, length-layout new 0 new.words, ap length words, length-set old.words (at / 8 + i) v) in
    get_or_default (layout_words new 0 new.words) k d 0 l
    ∙ get-layout_all new k ∙ here s words b.behind b.no_bits k (cases_eq k (at / 8 + i)) ∙ sym (get-layout_all old k)
    ∙ get_or_default (layout_words old 0 old.words) k 0 d (omega (arith, inside, length-layout old 0 old.words)))) where
      other : new.words ≡ set old.words (at / 8 + i) v → (w : ℕ) → w ≢ at / 8 + i → get_or new.words w 0 ≡ get_or old.words w 0
      other words w ne = ap (λ ws. get_or ws w 0) words ∙ get_or-set_other old.words (at / 8 + i) w v 0 ne

      here : SameStart old new → new.words ≡ set old.words (at / 8 + i) v → start_of old.shape ≤ 8 * (at / 8 + i) → is_bitmap_word old (at / 8 + i) ≡ false → (k : ℕ) → (k ≡ at / 8 + i) ⊎ (k ≢ at / 8 + i) → cond (is_layout_word new k) (get_or new.words k 0) 0 ≡ cond (is_layout_word old k) (get_or old.words k 0) 0
      here s words behind bits k (inl e) =
          let out : is_layout_word old k ≡ false = ap (λ n. is_layout_word old n) e ∙ neither (8 * (at / 8 + i)) (start_of old.shape) (is_bitmap_word old (at / 8 + i)) behind bits in
          nothing (is_layout_word new k) (is_layout_word old k) _ _ (same-layout old new k s ∙ out) out where
            neither : (n start : ℕ) (x : Bool) → start ≤ n → x ≡ false → (ltb n start || x) ≡ false
            neither n start x a b = grind (arith, common_steps)

            nothing : (a b : Bool) (v u : ℕ) → a ≡ false → b ≡ false → cond a v 0 ≡ cond b u 0
            nothing a b v u x y = grind (arith, common_steps)
      here s words behind bits k (inr ne) = let l = same-layout old new k s in let g = other words k ne in both (is_layout_word new k) (is_layout_word old k) _ _ l g where
        both : (a b : Bool) (v u : ℕ) → a ≡ b → v ≡ u → cond a v 0 ≡ cond b u 0
        both a b v u e f = cc
