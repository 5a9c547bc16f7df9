-- What the calls of a pool leave of its blocks.
use Rattle.std.proofs.Common.{ℕ, ◌≡◌, ◌≢◌, ◌⊎◌, ◌+◌, ◌-◌, ◌*◌, ◌/◌, ◌^◌, ◌<◌, ◌≤◌, Bool, true, false, ◌||◌, ltb, List, [], length, get_or, set, replicate, Option, Some, None, MatchOption, sym, ap, subst, ◌∙◌, refl, arith, inl, inr, get_or-set_same, get_or-set_other, IfSome}
use Rattle.std.proofs.lemmas.List.{length-set, same_lists, get_or_default, length-replicate, get_or-replicate}
use Rattle.std.proofs.lemmas.Bool.{cases_eq, cases_lt}
use Rattle.std.proofs.lemmas.Grind.{common_steps}
use Rattle.zone_region.specs.declared.blocks.Block.{Block}
use Rattle.zone_region.specs.Words.{SetsWord}
use Rattle.slab_model.specs.declared.shape.Shape.{Shape}
use Rattle.slab_model.specs.Geometry.{IsInLimits, start_of, pages_of}
use Rattle.slab_model.specs.State.{Slab, fresh_slab}
use Rattle.slab_model.specs.Blocks.{IsLive, live_bytes}
use Rattle.slab_model.specs.Grant.{grant, block_bytes, granted_offset}
use Rattle.slab_model.specs.Return.{give_back}
use Rattle.slab_model.proofs.ClassLemmas.{zone}
use Rattle.slab_model.proofs.BlockLaws.{grant-grants, grant-none, give_back-returns, fresh-law, blocks-law}
use Rattle.slab_pages.specs.Places.{Image, log_ctx_word, data_word, descriptor_word}
use Rattle.slab_pages.specs.Layout.{LaysRuns, MaySet}
use Rattle.slab_pages.specs.SlabLayout.{IsOpened}
use Rattle.slab_pages.proofs.SetLemmas.{may_set-past}
use Rattle.slab_model.specs.declared.runs.Run.{Run}
use Rattle.slab_pages.proofs.FrameLemmas.{LaysSlab-kept, pages-behind}
use Rattle.slab_pool.specs.Pool.{LaysPool}
use Rattle.slab_pool.specs.Live.{block_words, is_bitmap_word, KeepsPages, KeepsPagesBut, ClearsWords}
use Rattle.zone_region.specs.Granting.{GrantsWords, ReturnsWords, SameBlockWords}
use Rattle.slab_pool.proofs.BlockWords.{block_word, block_room, kept-block, no-block, length-block, word-block, same-block}
use Rattle.slab_pool.proofs.RestLemmas.{same-bitmap, rest-set, rest-laid, bitmap-belongs, few_words}
use Rattle.slab_pool.proofs.RunLemmas.{pool-runs}
use Rattle.slab_pool.proofs.GrantLemmas.{block_bytes-some, block_bytes-shape}

-- ---- opening

pub opened-pool : (shape : Shape) (image : Image) → IsInLimits shape → IsOpened shape image → LaysPool image (fresh_slab shape)
opened-pool shape image limits o = record { shape_is = sym o.shape_is; sound = (fresh-law shape limits).0; laid = o.laid }

pub opened-empty : (shape : Shape) (image : Image) → IsInLimits shape → IsOpened shape image → (at : ℕ) → block_words image at ≡ []
opened-empty shape image limits o at = no-block image (fresh_slab shape) at (opened-pool shape image limits o) ((fresh-law shape limits).1 at)

-- ---- a grant

pub granted-words : (old new : Image) (slab : Slab) (size at : ℕ) → LaysPool old slab → 0 < size → LaysPool new (grant slab size).1 → (grant slab size).0 ≡ Some at → KeepsPages old new → GrantsWords (block_words old) (block_words new) at (block_bytes slab size / 8)
granted-words old new slab size at p some q given kept =
    let g = (grant-grants slab size at p.sound some given).0 in
    record {
      fresh = no-block old slab at p g.fresh;
      long = length-block new (grant slab size).1 at q ∙ ap (λ n. n / 8) g.bytes;
      others = λ other ne. kept-block old new slab (grant slab size).1 other p q kept (g.others other ne);
    }

pub refused-words : (old new : Image) (slab : Slab) (size : ℕ) → LaysPool old slab → LaysPool new (grant slab size).1 → (grant slab size).0 ≡ None → KeepsPages old new → SameBlockWords (block_words old) (block_words new)
refused-words old new slab size p q none kept at = kept-block old new slab (grant slab size).1 at p q kept ((grant-none slab size none).blocks at)

pub alloc-words : (old new : Image) (slab : Slab) (size : ℕ) (result : Option Block) → LaysPool old slab → 0 < size → LaysPool new (grant slab size).1 → granted_offset result ≡ (grant slab size).0 → KeepsPages old new → MatchOption result (SameBlockWords (block_words old) (block_words new)) (λ b. GrantsWords (block_words old) (block_words new) b.at (block_bytes slab size / 8))
alloc-words old new slab size None p some q is kept = refused-words old new slab size p q (sym is) kept
alloc-words old new slab size (Some b) p some q is kept = granted-words old new slab size b.at p some q (sym is) kept

pub granted-room : (old new : Image) (slab : Slab) (size : ℕ) (result : Option Block) → LaysPool old slab → 0 < size → LaysPool new (grant slab size).1 → granted_offset result ≡ (grant slab size).0 → IfSome result (λ b. size ≤ 8 * length (block_words new b.at))
granted-room old new slab size None p some q is = cc
granted-room old new slab size (Some b) p some q is =
    let g = grant-grants slab size b.at p.sound some (sym is) in
    let live : IsLive (grant slab size).1 b.at = omega (arith, g.0.bytes, g.1, some) in
    omega (arith, (block_room new (grant slab size).1 b.at q live).long, length-block new (grant slab size).1 b.at q, g.0.bytes, g.1)

-- ---- a return

pub returned-words : (old new : Image) (slab : Slab) (at : ℕ) → LaysPool old slab → IsLive slab at → LaysPool new (give_back slab at) → KeepsPages old new → ReturnsWords (block_words old) (block_words new) at
returned-words old new slab at p live q kept =
    let r = give_back-returns slab at p.sound live in
    record {
      gone = no-block new (give_back slab at) at q r.gone;
      others = λ other ne. kept-block old new slab (give_back slab at) other p q kept (r.others other ne);
    }

-- ---- one word of a block

-- where it stands
pub place-word : (image : Image) (slab : Slab) (at i : ℕ) → LaysPool image slab → i < length (block_words image at) → (at / 8 + i < length image.words) × MaySet image (at / 8 + i) × (i < live_bytes slab at / 8)
place-word image slab at i p low =
    let inside : i < live_bytes slab at / 8 = omega (arith, low, length-block image slab at p) in
    let b = block_word image slab at i p inside in
    (b.within, may_set-past image slab.runs (at / 8 + i) (pool-runs image slab p) b.within b.low, inside)

pub set-words : (old new : Image) (slab : Slab) (at i v : ℕ) → LaysPool old slab → i < live_bytes slab at / 8 → new ≡ record { shape = old.shape; words = set old.words (at / 8 + i) v } → SetsWord (block_words old) (block_words new) at i v
set-words old new slab at i v p low is =
    let q = rest-laid old new slab (rest-set old new slab at i v p low is) p in
    let words : new.words ≡ set old.words (at / 8 + i) v = ap (λ (m : Image). m.words) is in
    record {
      changed = same_lists (block_words new at) (set (block_words old at) i v)
          (length-block new slab at q ∙ sym (length-set (block_words old at) i v ∙ length-block old slab at p))
          (λ k d l.
          let inside : k < live_bytes slab at / 8 = omega (arith, l, length-block new slab at q) in
          let long = length-set (block_words old at) i v in
          get_or_default (block_words new at) k d 0 l
          ∙ word-block new slab at k q inside ∙ ap (λ ws. get_or ws (at / 8 + k) 0) words ∙ here k inside (cases_eq k i)
          ∙ get_or_default (set (block_words old at) i v) k 0 d (omega (arith, inside, long, length-block old slab at p)));
      others = λ other ne. same-block old new slab slab other p q refl (λ k l. ap (λ ws. get_or ws (other / 8 + k) 0) words ∙ get_or-set_other old.words (at / 8 + i) (other / 8 + k) v 0 (apart other k ne l));
    } where
      here : (k : ℕ) → k < live_bytes slab at / 8 → (k ≡ i) ⊎ (k ≢ i) → get_or (set old.words (at / 8 + i) v) (at / 8 + k) 0 ≡ get_or (set (block_words old at) i v) k 0
      here k inside (inl e) =
          let at_word : at / 8 + k ≡ at / 8 + i = omega (arith, e) in
          ap (λ n. get_or (set old.words (at / 8 + i) v) n 0) at_word ∙ get_or-set_same old.words (at / 8 + i) v 0 (block_word old slab at i p low).within
          ∙ sym (ap (λ n. get_or (set (block_words old at) i v) n 0) e ∙ get_or-set_same (block_words old at) i v 0 (omega (arith, low, length-block old slab at p)))
      here k inside (inr ne) =
          get_or-set_other old.words (at / 8 + i) (at / 8 + k) v 0 (λ e. ne (omega (arith, e)))
          ∙ sym (get_or-set_other (block_words old at) i k v 0 ne ∙ word-block old slab at k p inside)

      apart : (other k : ℕ) → other ≢ at → k < live_bytes slab other / 8 → other / 8 + k ≢ at / 8 + i
      apart other k ne l e =
          let live_other : IsLive slab other = omega (arith, l) in
          let live_at : IsLive slab at = omega (arith, low) in
          let a = block_room old slab at p live_at in
          let b = block_room old slab other p live_other in
          elim ((blocks-law slab p.sound).0 other at live_other live_at ne) [
            | inl before ↦ omega (arith, before, a.even, a.long, b.even, b.long, e, l, low)
            | inr after ↦ omega (arith, after, a.even, a.long, b.even, b.long, e, l, low)
          ]

-- ---- the words of a block become 0

pub cleared-pool : (old new : Image) (slab : Slab) (at : ℕ) → LaysPool old slab → IsLive slab at → ClearsWords old new (at / 8) (live_bytes slab at / 8) → LaysPool new slab
cleared-pool old new slab at p live c = record {
  shape_is = p.shape_is ∙ sym c.shape_is;
  sound = p.sound;
  laid = LaysSlab-kept slab old.words new.words p.sound (record {
    same_length = c.changes.same_length;
    low = λ w low _ _. let room = block_room old slab at p live in let z = zone slab.shape p.sound.limits in c.changes.others w (inl (omega (arith, low, room.behind, room.even, z.behind, ap (λ (s : Shape). start_of s) p.shape_is)));
    bitmaps = λ page class used is kind w low high. c.changes.others w (elim (cases_lt w (at / 8)) [
      | inl before ↦ inl before
      | inr from ↦ elim (cases_lt w (at / 8 + live_bytes slab at / 8)) [
        | inl inside ↦
            let place : at / 8 + (w - at / 8) ≡ w = omega (arith, from) in
            let b = block_word old slab at (w - at / 8) p (omega (arith, inside, from)) in
            absurd (both (8 * w) (start_of old.shape) (is_bitmap_word old w) (omega (arith, b.behind, place)) (sym (ap (λ n. is_bitmap_word old n) place) ∙ b.no_bits) (bitmap-belongs old slab page class used w p is kind low high (few_words slab.shape class (p.sound.used page class used is).known)))
        | inr after ↦ inr after
      ]
    ]);
  }) p.laid;
} where
  both : (n start : ℕ) (b : Bool) → start ≤ n → b ≡ false → (ltb n start || b) ≡ true → ⊥
  both n start b high off on = grind (arith, common_steps)

-- the block is all 0, and the other blocks keep their words
pub cleared-words : (old new : Image) (slab : Slab) (at : ℕ) → LaysPool old slab → IsLive slab at → ClearsWords old new (at / 8) (live_bytes slab at / 8) → (block_words new at ≡ replicate (live_bytes slab at / 8) 0) × ((other : ℕ) → other ≢ at → block_words new other ≡ block_words old other)
cleared-words old new slab at p live c =
    let q = cleared-pool old new slab at p live c in (
      same_lists (block_words new at) (replicate (live_bytes slab at / 8) 0)
          (length-block new slab at q ∙ sym (length-replicate (live_bytes slab at / 8) 0))
          (λ k d l.
          let inside : k < live_bytes slab at / 8 = omega (arith, l, length-block new slab at q) in
          get_or_default (block_words new at) k d 0 l ∙ word-block new slab at k q inside ∙ c.cleared (at / 8 + k) (omega arith) (omega (arith, inside)) ∙ sym (get_or-replicate (live_bytes slab at / 8) k 0 d inside)),
      λ other ne. same-block old new slab slab other p q refl (λ k l. c.changes.others (other / 8 + k) (outside other k ne l)),
    ) where
      outside : (other k : ℕ) → other ≢ at → k < live_bytes slab other / 8 → (other / 8 + k < at / 8) ⊎ (at / 8 + live_bytes slab at / 8 ≤ other / 8 + k)
      outside other k ne l =
          let live_other : IsLive slab other = omega (arith, l) in
          let a = block_room old slab at p live in
          let b = block_room old slab other p live_other in
          elim ((blocks-law slab p.sound).0 other at live_other live ne) [
            | inl before ↦ inl (omega (arith, before, a.even, a.long, b.even, b.long, l))
            | inr after ↦ inr (omega (arith, after, a.even, a.long, b.even, b.long, l))
          ]

-- ---- the words that name the context and the name block

pub root-pool : (old new : Image) (slab : Slab) → LaysPool old slab → new.shape ≡ old.shape → length new.words ≡ length old.words → ((w : ℕ) → w ≢ log_ctx_word → w ≢ data_word → get_or new.words w 0 ≡ get_or old.words w 0) → LaysPool new slab
root-pool old new slab p shape long others = record {
  shape_is = p.shape_is ∙ sym shape;
  sound = p.sound;
  laid = LaysSlab-kept slab old.words new.words p.sound (record {
    same_length = long;
    low = λ w _ a b. others w a b;
    bitmaps = λ page class used is kind w low high. let behind = pages-behind slab.shape page p.sound.limits in others w (λ e. omega (arith, e, low, behind)) (λ e. omega (arith, e, low, behind));
  }) p.laid;
}

pub root-words : (old new : Image) (slab : Slab) (at : ℕ) → LaysPool old slab → new.shape ≡ old.shape → length new.words ≡ length old.words → ((w : ℕ) → w ≢ log_ctx_word → w ≢ data_word → get_or new.words w 0 ≡ get_or old.words w 0) → block_words new at ≡ block_words old at
root-words old new slab at p shape long others =
    same-block old new slab slab at p (root-pool old new slab p shape long others) refl (λ k l. let b = block_word old slab at k p l in others (at / 8 + k) (λ e. omega (arith, e, b.low)) (λ e. omega (arith, e, b.low)))

-- the two words are set, one after the other
root-others : (old mid new : Image) (a b : ℕ) → mid ≡ record { shape = old.shape; words = set old.words log_ctx_word a } → new ≡ record { shape = mid.shape; words = set mid.words data_word b } → (new.shape ≡ old.shape) × (length new.words ≡ length old.words) × ((w : ℕ) → w ≢ log_ctx_word → w ≢ data_word → get_or new.words w 0 ≡ get_or old.words w 0)
root-others old mid new a b first second =
    let one : mid.words ≡ set old.words log_ctx_word a = ap (λ (i : Image). i.words) first in
    let two : new.words ≡ set mid.words data_word b = ap (λ (i : Image). i.words) second in (
      ap (λ (i : Image). i.shape) second ∙ ap (λ (i : Image). i.shape) first,
      ap (λ ws. length ws) two ∙ length-set mid.words data_word b ∙ ap (λ ws. length ws) one ∙ length-set old.words log_ctx_word a,
      λ w x y. ap (λ ws. get_or ws w 0) two ∙ get_or-set_other mid.words data_word w b 0 y ∙ ap (λ ws. get_or ws w 0) one ∙ get_or-set_other old.words log_ctx_word w a 0 x,
    )

pub root-set_pool : (old mid new : Image) (slab : Slab) (a b : ℕ) → LaysPool old slab → mid ≡ record { shape = old.shape; words = set old.words log_ctx_word a } → new ≡ record { shape = mid.shape; words = set mid.words data_word b } → LaysPool new slab
root-set_pool old mid new slab a b p first second = let o = root-others old mid new a b first second in root-pool old new slab p o.0 o.1 o.2

pub root-set_words : (old mid new : Image) (slab : Slab) (a b at : ℕ) → LaysPool old slab → mid ≡ record { shape = old.shape; words = set old.words log_ctx_word a } → new ≡ record { shape = mid.shape; words = set mid.words data_word b } → block_words new at ≡ block_words old at
root-set_words old mid new slab a b at p first second = let o = root-others old mid new a b first second in root-words old new slab at p o.0 o.1 o.2

pub place-fits : (image : Image) (slab : Slab) (at i : ℕ) → LaysPool image slab → i < length (block_words image at) → at / 8 + i < 2 ^ 64
place-fits image slab at i p low = let h = (place-word image slab at i p low).0 in let sized = p.laid.runs.sized in let limits = p.sound.limits in omega (arith, h, sized, limits.small)

-- ---- the loop that clears words

-- the number of words is small
pub words-few : (image : Image) (runs : List Run) (from count : ℕ) → IsInLimits image.shape → LaysRuns image runs → from + count ≤ length image.words → from + count < 2 ^ 64
words-few image runs from count limits h within = omega (arith, h.sized, within, limits.small)

pub clears-may_set : (old now : Image) (runs : List Run) (from count w : ℕ) → LaysRuns now runs → ClearsWords old now from (w - from) → descriptor_word (pages_of old.shape) ≤ from → from ≤ w → w < from + count → from + count ≤ length old.words → MaySet now w
clears-may_set old now runs from count w h c behind low high within = may_set-past now runs w h (omega (arith, c.changes.same_length, high, within)) (omega (arith, behind, low, ap (λ (s : Shape). pages_of s) c.shape_is))

pub clears-more : (old now new : Image) (from w : ℕ) → ClearsWords old now from (w - from) → from ≤ w → w < length now.words → new ≡ record { shape = now.shape; words = set now.words w 0 } → ClearsWords old new from (w + 1 - from)
clears-more old now new from w c low inside is =
    let words : new.words ≡ set now.words w 0 = ap (λ (i : Image). i.words) is in
    record {
      shape_is = ap (λ (i : Image). i.shape) is ∙ c.shape_is;
      changes = record {
        same_length = ap (λ ws. length ws) words ∙ length-set now.words w 0 ∙ c.changes.same_length;
        others = λ x out. ap (λ ws. get_or ws x 0) words ∙ get_or-set_other now.words w x 0 0 (λ e. elim out [ inl l ↦ omega (arith, l, e, low) | inr g ↦ omega (arith, g, e, low) ]) ∙ c.changes.others x (elim out [ inl l ↦ inl l | inr g ↦ inr (omega (arith, g, low)) ]);
      };
      cleared = λ x a b. ap (λ ws. get_or ws x 0) words ∙ at x a b (cases_eq x w);
    } where
      at : (x : ℕ) → from ≤ x → x < from + (w + 1 - from) → (x ≡ w) ⊎ (x ≢ w) → get_or (set now.words w 0) x 0 ≡ 0
      at x a b (inl e) = ap (λ n. get_or (set now.words w 0) n 0) e ∙ get_or-set_same now.words w 0 0 inside
      at x a b (inr ne) = get_or-set_other now.words w x 0 0 ne ∙ c.cleared x a (omega (arith, b, ne, low))

pub clears-none : (old : Image) (from : ℕ) → ClearsWords old old from (from - from)
clears-none old from = record { shape_is = refl; changes = record { same_length = refl; others = λ x out. refl }; cleared = λ x a b. absurd (omega (arith, a, b)) }

pub clears-all : (old new : Image) (from count n : ℕ) → n ≡ count → ClearsWords old new from n → ClearsWords old new from count
clears-all old new from count n e c = subst (λ (k : ℕ). ClearsWords old new from k) e c

-- where the words of a block that was granted for so many bytes stand
pub block-range : (image : Image) (slab : Slab) (at size bytes : ℕ) → LaysPool image slab → 0 < size → live_bytes slab at ≡ block_bytes slab size → bytes ≡ block_bytes slab size → (descriptor_word (pages_of image.shape) ≤ at / 8) × (at / 8 + bytes / 8 ≤ length image.words)
block-range image slab at size bytes p some is read =
    let live : IsLive slab at = omega (arith, is, block_bytes-some slab size some) in
    let room = block_room image slab at p live in
    let z = zone slab.shape p.sound.limits in
    (omega (arith, room.behind, room.even, z.behind, ap (λ (s : Shape). start_of s) p.shape_is, ap (λ (s : Shape). pages_of s) p.shape_is), omega (arith, room.fits, is, read))

-- ---- a grant whose block is cleared

-- what the two steps leave
pub record Callocs (old mid new : Image) (slab : Slab) (size at : ℕ) : Type 0 where
  pub before : LaysPool old slab
  pub some : 0 < size
  pub after : LaysPool mid (grant slab size).1
  pub given : (grant slab size).0 ≡ Some at
  pub kept : KeepsPages old mid
  pub clears : (t : Slab) → LaysPool mid t → ClearsWords mid new (at / 8) (block_bytes t size / 8)

granted-shape : (old mid : Image) (a b : Slab) → LaysPool old a → LaysPool mid b → KeepsPages old mid → b.shape ≡ a.shape
granted-shape old mid a b p q kept = q.shape_is ∙ kept.shape_is ∙ sym p.shape_is

pub granted-bytes : (old mid : Image) (slab : Slab) (size at : ℕ) → LaysPool old slab → 0 < size → LaysPool mid (grant slab size).1 → (grant slab size).0 ≡ Some at → KeepsPages old mid → live_bytes (grant slab size).1 at ≡ block_bytes (grant slab size).1 size
granted-bytes old mid slab size at p some q given kept = (grant-grants slab size at p.sound some given).0.bytes ∙ sym (block_bytes-shape (grant slab size).1 slab size (granted-shape old mid slab (grant slab size).1 p q kept))

-- the block that was cleared
calloc-clears : (old mid new : Image) (slab : Slab) (size at : ℕ) → Callocs old mid new slab size at → ClearsWords mid new (at / 8) (live_bytes (grant slab size).1 at / 8)
calloc-clears old mid new slab size at h = subst (λ (n : ℕ). ClearsWords mid new (at / 8) (n / 8)) (sym (granted-bytes old mid slab size at h.before h.some h.after h.given h.kept)) (h.clears (grant slab size).1 h.after)

calloc-live : (old mid new : Image) (slab : Slab) (size at : ℕ) → Callocs old mid new slab size at → IsLive (grant slab size).1 at
calloc-live old mid new slab size at h = omega (arith, granted-bytes old mid slab size at h.before h.some h.after h.given h.kept, block_bytes-some (grant slab size).1 size h.some)

calloc-bytes : (old mid new : Image) (slab : Slab) (size at : ℕ) → Callocs old mid new slab size at → live_bytes (grant slab size).1 at ≡ block_bytes slab size
calloc-bytes old mid new slab size at h = (grant-grants slab size at h.before.sound h.some h.given).0.bytes

pub calloc-laid : (old mid new : Image) (slab : Slab) (size at : ℕ) → Callocs old mid new slab size at → LaysPool new (grant slab size).1
calloc-laid old mid new slab size at h = cleared-pool mid new (grant slab size).1 at h.after (calloc-live old mid new slab size at h) (calloc-clears old mid new slab size at h)

pub calloc-words : (old mid new : Image) (slab : Slab) (size at : ℕ) → Callocs old mid new slab size at → GrantsWords (block_words old) (block_words new) at (block_bytes slab size / 8)
calloc-words old mid new slab size at h =
    let g = granted-words old mid slab size at h.before h.some h.after h.given h.kept in
    let c = cleared-words mid new (grant slab size).1 at h.after (calloc-live old mid new slab size at h) (calloc-clears old mid new slab size at h) in
    record {
      fresh = g.fresh;
      long = length-block new (grant slab size).1 at (calloc-laid old mid new slab size at h) ∙ ap (λ n. n / 8) (calloc-bytes old mid new slab size at h);
      others = λ other ne. c.1 other ne ∙ g.others other ne;
    }

pub calloc-zeros : (old mid new : Image) (slab : Slab) (size at : ℕ) → Callocs old mid new slab size at → block_words new at ≡ replicate (block_bytes slab size / 8) 0
calloc-zeros old mid new slab size at h =
    let c = cleared-words mid new (grant slab size).1 at h.after (calloc-live old mid new slab size at h) (calloc-clears old mid new slab size at h) in
    c.0 ∙ ap (λ n. replicate (n / 8) 0) (calloc-bytes old mid new slab size at h)

pub calloc-keeps : (old mid new : Image) (slab : Slab) (size at : ℕ) → Callocs old mid new slab size at → KeepsPagesBut old new at (block_bytes slab size / 8)
calloc-keeps old mid new slab size at h =
    let c = calloc-clears old mid new slab size at h in
    let bytes = calloc-bytes old mid new slab size at h in
    let room = block_room mid (grant slab size).1 at h.after (calloc-live old mid new slab size at h) in
    let z = zone (grant slab size).1.shape h.after.sound.limits in
    let behind : descriptor_word (pages_of mid.shape) ≤ at / 8 = omega (arith, room.behind, room.even, z.behind, ap (λ (s : Shape). start_of s) h.after.shape_is, ap (λ (s : Shape). pages_of s) h.after.shape_is) in
    let start = λ (w : ℕ) (low : w < descriptor_word (pages_of mid.shape)). c.changes.others w (inl (omega (arith, low, behind))) in
    record {
      shape_is = c.shape_is ∙ h.kept.shape_is;
      same_length = c.changes.same_length ∙ h.kept.same_length;
      pages = λ w past out a b. c.changes.others w (elim out [ inl l ↦ inl l | inr g ↦ inr (omega (arith, g, bytes)) ]) ∙ h.kept.pages w past a (sym (same-bitmap mid new w (record { shape_is = c.shape_is; low = start })) ∙ b);
      log_ctx = start log_ctx_word (omega arith) ∙ h.kept.log_ctx;
      data_is = start data_word (omega arith) ∙ h.kept.data_is;
    }
