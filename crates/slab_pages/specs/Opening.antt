-- What the steps of opening a zone leave in its words.
use Rattle.std.specs.Prelude.{ℕ, ◌≡◌, ◌≢◌, ◌+◌, ◌/◌, ◌<◌, ◌≤◌, Bool, true, ◌&&◌, nat_lt, List, [], ◌∷◌, length, slice_index, slice_set}
use Rattle.slab_model.specs.declared.shape.Shape.{Shape}
use Rattle.slab_model.specs.Geometry.{class_count}
use Rattle.slab_pages.specs.Places.{free_head, class_head, head_word, stat_word, log_ctx_word, data_word, HasWords}
use Rattle.slab_pages.specs.SlabLayout.{LaysHeader}

-- each entry is of a word below `n`
abbrev pub all_below : ℕ → List (ℕ × ℕ) → Bool
all_below n [] = true
all_below n (e ∷ es) = nat_lt e.0 n && all_below n es

-- the words once these values are written, one after another
abbrev pub put_all : List (ℕ × ℕ) → List ℕ → List ℕ
put_all [] words = words
put_all (e ∷ es) words = put_all es (slice_set words e.0 e.1)

-- the head of each class's list has itself as next, and nothing else changed
pub record WritesHeads (old new : List ℕ) (count : ℕ) : Type 0 where
  pub same_length : length new ≡ length old
  pub heads : (class : ℕ) → class < count → slice_index new (head_word class + 1) ≡ class_head class
  pub others : (w : ℕ) → ((class : ℕ) → class < count → w ≢ head_word class + 1) → slice_index new w ≡ slice_index old w

-- the header and the heads are written, no page is listed, and all other words are 0
pub record IsPrepared (shape : Shape) (words : List ℕ) : Type 0 where
  pub sized : length words ≡ shape.bytes / 8
  pub header : LaysHeader shape words
  pub list : HasWords words free_head 0 free_head 0
  pub heads : (class : ℕ) → class < class_count shape → HasWords words (class_head class) 0 (class_head class) 0
  pub log_ctx : slice_index words log_ctx_word ≡ 0
  pub data_is : slice_index words data_word ≡ 0
  pub rest : (w : ℕ) → stat_word 0 ≤ w → slice_index words w ≡ 0
