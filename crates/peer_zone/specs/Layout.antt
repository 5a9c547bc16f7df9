-- What the words of an upstream's zone are.
use Rattle.std.specs.Prelude.{ℕ, ◌≡◌, ◌<◌, ◌≤◌, Bool, false, List, [], ◌∷◌, ◌++◌, length, codes, slice_index}
use Rattle.zone_region.specs.Words.{Words, word_at}
use Rattle.block_bytes.specs.Bytes.{HoldsBytes}
use Rattle.slab_pages.specs.Places.{Image, log_ctx_word, data_word}
use Rattle.slab_pool.specs.Pool.{LaysPool}
use Rattle.slab_pool.specs.Live.{block_words}
use Rattle.peer_zone.specs.declared.calls.Method.{Method}
use Rattle.peer_zone.specs.declared.calls.Method.TheVariants.{Round, Least}
use Rattle.peer_zone.specs.declared.state.PeerRecord.{PeerRecord}
use Rattle.peer_zone.specs.declared.state.PeerState.{PeerState}
use Rattle.peer_zone.specs.Object.{is_single}
use Rattle.peer_zone.specs.Holding.{IsWhole}
use Rattle.peer_zone.specs.Words.{word_of_bool, first_of, LaysRecords}

-- ---- the zone

-- the words from `from` on are 0 up to word 7
abbrev pub HasZeros : Words → ℕ → ℕ → Type 0
HasZeros m at from = (i : ℕ) → from ≤ i → i < 8 → word_at m at i ≡ 0

-- the block heads a list: its first record, the number of its servers, whether the upstream has a single one, and zeros
pub record HoldsList (m : Words) (at first servers : ℕ) (single : Bool) : Type 0 where
  pub room : 8 ≤ length (m at)
  pub first_is : word_at m at 0 ≡ first
  pub count : word_at m at 1 ≡ servers
  pub single_is : word_at m at 2 ≡ word_of_bool single
  pub zeros : HasZeros m at 3

-- a method as a word
abbrev pub word_of_method : Method → ℕ
word_of_method Round = 0
word_of_method Least = 1

-- the block is the zone's context: its primary list, its backup list or 0, its method, and zeros
pub record HoldsContext (m : Words) (at primary backup : ℕ) (method : Method) : Type 0 where
  pub room : 8 ≤ length (m at)
  pub primary_is : word_at m at 0 ≡ primary
  pub backup_is : word_at m at 1 ≡ backup
  pub method_is : word_at m at 2 ≡ word_of_method method
  pub zeros : HasZeros m at 3

-- the text in the block of a zone's name, which ends in a 0 byte
abbrev pub name_text : List ℕ → List ℕ
name_text name = codes " in upstream zone " ++ 34 ∷ name ++ 34 ∷ 0 ∷ []

-- the blocks behind the primary records: none where there is no backup, else the block that heads the backup list and its records
abbrev pub LaysBackup : Words → List PeerRecord → List ℕ → Type 0
LaysBackup m [] [] = Unit {0}
LaysBackup m [] (at ∷ ats) = ⊥
LaysBackup m (p ∷ ps) [] = ⊥
LaysBackup m (p ∷ ps) (at ∷ ats) = HoldsList m at (first_of ats) (length (p ∷ ps)) false × LaysRecords m (p ∷ ps) ats

-- the words of a zone lay out its state: the pool with the zone's blocks, which the header and the context name, the name, and both lists
pub record LaysPeers (image : Image) (s : PeerState) : Type 0 where
  pub pool : LaysPool image s.slab
  pub whole : IsWhole s
  pub context : ℕ
  pub name : ℕ
  pub list : ℕ
  pub records : List ℕ
  pub behind : List ℕ
  pub blocks_are : s.blocks ≡ context ∷ name ∷ list ∷ records ++ behind
  pub data_is : slice_index image.words data_word ≡ context
  pub log_ctx_is : slice_index image.words log_ctx_word ≡ name
  pub context_held : HoldsContext (block_words image) context list (first_of behind) s.method
  pub name_held : HoldsBytes (block_words image) name 0 (name_text s.name)
  pub list_held : HoldsList (block_words image) list (first_of records) (length s.primary) (is_single s)
  pub primary : LaysRecords (block_words image) s.primary records
  pub backup : LaysBackup (block_words image) s.backup behind

-- the words of a zone's image lay out this state
abbrev pub LaysImage : List ℕ → PeerState → Type 0
LaysImage words s = LaysPeers (record { shape = s.slab.shape; words = words }) s
