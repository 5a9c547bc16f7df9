-- What the words of a server's record and of a list of records are.
use Rattle.std.specs.Prelude.{ℕ, ◌≡◌, ◌+◌, ◌/◌, ◌≤◌, Bool, true, false, List, [], ◌∷◌, length}
use Rattle.std.specs.Int.{cast_signed, w64}
use Rattle.zone_region.specs.Words.{Words, word_at}
use Rattle.zone_region.specs.Members.{In}
use Rattle.block_bytes.specs.Bytes.{HoldsBytes}
use Rattle.peer_zone.specs.declared.state.PeerRecord.{PeerRecord}
use Rattle.peer_zone.specs.declared.numbers.PeerNumbers.{PeerNumbers}
use Rattle.peer_zone.specs.Numbers.{numbers_of}

-- ---- a record

-- a fact as a word
abbrev pub word_of_bool : Bool → ℕ
word_of_bool true = 1
word_of_bool false = 0

-- the words 1 to 11 of a record are these numbers, with the current in two's complement
pub record HoldsNumbers (m : Words) (at : ℕ) (n : PeerNumbers) : Type 0 where
  pub weight : word_at m at 1 ≡ n.weight
  pub effective : word_at m at 2 ≡ n.effective
  pub current : cast_signed w64 (word_at m at 3) ≡ n.current
  pub conns : word_at m at 4 ≡ n.conns
  pub max_conns : word_at m at 5 ≡ n.max_conns
  pub fails : word_at m at 6 ≡ n.fails
  pub max_fails : word_at m at 7 ≡ n.max_fails
  pub fail_timeout : word_at m at 8 ≡ n.fail_timeout
  pub checked : word_at m at 9 ≡ n.checked
  pub accessed : word_at m at 10 ≡ n.accessed
  pub down : word_at m at 11 ≡ word_of_bool n.down

-- the block holds the record: the offset of the next one or 0, its numbers, and the server's address with its length
pub record HoldsRecord (m : Words) (at next : ℕ) (p : PeerRecord) : Type 0 where
  pub room : 13 + (length p.server.address + 7) / 8 ≤ length (m at)
  pub next_is : word_at m at 0 ≡ next
  pub numbers : HoldsNumbers m at (numbers_of p)
  pub address_length : word_at m at 12 ≡ length p.server.address
  pub address : HoldsBytes m at 13 p.server.address

-- the first of some blocks, 0 where there is none
abbrev pub first_of : List ℕ → ℕ
first_of [] = 0
first_of (at ∷ ats) = at

-- a record's block holds it, and is none of the later ones
pub record HoldsFirst (m : Words) (p : PeerRecord) (at : ℕ) (ats : List ℕ) : Type 0 where
  pub held : HoldsRecord m at (first_of ats) p
  pub apart : In at ats → ⊥

-- the blocks hold the records of a list, each of which names the next
abbrev pub LaysRecords : Words → List PeerRecord → List ℕ → Type 0
LaysRecords m [] [] = Unit {0}
LaysRecords m [] (at ∷ ats) = ⊥
LaysRecords m (p ∷ ps) [] = ⊥
LaysRecords m (p ∷ ps) (at ∷ ats) = HoldsFirst m p at ats × LaysRecords m ps ats
