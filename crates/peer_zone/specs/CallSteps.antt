-- What the steps of a call leave of a zone's words.
use Rattle.std.specs.Prelude.{ℕ, ◌≡◌, ◌≢◌, ◌⊎◌, ◌+◌, ◌^◌, ◌<◌, ◌≤◌, ◌≤ℤ◌, pos, neg_ℤ, List, length, slice_index, Option, Some}
use Rattle.zone_region.specs.Words.{Words, word_at}
use Rattle.zone_region.specs.Members.{In}
use Rattle.std.specs.List.{All}
use Rattle.peer_zone.specs.declared.numbers.PeerNumbers.{PeerNumbers}
use Rattle.peer_zone.specs.declared.state.PeerRecord.{PeerRecord}
use Rattle.peer_zone.specs.declared.rounds.Raised.{Raised}
use Rattle.peer_zone.specs.Records.{peer_at}
use Rattle.peer_zone.specs.Object.{HasRoom}
use Rattle.peer_zone.specs.Choice.{Part, Choice, change_at, raised_in, total_in, best_in}
use Rattle.peer_zone.specs.Numbers.{IsNearest}
use Rattle.peer_zone.specs.Words.{HoldsNumbers, LaysRecords, first_of}

-- the block's words from `first` on are these now, and every other word of it and every other block is as before
pub record WritesWords (old new : Words) (at first : ℕ) (words : List ℕ) : Type 0 where
  pub lengths : (z : ℕ) → length (new z) ≡ length (old z)
  pub others : (z : ℕ) → z ≢ at → new z ≡ old z
  pub written : (i : ℕ) → i < length words → word_at new at (first + i) ≡ slice_index words i
  pub outside : (i : ℕ) → (i < first) ⊎ (first + length words ≤ i) → word_at new at i ≡ word_at old at i

-- the record in this block has these numbers, and every other word is as before
pub record SetsNumbers (old new : Words) (at : ℕ) (n : PeerNumbers) : Type 0 where
  pub lengths : (z : ℕ) → length (new z) ≡ length (old z)
  pub others : (z : ℕ) → z ≢ at → new z ≡ old z
  pub next : word_at new at 0 ≡ word_at old at 0
  pub numbers : HoldsNumbers new at n
  pub behind : (i : ℕ) → 11 < i → word_at new at i ≡ word_at old at i

-- no word changed but those of these blocks, and all blocks keep their lengths
pub record ChangesBlocks (old new : Words) (ats : List ℕ) : Type 0 where
  pub lengths : (z : ℕ) → length (new z) ≡ length (old z)
  pub others : (z : ℕ) → (In z ats → ⊥) → new z ≡ old z

-- these are the records of a list from its first block on, so many, and each has room for one call more
pub record IsChain (m : Words) (first servers : ℕ) (ps : List PeerRecord) (ats : List ℕ) : Type 0 where
  pub laid : LaysRecords m ps ats
  pub first_is : first ≡ first_of ats
  pub servers_are : servers ≡ length ps
  pub room : All HasRoom ps

-- a round over the records from an index on
pub record RaisesAll (old new : Words) (part : Part) (index : ℕ) (ps : List PeerRecord) (ats : List ℕ) (result : Raised) : Type 0 where
  pub laid : LaysRecords new (raised_in part index ps) ats
  pub total_is : result.total ≡ total_in part index ps
  pub nearest_is : IsNearest result.nearest (best_in part index ps)
  pub changes : ChangesBlocks old new ats

-- the record of an index of a list that begins at this block
pub record HasPeer (m : Words) (first index : ℕ) (ps : List PeerRecord) (ats : List ℕ) (p : PeerRecord) : Type 0 where
  pub laid : LaysRecords m ps ats
  pub first_is : first ≡ first_of ats
  pub there : peer_at ps index ≡ Some p

-- the numbers of a server that takes a request stay in their ranges
pub record IsTakeable (p : PeerRecord) : Type 0 where
  pub low : neg_ℤ (pos (2 ^ 56)) ≤ℤ p.current
  pub conns : p.conns < 2 ^ 32

-- the server has a connection to give back, and room for a failure more
pub record IsFreeable (p : PeerRecord) : Type 0 where
  pub conns : 0 < p.conns
  pub fails : p.fails < 2 ^ 32

-- the record of this index became another
pub record ChangesRecord (old new : Words) (index : ℕ) (change : PeerRecord → PeerRecord) (ps : List PeerRecord) (ats : List ℕ) : Type 0 where
  pub laid : LaysRecords new (change_at index change ps) ats
  pub changes : ChangesBlocks old new ats

-- a choice over the records
pub record Chooses (old new : Words) (ats : List ℕ) (choice : Choice) (result : Option ℕ) : Type 0 where
  pub laid : LaysRecords new choice.peers ats
  pub chosen_is : result ≡ choice.chosen
  pub changes : ChangesBlocks old new ats
