-- The state that a request zone lays out, and the steps that take it from one state to another.
use Rattle.std.specs.Prelude.{◌≡◌, ◌≢◌, ◌⊎◌, ◌<◌, ℕ, List, ◌∷◌, ◌++◌, length, Some}
use Rattle.zone_region.specs.Words.{Words, word_at}
use Rattle.req_zone.specs.declared.numbers.Numbers.{Numbers}
use Rattle.req_zone.specs.declared.words.ReqWords.{ReqWords}
use Rattle.req_zone.specs.declared.state.ReqEntry.{ReqEntry}
use Rattle.req_zone.specs.declared.state.ReqState.{ReqState}
use Rattle.req_zone.specs.Amount.{IsRate}
use Rattle.req_zone.specs.Table.{entry_of}
use Rattle.req_zone.specs.Words.{table_in, HoldsEntry, LaysReq}

-- a zone lays out this state: its words do, and what it keeps beside them is the state's
pub record Lays (z : ReqWords) (s : ReqState) : Type 0 where
  pub words : LaysReq z.pool s
  pub table_is : z.table ≡ table_in s
  pub name_is : z.name ≡ s.name
  pub rate_is : z.rate ≡ s.rate
  pub entries_is : z.entries ≡ length s.table
  pub rate_in : IsRate s.rate

-- the key's entry is this one, in block `at`
pub record IsFound (s : ReqState) (key : List ℕ) (at : ℕ) (entry : ReqEntry) : Type 0 where
  pub found : entry_of key s.table ≡ Some entry
  pub block_is : entry.block ≡ at

-- the entry of block `at` stands in the table behind those that are newer and before those that are older
pub record StandsAt (s : ReqState) (at : ℕ) (newer : List ReqEntry) (entry : ReqEntry) (older : List ReqEntry) : Type 0 where
  pub table_is : s.table ≡ newer ++ entry ∷ older
  pub block_is : entry.block ≡ at

-- `at` is the block of an entry
abbrev pub IsNode : ReqState → ℕ → Type 0
IsNode s at = (newer : List ReqEntry) × (entry : ReqEntry) × (older : List ReqEntry) × StandsAt s at newer entry older

-- what an entry counts
abbrev pub numbers_of : ReqEntry → Numbers
numbers_of entry = record { excess = entry.excess; last = entry.last; count = entry.count }

-- the entry of this key in this block that counts so
abbrev pub entry_with : List ℕ → ℕ → Numbers → ReqEntry
entry_with key at numbers = record { key = key; block = at; excess = numbers.excess; last = numbers.last; count = numbers.count }

-- the entry with other numbers
abbrev pub with_numbers : Numbers → ReqEntry → ReqEntry
with_numbers numbers entry = entry_with entry.key entry.block numbers

-- ---- what is written into a node

-- the words 7, 8 and 9 of the node are these numbers now, and every other word is as before
pub record SetsNumbers (old new : Words) (at : ℕ) (numbers : Numbers) : Type 0 where
  pub lengths : (z : ℕ) → length (new z) ≡ length (old z)
  pub others : (z : ℕ) → z ≢ at → new z ≡ old z
  pub last : word_at new at 7 ≡ numbers.last
  pub excess : word_at new at 8 ≡ numbers.excess
  pub count : word_at new at 9 ≡ numbers.count
  pub rest : (i : ℕ) → (i < 7) ⊎ (9 < i) → word_at new at i ≡ word_at old at i

-- the block is the node of this entry now, and every other block is as before
pub record SetsNode (old new : Words) (entry : ReqEntry) : Type 0 where
  pub lengths : (z : ℕ) → length (new z) ≡ length (old z)
  pub others : (z : ℕ) → z ≢ entry.block → new z ≡ old z
  pub node : HoldsEntry new entry
