-- The state that an upstream's zone lays out.
use Rattle.std.specs.Prelude.{ℕ, ◌≡◌, ◌+◌, ◌≤◌, nat_eq, List, [], ◌∷◌, length, Option, Some, None, if◌then◌else◌}
use Rattle.slab_pages.specs.Places.{Image}
use Rattle.peer_zone.specs.declared.state.PeerState.{PeerState}
use Rattle.peer_zone.specs.declared.words.PeerWords.{PeerWords}
use Rattle.peer_zone.specs.declared.words.ListHead.{ListHead}
use Rattle.peer_zone.specs.Object.{is_single, list_of}
use Rattle.peer_zone.specs.Opening.{spec_of}
use Rattle.peer_zone.specs.Words.{first_of}
use Rattle.peer_zone.specs.Layout.{LaysPeers}

-- the first of some blocks, if there is one
abbrev pub head_of : List ℕ → Option ℕ
head_of [] = None
head_of (at ∷ ats) = Some at

-- and the later ones
abbrev pub after_head : List ℕ → List ℕ
after_head [] = []
after_head (at ∷ ats) = ats

-- a zone lays out this state: its words do, and what it keeps beside them is what the state was opened with the blocks that head its lists, and the number of its servers
pub record Lays (z : PeerWords) (s : PeerState) : Type 0 where
  pub words : LaysPeers z.pool s
  pub spec_is : spec_of s ≡ z.spec
  pub primary_is : z.primary ≡ words.list
  pub backup_is : z.backup ≡ head_of words.behind
  pub entries_is : z.entries ≡ length s.primary + length s.backup

module _ {image : Image} {s : PeerState} where
  -- the block that heads a list, if there is one
  abbrev pub head_in : LaysPeers image s → ℕ → Option ℕ
  head_in l list = if nat_eq list 0 then Some l.list else head_of l.behind

  -- the blocks of the records of a list
  abbrev pub records_in : LaysPeers image s → ℕ → List ℕ
  records_in l list = if nat_eq list 0 then l.records else after_head l.behind

-- what the block that heads a list tells of it
pub record IsHead (s : PeerState) (list : ℕ) (ats : List ℕ) (head : ListHead) : Type 0 where
  pub first_is : head.first ≡ first_of ats
  pub servers_are : head.servers ≡ length (list_of s list)
  pub single_is : head.single ≡ is_single s

-- each list has at most 64 servers
pub record AreFew (s : PeerState) : Type 0 where
  pub primary : length s.primary ≤ 64
  pub backup : length s.backup ≤ 64
