-- Worked rows, which the definitions compute.
use Rattle.std.specs.Prelude.{◌≡◌, ℕ, zero, suc, true, false, List, [], ◌∷◌, ◌++◌, replicate, map, pos, Some, None, ℤ}
use Rattle.peer_zone.specs.declared.calls.Server.{Server}
use Rattle.peer_zone.specs.declared.calls.Method.{Method}
use Rattle.peer_zone.specs.declared.calls.Method.TheVariants.{Round, Least}
use Rattle.peer_zone.specs.declared.calls.PeerSpec.{PeerSpec}
use Rattle.peer_zone.specs.declared.calls.PeerCall.{PeerCall}
use Rattle.peer_zone.specs.declared.calls.PeerCall.TheVariants.{Choose, Free}
use Rattle.peer_zone.specs.declared.calls.PeerReply.{PeerReply}
use Rattle.peer_zone.specs.declared.calls.PeerReply.TheVariants.{Peer, NoPeer, Freed}
use Rattle.peer_zone.specs.declared.state.PeerRecord.{PeerRecord}
use Rattle.peer_zone.specs.declared.state.PeerState.{PeerState}
use Rattle.peer_zone.specs.Object.{answer_of, zone_after}
use Rattle.peer_zone.specs.Opening.{opened_zone, refused_server, grants_of}

-- what these calls are answered, one after another
abbrev pub answers_of : PeerState → List PeerCall → List PeerReply
answers_of s [] = []
answers_of s (call ∷ calls) = answer_of s call ∷ answers_of (zone_after s call) calls

-- the zone after these calls
abbrev pub after_all : PeerState → List PeerCall → PeerState
after_all s [] = s
after_all s (call ∷ calls) = after_all (zone_after s call) calls

-- a server of this weight with the defaults of the directive
abbrev pub of_weight : ℕ → Server
of_weight weight = record { address = 97 ∷ []; weight = weight; max_conns = 0; max_fails = 1; fail_timeout = 10; down = false }

-- a zone of 32 KiB whose name is "u"
abbrev pub in_32_kib : Method → List Server → List Server → PeerSpec
in_32_kib method primary backup = record { name = 117 ∷ []; bytes = 32768; page_shift = 12; method = method; primary = primary; backup = backup }

-- a first try in list 0 at moment 0
abbrev pub first_try : PeerCall
first_try = Choose 0 0 0

-- ---- by weight

-- servers of weights 5, 1 and 1
abbrev pub weights_5_1_1 : PeerState
weights_5_1_1 = opened_zone (in_32_kib Round (of_weight 5 ∷ of_weight 1 ∷ of_weight 1 ∷ []) [])

-- the running weights of the first list
abbrev pub currents_of : PeerState → List ℤ
currents_of s = map (λ (p : PeerRecord). p.current) s.primary

-- seven choices are a cycle: each server has as many of them as its weight, and all are then as near to their turn as before
abbrev pub CycleRow : Type 0
CycleRow = (answers_of weights_5_1_1 (replicate 7 first_try) ≡ Peer 0 ∷ Peer 0 ∷ Peer 1 ∷ Peer 0 ∷ Peer 2 ∷ Peer 0 ∷ Peer 0 ∷ [])
    × (currents_of (after_all weights_5_1_1 (replicate 7 first_try)) ≡ pos 0 ∷ pos 0 ∷ pos 0 ∷ [])

-- so many times the same replies
abbrev pub repeated : ℕ → List PeerReply → List PeerReply
repeated zero replies = []
repeated (suc times) replies = replies ++ repeated times replies

-- ten cycles are alike
abbrev pub TenCyclesRow : Type 0
TenCyclesRow = answers_of weights_5_1_1 (replicate 70 first_try) ≡ repeated 10 (Peer 0 ∷ Peer 0 ∷ Peer 1 ∷ Peer 0 ∷ Peer 2 ∷ Peer 0 ∷ Peer 0 ∷ [])

-- servers of weights 1, 2 and 3
abbrev pub weights_1_2_3 : PeerState
weights_1_2_3 = opened_zone (in_32_kib Round (of_weight 1 ∷ of_weight 2 ∷ of_weight 3 ∷ []) [])

-- a cycle of all three; then the third server fails, and the others share a cycle of theirs
abbrev pub one_fails : List PeerCall
one_fails = replicate 6 first_try ++ Free 0 2 true 0 ∷ replicate 3 first_try

-- at 11 the third server is back, with an effective weight of 0 that grows by 1 a round, and is chosen in the fourth
abbrev pub ReturnRow : Type 0
ReturnRow = (answers_of weights_1_2_3 one_fails ≡ Peer 2 ∷ Peer 1 ∷ Peer 0 ∷ Peer 2 ∷ Peer 1 ∷ Peer 2 ∷ Freed ∷ Peer 1 ∷ Peer 0 ∷ Peer 1 ∷ [])
    × (answers_of (after_all weights_1_2_3 one_fails) (replicate 4 (Choose 0 0 11)) ≡ Peer 1 ∷ Peer 0 ∷ Peer 1 ∷ Peer 2 ∷ [])

-- seventy choices: four cycles of all three; then the third server fails, and the others share four cycles of theirs up to the last moment of its timeout; at 11 it is back, with as many choices as it takes to be chosen; a good end then forgets its failure, and five cycles of all three follow
abbrev pub seventy_calls : List PeerCall
seventy_calls = replicate 24 first_try ++ Free 0 2 true 0 ∷ replicate 12 (Choose 0 0 10) ++ replicate 4 (Choose 0 0 11) ++ Free 0 2 false 11 ∷ replicate 30 (Choose 0 0 11)

-- afterwards all are as near to their turn as at first
abbrev pub SeventyRow : Type 0
SeventyRow = (answers_of weights_1_2_3 seventy_calls ≡ repeated 4 (Peer 2 ∷ Peer 1 ∷ Peer 0 ∷ Peer 2 ∷ Peer 1 ∷ Peer 2 ∷ []) ++ Freed ∷ repeated 4 (Peer 1 ∷ Peer 0 ∷ Peer 1 ∷ []) ++ (Peer 1 ∷ Peer 0 ∷ Peer 1 ∷ Peer 2 ∷ []) ++ Freed ∷ repeated 5 (Peer 2 ∷ Peer 1 ∷ Peer 0 ∷ Peer 2 ∷ Peer 1 ∷ Peer 2 ∷ []))
    × (currents_of (after_all weights_1_2_3 seventy_calls) ≡ pos 0 ∷ pos 0 ∷ pos 0 ∷ [])

-- a request that has tried the first server, then the second too, then all three
abbrev pub TriedRow : Type 0
TriedRow = answers_of weights_5_1_1 (Choose 0 1 0 ∷ Choose 0 3 0 ∷ Choose 0 7 0 ∷ []) ≡ Peer 1 ∷ Peer 2 ∷ NoPeer ∷ []

-- ---- a failure and a backup

-- one server, and one in the second list
abbrev pub with_backup : PeerState
with_backup = opened_zone (in_32_kib Round (of_weight 1 ∷ []) (of_weight 1 ∷ []))

-- the primary server fails at 0, so the backup serves then and at 10; at 11 the timeout is over
abbrev pub failing_calls : List PeerCall
failing_calls = Choose 0 0 0 ∷ Free 0 0 true 0 ∷ Choose 0 1 0 ∷ Choose 1 0 0 ∷ Free 1 0 false 0 ∷ Choose 0 0 10 ∷ Choose 1 0 10 ∷ Free 1 0 false 10 ∷ Choose 0 0 11 ∷ []

-- how often the servers have failed, and when they were checked
abbrev pub fails_of : PeerState → List ℕ
fails_of s = map (λ (p : PeerRecord). p.fails) s.primary

-- when the servers of the first list were last tried after a failure
abbrev pub checked_of : PeerState → List ℕ
checked_of s = map (λ (p : PeerRecord). p.checked) s.primary

-- a good end after the timeout forgets the failure
abbrev pub BackupRow : Type 0
BackupRow = (answers_of with_backup failing_calls ≡ Peer 0 ∷ Freed ∷ NoPeer ∷ Peer 0 ∷ Freed ∷ NoPeer ∷ Peer 0 ∷ Freed ∷ Peer 0 ∷ [])
    × (checked_of (after_all with_backup failing_calls) ≡ 11 ∷ [])
    × (fails_of (after_all with_backup failing_calls) ≡ 1 ∷ [])
    × (fails_of (zone_after (after_all with_backup failing_calls) (Free 0 0 false 11)) ≡ 0 ∷ [])

-- a choice up to the timeout's last second leaves the moment that was checked, and a later one sets it
abbrev pub CheckedRow : Type 0
CheckedRow = (checked_of (zone_after with_backup (Choose 0 0 10)) ≡ 0 ∷ []) × (checked_of (zone_after with_backup (Choose 0 0 11)) ≡ 11 ∷ [])

-- a server that is down is never chosen, alone or with another
abbrev pub is_down : Server
is_down = record { address = 97 ∷ []; weight = 1; max_conns = 0; max_fails = 1; fail_timeout = 10; down = true }

-- a server that is down is never chosen
abbrev pub DownRow : Type 0
DownRow = (answers_of (opened_zone (in_32_kib Round (is_down ∷ []) [])) (first_try ∷ []) ≡ NoPeer ∷ [])
    × (answers_of (opened_zone (in_32_kib Round (is_down ∷ of_weight 1 ∷ []) [])) (first_try ∷ first_try ∷ []) ≡ Peer 1 ∷ Peer 1 ∷ [])

-- an upstream's single server that failed is chosen again at once
abbrev pub SingleRow : Type 0
SingleRow = answers_of (opened_zone (in_32_kib Round (of_weight 1 ∷ []) [])) (Choose 0 0 0 ∷ Free 0 0 true 0 ∷ Choose 0 1 0 ∷ Choose 1 0 0 ∷ []) ≡ Peer 0 ∷ Freed ∷ Peer 0 ∷ NoPeer ∷ []

-- ---- least connections

-- weights 2 and 1: the first and the fourth choice are ties, which a round decides
abbrev pub LeastRow : Type 0
LeastRow = answers_of (opened_zone (in_32_kib Least (of_weight 2 ∷ of_weight 1 ∷ []) [])) (replicate 4 first_try) ≡ Peer 0 ∷ Peer 1 ∷ Peer 0 ∷ Peer 1 ∷ []

-- three of one weight: the first choice has ties of three, the second of two, the third none, and the fourth of three again
abbrev pub TiesRow : Type 0
TiesRow = answers_of (opened_zone (in_32_kib Least (of_weight 1 ∷ of_weight 1 ∷ of_weight 1 ∷ []) [])) (replicate 6 first_try) ≡ Peer 0 ∷ Peer 1 ∷ Peer 2 ∷ Peer 2 ∷ Peer 1 ∷ Peer 0 ∷ []

-- ---- at most one connection

-- a server that takes one connection at a time
abbrev pub one_at_most : Server
one_at_most = record { address = 97 ∷ []; weight = 1; max_conns = 1; max_fails = 1; fail_timeout = 10; down = false }

-- once both servers are full no server is chosen, until one has a connection less
abbrev pub FullRow : Type 0
FullRow = answers_of (opened_zone (in_32_kib Round (one_at_most ∷ one_at_most ∷ []) [])) (first_try ∷ first_try ∷ first_try ∷ Free 0 0 false 0 ∷ first_try ∷ []) ≡ Peer 0 ∷ Peer 1 ∷ NoPeer ∷ Freed ∷ Peer 0 ∷ []

-- ---- the grants at the opening

-- a server whose address has 255 bytes
abbrev pub of_long_address : Server
of_long_address = record { address = replicate 255 97; weight = 1; max_conns = 0; max_fails = 1; fail_timeout = 10; down = false }

-- a record takes 512 bytes, so a page has 8 of them; five of the seven pages are left for 64 servers
abbrev pub SmallRow : Type 0
SmallRow = (refused_server (in_32_kib Round (replicate 64 of_long_address) []) ≡ Some 40)
    × (refused_server (in_32_kib Round (replicate 40 of_long_address) []) ≡ None)
    × (refused_server (in_32_kib Round (replicate 40 of_long_address) (of_long_address ∷ [])) ≡ Some 40)
    × ((grants_of (in_32_kib Round (of_weight 1 ∷ []) (of_weight 1 ∷ []))).blocks ≡ 4096 ∷ 8224 ∷ 4160 ∷ 12288 ∷ 4224 ∷ 12416 ∷ [])
