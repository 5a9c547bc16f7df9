-- The blocks of a whole zone by what they hold.
use Rattle.std.proofs.Common.{ℕ, suc, ◌≡◌, ◌+◌, ◌<◌, List, [], ◌∷◌, ◌++◌, length, take, drop, refl, ap, subst, arith}
use Rattle.std.specs.Prelude.{slice_index}
use Rattle.std.specs.List.{AllZip}
use Rattle.slab_model.specs.State.{Slab}
use Rattle.slab_model.specs.Blocks.{live_bytes}
use Rattle.slab_model.specs.Grant.{block_bytes}
use Rattle.peer_zone.specs.declared.state.PeerRecord.{PeerRecord}
use Rattle.peer_zone.specs.Records.{servers_of}
use Rattle.peer_zone.specs.Opening.{Request, besides, context_size, name_size, list_size, record_requests, backup_requests}
use Rattle.peer_zone.specs.Holding.{IsGranted, HasRecord}
use Rattle.peer_zone.specs.Laws.{BlocksLaw}

length-requests : (number : ℕ) (ps : List PeerRecord) → length (record_requests number (servers_of ps)) ≡ length ps
length-requests number [] = refl
length-requests number (p ∷ ps) = ap suc (length-requests (number + 1) ps)

-- the blocks of joined requests
zip-take : (slab : Slab) (xs ys : List Request) (bs : List ℕ) → AllZip (IsGranted slab) (xs ++ ys) bs → AllZip (IsGranted slab) xs (take (length xs) bs)
zip-take slab [] ys bs h = tt
zip-take slab (x ∷ xs) ys [] h = h
zip-take slab (x ∷ xs) ys (b ∷ bs) h = (h.0, zip-take slab xs ys bs h.1)

zip-drop : (slab : Slab) (xs ys : List Request) (bs : List ℕ) → AllZip (IsGranted slab) (xs ++ ys) bs → AllZip (IsGranted slab) ys (drop (length xs) bs)
zip-drop slab [] ys bs h = h
zip-drop slab (x ∷ xs) ys [] h = absurd h
zip-drop slab (x ∷ xs) ys (b ∷ bs) h = zip-drop slab xs ys bs h.1

-- the blocks of requests for records
zip-records : (slab : Slab) (number : ℕ) (ps : List PeerRecord) (bs : List ℕ) → AllZip (IsGranted slab) (record_requests number (servers_of ps)) bs → AllZip (HasRecord slab) ps bs
zip-records slab number [] [] h = tt
zip-records slab number [] (b ∷ bs) h = h
zip-records slab number (p ∷ ps) [] h = h
zip-records slab number (p ∷ ps) (b ∷ bs) h = (h.0, zip-records slab (number + 1) ps bs h.1)

-- the block of the backup list, and behind it those of its records
backup-head : (slab : Slab) (number : ℕ) (ps : List PeerRecord) (bs : List ℕ) → AllZip (IsGranted slab) (backup_requests number (servers_of ps)) bs → 0 < length ps → live_bytes slab (slice_index bs 0) ≡ block_bytes slab list_size
backup-head slab number [] bs h some = absurd (omega (arith, some))
backup-head slab number (p ∷ ps) [] h some = absurd h
backup-head slab number (p ∷ ps) (b ∷ bs) h some = h.0

backup-rest : (slab : Slab) (number : ℕ) (ps : List PeerRecord) (bs : List ℕ) → AllZip (IsGranted slab) (backup_requests number (servers_of ps)) bs → AllZip (HasRecord slab) ps (drop 1 bs)
backup-rest slab number [] [] h = tt
backup-rest slab number [] (b ∷ bs) h = absurd h
backup-rest slab number (p ∷ ps) [] h = absurd h
backup-rest slab number (p ∷ ps) (b ∷ bs) h = zip-records slab number (p ∷ ps) bs h.1

-- the blocks before the first record, and the others
record Split (slab : Slab) (context name list : Request) (records : List Request) (bs : List ℕ) : Type 0 where
  first : IsGranted slab context (slice_index bs 0)
  second : IsGranted slab name (slice_index bs 1)
  third : IsGranted slab list (slice_index bs 2)
  rest : AllZip (IsGranted slab) records (drop 3 bs)

split : (slab : Slab) (context name list : Request) (records : List Request) (bs : List ℕ) → AllZip (IsGranted slab) (context ∷ name ∷ list ∷ records) bs → Split slab context name list records bs
split slab context name list records [] h = absurd h
split slab context name list records (a ∷ []) h = absurd h.1
split slab context name list records (a ∷ b ∷ []) h = absurd h.1.1
split slab context name list records (a ∷ b ∷ c ∷ bs) h = record { first = h.0; second = h.1.0; third = h.1.1.0; rest = h.1.1.1 }

pub blocks-law : BlocksLaw
blocks-law s whole =
    let primary = record_requests 0 (servers_of s.primary) in
    let backup = backup_requests (length (servers_of s.primary)) (servers_of s.backup) in
    let parts = split s.slab (besides context_size) (besides (name_size s.name)) (besides list_size) (primary ++ backup) s.blocks whole.granted in
    let many = length-requests 0 s.primary in
    let front = subst (λ n. AllZip (IsGranted s.slab) primary (take n (drop 3 s.blocks))) many (zip-take s.slab primary backup (drop 3 s.blocks) parts.rest) in
    let back = subst (λ n. AllZip (IsGranted s.slab) backup (drop n (drop 3 s.blocks))) many (zip-drop s.slab primary backup (drop 3 s.blocks) parts.rest) in
    record {
      context = parts.first;
      name = parts.second;
      primary_list = parts.third;
      backup_list = λ some. backup-head s.slab (length (servers_of s.primary)) s.backup (drop (length s.primary) (drop 3 s.blocks)) back some;
      primary = zip-records s.slab 0 s.primary (take (length s.primary) (drop 3 s.blocks)) front;
      backup = backup-rest s.slab (length (servers_of s.primary)) s.backup (drop (length s.primary) (drop 3 s.blocks)) back;
    }
