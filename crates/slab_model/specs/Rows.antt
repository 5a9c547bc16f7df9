-- Worked rows, which the definitions compute.
use Rattle.std.specs.Prelude.{ℕ, ◌≡◌, List, [], ◌∷◌, Option, Some, None}
use Rattle.slab_model.specs.declared.runs.Run.{Run}
use Rattle.slab_model.specs.Geometry.{shape_of, most_pages, start_of, pages_of}
use Rattle.slab_model.specs.State.{Slab, fresh_slab, stat_of}
use Rattle.slab_model.specs.Counting.{free_pages}
use Rattle.slab_model.specs.Grant.{grant}
use Rattle.slab_model.specs.Return.{give_back}

-- a fresh pool in a zone of so many bytes
abbrev pub fresh : ℕ → Slab
fresh bytes = fresh_slab (shape_of bytes)

-- what these requests are given, one after another
abbrev pub grants_of : Slab → List ℕ → List (Option ℕ)
grants_of slab [] = []
grants_of slab (size ∷ sizes) = (grant slab size).0 ∷ grants_of (grant slab size).1 sizes

-- the slab after these requests
abbrev pub after_grants : Slab → List ℕ → Slab
after_grants slab [] = slab
after_grants slab (size ∷ sizes) = after_grants (grant slab size).1 sizes

-- the slab after these blocks came back
abbrev pub after_returns : Slab → List ℕ → Slab
after_returns slab [] = slab
after_returns slab (at ∷ ats) = after_returns (give_back slab at) ats

-- zones of 32 KiB, 1 MiB and 10 MiB; and one of 33,664 bytes, where 8 pages fit with their descriptors and 7 of them after the start
abbrev pub ZonesRow : Type 0
ZonesRow = (pages_of (shape_of 32768) ≡ 7) × (start_of (shape_of 32768) ≡ 4096) × (pages_of (shape_of 1048576) ≡ 254) × (start_of (shape_of 1048576) ≡ 8192) × (pages_of (shape_of 10485760) ≡ 2544) × (start_of (shape_of 10485760) ≡ 65536) × (most_pages (shape_of 33664) ≡ 8) × (start_of (shape_of 33664) ≡ 4096) × (pages_of (shape_of 33664) ≡ 7)

-- a context of 80 bytes, a name of 26 and a node of 84 in 32 KiB
abbrev pub NodesRow : Type 0
NodesRow = (grants_of (fresh 32768) (80 ∷ 26 ∷ 84 ∷ []) ≡ Some 4096 ∷ Some 8224 ∷ Some 4224 ∷ []) × (free_pages (after_grants (fresh 32768) (80 ∷ 26 ∷ 84 ∷ [])) ≡ 5)

-- small blocks lie behind their page's own bits
abbrev pub SmallRow : Type 0
SmallRow = (grants_of (fresh 32768) (8 ∷ 16 ∷ 32 ∷ 8 ∷ []) ≡ Some 4160 ∷ Some 8224 ∷ Some 12320 ∷ Some 4168 ∷ []) × (stat_of (after_grants (fresh 32768) (8 ∷ 16 ∷ 32 ∷ 8 ∷ [])) 0 ≡ record { total = 504; used = 2; reqs = 2; fails = 0 })

-- a node of 17 pages fits into 1 MiB, and not into 32 KiB
abbrev pub LargeRow : Type 0
LargeRow = (grants_of (fresh 32768) (80 ∷ 26 ∷ 65615 ∷ []) ≡ Some 4096 ∷ Some 8224 ∷ None ∷ []) × (grants_of (fresh 1048576) (80 ∷ 26 ∷ 65615 ∷ []) ≡ Some 8192 ∷ Some 12320 ∷ Some 16384 ∷ [])

-- three pages, which come back in the order first, third, second
abbrev pub three_pages : Slab
three_pages = after_grants (fresh 32768) (4096 ∷ 4096 ∷ 4096 ∷ [])

-- a run of pages
abbrev pub run_of : ℕ → ℕ → Run
run_of first pages = record { first = first; pages = pages }

-- runs of pages are granted from the front, and join when they come back
abbrev pub RunsRow : Type 0
RunsRow = (grants_of (fresh 32768) (4096 ∷ 4096 ∷ 4096 ∷ []) ≡ Some 4096 ∷ Some 8192 ∷ Some 12288 ∷ [])
    × ((after_returns three_pages (4096 ∷ [])).runs ≡ run_of 0 1 ∷ run_of 3 4 ∷ [])
    × ((after_returns three_pages (4096 ∷ 12288 ∷ [])).runs ≡ run_of 2 5 ∷ run_of 0 1 ∷ [])
    × ((after_returns three_pages (4096 ∷ 12288 ∷ 8192 ∷ [])).runs ≡ run_of 0 7 ∷ [])
    × (grants_of (after_returns three_pages (4096 ∷ 12288 ∷ [])) (4096 ∷ []) ≡ Some 12288 ∷ [])
    × ((after_grants (after_returns three_pages (4096 ∷ 12288 ∷ [])) (4096 ∷ [])).runs ≡ run_of 3 4 ∷ run_of 0 1 ∷ [])

-- six pages, of which the third, the first and the fifth come back: three free runs of a page, and the rest of the zone
abbrev pub six_pages : Slab
six_pages = after_returns (after_grants (fresh 32768) (4096 ∷ 4096 ∷ 4096 ∷ 4096 ∷ 4096 ∷ 4096 ∷ [])) (12288 ∷ 4096 ∷ 20480 ∷ [])

-- the fourth page merges with the runs on both sides and goes to the head, and the other runs stay in their order behind it
abbrev pub MergeRow : Type 0
MergeRow = (six_pages.runs ≡ run_of 4 1 ∷ run_of 0 1 ∷ run_of 2 1 ∷ run_of 6 1 ∷ [])
    × ((give_back six_pages 16384).runs ≡ run_of 2 3 ∷ run_of 0 1 ∷ run_of 6 1 ∷ [])
    × (grants_of (give_back six_pages 16384) (8192 ∷ 4096 ∷ 4096 ∷ []) ≡ Some 12288 ∷ Some 20480 ∷ Some 4096 ∷ [])
