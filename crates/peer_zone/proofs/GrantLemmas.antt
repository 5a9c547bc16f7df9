-- The grants at the opening, one after another.
use Rattle.std.proofs.Common.{ℕ, ◌≡◌, ◌≢◌, ◌+◌, ◌*◌, ◌/◌, ◌<◌, ◌≤◌, ◌∙◌, sym, ap, subst, refl, inl, inr, false, List, [], ◌∷◌, ◌++◌, length, map, Option, Some, None, arith, append_assoc}
use Rattle.std.specs.Prelude.{option_and_then}
use Rattle.std.proofs.lemmas.List.{length-map}
use Rattle.zone_region.specs.Words.{Words}
use Rattle.zone_region.specs.Members.{In}
use Rattle.zone_region.specs.Granting.{GrantsWords}
use Rattle.slab_model.specs.State.{Slab}
use Rattle.slab_model.specs.Grant.{grant}
use Rattle.slab_pages.specs.Places.{Image}
use Rattle.slab_pool.specs.Pool.{LaysPool}
use Rattle.slab_pool.specs.Live.{block_words, rest_of}
use Rattle.slab_pool.proofs.RestLemmas.{rest-laid}
use Rattle.peer_zone.specs.declared.calls.Server.{Server}
use Rattle.peer_zone.specs.declared.calls.PeerSpec.{PeerSpec}
use Rattle.peer_zone.specs.Records.{fresh_record}
use Rattle.peer_zone.specs.Opening.{Request, Granted, besides, list_size, record_size, record_requests, backup_requests, first_granted, grant_all, server_of, pool_of, requests_of, grants_of, IsSpec}
use Rattle.peer_zone.specs.Words.{HoldsRecord}
use Rattle.peer_zone.specs.Layout.{HoldsList}
use Rattle.peer_zone.specs.Placing.{ChangesBlock, KeepsLive, GrantsBlock, IsRefused, GrantsAll, PlacesRecords, PlacesBackup}
use Rattle.peer_zone.proofs.RecordLemmas.{records-kept}
use Rattle.peer_zone.proofs.RefusedLaws.{refused-law}

-- ---- one block

pub grants-block : (old new : Image) (slab : Slab) (size at count : ℕ) → Some at ≡ (grant slab size).0 → LaysPool new (grant slab size).1 → GrantsWords (block_words old) (block_words new) at count → size ≤ 8 * length (block_words new at) → GrantsBlock old new slab size at
grants-block old new slab size at count block laid words room = record { block = sym block; laid = laid; room = room; fresh = words.fresh; others = words.others }

-- a live block isn't one that was granted
pub granted-other : (old new : Image) (slab : Slab) (size at z : ℕ) → GrantsBlock old new slab size at → 0 < length (block_words old z) → z ≢ at
granted-other old new slab size at z g live = λ e. absurd (omega (arith, live, ap (λ (ws : List ℕ). length ws) g.fresh, ap (λ (x : ℕ). length (block_words old x)) e))

pub granted-keeps : (old new : Image) (slab : Slab) (size at : ℕ) → GrantsBlock old new slab size at → KeepsLive (block_words old) (block_words new)
granted-keeps old new slab size at g z live = g.others z (granted-other old new slab size at z g live)

pub keeps-twice : (m k n : Words) → KeepsLive m k → KeepsLive k n → KeepsLive m n
keeps-twice m k n a b z live = let same = a z live in b z (omega (arith, live, ap (λ (ws : List ℕ). length ws) same)) ∙ same

pub keeps-room : (m n : Words) (at size : ℕ) → KeepsLive m n → 0 < size → size ≤ 8 * length (m at) → size ≤ 8 * length (n at)
keeps-room m n at size k some room = let same = ap (λ (ws : List ℕ). length ws) (k at (omega (arith, some, room))) in omega (arith, room, same)

-- ---- a block and those of later requests

-- the later blocks are none of those that were live before them
pub later-apart : (p1 p2 : Image) (later : Granted) (at : ℕ) → GrantsAll p1 p2 later → 0 < length (block_words p1 at) → In at later.blocks → ⊥
later-apart p1 p2 later at g live i = absurd (omega (arith, live, ap (λ (ws : List ℕ). length ws) (g.fresh at i)))

granted_live : (p0 p1 : Image) (slab : Slab) (size at : ℕ) → GrantsBlock p0 p1 slab size at → 0 < size → 0 < length (block_words p1 at)
granted_live p0 p1 slab size at g some = omega (arith, g.room, some)

pub grants-more : (p0 p1 p2 p3 : Image) (slab : Slab) (request : Request) (at : ℕ) (later : Granted) → 0 < request.size → GrantsBlock p0 p1 slab request.size at → GrantsAll p1 p2 later → ChangesBlock (block_words p2) (block_words p3) at → rest_of p3 ≡ rest_of p2
    → GrantsAll p0 p3 (first_granted request (grant slab request.size).1 (Some at) later)
grants-more p0 p1 p2 p3 slab request at later some g all changes rest =
    let live = granted_live p0 p1 slab request.size at g some in
    record {
      all = all.all;
      laid = rest-laid p2 p3 later.slab rest all.laid;
      fresh = λ z i. elim i [
        | inl e ↦ subst (λ (x : ℕ). block_words p0 x ≡ []) (sym e) g.fresh
        | inr there ↦ sym (g.others z (λ e. later-apart p1 p2 later at all live (subst (λ (x : ℕ). In x later.blocks) e there))) ∙ all.fresh z there
      ];
      kept = λ z was.
          let other = granted-other p0 p1 slab request.size at z g was in
          let first = g.others z other in
          let second = all.kept z (omega (arith, was, ap (λ (ws : List ℕ). length ws) first)) in
          changes.others z other ∙ second ∙ first;
    }

-- ---- records

pub places-none : (p : Image) (slab : Slab) (number : ℕ) → LaysPool p slab → PlacesRecords p p (grant_all slab (record_requests number [])) [] 0
places-none p slab number laid = record { grants = record { all = refl; laid = laid; fresh = λ z i. absurd i; kept = λ z live. refl }; records = tt; first_is = refl }

-- a record's block has room for its words
pub record_room : (address long : ℕ) → 104 + address ≤ 8 * long → 13 + (address + 7) / 8 ≤ long
record_room address long room = omega (arith, room)

pub places-more : (p0 p1 p2 p3 : Image) (slab : Slab) (number : ℕ) (server : Server) (rest : List Server) (at next : ℕ) → GrantsBlock p0 p1 slab (record_size server) at
    → PlacesRecords p1 p2 (grant_all (grant slab (record_size server)).1 (record_requests (number + 1) rest)) rest next
    → HoldsRecord (block_words p3) at next (fresh_record server) → ChangesBlock (block_words p2) (block_words p3) at → rest_of p3 ≡ rest_of p2
    → PlacesRecords p0 p3 (grant_all slab (record_requests number (server ∷ rest))) (server ∷ rest) at
places-more p0 p1 p2 p3 slab number server rest at next g r held changes same =
    let size = record_size server in
    let request : Request = record { size = size; server = Some number } in
    let later = grant_all (grant slab size).1 (record_requests (number + 1) rest) in
    let live = granted_live p0 p1 slab size at g (omega arith) in
    let apart = later-apart p1 p2 later at r.grants live in
    subst (λ (o : Option ℕ). PlacesRecords p0 p3 (first_granted request (grant slab size).1 o later) (server ∷ rest) at) (sym g.block) (record {
      grants = grants-more p0 p1 p2 p3 slab request at later (omega arith) g r.grants changes same;
      records = (
        record { held = subst (λ (n : ℕ). HoldsRecord (block_words p3) at n (fresh_record server)) r.first_is held; apart = apart },
        records-kept (block_words p2) (block_words p3) (map fresh_record rest) later.blocks (λ z i. changes.others z (λ e. apart (subst (λ (x : ℕ). In x later.blocks) e i))) r.records,
      );
      first_is = refl;
    })

-- the first record is refused
pub refused-here : (slab : Slab) (number : ℕ) (server : Server) (rest : List Server) → None ≡ (grant slab (record_size server)).0 → IsRefused (grant_all slab (record_requests number (server ∷ rest))) number
refused-here slab number server rest none =
    let size = record_size server in
    let request : Request = record { size = size; server = Some number } in
    subst (λ (o : Option ℕ). IsRefused (first_granted request (grant slab size).1 o (grant_all (grant slab size).1 (record_requests (number + 1) rest))) number) none refl

-- a later one is
pub refused-later : (slab : Slab) (request : Request) (requests : List Request) (at n : ℕ) → (grant slab request.size).0 ≡ Some at → IsRefused (grant_all (grant slab request.size).1 requests) n → IsRefused (grant_all slab (request ∷ requests)) n
refused-later slab request requests at n block refused =
    let later = grant_all (grant slab request.size).1 requests in
    subst (λ (o : Option ℕ). IsRefused (first_granted request (grant slab request.size).1 o later) n) (sym block) refused

-- ---- the backup list

pub backup-none : (p : Image) (slab : Slab) (number : ℕ) (servers : List Server) → servers ≡ [] → LaysPool p slab → PlacesBackup p p (grant_all slab (backup_requests number servers)) servers None
backup-none p slab number servers none laid = subst (λ (ss : List Server). PlacesBackup p p (grant_all slab (backup_requests number ss)) ss None) (sym none) (record { grants = record { all = refl; laid = laid; fresh = λ z i. absurd i; kept = λ z live. refl }; backup = tt; head_is = refl })

pub backup-some : (p0 p1 p2 p3 : Image) (slab : Slab) (number : ℕ) (servers : List Server) (at first : ℕ) → 0 < length servers → GrantsBlock p0 p1 slab list_size at
    → PlacesRecords p1 p2 (grant_all (grant slab list_size).1 (record_requests number servers)) servers first
    → HoldsList (block_words p3) at first (length servers) false → ChangesBlock (block_words p2) (block_words p3) at → rest_of p3 ≡ rest_of p2
    → PlacesBackup p0 p3 (grant_all slab (backup_requests number servers)) servers (Some at)
backup-some p0 p1 p2 p3 slab number [] at first some g r held changes same = absurd (omega (arith, some))
backup-some p0 p1 p2 p3 slab number (server ∷ rest) at first some g r held changes same =
    let servers = server ∷ rest in
    let request = besides list_size in
    let later = grant_all (grant slab list_size).1 (record_requests number servers) in
    let live = granted_live p0 p1 slab list_size at g (omega arith) in
    let apart = later-apart p1 p2 later at r.grants live in
    let long : length (map fresh_record servers) ≡ length servers = length-map servers fresh_record in
    subst (λ (o : Option ℕ). PlacesBackup p0 p3 (first_granted request (grant slab list_size).1 o later) servers (Some at)) (sym g.block) (record {
      grants = grants-more p0 p1 p2 p3 slab request at later (omega arith) g r.grants changes same;
      backup = (
        subst (λ (n : ℕ). HoldsList (block_words p3) at n (length (map fresh_record servers)) false) r.first_is (subst (λ (n : ℕ). HoldsList (block_words p3) at first n false) (sym long) held),
        records-kept (block_words p2) (block_words p3) (map fresh_record servers) later.blocks (λ z i. changes.others z (λ e. apart (subst (λ (x : ℕ). In x later.blocks) e i))) r.records,
      );
      head_is = refl;
    })

pub backup-refused : (slab : Slab) (number : ℕ) (servers : List Server) (at n : ℕ) → 0 < length servers → (grant slab list_size).0 ≡ Some at → IsRefused (grant_all (grant slab list_size).1 (record_requests number servers)) n → IsRefused (grant_all slab (backup_requests number servers)) n
backup-refused slab number [] at n some block refused = absurd (omega (arith, some))
backup-refused slab number (server ∷ rest) at n some block refused = refused-later slab (besides list_size) (record_requests number (server ∷ rest)) at n block refused

-- ---- all grants of a zone

-- these blocks were granted, and then the others
abbrev pub behind_blocks : List ℕ → Granted → Granted
behind_blocks before g = record { blocks = before ++ g.blocks; refused = g.refused; slab = g.slab }

-- what a zone is granted begins with these blocks, and goes on with these requests
abbrev pub GoesOn : PeerSpec → List ℕ → Slab → List Request → Type 0
GoesOn spec before slab requests = grants_of spec ≡ behind_blocks before (grant_all slab requests)

pub goes_on : (spec : PeerSpec) → GoesOn spec [] (pool_of spec) (requests_of spec)
goes_on spec = refl

more_before : (before : List ℕ) (at : ℕ) (g : Granted) → behind_blocks before (record { blocks = at ∷ g.blocks; refused = g.refused; slab = g.slab }) ≡ behind_blocks (before ++ at ∷ []) g
more_before before at g = ap (λ (blocks : List ℕ). let h : Granted = record { blocks = blocks; refused = g.refused; slab = g.slab } in h) (sym (append_assoc before (at ∷ []) g.blocks))

pub goes_on-one : (spec : PeerSpec) (before : List ℕ) (slab : Slab) (request : Request) (requests : List Request) (at : ℕ) → GoesOn spec before slab (request ∷ requests) → (grant slab request.size).0 ≡ Some at → GoesOn spec (before ++ at ∷ []) (grant slab request.size).1 requests
goes_on-one spec before slab request requests at on block =
    let later = grant_all (grant slab request.size).1 requests in
    on ∙ ap (λ (o : Option ℕ). behind_blocks before (first_granted request (grant slab request.size).1 o later)) block ∙ more_before before at later

-- the grants of joined requests
granted-append : (slab : Slab) (xs ys : List Request) → (grant_all slab xs).refused ≡ None → grant_all slab (xs ++ ys) ≡ behind_blocks (grant_all slab xs).blocks (grant_all (grant_all slab xs).slab ys)
granted-append slab [] ys none = refl
granted-append slab (x ∷ xs) ys none = go (grant slab x.size).0 (granted-append (grant slab x.size).1 xs ys) none where
  s : Slab
  s = (grant slab x.size).1

  go : (o : Option ℕ) → ((grant_all s xs).refused ≡ None → grant_all s (xs ++ ys) ≡ behind_blocks (grant_all s xs).blocks (grant_all (grant_all s xs).slab ys)) → (first_granted x s o (grant_all s xs)).refused ≡ None → first_granted x s o (grant_all s (xs ++ ys)) ≡ behind_blocks (first_granted x s o (grant_all s xs)).blocks (grant_all (first_granted x s o (grant_all s xs)).slab ys)
  go None rest is = absurd (cc)
  go (Some at) rest is = ap (λ (g : Granted). let h : Granted = record { blocks = at ∷ g.blocks; refused = g.refused; slab = g.slab } in h) (rest is)

refused-append : (slab : Slab) (xs ys : List Request) (n : ℕ) → IsRefused (grant_all slab xs) n → IsRefused (grant_all slab (xs ++ ys)) n
refused-append slab [] ys n refused = absurd (cc)
refused-append slab (x ∷ xs) ys n refused = go (grant slab x.size).0 (refused-append (grant slab x.size).1 xs ys n) refused where
  s : Slab
  s = (grant slab x.size).1

  go : (o : Option ℕ) → (IsRefused (grant_all s xs) n → IsRefused (grant_all s (xs ++ ys)) n) → IsRefused (first_granted x s o (grant_all s xs)) n → IsRefused (first_granted x s o (grant_all s (xs ++ ys))) n
  go None rest is = is
  go (Some at) rest is = rest is

pub goes_on-all : (spec : PeerSpec) (before : List ℕ) (slab : Slab) (xs ys : List Request) → GoesOn spec before slab (xs ++ ys) → (grant_all slab xs).refused ≡ None → GoesOn spec (before ++ (grant_all slab xs).blocks) (grant_all slab xs).slab ys
goes_on-all spec before slab xs ys on none =
    let first = grant_all slab xs in
    let second = grant_all first.slab ys in
    on ∙ ap (λ (g : Granted). behind_blocks before g) (granted-append slab xs ys none) ∙ ap (λ (blocks : List ℕ). let h : Granted = record { blocks = blocks; refused = second.refused; slab = second.slab } in h) (sym (append_assoc before first.blocks second.blocks))

-- a refusal of what goes on is that of the zone
pub goes_on-refused : (spec : PeerSpec) (before : List ℕ) (slab : Slab) (xs ys : List Request) (n : ℕ) → GoesOn spec before slab (xs ++ ys) → IsRefused (grant_all slab xs) n → IsRefused (grants_of spec) n
goes_on-refused spec before slab xs ys n on refused = subst (λ (g : Granted). IsRefused g n) (sym on) (refused-append slab xs ys n refused)

pub goes_on-last : (spec : PeerSpec) (before : List ℕ) (slab : Slab) (xs : List Request) (n : ℕ) → GoesOn spec before slab xs → IsRefused (grant_all slab xs) n → IsRefused (grants_of spec) n
goes_on-last spec before slab xs n on refused = subst (λ (g : Granted). IsRefused g n) (sym on) refused

-- a block that is no server's record is never refused
pub goes_on-fits : (spec : PeerSpec) (before : List ℕ) (slab : Slab) (size : ℕ) (requests : List Request) → IsSpec spec → GoesOn spec before slab (besides size ∷ requests) → (at : ℕ) × ((grant slab size).0 ≡ Some at)
goes_on-fits spec before slab size requests is on = go (grant slab size).0 refl where
  go : (o : Option ℕ) → (grant slab size).0 ≡ o → (at : ℕ) × (o ≡ Some at)
  go None none =
      let later = grant_all (grant slab size).1 requests in
      let refused : (grants_of spec).refused ≡ Some (besides size) = ap (λ (g : Granted). g.refused) on ∙ ap (λ (o : Option ℕ). (first_granted (besides size) (grant slab size).1 o later).refused) none in
      let fair = refused-law spec is (ap (λ (r : Option Request). option_and_then server_of r) refused) in
      absurd (cc)
  go (Some at) some = (at, refl)

-- nor is the block that heads the backup list
pub backup-fits : (spec : PeerSpec) (before : List ℕ) (slab : Slab) (number : ℕ) (servers : List Server) → IsSpec spec → GoesOn spec before slab (backup_requests number servers) → 0 < length servers → (at : ℕ) × ((grant slab list_size).0 ≡ Some at)
backup-fits spec before slab number [] is on some = absurd (omega (arith, some))
backup-fits spec before slab number (server ∷ rest) is on some = goes_on-fits spec before slab list_size (record_requests number (server ∷ rest)) is on
