-- The blocks of a zone that was just opened.
use Rattle.std.proofs.Common.{ℕ, ◌≡◌, ◌+◌, ◌<◌, cond, eqb, List, [], ◌∷◌, ◌++◌, length, Option, Some, None, refl, sym, ap, subst, ◌∙◌, inl, inr, arith}
use Rattle.std.specs.List.{All, AllZip}
use Rattle.std.proofs.lemmas.Bool.{cases_eq}
use Rattle.std.proofs.lemmas.List.Sums.{sum_by-cons}
use Rattle.std.proofs.lemmas.List.Elements.{All-cons, All-nil, All-head, All-tail}
use Rattle.slab_model.specs.declared.shape.Shape.{Shape}
use Rattle.slab_model.specs.State.{Slab}
use Rattle.slab_model.specs.Blocks.{live_bytes}
use Rattle.slab_model.specs.Grant.{grant}
use Rattle.slab_model.specs.Soundness.{IsSound}
use Rattle.slab_model.proofs.Laws.{grant-sound}
use Rattle.slab_model.proofs.ShapeLemmas.{grant_shape, bytes_same}
use Rattle.slab_model.proofs.LiveLemmas.{once_here, once_there, live_some, live_none, live_same}
use Rattle.slab_model.proofs.BlockLaws.{grant-grants, fresh-law}
use Rattle.peer_zone.specs.declared.calls.Server.{Server}
use Rattle.peer_zone.specs.declared.calls.PeerSpec.{PeerSpec}
use Rattle.peer_zone.specs.declared.state.PeerState.{PeerState}
use Rattle.peer_zone.specs.Opening.{Request, Granted, besides, context_size, name_size, list_size, record_size, record_requests, backup_requests, first_granted, grant_all, pool_of, requests_of, grants_of, spec_of, IsSpec, IsOpened}
use Rattle.peer_zone.specs.Holding.{named_at, live_at, IsGranted, AreWhole, IsWhole}

-- ---- grants keep the shape

shape-first : (request : Request) (slab : Slab) (at : Option ℕ) (later : Granted) (shape : Shape) → slab.shape ≡ shape → later.slab.shape ≡ shape → (first_granted request slab at later).slab.shape ≡ shape
shape-first request slab None later shape here rest = here
shape-first request slab (Some at) later shape here rest = rest

pub shape-all : (slab : Slab) (requests : List Request) → (grant_all slab requests).slab.shape ≡ slab.shape
shape-all slab [] = refl
shape-all slab (request ∷ requests) =
    let granted = grant slab request.size in
    shape-first request granted.1 granted.0 (grant_all granted.1 requests) slab.shape (grant_shape slab request.size) (shape-all granted.1 requests ∙ grant_shape slab request.size)

-- ---- live blocks

-- what is named before other blocks
pub named-more : (block : ℕ) (blocks : List ℕ) (at : ℕ) → named_at (block ∷ blocks) at ≡ cond (eqb block at) 1 0 + named_at blocks at
named-more block blocks at = sum_by-cons (λ n. cond {A = ℕ} (eqb n at) 1 0) block blocks

-- what is granted on top of a slab's live blocks
record Adds (slab : Slab) (requests : List Request) (g : Granted) : Type 0 where
  sound : IsSound g.slab
  named : (at : ℕ) → named_at g.blocks at + live_at slab at ≡ live_at g.slab at
  kept : (at : ℕ) → 0 < live_bytes slab at → live_bytes g.slab at ≡ live_bytes slab at
  granted : AllZip (IsGranted g.slab) requests g.blocks

-- a request asks for something
abbrev pub IsAsking : Request → Type 0
IsAsking request = 0 < request.size

adds-one : (slab : Slab) (request : Request) (requests : List Request) (at : ℕ) (later : Granted) → IsSound slab → IsAsking request → (grant slab request.size).0 ≡ Some at → later.slab.shape ≡ slab.shape → Adds (grant slab request.size).1 requests later → Adds slab (request ∷ requests) (record { blocks = at ∷ later.blocks; refused = later.refused; slab = later.slab })
adds-one slab request requests at later sound some given shape rest =
    let new = (grant slab request.size).1 in
    let g = grant-grants slab request.size at sound some given in
    let live : 0 < live_bytes new at = let b = g.0.bytes in omega (arith, b, g.1, some) in
    record {
      sound = rest.sound;
      named = λ other. elim (cases_eq at other) [
        | inl same ↦
            let one : cond {A = ℕ} (eqb at other) 1 0 ≡ 1 = ap (λ n. cond {A = ℕ} (eqb at n) 1 0) (sym same) ∙ once_here at in
            let was = live_none slab other (ap (λ n. live_bytes slab n) (sym same) ∙ g.0.fresh) in
            let now = live_some new other (subst (λ n. 0 < live_bytes new n) same live) in
            omega (arith, named-more at later.blocks other, one, was, now, rest.named other)
        | inr ne ↦
            let none : cond {A = ℕ} (eqb at other) 1 0 ≡ 0 = once_there other at (λ e. ne (sym e)) in
            let stays = live_same slab new other (g.0.others other (λ e. ne (sym e))) in
            omega (arith, named-more at later.blocks other, none, stays, rest.named other)
      ];
      kept = λ other was. let stays = g.0.others other (λ e. let gone = ap (λ n. live_bytes slab n) e ∙ g.0.fresh in absurd (omega (arith, was, gone))) in rest.kept other (let s = stays in omega (arith, s, was)) ∙ stays;
      granted = (rest.kept at live ∙ g.0.bytes ∙ sym (bytes_same slab later.slab request.size shape), rest.granted);
    }

adds-first : (slab : Slab) (request : Request) (requests : List Request) (at : Option ℕ) (later : Granted) → IsSound slab → IsAsking request → (grant slab request.size).0 ≡ at → later.slab.shape ≡ slab.shape → (later.refused ≡ None → Adds (grant slab request.size).1 requests later) → (first_granted request (grant slab request.size).1 at later).refused ≡ None → Adds slab (request ∷ requests) (first_granted request (grant slab request.size).1 at later)
adds-first slab request requests None later sound some given shape rest all = absurd (cc)
adds-first slab request requests (Some at) later sound some given shape rest all = adds-one slab request requests at later sound some given shape (rest all)

adds-all : (slab : Slab) (requests : List Request) → IsSound slab → All IsAsking requests → (grant_all slab requests).refused ≡ None → Adds slab requests (grant_all slab requests)
adds-all slab [] sound some all = record { sound = sound; named = λ at. omega arith; kept = λ at was. refl; granted = tt }
adds-all slab (request ∷ requests) sound some all =
    let granted = grant slab request.size in
    let asks = All-head IsAsking request requests some in
    let sound_then = grant-sound slab request.size sound asks in
    adds-first slab request requests granted.0 (grant_all granted.1 requests) sound asks refl (shape-all granted.1 requests ∙ grant_shape slab request.size) (adds-all granted.1 requests sound_then (All-tail IsAsking request requests some)) all

-- ---- an opened zone is whole

All-append : (xs ys : List Request) → All IsAsking xs → All IsAsking ys → All IsAsking (xs ++ ys)
All-append [] ys h k = k
All-append (x ∷ xs) ys h k = All-cons IsAsking x (xs ++ ys) (All-head IsAsking x xs h) (All-append xs ys (All-tail IsAsking x xs h) k)

asking-records : (number : ℕ) (servers : List Server) → All IsAsking (record_requests number servers)
asking-records number [] = All-nil IsAsking
asking-records number (server ∷ servers) = All-cons IsAsking (record { size = record_size server; server = Some number }) (record_requests (number + 1) servers) (omega arith) (asking-records (number + 1) servers)

asking-backups : (number : ℕ) (servers : List Server) → All IsAsking (backup_requests number servers)
asking-backups number [] = All-nil IsAsking
asking-backups number (server ∷ servers) = All-cons IsAsking (besides list_size) (record_requests number (server ∷ servers)) (omega arith) (asking-records number (server ∷ servers))

asking-all : (spec : PeerSpec) → All IsAsking (requests_of spec)
asking-all spec =
    let records = record_requests 0 spec.primary ++ backup_requests (length spec.primary) spec.backup in
    All-cons IsAsking (besides context_size) (besides (name_size spec.name) ∷ besides list_size ∷ records) (omega arith)
    (All-cons IsAsking (besides (name_size spec.name)) (besides list_size ∷ records) (omega arith)
    (All-cons IsAsking (besides list_size) records (omega arith)
    (All-append (record_requests 0 spec.primary) (backup_requests (length spec.primary) spec.backup) (asking-records 0 spec.primary) (asking-backups (length spec.primary) spec.backup))))

whole-grants : (spec : PeerSpec) → IsSpec spec → (grants_of spec).refused ≡ None → AreWhole (grants_of spec).slab (requests_of spec) (grants_of spec).blocks
whole-grants spec is all =
    let fresh = fresh-law (record { bytes = spec.bytes; page_shift = spec.page_shift }) is.limits in
    let adds = adds-all (pool_of spec) (requests_of spec) fresh.0 (asking-all spec) all in
    record { sound = adds.sound; named = λ at. let none = live_none (pool_of spec) at (fresh.1 at) in omega (arith, none, adds.named at); granted = adds.granted }

pub opened-whole : (s : PeerState) → IsOpened s → IsWhole s
opened-whole s o = subst (λ (t : PeerState). AreWhole t.slab (requests_of (spec_of s)) t.blocks) (sym o.fresh) (whole-grants (spec_of s) o.spec o.given)
