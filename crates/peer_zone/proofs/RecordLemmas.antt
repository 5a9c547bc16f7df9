-- Records of a list in their blocks.
use Rattle.std.proofs.Common.{ℕ, zero, suc, ◌≡◌, ◌+◌, ◌<◌, ◌≤◌, ◌∙◌, sym, ap, subst, refl, inl, inr, List, [], ◌∷◌, length, get_or, Some, arith}
use Rattle.std.specs.Int.{cast_signed, w64}
use Rattle.zone_region.specs.Words.{Words, word_at}
use Rattle.zone_region.specs.Members.{In}
use Rattle.block_bytes.specs.Bytes.{HoldsBytes}
use Rattle.peer_zone.specs.declared.state.PeerRecord.{PeerRecord}
use Rattle.peer_zone.specs.declared.calls.Server.{Server}
use Rattle.peer_zone.specs.declared.numbers.PeerNumbers.{PeerNumbers}
use Rattle.peer_zone.specs.Records.{peer_at}
use Rattle.peer_zone.specs.Choice.{change_at}
use Rattle.peer_zone.specs.Numbers.{numbers_of}
use Rattle.peer_zone.specs.Words.{HoldsNumbers, HoldsRecord, LaysRecords, first_of}
use Rattle.peer_zone.specs.CallSteps.{SetsNumbers}

first-index : (ats : List ℕ) → first_of ats ≡ get_or ats 0 0
first-index [] = refl
first-index (at ∷ ats) = refl

-- a record's block has room for its words
pub record-room : (m : Words) (ps : List PeerRecord) (ats : List ℕ) (k : ℕ) → LaysRecords m ps ats → k < length ps → 13 ≤ length (m (get_or ats k 0))
record-room m [] ats k laid low = absurd (omega (arith, low))
record-room m (p ∷ ps) [] k laid low = absurd laid
record-room m (p ∷ ps) (at ∷ ats) zero laid low = omega (arith, laid.0.held.room)
record-room m (p ∷ ps) (at ∷ ats) (suc k) laid low = record-room m ps ats k laid.1 (omega (arith, low))

-- a record names the next one
pub record-next : (m : Words) (ps : List PeerRecord) (ats : List ℕ) (k : ℕ) → LaysRecords m ps ats → k < length ps → word_at m (get_or ats k 0) 0 ≡ get_or ats (suc k) 0
record-next m [] ats k laid low = absurd (omega (arith, low))
record-next m (p ∷ ps) [] k laid low = absurd laid
record-next m (p ∷ ps) (at ∷ ats) zero laid low = laid.0.held.next_is ∙ first-index ats
record-next m (p ∷ ps) (at ∷ ats) (suc k) laid low = record-next m ps ats k laid.1 (omega (arith, low))

-- the first record is the one of index 0
pub record-first : (ps : List PeerRecord) (ats : List ℕ) (first : ℕ) → first ≡ first_of ats → first ≡ get_or ats 0 0
record-first ps ats first e = e ∙ first-index ats

-- ---- records that stay

pub numbers-kept : (m n : Words) (at : ℕ) (x : PeerNumbers) → n at ≡ m at → HoldsNumbers m at x → HoldsNumbers n at x
numbers-kept m n at x e h =
    let same : (i : ℕ) → word_at n at i ≡ word_at m at i = λ i. ap (λ ws. get_or ws i 0) e in
    record {
      weight = same 1 ∙ h.weight;
      effective = same 2 ∙ h.effective;
      current = ap (λ w. cast_signed w64 w) (same 3) ∙ h.current;
      conns = same 4 ∙ h.conns;
      max_conns = same 5 ∙ h.max_conns;
      fails = same 6 ∙ h.fails;
      max_fails = same 7 ∙ h.max_fails;
      fail_timeout = same 8 ∙ h.fail_timeout;
      checked = same 9 ∙ h.checked;
      accessed = same 10 ∙ h.accessed;
      down = same 11 ∙ h.down;
    }

pub record-kept : (m n : Words) (at next : ℕ) (p : PeerRecord) → n at ≡ m at → HoldsRecord m at next p → HoldsRecord n at next p
record-kept m n at next p e h =
    let same : (i : ℕ) → word_at n at i ≡ word_at m at i = λ i. ap (λ ws. get_or ws i 0) e in
    record {
      room = omega (arith, h.room, ap (λ ws. length ws) e);
      next_is = same 0 ∙ h.next_is;
      numbers = numbers-kept m n at (numbers_of p) e h.numbers;
      address_length = same 12 ∙ h.address_length;
      address = λ i low. same (13 + i) ∙ h.address i low;
    }

-- the records of blocks that stay
pub records-kept : (m n : Words) (ps : List PeerRecord) (ats : List ℕ) → ((z : ℕ) → In z ats → n z ≡ m z) → LaysRecords m ps ats → LaysRecords n ps ats
records-kept m n [] [] same laid = laid
records-kept m n [] (at ∷ ats) same laid = laid
records-kept m n (p ∷ ps) [] same laid = laid
records-kept m n (p ∷ ps) (at ∷ ats) same laid =
    (record { held = record-kept m n at (first_of ats) p (same at (inl refl)) laid.0.held; apart = laid.0.apart }, records-kept m n ps ats (λ z i. same z (inr i)) laid.1)

-- ---- a record that gets other numbers

pub record-set : (m n : Words) (at next : ℕ) (p q : PeerRecord) → q.server ≡ p.server → SetsNumbers m n at (numbers_of q) → HoldsRecord m at next p → HoldsRecord n at next q
record-set m n at next p q e s h =
    let address : q.server.address ≡ p.server.address = ap (λ (x : Server). x.address) e in
    record {
      room = omega (arith, h.room, s.lengths at, ap (λ bytes. length bytes) address);
      next_is = s.next ∙ h.next_is;
      numbers = s.numbers;
      address_length = s.behind 12 (omega arith) ∙ h.address_length ∙ sym (ap (λ bytes. length bytes) address);
      address = subst (λ (bytes : List ℕ). HoldsBytes n at 13 bytes) (sym address) (λ i low. s.behind (13 + i) (omega arith) ∙ h.address i low);
    }

-- a block that is read by an index is one of them
pub In-index : (ats : List ℕ) (k : ℕ) → k < length ats → In (get_or ats k 0) ats
In-index [] k low = absurd (omega (arith, low))
In-index (at ∷ ats) zero low = inl refl
In-index (at ∷ ats) (suc k) low = inr (In-index ats k (omega (arith, low)))

pub length-laid : (m : Words) (ps : List PeerRecord) (ats : List ℕ) → LaysRecords m ps ats → length ats ≡ length ps
length-laid m [] [] laid = refl
length-laid m [] (at ∷ ats) laid = absurd laid
length-laid m (p ∷ ps) [] laid = absurd laid
length-laid m (p ∷ ps) (at ∷ ats) laid = omega (arith, length-laid m ps ats laid.1)

pub peer-below : (ps : List PeerRecord) (k : ℕ) (p : PeerRecord) → peer_at ps k ≡ Some p → k < length ps
peer-below [] k p e = cc
peer-below (q ∷ ps) zero p e = omega arith
peer-below (q ∷ ps) (suc k) p e = omega (arith, peer-below ps k p e)

-- the record of an index is in its block
pub record-held : (m : Words) (ps : List PeerRecord) (ats : List ℕ) (k : ℕ) (p : PeerRecord) → LaysRecords m ps ats → peer_at ps k ≡ Some p → HoldsNumbers m (get_or ats k 0) (numbers_of p)
record-held m [] ats k p laid e = cc
record-held m (q ∷ ps) [] k p laid e = absurd laid
record-held m (q ∷ ps) (at ∷ ats) zero p laid e = let same : q ≡ p = cc in subst (λ (x : PeerRecord). HoldsNumbers m at (numbers_of x)) same laid.0.held.numbers
record-held m (q ∷ ps) (at ∷ ats) (suc k) p laid e = record-held m ps ats k p laid.1 e

-- a list with one record changed
pub laid-change : (m n : Words) (f : PeerRecord → PeerRecord) (ps : List PeerRecord) (ats : List ℕ) (k : ℕ) (p : PeerRecord) → ((q : PeerRecord) → (f q).server ≡ q.server) → LaysRecords m ps ats → peer_at ps k ≡ Some p → SetsNumbers m n (get_or ats k 0) (numbers_of (f p)) → LaysRecords n (change_at k f ps) ats
laid-change m n f [] ats k p server laid e s = cc
laid-change m n f (q ∷ ps) [] k p server laid e s = absurd laid
laid-change m n f (q ∷ ps) (at ∷ ats) zero p server laid e s =
    let same : p ≡ q = cc in
    let t : SetsNumbers m n at (numbers_of (f q)) = subst (λ (x : PeerRecord). SetsNumbers m n at (numbers_of (f x))) same s in
    (record { held = record-set m n at (first_of ats) q (f q) (server q) t laid.0.held; apart = laid.0.apart }, records-kept m n ps ats (λ z i. s.others z (λ is. laid.0.apart (subst (λ (x : ℕ). In x ats) is i))) laid.1)
laid-change m n f (q ∷ ps) (at ∷ ats) (suc k) p server laid e s =
    let there : In (get_or ats k 0) ats = In-index ats k (omega (arith, peer-below ps k p e, length-laid m ps ats laid.1)) in
    (record { held = record-kept m n at (first_of ats) q (s.others at (λ is. laid.0.apart (subst (λ (x : ℕ). In x ats) (sym is) there))) laid.0.held; apart = laid.0.apart }, laid-change m n f ps ats k p server laid.1 e s)
