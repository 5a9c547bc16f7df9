-- One record of a list is looked at, and then the later ones.
use Rattle.std.proofs.Common.{ℕ, ◌≡◌, ◌+◌, ◌-◌, ◌<◌, ◌≤◌, ◌∙◌, sym, ap, subst, refl, inl, inr, Bool, true, false, cond, List, [], ◌∷◌, length, Option, Some, None, arith}
use Rattle.std.specs.Prelude.{◌&&◌, ℤ}
use Rattle.std.proofs.lemmas.List.Elements.{All-head, All-tail}
use Rattle.zone_region.specs.Words.{Words, word_at}
use Rattle.zone_region.specs.Members.{In}
use Rattle.peer_zone.specs.declared.state.PeerRecord.{PeerRecord}
use Rattle.peer_zone.specs.declared.numbers.PeerNumbers.{PeerNumbers}
use Rattle.peer_zone.specs.declared.takers.Least.{Least}
use Rattle.peer_zone.specs.declared.takers.Nearest.{Nearest}
use Rattle.peer_zone.specs.declared.takers.Takers.{Takers}
use Rattle.peer_zone.specs.declared.rounds.Raised.{Raised}
use Rattle.peer_zone.specs.Object.{HasRoom}
use Rattle.peer_zone.specs.Records.{is_available}
use Rattle.peer_zone.specs.Choice.{Part, Found, raised, raised_in, total_in, nearer, best_in, replaces, least_in, count_in}
use Rattle.peer_zone.specs.Numbers.{numbers_of, as_record, tied_to, part_of, IsLeast, IsNearest, IsLight}
use Rattle.peer_zone.specs.Words.{HoldsNumbers, HoldsFirst, LaysRecords, first_of}
use Rattle.peer_zone.specs.CallSteps.{SetsNumbers, IsChain, RaisesAll}
use Rattle.peer_zone.proofs.RecordLemmas.{record-kept, record-set, records-kept}

-- what was read of the first record
pub record Visits (m : Words) (first next : ℕ) (peer : PeerNumbers) : Type 0 where
  pub next_is : next ≡ word_at m first 0
  pub value : (x : PeerNumbers) → HoldsNumbers m first x → peer ≡ x

-- the later records
pub chain-tail : (m : Words) (first left next : ℕ) (peer : PeerNumbers) (p : PeerRecord) (ps : List PeerRecord) (at : ℕ) (ats : List ℕ) → Visits m first next peer → IsChain m first left (p ∷ ps) (at ∷ ats) → IsChain m next (left - 1) ps ats
chain-tail m first left next peer p ps at ats v c = record {
  laid = c.laid.1;
  first_is = v.next_is ∙ ap (λ x. word_at m x 0) c.first_is ∙ c.laid.0.held.next_is;
  servers_are = omega (arith, c.servers_are);
  room = All-tail HasRoom p ps c.room;
}

-- the first record's numbers
pub visit-peer : (m : Words) (first left next : ℕ) (peer : PeerNumbers) (p : PeerRecord) (ps : List PeerRecord) (at : ℕ) (ats : List ℕ) → Visits m first next peer → IsChain m first left (p ∷ ps) (at ∷ ats) → peer ≡ numbers_of p
visit-peer m first left next peer p ps at ats v c = v.value (numbers_of p) (subst (λ (x : ℕ). HoldsNumbers m x (numbers_of p)) (sym c.first_is) c.laid.0.held.numbers)

-- a record takes part where its numbers do
pub part-same : (takers : Takers) (index : ℕ) (p : PeerRecord) → part_of takers index (as_record (numbers_of p)) ≡ part_of takers index p
part-same takers index p = go takers.least where
  go : (o : Option Least) → tied_to (is_available takers.single takers.tried takers.moment) o index (as_record (numbers_of p)) ≡ tied_to (is_available takers.single takers.tried takers.moment) o index p
  go None = refl
  go (Some least) = refl

pub visit-part : (takers : Takers) (index : ℕ) (b : Bool) (peer : PeerNumbers) (p : PeerRecord) → peer ≡ numbers_of p → b ≡ part_of takers index (as_record peer) → b ≡ part_of takers index p
visit-part takers index b peer p is e = e ∙ ap (λ x. part_of takers index (as_record x)) is ∙ part-same takers index p

-- a chain with a record has room in its first block
pub chain-room : (m : Words) (first left : ℕ) (ps : List PeerRecord) (ats : List ℕ) → 0 < left → IsChain m first left ps ats → 13 ≤ length (m first)
chain-room m first left [] ats some c = absurd (omega (arith, c.servers_are))
chain-room m first left (p ∷ ps) [] some c = absurd c.laid
chain-room m first left (p ∷ ps) (at ∷ ats) some c = subst (λ (x : ℕ). 13 ≤ length (m x)) (sym c.first_is) (omega (arith, c.laid.0.held.room))

-- the later records of a chain, whatever they are
pub chain-rest : (m : Words) (first left next : ℕ) (peer : PeerNumbers) (ps : List PeerRecord) (ats : List ℕ) → 0 < left → Visits m first next peer → IsChain m first left ps ats → (qs : List PeerRecord) × (bs : List ℕ) × IsChain m next (left - 1) qs bs
chain-rest m first left next peer [] ats some v c = absurd (omega (arith, c.servers_are))
chain-rest m first left next peer (p ∷ ps) [] some v c = absurd c.laid
chain-rest m first left next peer (p ∷ ps) (at ∷ ats) some v c = (ps, ats, chain-tail m first left next peer p ps at ats v c)

-- the first record has room for one call more
pub record Fits (n : PeerNumbers) : Type 0 where
  pub p : PeerRecord
  pub is : n ≡ numbers_of p
  pub room : HasRoom p

pub chain-fits : (m : Words) (first left next : ℕ) (peer : PeerNumbers) (ps : List PeerRecord) (ats : List ℕ) → 0 < left → Visits m first next peer → IsChain m first left ps ats → Fits peer
chain-fits m first left next peer [] ats some v c = absurd (omega (arith, c.servers_are))
chain-fits m first left next peer (p ∷ ps) [] some v c = absurd c.laid
chain-fits m first left next peer (p ∷ ps) (at ∷ ats) some v c = record { p = p; is = visit-peer m first left next peer p ps at ats v c; room = All-head HasRoom p ps c.room }

pub light-fits : (n : PeerNumbers) → Fits n → IsLight n
light-fits n f =
    let conns : n.conns ≡ f.p.conns = ap (λ (x : PeerNumbers). x.conns) f.is in
    let weight : n.weight ≡ f.p.server.weight = ap (λ (x : PeerNumbers). x.weight) f.is in
    let r = f.room.conns in
    let w = f.room.server.weight.1 in
    record { conns = omega (arith, conns, r); weight = omega (arith, weight, w) }

-- ---- how many take part

pub count-does : (m : Words) (takers : Takers) (index first left next behind : ℕ) (peer : PeerNumbers) (b : Bool) → 0 < left → Visits m first next peer → b ≡ part_of takers index (as_record peer) → ((ps : List PeerRecord) (ats : List ℕ) → IsChain m next (left - 1) ps ats → behind ≡ count_in (part_of takers) (index + 1) ps) → (ps : List PeerRecord) (ats : List ℕ) → IsChain m first left ps ats → cond b (behind + 1) behind ≡ count_in (part_of takers) index ps
count-does m takers index first left next behind peer b some v e later [] ats c = absurd (omega (arith, c.servers_are))
count-does m takers index first left next behind peer b some v e later (p ∷ ps) [] c = absurd c.laid
count-does m takers index first left next behind peer b some v e later (p ∷ ps) (at ∷ ats) c =
    let taken = visit-part takers index b peer p (visit-peer m first left next peer p ps at ats v c) e in
    subst (λ (x : Bool). cond b (behind + 1) behind ≡ cond x 1 0 + count_in (part_of takers) (index + 1) ps) taken (go b (later ps ats (chain-tail m first left next peer p ps at ats v c))) where
      go : (x : Bool) → behind ≡ count_in (part_of takers) (index + 1) ps → cond x (behind + 1) behind ≡ cond x 1 0 + count_in (part_of takers) (index + 1) ps
      go true h = omega (arith, h)
      go false h = omega (arith, h)

-- ---- the least busy one

-- the least busy one so far, once a record is looked at
abbrev pub after : Part → ℕ → PeerRecord → Option Found → Option Found
after part index p f = cond (part index p && replaces p f) (Some (record { index = index; peer = p })) f

pub least-does : (m : Words) (takers : Takers) (index first left next : ℕ) (peer : PeerNumbers) (best better result : Option Least) → 0 < left → Visits m first next peer → ((p : PeerRecord) (f : Option Found) → peer ≡ numbers_of p → IsLeast best f → IsLeast better (after (part_of takers) index p f)) → ((ps : List PeerRecord) (ats : List ℕ) (f : Option Found) → IsChain m next (left - 1) ps ats → IsLeast better f → IsLeast result (least_in (part_of takers) (index + 1) f ps)) → (ps : List PeerRecord) (ats : List ℕ) (f : Option Found) → IsChain m first left ps ats → IsLeast best f → IsLeast result (least_in (part_of takers) index f ps)
least-does m takers index first left next peer best better result some v here later [] ats f c is = absurd (omega (arith, c.servers_are))
least-does m takers index first left next peer best better result some v here later (p ∷ ps) [] f c is = absurd c.laid
least-does m takers index first left next peer best better result some v here later (p ∷ ps) (at ∷ ats) f c is =
    later ps ats (after (part_of takers) index p f) (chain-tail m first left next peer p ps at ats v c) (here p f (visit-peer m first left next peer p ps at ats v c) is)

pub least-none : (m : Words) (part : Part) (index first left : ℕ) (best : Option Least) → left ≡ 0 → (ps : List PeerRecord) (ats : List ℕ) (f : Option Found) → IsChain m first left ps ats → IsLeast best f → IsLeast best (least_in part index f ps)
least-none m part index first left best none [] ats f c is = is
least-none m part index first left best none (p ∷ ps) ats f c is = absurd (omega (arith, c.servers_are))

pub count-none : (m : Words) (part : Part) (index first left : ℕ) → left ≡ 0 → (ps : List PeerRecord) (ats : List ℕ) → IsChain m first left ps ats → 0 ≡ count_in part index ps
count-none m part index first left none [] ats c = refl
count-none m part index first left none (p ∷ ps) ats c = absurd (omega (arith, c.servers_are))

-- ---- a round

pub raise-none : (m : Words) (part : Part) (index first left : ℕ) → left ≡ 0 → (ps : List PeerRecord) (ats : List ℕ) → IsChain m first left ps ats → RaisesAll m m part index ps ats (record { total = 0; nearest = None })
raise-none m part index first left none [] [] c = record { laid = tt; total_is = refl; nearest_is = tt; changes = record { lengths = λ z. refl; others = λ z out. refl } }
raise-none m part index first left none [] (at ∷ ats) c = absurd c.laid
raise-none m part index first left none (p ∷ ps) ats c = absurd (omega (arith, c.servers_are))

-- the first record after the later ones were raised
first-kept : (m k : Words) (part : Part) (index : ℕ) (p : PeerRecord) (ps : List PeerRecord) (at : ℕ) (ats : List ℕ) (later : Raised) → LaysRecords m (p ∷ ps) (at ∷ ats) → RaisesAll m k part index ps ats later → HoldsFirst k p at ats
first-kept m k part index p ps at ats later laid r = record { held = record-kept m k at (first_of ats) p (r.changes.others at laid.0.apart) laid.0.held; apart = laid.0.apart }

pub raise-skip : (m k : Words) (takers : Takers) (index first left next : ℕ) (peer : PeerNumbers) (later : Raised) → 0 < left → Visits m first next peer → false ≡ part_of takers index (as_record peer) → ((ps : List PeerRecord) (ats : List ℕ) → IsChain m next (left - 1) ps ats → RaisesAll m k (part_of takers) (index + 1) ps ats later) → (ps : List PeerRecord) (ats : List ℕ) → IsChain m first left ps ats → RaisesAll m k (part_of takers) index ps ats later
raise-skip m k takers index first left next peer later some v e ih [] ats c = absurd (omega (arith, c.servers_are))
raise-skip m k takers index first left next peer later some v e ih (p ∷ ps) [] c = absurd c.laid
raise-skip m k takers index first left next peer later some v e ih (p ∷ ps) (at ∷ ats) c =
    let out = visit-part takers index false peer p (visit-peer m first left next peer p ps at ats v c) e in
    let r = ih ps ats (chain-tail m first left next peer p ps at ats v c) in
    record {
      laid = subst (λ (x : Bool). LaysRecords k (cond x (raised p) p ∷ raised_in (part_of takers) (index + 1) ps) (at ∷ ats)) out (first-kept m k (part_of takers) (index + 1) p ps at ats later c.laid r, r.laid);
      total_is = subst (λ (x : Bool). later.total ≡ cond x p.effective 0 + total_in (part_of takers) (index + 1) ps) out (omega (arith, r.total_is));
      nearest_is = subst (λ (x : Bool). IsNearest later.nearest (cond x (nearer (record { index = index; peer = p }) (best_in (part_of takers) (index + 1) ps)) (best_in (part_of takers) (index + 1) ps))) out r.nearest_is;
      changes = record { lengths = r.changes.lengths; others = λ z outside. r.changes.others z (λ i. outside (inr i)) };
    }

pub raise-take : (m k n : Words) (takers : Takers) (index first left next : ℕ) (peer now : PeerNumbers) (later result : Raised) (nearest : Nearest) (shown : ℤ) → shown ≡ now.current → 0 < left → Visits m first next peer → true ≡ part_of takers index (as_record peer) → now ≡ numbers_of (raised (as_record peer)) → ((ps : List PeerRecord) (ats : List ℕ) → IsChain m next (left - 1) ps ats → RaisesAll m k (part_of takers) (index + 1) ps ats later) → SetsNumbers k n first now → ((e : Found) (l : Option Found) → IsNearest (Some (record { index = index; current = shown })) (Some e) → IsNearest later.nearest l → IsNearest (Some nearest) (nearer e l)) → result ≡ record { total = peer.effective + later.total; nearest = Some nearest } → (ps : List PeerRecord) (ats : List ℕ) → IsChain m first left ps ats → RaisesAll m n (part_of takers) index ps ats result
raise-take m k n takers index first left next peer now later result nearest shown shown_is some v e now_is ih s near is [] ats c = absurd (omega (arith, c.servers_are))
raise-take m k n takers index first left next peer now later result nearest shown shown_is some v e now_is ih s near is (p ∷ ps) [] c = absurd c.laid
raise-take m k n takers index first left next peer now later result nearest shown shown_is some v e now_is ih s near is (p ∷ ps) (at ∷ ats) c =
    let peer_is = visit-peer m first left next peer p ps at ats v c in
    let taken = visit-part takers index true peer p peer_is e in
    let r = ih ps ats (chain-tail m first left next peer p ps at ats v c) in
    let after_is : now ≡ numbers_of (raised p) = now_is ∙ ap (λ x. numbers_of (raised (as_record x))) peer_is in
    let set : SetsNumbers k n at (numbers_of (raised p)) = subst (λ (x : PeerNumbers). SetsNumbers k n at x) after_is (subst (λ (x : ℕ). SetsNumbers k n x now) c.first_is s) in
    let kept = first-kept m k (part_of takers) (index + 1) p ps at ats later c.laid r in
    let total : result.total ≡ peer.effective + later.total = ap (λ (x : Raised). x.total) is in
    let effective : peer.effective ≡ p.effective = ap (λ (x : PeerNumbers). x.effective) peer_is in
    let current : shown ≡ (raised p).current = shown_is ∙ ap (λ (x : PeerNumbers). x.current) after_is in
    let rest : LaysRecords n (raised_in (part_of takers) (index + 1) ps) ats = records-kept k n (raised_in (part_of takers) (index + 1) ps) ats (λ z i. set.others z (λ same. c.laid.0.apart (subst (λ (x : ℕ). In x ats) same i))) r.laid in
    record {
      laid = subst (λ (x : Bool). LaysRecords n (cond x (raised p) p ∷ raised_in (part_of takers) (index + 1) ps) (at ∷ ats)) taken (record { held = record-set k n at (first_of ats) p (raised p) refl set kept.held; apart = c.laid.0.apart }, rest);
      total_is = subst (λ (x : Bool). result.total ≡ cond x p.effective 0 + total_in (part_of takers) (index + 1) ps) taken (omega (arith, total, effective, r.total_is));
      nearest_is = subst (λ (x : Bool). IsNearest result.nearest (cond x (nearer (record { index = index; peer = p }) (best_in (part_of takers) (index + 1) ps)) (best_in (part_of takers) (index + 1) ps))) taken (subst (λ (x : Option Nearest). IsNearest x (nearer (record { index = index; peer = p }) (best_in (part_of takers) (index + 1) ps))) (sym (ap (λ (x : Raised). x.nearest) is)) (near (record { index = index; peer = p }) (best_in (part_of takers) (index + 1) ps) (refl, current) r.nearest_is));
      changes = record {
        lengths = λ z. set.lengths z ∙ r.changes.lengths z;
        others = λ z outside. set.others z (λ same. outside (inl same)) ∙ r.changes.others z (λ i. outside (inr i));
      };
    }
