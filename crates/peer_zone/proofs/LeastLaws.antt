-- Least connections choose one of the least busy.
use Rattle.std.proofs.Common.{ℕ, zero, suc, ◌≡◌, ◌+◌, ◌*◌, ◌<◌, ◌≤◌, Bool, true, false, cond, List, [], ◌∷◌, Option, Some, None, refl, sym, ap, subst, ◌∙◌, arith}
use Rattle.std.specs.Prelude.{◌&&◌, nat_lt, nat_eq, nat_le}
use Rattle.std.specs.List.{All}
use Rattle.std.proofs.Math.Nat.{mul-le-mul_right, le_of_mul-le-mul_right}
use Rattle.std.proofs.lemmas.Bool.Decides.{nat_tests}
use Rattle.std.proofs.lemmas.List.Elements.{All-head, All-tail, All-weaker}
use Rattle.peer_zone.specs.declared.calls.Method.{Method}
use Rattle.peer_zone.specs.declared.calls.PeerCall.TheVariants.{Choose}
use Rattle.peer_zone.specs.declared.state.PeerRecord.{PeerRecord}
use Rattle.peer_zone.specs.declared.state.PeerState.{PeerState}
use Rattle.peer_zone.specs.Records.{peer_at}
use Rattle.peer_zone.specs.Choice.{Part, Found, Choice, settled, by_round, is_less_busy, is_as_busy, replaces, least_in, tied, count_in, among_least, by_least, choose}
use Rattle.peer_zone.specs.Object.{list_of, available, choice_of, HasRoom, Ready}
use Rattle.peer_zone.specs.Laws.{LeastLaw}
use Rattle.peer_zone.specs.Proving.Found.{IsFound, some_same, both-second}
use Rattle.peer_zone.specs.Proving.Chosen.{round-takes}
use Rattle.peer_zone.specs.Proving.Kept.{least-there}
use Rattle.peer_zone.proofs.ChoiceLaws.{reply-some}

-- ---- at least as busy

-- q has at least as many connections to its weight as p
abbrev AsManyAs : PeerRecord → PeerRecord → Type 0
AsManyAs q p = p.conns * q.server.weight ≤ q.conns * p.server.weight

-- a weight above 0
abbrev HasWeight : PeerRecord → Type 0
HasWeight p = 0 < p.server.weight

turn : (qc qw rc rw fc fw : ℕ) → rc * qw ≤ qc * rw → fc * rw ≤ rc * fw → 0 < rw → fc * qw ≤ qc * fw
turn qc qw rc rw fc fw h k some = le_of_mul-le-mul_right {m = fc * qw} {n = qc * fw} {k = rw} (let a = mul-le-mul_right qw k in let b = mul-le-mul_right fw h in grind (arith, a, b)) some

as_many-through : (q r f : PeerRecord) → AsManyAs q r → AsManyAs r f → HasWeight r → AsManyAs q f
as_many-through q r f h k some = turn q.conns q.server.weight r.conns r.server.weight f.conns f.server.weight h k some

as_many-itself : (p : PeerRecord) → AsManyAs p p
as_many-itself p = omega arith

less-as_many : (p q : PeerRecord) → is_less_busy p q ≡ true → AsManyAs q p
less-as_many p q less = grind (arith, nat_tests)

not_less-as_many : (p q : PeerRecord) → is_less_busy p q ≡ false → AsManyAs p q
not_less-as_many p q not_less = grind (arith, nat_tests)

as_many-not_less : (q p : PeerRecord) → AsManyAs q p → is_less_busy q p ≡ false
as_many-not_less q p h = grind (arith, nat_tests)

tied-as_many : (p f : PeerRecord) → is_as_busy p f ≡ true → AsManyAs f p
tied-as_many p f same = grind (arith, nat_tests)

-- ---- the least busy of a list

-- f is as little busy as the one that was found before, and as all of these that take part
record IsLeast (part : Part) (from : ℕ) (best : Option Found) (ps : List PeerRecord) (f : Found) : Type 0 where
  before : (b : Found) → best ≡ Some b → AsManyAs b.peer f.peer
  after : (place : ℕ) (q : PeerRecord) → peer_at ps place ≡ Some q → part (from + place) q ≡ true → AsManyAs q f.peer

least-more : (part : Part) (from : ℕ) (best : Option Found) (p : PeerRecord) (ps : List PeerRecord) (f : Found) → ((b : Found) → best ≡ Some b → AsManyAs b.peer f.peer) → (part from p ≡ true → AsManyAs p f.peer) → ((place : ℕ) (q : PeerRecord) → peer_at ps place ≡ Some q → part (from + 1 + place) q ≡ true → AsManyAs q f.peer) → IsLeast part from best (p ∷ ps) f
least-more part from best p ps f before here after = record { before = before; after = go } where
  go : (place : ℕ) (q : PeerRecord) → peer_at (p ∷ ps) place ≡ Some q → part (from + place) q ≡ true → AsManyAs q f.peer
  go zero q there passes =
      let same = some_same p q there in
      let e : from + 0 ≡ from = omega arith in
      subst (λ (r : PeerRecord). AsManyAs r f.peer) same (here (subst (λ (r : PeerRecord). part from r ≡ true) (sym same) (subst (λ n. part n q ≡ true) e passes)))
  go (suc place) q there passes = let e : from + suc place ≡ from + 1 + place = omega arith in after place q there (subst (λ n. part n q ≡ true) e passes)

-- the weights of what was found before
abbrev WeighsSome : Option Found → Type 0
WeighsSome best = (b : Found) → best ≡ Some b → HasWeight b.peer

least-is : (part : Part) (from : ℕ) (best : Option Found) (ps : List PeerRecord) (f : Found) → WeighsSome best → All HasWeight ps → least_in part from best ps ≡ Some f → IsLeast part from best ps f
least-is part from best [] f weighs all is = record { before = λ b was. let same = some_same b f (sym was ∙ is) in subst (λ (g : Found). AsManyAs b.peer g.peer) same (as_many-itself b.peer); after = λ place q there passes. absurd (cc) }
least-is part from best (p ∷ ps) f weighs all is = go (λ (b : Option Found) (w : WeighsSome b). least-is part (from + 1) b ps f w (All-tail HasWeight p ps all)) (part from p) refl best refl (replaces p best) refl is where
  this : Found
  this = record { index = from; peer = p }

  weight : HasWeight p
  weight = All-head HasWeight p ps all

  here : WeighsSome (Some this)
  here b was = subst (λ (g : Found). HasWeight g.peer) (some_same this b was) weight

  -- p is the least busy one so far
  newer : IsLeast part (from + 1) (Some this) ps f → ((b : Found) → best ≡ Some b → AsManyAs b.peer p) → IsLeast part from best (p ∷ ps) f
  newer h less = let mine = h.before this refl in least-more part from best p ps f (λ b was. as_many-through b.peer p f.peer (less b was) mine weight) (λ passes. mine) h.after

  -- another one still is
  older : IsLeast part (from + 1) best ps f → (part from p ≡ true → AsManyAs p f.peer) → IsLeast part from best (p ∷ ps) f
  older h mine = least-more part from best p ps f h.before mine h.after

  go : ((b : Option Found) → WeighsSome b → least_in part (from + 1) b ps ≡ Some f → IsLeast part (from + 1) b ps f) → (b : Bool) → part from p ≡ b → (was : Option Found) → best ≡ was → (c : Bool) → replaces p was ≡ c → least_in part (from + 1) (cond (b && c) (Some this) best) ps ≡ Some f → IsLeast part from best (p ∷ ps) f
  go rest true passes None none true r h = newer (rest (Some this) here h) (λ b was. absurd (cc))
  go rest true passes (Some b) some true r h = newer (rest (Some this) here h) (λ d was. subst (λ (g : Found). AsManyAs g.peer p) (some_same b d (sym some ∙ was)) (less-as_many p b.peer r))
  go rest true passes None none false r h = absurd (cc)
  go rest true passes (Some b) some false r h = let least = rest best weighs h in older least (λ _. as_many-through p b.peer f.peer (not_less-as_many p b.peer r) (least.before b some) (weighs b some))
  go rest false fails was some c r h = older (rest best weighs h) (λ passes. absurd (cc))

-- ---- the choice

all-at : (P : PeerRecord → Type 0) (ps : List PeerRecord) (at : ℕ) (p : PeerRecord) → All P ps → peer_at ps at ≡ Some p → P p
all-at P [] at p all there = absurd (cc)
all-at P (q ∷ qs) zero p all there = subst P (some_same q p there) (All-head P q qs all)
all-at P (q ∷ qs) (suc at) p all there = all-at P qs at p (All-tail P q qs all) there

-- the one that is chosen is the least busy one, or tied with it
chosen-as_many : (part : Part) (now : ℕ) (ps : List PeerRecord) (index : ℕ) (p : PeerRecord) (f : Found) → IsFound part 0 ps f → (among_least part now ps (Some f)).chosen ≡ Some index → peer_at ps index ≡ Some p → AsManyAs f.peer p
chosen-as_many part now ps index p f found is there = go (nat_lt 1 (count_in (tied part f) 0 ps)) is where
  go : (b : Bool) → (cond b (by_round (tied part f) now ps) (settled 0 now (Some f) ps)).chosen ≡ Some index → AsManyAs f.peer p
  go true h =
      let t = round-takes (tied part f) now ps index h in
      let same = some_same t.peer p (sym t.there ∙ there) in
      subst (λ (r : PeerRecord). AsManyAs f.peer r) same (tied-as_many t.peer f.peer (both-second (nat_le f.index index) _ (both-second (part index t.peer) _ t.passes)))
  go false h =
      let place : found.place ≡ index = let i = found.index in let j = some_same f.index index h in omega (arith, i, j) in
      let same = some_same f.peer p (sym found.there ∙ ap (λ n. peer_at ps n) place ∙ there) in
      subst (λ (r : PeerRecord). AsManyAs f.peer r) same (as_many-itself f.peer)

least-of : (part : Part) (now : ℕ) (ps : List PeerRecord) (index : ℕ) (p : PeerRecord) (least : Option Found) → All HasWeight ps → least_in part 0 None ps ≡ least → (among_least part now ps least).chosen ≡ Some index → peer_at ps index ≡ Some p → (other : ℕ) (q : PeerRecord) → peer_at ps other ≡ Some q → part other q ≡ true → is_less_busy q p ≡ false
least-of part now ps index p None all none is there other q there_too passes = absurd (cc)
least-of part now ps index p (Some f) all some is there other q there_too passes =
    let found = least-there part ps f some in
    let least = least-is part 0 None ps f (λ b was. absurd (cc)) all some in
    let e : 0 + other ≡ other = omega arith in
    let many = least.after other q there_too (subst (λ n. part n q ≡ true) (sym e) passes) in
    as_many-not_less q p (as_many-through q f.peer p many (chosen-as_many part now ps index p f found is there) (all-at HasWeight ps found.place f.peer all found.there))

weights-of : (s : PeerState) (list tried now : ℕ) → Ready s (Choose list tried now) → All HasWeight (list_of s list)
weights-of s list tried now r = go (nat_eq list 0) where
  weighs : (p : PeerRecord) → HasRoom p → HasWeight p
  weighs p h = h.server.weight.0

  go : (b : Bool) → All HasWeight (cond b s.primary s.backup)
  go true = All-weaker HasRoom HasWeight weighs s.primary r.primary
  go false = All-weaker HasRoom HasWeight weighs s.backup r.backup

pub least-law : LeastLaw
least-law s list tried now index p r many least is there other q h =
    least-of (available s tried now) now (list_of s list) index p (least_in (available s tried now) 0 None (list_of s list)) (weights-of s list tried now r) refl
    (sym (ap (λ (c : Choice). c.chosen) by) ∙ reply-some (choice_of s list tried now).chosen index is)
    there other q h.there h.passes
  where
    by : choice_of s list tried now ≡ by_least (available s tried now) now (list_of s list)
    by = ap (λ (b : Bool). choose b s.method (available s tried now) now (list_of s list)) many ∙ ap (λ (m : Method). choose false m (available s tried now) now (list_of s list)) least
