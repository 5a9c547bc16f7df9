-- The laws of a choice.
use Rattle.std.proofs.Common.{ℕ, ◌≡◌, ◌≤◌, ◌+◌, Bool, true, false, List, length, Option, Some, None, cond, refl, sym, ap, subst, ◌∙◌, arith}
use Rattle.std.specs.Prelude.{nat_eq}
use Rattle.std.proofs.lemmas.Bool.Decides.{nat_tests}
use Rattle.peer_zone.specs.declared.calls.Method.{Method}
use Rattle.peer_zone.specs.declared.calls.PeerCall.TheVariants.{Choose}
use Rattle.peer_zone.specs.declared.calls.PeerReply.{PeerReply}
use Rattle.peer_zone.specs.declared.calls.PeerReply.TheVariants.{Peer, NoPeer, Freed}
use Rattle.peer_zone.specs.declared.state.PeerRecord.{PeerRecord}
use Rattle.peer_zone.specs.declared.state.PeerState.{PeerState}
use Rattle.peer_zone.specs.Records.{peer_at}
use Rattle.peer_zone.specs.Choice.{Part, Choice, choose, by_round}
use Rattle.peer_zone.specs.Object.{is_single, list_of, with_list, available, choice_of, reply_for, answer_of}
use Rattle.peer_zone.specs.Laws.{IsAvailable, NoPeerLaw, NoChangeLaw, ChosenLaw, NearestLaw, IsNearest}
use Rattle.peer_zone.specs.Proving.Found.{IsNobody, both-first, both-second, some_same, best-found, best-nearest}
use Rattle.peer_zone.specs.Proving.Chosen.{chosen-takes, none-nobody, nobody-unchanged, round-chosen}

-- what a reply tells of the choice
reply-none : (chosen : Option ℕ) → reply_for chosen ≡ NoPeer → chosen ≡ None
reply-none None is = refl
reply-none (Some index) is = absurd (cc)

pub reply-some : (chosen : Option ℕ) (index : ℕ) → reply_for chosen ≡ Peer index → chosen ≡ Some index
reply-some None index is = absurd (cc)
reply-some (Some at) index is = ap {A = PeerReply} {B = Option ℕ} (elim [ Peer n ↦ Some n | NoPeer ↦ None | Freed ↦ None ]) is

-- a single server is alone in its list
single-alone : (s : PeerState) (list : ℕ) → is_single s ≡ true → length (list_of s list) ≤ 1
single-alone s list single = go (nat_eq list 0) where
  one : length s.primary ≡ 1
  one = let h = both-first (nat_eq (length s.primary) 1) _ single in grind (arith, nat_tests)

  none : length s.backup ≡ 0
  none = let h = both-second (nat_eq (length s.primary) 1) _ single in grind (arith, nat_tests)

  go : (b : Bool) → length (cond b s.primary s.backup) ≤ 1
  go true = omega (arith, one)
  go false = omega (arith, none)

nobody-of : (s : PeerState) (list tried now : ℕ) → answer_of s (Choose list tried now) ≡ NoPeer → IsNobody (available s tried now) 0 (list_of s list)
nobody-of s list tried now is = none-nobody (is_single s) s.method (available s tried now) now (list_of s list) (single-alone s list) (reply-none (choice_of s list tried now).chosen is)

pub no_peer-law : NoPeerLaw
no_peer-law s list tried now = (only, found) where
  only : answer_of s (Choose list tried now) ≡ NoPeer → (index : ℕ) (p : PeerRecord) → IsAvailable s list tried now index p → ⊥
  only is index p h = let fails = nobody-of s list tried now is index p h.there in let e : 0 + index ≡ index = omega arith in let no = subst (λ n. available s tried now n p ≡ false) e fails in let yes = h.passes in absurd (cc)

  found : ((index : ℕ) (p : PeerRecord) → IsAvailable s list tried now index p → ⊥) → answer_of s (Choose list tried now) ≡ NoPeer
  found none = ap (λ (c : Choice). reply_for c.chosen) (nobody-unchanged (is_single s) s.method (available s tried now) now (list_of s list) nobody) where
    fails : (b : Bool) (index : ℕ) (p : PeerRecord) → peer_at (list_of s list) index ≡ Some p → available s tried now index p ≡ b → b ≡ false
    fails true index p there passes = absurd (none index p (record { there = there; passes = passes }))
    fails false index p there passes = refl

    nobody : IsNobody (available s tried now) 0 (list_of s list)
    nobody place p there = let e : place ≡ 0 + place = omega arith in subst (λ n. available s tried now n p ≡ false) e (fails (available s tried now place p) place p there refl)

pub no_change-law : NoChangeLaw
no_change-law s list tried now is =
    ap (λ (c : Choice). with_list s list c.peers) (nobody-unchanged (is_single s) s.method (available s tried now) now (list_of s list) (nobody-of s list tried now is)) ∙ same (nat_eq list 0)
  where
    same : (b : Bool) → cond b (record s { primary = cond b s.primary s.backup }) (record s { backup = cond b s.primary s.backup }) ≡ s
    same true = refl
    same false = refl

pub chosen-law : ChosenLaw
chosen-law s list tried now index is = let h = chosen-takes (is_single s) s.method (available s tried now) now (list_of s list) index (reply-some (choice_of s list tried now).chosen index is) in (h.peer, record { there = h.there; passes = h.passes })

nearest-of : (part : Part) (now : ℕ) (ps : List PeerRecord) (index : ℕ) (p : PeerRecord) → (by_round part now ps).chosen ≡ Some index → peer_at ps index ≡ Some p → (other : ℕ) (q : PeerRecord) → peer_at ps other ≡ Some q → part other q ≡ true → IsNearest index p other q
nearest-of part now ps index p chosen there other q there_too passes =
    let f = round-chosen part now ps index chosen in
    let lies = best-found part 0 ps f.0 f.1 in
    let place : lies.place ≡ index = let i = lies.index in let j = f.2 in omega (arith, i, j) in
    let same : f.0.peer ≡ p = some_same f.0.peer p (sym lies.there ∙ ap (λ n. peer_at ps n) place ∙ there) in
    let e : 0 + other ≡ other = omega arith in
    let h = best-nearest part 0 ps f.0 f.1 other q there_too (subst (λ n. part n q ≡ true) (sym e) passes) in
    subst (λ n. IsNearest n p other q) f.2 (subst (λ (r : PeerRecord). IsNearest f.0.index r other q) same (subst (λ n. IsNearest f.0.index f.0.peer n q) e h))

pub nearest-law : NearestLaw
nearest-law s list tried now index p many round is there other q h =
    nearest-of (available s tried now) now (list_of s list) index p
    (sym (ap (λ (c : Choice). c.chosen) by) ∙ reply-some (choice_of s list tried now).chosen index is)
    there other q h.there h.passes
  where
    by : choice_of s list tried now ≡ by_round (available s tried now) now (list_of s list)
    by = ap (λ (b : Bool). choose b s.method (available s tried now) now (list_of s list)) many ∙ ap (λ (m : Method). choose false m (available s tried now) now (list_of s list)) round
