use Rattle.std.proofs.Common.{ℕ, ◌∙◌, sym, ap, arith}
use Rattle.std.specs.Prelude.{nat_eq}
use Rattle.peer_zone.proofs.ZoneLemmas.{head-held, head-none, word-single, few-of}
use Rattle.peer_zone.proofs.words.PeerWords.head.Goals as goal

pub word-requires : goal.word-requires
word-requires g c =
    let r = c.requires in
    let h = head-held c.args.self.now.pool r.0 r.1.words c.args.list c.in-Some.at (sym (c.head_at.ensures r.0 r.1) ∙ c.in-Some.is) in
    omega (arith, h.room)

pub word-requires-in-Some : goal.word-requires-in-Some
word-requires-in-Some g c =
    let r = c.requires in
    let h = head-held c.args.self.now.pool r.0 r.1.words c.args.list c.in-Some.at (sym (c.head_at.ensures r.0 r.1) ∙ c.in-Some.is) in
    omega (arith, h.room)

pub overflow_cast-result : goal.overflow_cast-result
overflow_cast-result g c =
    let r = c.requires in
    let h = head-held c.args.self.now.pool r.0 r.1.words c.args.list c.in-Some.at (sym (c.head_at.ensures r.0 r.1) ∙ c.in-Some.is) in
    omega (arith, c.word-in-Some.ensures.value, h.count, few-of r.0 c.args.list r.2.primary r.2.backup)

pub word-requires-in-Some-2 : goal.word-requires-in-Some-2
word-requires-in-Some-2 g c =
    let r = c.requires in
    let h = head-held c.args.self.now.pool r.0 r.1.words c.args.list c.in-Some.at (sym (c.head_at.ensures r.0 r.1) ∙ c.in-Some.is) in
    omega (arith, h.room)

pub returns-in-None-clause-head : goal.returns-in-None-clause-head
returns-in-None-clause-head g c = λ s l. head-none c.args.self.now.pool s l.words c.args.list (sym (c.head_at.ensures s l) ∙ c.in-None.is)

pub returns-in-Some-clause-head : goal.returns-in-Some-clause-head
returns-in-Some-clause-head g c = λ s l.
    let h = head-held c.args.self.now.pool s l.words c.args.list c.in-Some.at (sym (c.head_at.ensures s l) ∙ c.in-Some.is) in
    record {
      first_is = c.word.ensures.value ∙ h.first_is;
      servers_are = c.word-in-Some.ensures.value ∙ h.count;
      single_is = ap (λ (x : ℕ). nat_eq x 1) (c.word-in-Some-2.ensures.value ∙ h.single_is) ∙ word-single _;
    }
