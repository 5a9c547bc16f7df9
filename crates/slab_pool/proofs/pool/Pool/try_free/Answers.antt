use Rattle.std.proofs.Common.{◌≡◌, ◌↔◌, true, false, Some, None, subst, sym, ◌∙◌, refl}
use Rattle.slab_model.specs.State.{Slab}
use Rattle.slab_model.specs.Blocks.{IsLive}
use Rattle.slab_pages.specs.Places.{Image}
use Rattle.slab_pool.specs.Pool.{LaysPool}
use Rattle.slab_pool.specs.Live.{block_words}
use Rattle.zone_region.specs.Granting.{ReturnsWords}
use Rattle.slab_pool.specs.declared.fault.FreeFault.{FreeFault}
use Rattle.slab_pool.proofs.PoolLemmas.{returned-words}
use Rattle.slab_pool.proofs.RefusalLemmas.{refusal-live}
use Rattle.slab_pool.proofs.pool.Pool.try_free.Goals as goal

pub give_back-requires : goal.give_back-requires
give_back-requires c =
    let p = c.self.invariant.1 in
    (c.self.invariant.0, p, (refusal-live _ c.args.offset p.sound).0 (sym (c.in-None.ensures _ p)))

pub returns-in-Some-clause-live : goal.returns-in-Some-clause-live
returns-in-Some-clause-live c =
    let P : Image → Type 0 = λ i. (slab : Slab) → LaysPool i slab → (false ≡ true) ↔ IsLive slab c.args.offset in
    subst P c.self.view_is (λ slab p. (λ e. absurd (cc), λ live. absurd (none c.in-Some.fault (c.in-Some.ensures slab p ∙ (refusal-live slab c.args.offset p.sound).1 live)))) where
      none : (f : FreeFault) → Some f ≡ None → ⊥
      none f e = cc

pub returns-in-None-clause-live : goal.returns-in-None-clause-live
returns-in-None-clause-live c =
    let P : Image → Type 0 = λ i. (slab : Slab) → LaysPool i slab → (true ≡ true) ↔ IsLive slab c.args.offset in
    subst P c.self.view_is (λ slab p. (λ _. (refusal-live slab c.args.offset p.sound).0 (sym (c.in-None.ensures slab p)), λ _. refl))

pub returns-in-None-clause-words : goal.returns-in-None-clause-words
returns-in-None-clause-words c =
    let p = c.self.invariant.1 in
    subst (λ (i : Image). ReturnsWords (block_words i) (block_words c.give_back.new.pages) c.args.offset) c.self.view_is
    (returned-words _ _ _ _ p ((refusal-live _ c.args.offset p.sound).0 (sym (c.in-None.ensures _ p))) (c.give_back.ensures.laid _ p) c.give_back.ensures.kept)
