-- What leaves gives its blocks back.
use Rattle.std.proofs.Common.{ℕ, ◌≡◌, ◌+◌, ◌<◌, List, [], ◌∷◌, refl, ap, ◌∙◌, inl, inr, arith}
use Rattle.std.proofs.lemmas.Bool.{cases_eq}
use Rattle.slab_model.specs.State.{Slab}
use Rattle.slab_model.specs.Blocks.{live_bytes, IsLive}
use Rattle.slab_model.specs.Return.{give_back}
use Rattle.slab_model.specs.Soundness.{IsSound}
use Rattle.slab_model.specs.Store.{slab_store}
use Rattle.slab_model.proofs.Laws.{give_back-sound}
use Rattle.slab_model.proofs.BlockLaws.{give_back-returns}
use Rattle.slab_model.proofs.ShapeLemmas.{back_shape}
use Rattle.slab_model.proofs.LiveLemmas.{once_here, once_there, live_none, live_same, live_most, is_live}
use Rattle.req_zone.specs.declared.state.ReqEntry.{ReqEntry}
use Rattle.req_zone.specs.State.{give_all}
use Rattle.req_zone.specs.Object.{once_at}
use Rattle.req_zone.specs.Holding.{nodes_at, live_at}
use Rattle.req_zone.specs.Proving.Tables.{nodes_more}

-- a sound slab whose live blocks are those of `base` and the nodes of these entries, each once
pub record Owns (base : ℕ → ℕ) (slab : Slab) (gone : List ReqEntry) : Type 0 where
  pub sound : IsSound slab
  pub named : (at : ℕ) → base at + nodes_at at gone ≡ live_at slab at

-- and once they came back it has those of `base`, as before
pub record Gave (base : ℕ → ℕ) (old new : Slab) : Type 0 where
  pub sound : IsSound new
  pub named : (at : ℕ) → base at ≡ live_at new at
  pub kept : (at : ℕ) → 0 < base at → live_bytes new at ≡ live_bytes old at
  pub shape : new.shape ≡ old.shape

-- the first of them leaves
gives_one : (base : ℕ → ℕ) (slab : Slab) (e : ReqEntry) (es : List ReqEntry) → Owns base slab (e ∷ es) → IsLive slab e.block × Owns base (give_back slab e.block) es
gives_one base slab e es owns = (live, record { sound = give_back-sound slab e.block owns.sound live; named = named }) where
  live : IsLive slab e.block
  live = let h = owns.named e.block in let one = once_here e.block in is_live slab e.block (omega (arith, h, one, nodes_more e.block e es))

  named : (at : ℕ) → base at + nodes_at at es ≡ live_at (give_back slab e.block) at
  named at =
      let r = give_back-returns slab e.block owns.sound live in
      let h = owns.named at in
      let more = nodes_more at e es in
      elim (cases_eq at e.block) [
        | inl same ↦
            let one : once_at at e.block ≡ 1 = ap (λ (n : ℕ). once_at n e.block) same ∙ once_here e.block in
            let gone = live_none (give_back slab e.block) at (ap (λ (n : ℕ). live_bytes (give_back slab e.block) n) same ∙ r.gone) in
            omega (arith, h, more, one, gone, live_most slab at)
        | inr other ↦
            let none = once_there at e.block other in
            let stays = live_same slab (give_back slab e.block) at (r.others at other) in
            omega (arith, h, more, none, stays)
      ]

pub given_back : (base : ℕ → ℕ) (slab : Slab) (gone : List ReqEntry) → Owns base slab gone → Gave base slab (give_all slab_store slab gone)
given_back base slab [] owns = record {
  sound = owns.sound;
  named = λ at. let h = owns.named at in let none : nodes_at at [] ≡ 0 = refl in omega (arith, h, none);
  kept = λ at some. refl;
  shape = refl;
}
given_back base slab (e ∷ es) owns =
    let one = gives_one base slab e es owns in
    let rest = given_back base (give_back slab e.block) es one.1 in
    let r = give_back-returns slab e.block owns.sound one.0 in
    record {
      sound = rest.sound;
      named = rest.named;
      kept = λ at some.
          let h = owns.named at in
          let ne : at ≡ e.block → ⊥ = λ same.
          let own = ap (λ (n : ℕ). once_at n e.block) same ∙ once_here e.block in
          absurd (omega (arith, h, some, own, nodes_more at e es, live_most slab at)) in
          rest.kept at some ∙ r.others at ne;
      shape = rest.shape ∙ back_shape slab e.block;
    }
