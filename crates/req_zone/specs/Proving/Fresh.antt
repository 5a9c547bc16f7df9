-- A zone that was just opened.
use Rattle.std.proofs.Common.{ℕ, ◌≡◌, ◌<◌, List, [], Option, Some, unwrap_or, refl, sym, ap, subst, ◌∙◌, inl, inr, arith}
use Rattle.std.proofs.lemmas.Bool.{cases_eq}
use Rattle.std.proofs.lemmas.List.Elements.{All-nil}
use Rattle.slab_model.specs.declared.shape.Shape.{Shape}
use Rattle.slab_model.specs.Geometry.{IsInLimits, shape_of}
use Rattle.slab_model.specs.State.{fresh_slab}
use Rattle.slab_model.specs.Blocks.{live_bytes}
use Rattle.slab_model.proofs.Laws.{grant-sound}
use Rattle.slab_model.proofs.BlockLaws.{fresh-law, grant-grants}
use Rattle.slab_model.proofs.SmallGrants.{given_small, pages_two, fresh_free}
use Rattle.slab_model.proofs.ShapeLemmas.{grant_shape, bytes_same}
use Rattle.slab_model.proofs.LiveLemmas.{once_here, once_there, live_some, live_none, live_same}
use Rattle.req_zone.specs.declared.state.ReqState.{ReqState}
use Rattle.req_zone.specs.Object.{context_size, name_size, with_context, with_name, opened_zone, IsName, once_at}
use Rattle.req_zone.specs.Laws.{OpenLaw, StartLaw}
use Rattle.req_zone.specs.Holding.{HasNode, IsWhole}

-- ---- the two grants of a fresh zone

-- the blocks of the context and of the name
pub record Given (bytes : ℕ) (name : List ℕ) (context name_block : ℕ) : Type 0 where
  pub first : (with_context bytes).0 ≡ Some context
  pub second : (with_name bytes name).0 ≡ Some name_block

pub opens : (bytes : ℕ) (name : List ℕ) → IsName name → IsInLimits (shape_of bytes) → (context name_block : ℕ) × Given bytes name context name_block
opens bytes name ok limits =
    let two = pages_two bytes limits in
    let all = fresh_free bytes in
    let first = given_small (fresh_slab (shape_of bytes)) context_size (omega arith) (omega (arith, two, all)) in
    let free = first.free in
    let second = given_small (with_context bytes).1 (name_size name) (omega (arith, ok.1)) (omega (arith, two, all, free)) in
    (first.at, second.at, record { first = first.block; second = second.block })

-- the zone with these blocks
zone_of : ℕ → List ℕ → ℕ → ℕ → ℕ → ReqState
zone_of rate name bytes context name_block = record { rate = rate; name = name; table = []; slab = (with_name bytes name).1; context = context; name_block = name_block }

zone_is : (rate : ℕ) (name : List ℕ) (bytes context name_block : ℕ) → Given bytes name context name_block → zone_of rate name bytes context name_block ≡ opened_zone rate name bytes
unfolding zone_of
zone_is rate name bytes context name_block g =
    ap (λ (o : Option ℕ). let s : ReqState = record { rate = rate; name = name; table = []; slab = (with_name bytes name).1; context = unwrap_or o 0; name_block = name_block } in s) (sym g.first)
    ∙ ap (λ (o : Option ℕ). let s : ReqState = record { rate = rate; name = name; table = []; slab = (with_name bytes name).1; context = unwrap_or (with_context bytes).0 0; name_block = unwrap_or o 0 } in s) (sym g.second)

zone_whole : (rate : ℕ) (name : List ℕ) (bytes a b : ℕ) → IsName name → IsInLimits (shape_of bytes) → Given bytes name a b → IsWhole (zone_of rate name bytes a b)
unfolding zone_of
zone_whole rate name bytes a b ok limits g =
    let fresh = fresh_slab (shape_of bytes) in
    let law = fresh-law (shape_of bytes) limits in
    let one = (with_context bytes).1 in
    let two = (with_name bytes name).1 in
    let size = name_size name in
    let some_context : 0 < context_size = omega arith in
    let some_name : 0 < size = omega arith in
    let first = grant-grants fresh context_size a law.0 some_context g.first in
    let sound = grant-sound fresh context_size law.0 some_context in
    let second = grant-grants one size b sound some_name g.second in
    let first_live : 0 < live_bytes one a = let x = first.0.bytes in omega (arith, x, first.1, some_context) in
    let apart : a ≡ b → ⊥ = λ same. let x = ap (λ (n : ℕ). live_bytes one n) same in let y = second.0.fresh in absurd (omega (arith, first_live, x, y)) in
    let shape_one = grant_shape fresh context_size in
    let shape_two = grant_shape one size in
    record {
      sound = grant-sound one size sound some_name;
      named = λ at. elim (cases_eq at b) [
        | inl same ↦
            let own : once_at at b ≡ 1 = ap (λ (n : ℕ). once_at n b) same ∙ once_here b in
            let other = once_there at a (λ e. apart (sym e ∙ same)) in
            let live = live_some two at (let x = ap (λ (n : ℕ). live_bytes two n) same ∙ second.0.bytes in omega (arith, x, second.1, some_name)) in
            omega (arith, own, other, live)
        | inr ne ↦
            let none = once_there at b ne in
            let stays = live_same one two at (second.0.others at ne) in
            elim (cases_eq at a) [
              | inl same ↦
                  let own : once_at at a ≡ 1 = ap (λ (n : ℕ). once_at n a) same ∙ once_here a in
                  let live = live_some one at (let x = ap (λ (n : ℕ). live_bytes one n) same in omega (arith, x, first_live)) in
                  omega (arith, own, none, stays, live)
              | inr too ↦
                  let zero_there = once_there at a too in
                  let free = live_none one at (first.0.others at too ∙ law.1 at) in
                  omega (arith, none, zero_there, stays, free)
            ]
      ];
      context = second.0.others a apart ∙ first.0.bytes ∙ sym (bytes_same one two context_size shape_two ∙ bytes_same fresh one context_size shape_one);
      name = second.0.bytes ∙ sym (bytes_same one two size shape_two);
      nodes = All-nil (HasNode two);
      keys = λ key. omega arith;
    }

pub opened_whole : (rate : ℕ) (name : List ℕ) (bytes : ℕ) → IsName name → IsInLimits (shape_of bytes) → IsWhole (opened_zone rate name bytes)
opened_whole rate name bytes ok limits =
    let g = opens bytes name ok limits in
    subst IsWhole (zone_is rate name bytes g.0 g.1 g.2) (zone_whole rate name bytes g.0 g.1 ok limits g.2)

-- the slab of a fresh zone gives both blocks, and the zone is whole
pub open-law : OpenLaw
open-law rate name bytes fast ok limits =
    let g = opens bytes name ok limits in
    record {
      context = g.2.first ∙ ap (λ (o : Option ℕ). Some (unwrap_or o 0)) (sym g.2.first);
      name_block = g.2.second ∙ ap (λ (o : Option ℕ). Some (unwrap_or o 0)) (sym g.2.second);
      whole = opened_whole rate name bytes ok limits;
      quiet = (bytes, record { rate = fast; name = ok; limits = limits; fresh = refl });
    }

-- ---- two zones that were just opened

opened_shape : (rate : ℕ) (name : List ℕ) (bytes : ℕ) → (opened_zone rate name bytes).slab.shape ≡ shape_of bytes
opened_shape rate name bytes = grant_shape (with_context bytes).1 (name_size name) ∙ grant_shape (fresh_slab (shape_of bytes)) context_size

pub start-law : StartLaw
start-law s t a b rate name shape =
    let mine = ap (λ (z : ReqState). z.slab.shape) a.1.fresh ∙ opened_shape s.rate s.name a.0 in
    let other = ap (λ (z : ReqState). z.slab.shape) b.1.fresh ∙ opened_shape t.rate t.name b.0 in
    let bytes : a.0 ≡ b.0 = ap (λ (h : Shape). h.bytes) (sym mine ∙ shape ∙ other) in
    a.1.fresh
    ∙ ap (λ (r : ℕ). opened_zone r s.name a.0) rate
    ∙ ap (λ (n : List ℕ). opened_zone t.rate n a.0) name
    ∙ ap (λ (n : ℕ). opened_zone t.rate t.name n) bytes
    ∙ sym b.1.fresh
