-- A zone that was just opened.
use Rattle.std.proofs.Common.{ℕ, ◌≡◌, ◌≢◌, List, [], Option, Some, refl, sym, ap, subst, ◌∙◌, arith}
use Rattle.std.specs.Prelude.{unwrap_or}
use Rattle.std.proofs.lemmas.List.Elements.{All-nil}
use Rattle.slab_model.specs.declared.shape.Shape.{Shape}
use Rattle.slab_model.specs.Geometry.{IsInLimits, shape_of}
use Rattle.slab_model.specs.State.{fresh_slab}
use Rattle.slab_model.specs.Blocks.{live_bytes}
use Rattle.slab_model.proofs.Laws.{grant-sound}
use Rattle.slab_model.proofs.BlockLaws.{fresh-law, grant-grants}
use Rattle.slab_model.proofs.SmallGrants.{given_small, pages_two, fresh_free}
use Rattle.slab_model.proofs.ShapeLemmas.{grant_shape, bytes_same}
use Rattle.slab_model.proofs.LiveLemmas.{live_none, granted_live}
use Rattle.conn_zone.specs.declared.state.ConnState.{ConnState}
use Rattle.conn_zone.specs.Object.{once_at, context_size, name_size, with_context, with_name, opened_zone, IsName, IsOpened, IsOpenedAs}
use Rattle.conn_zone.specs.Holding.{nodes_at, HasNode, IsWhole}
use Rattle.conn_zone.specs.Laws.{OpenLaw}

-- ---- the two grants of an opening

-- the blocks of the context and of the name
record Opens (name : List ℕ) (bytes context at : ℕ) : Type 0 where
  context_block : (with_context bytes).0 ≡ Some context
  name_block : (with_name bytes name).0 ≡ Some at

opens : (name : List ℕ) (bytes : ℕ) → IsName name → IsInLimits (shape_of bytes) → (context : ℕ) × (at : ℕ) × Opens name bytes context at
opens name bytes short limits =
    let two = pages_two bytes limits in
    let all = fresh_free bytes in
    let first = given_small (fresh_slab (shape_of bytes)) context_size (omega arith) (omega (arith, two, all)) in
    let free = first.free in
    let second = given_small (with_context bytes).1 (name_size name) (omega (arith, short.1)) (omega (arith, two, all, free)) in
    (first.at, second.at, record { context_block = first.block; name_block = second.block })

opened_parts : (name : List ℕ) (bytes context at : ℕ) → IsInLimits (shape_of bytes) → Opens name bytes context at → IsWhole (opened_zone name bytes)
opened_parts name bytes context at limits o =
    let fresh = fresh_slab (shape_of bytes) in
    let one = (with_context bytes).1 in
    let two = (with_name bytes name).1 in
    let start = fresh-law (shape_of bytes) limits in
    let sound = grant-sound fresh context_size start.0 (omega arith) in
    let first = grant-grants fresh context_size context start.0 (omega arith) o.context_block in
    let second = grant-grants one (name_size name) at sound (omega arith) o.name_block in
    let context_is : unwrap_or (with_context bytes).0 0 ≡ context = ap (λ (b : Option ℕ). unwrap_or b 0) o.context_block in
    let name_is : unwrap_or (with_name bytes name).0 0 ≡ at = ap (λ (b : Option ℕ). unwrap_or b 0) o.name_block in
    let shape_one = grant_shape fresh context_size in
    let shape_two = grant_shape one (name_size name) in
    let apart : context ≢ at = λ same. absurd (let b = ap (λ (n : ℕ). live_bytes one n) same ∙ second.0.fresh in omega (arith, b, first.0.bytes, first.1)) in
    record {
      sound = grant-sound one (name_size name) sound (omega arith);
      named = λ other.
          let was = live_none fresh other (start.1 other) in
          let live_one = granted_live fresh context_size context start.0 (omega arith) o.context_block other in
          let live_two = granted_live one (name_size name) at sound (omega arith) o.name_block other in
          let c = ap (λ (n : ℕ). once_at other n) context_is in
          let n = ap (λ (n : ℕ). once_at other n) name_is in
          let nothing : nodes_at other [] ≡ 0 = refl in
          omega (arith, was, live_one, live_two, c, n, nothing);
      context = ap (λ (n : ℕ). live_bytes two n) context_is ∙ second.0.others context apart ∙ first.0.bytes ∙ sym (bytes_same fresh two context_size (shape_two ∙ shape_one));
      name = ap (λ (n : ℕ). live_bytes two n) name_is ∙ second.0.bytes ∙ sym (bytes_same one two (name_size name) shape_two);
      nodes = All-nil (HasNode two);
      keys = λ key. omega arith;
    }

pub opened_whole : (s : ConnState) → IsOpened s → IsWhole s
opened_whole s (bytes, o) =
    let blocks = opens s.name bytes o.name o.limits in
    subst (λ (z : ConnState). IsWhole z) (sym o.fresh) (opened_parts s.name bytes blocks.0 blocks.1 o.limits blocks.2)

pub opened_empty : (s : ConnState) → IsOpened s → s.table ≡ []
opened_empty s (bytes, o) = ap (λ (z : ConnState). z.table) o.fresh

pub open-law : OpenLaw
open-law name bytes short limits =
    let blocks = opens name bytes short limits in
    record {
      context = blocks.2.context_block ∙ ap (λ (b : Option ℕ). Some (unwrap_or b 0)) (sym blocks.2.context_block);
      name_block = blocks.2.name_block ∙ ap (λ (b : Option ℕ). Some (unwrap_or b 0)) (sym blocks.2.name_block);
      whole = opened_parts name bytes blocks.0 blocks.1 limits blocks.2;
      quiet = (bytes, record { name = short; limits = limits; fresh = refl });
    }

-- ---- where it begins

opened_shape : (s : ConnState) (bytes : ℕ) → IsOpenedAs s bytes → s.slab.shape ≡ shape_of bytes
opened_shape s bytes o = ap (λ (z : ConnState). z.slab.shape) o.fresh ∙ grant_shape (with_context bytes).1 (name_size s.name) ∙ grant_shape (fresh_slab (shape_of bytes)) context_size

pub opened_same : (s t : ConnState) → IsOpened s → IsOpened t → s.name ≡ t.name → s.slab.shape ≡ t.slab.shape → s ≡ t
opened_same s t (b, o) (c, p) names shapes =
    let bytes : b ≡ c = ap (λ (shape : Shape). shape.bytes) (sym (opened_shape s b o) ∙ shapes ∙ opened_shape t c p) in
    o.fresh ∙ ap (λ (n : List ℕ). opened_zone n b) names ∙ ap (λ (n : ℕ). opened_zone t.name n) bytes ∙ sym p.fresh
