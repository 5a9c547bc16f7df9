-- What a close leaves.
use Rattle.std.proofs.Common.{ℕ, ◌≡◌, ◌≢◌, ◌+◌, ◌-◌, Bool, true, false, cond, eqb, List, [], ◌∷◌, Some, refl, sym, ap, subst, ◌∙◌, arith}
use Rattle.std.proofs.lemmas.Bool.{eqb-true}
use Rattle.slab_model.specs.State.{Slab}
use Rattle.slab_model.specs.Blocks.{live_bytes}
use Rattle.slab_model.specs.Return.{give_back}
use Rattle.slab_model.specs.Store.{slab_store}
use Rattle.slab_model.proofs.BlockLaws.{give_back-returns}
use Rattle.conn_zone.specs.declared.state.ConnEntry.{ConnEntry}
use Rattle.conn_zone.specs.declared.state.ConnState.{ConnState}
use Rattle.conn_zone.specs.declared.calls.ConnReply.{ConnReply}
use Rattle.conn_zone.specs.State.{State}
use Rattle.conn_zone.specs.Table.{has_key, is_at, entry_at, with_count}
use Rattle.conn_zone.specs.Step.{close_as}
use Rattle.conn_zone.specs.Object.{parts_of, with_parts}
use Rattle.conn_zone.specs.Laws.{connections, CloseCountsLaw, nodes_of, Leaves, LastCloseLaw, OtherCloseLaw}
use Rattle.conn_zone.specs.Proving.Tables.{found_passes, replaced_sum, sum_one, same_key, same_block}
use Rattle.conn_zone.specs.Proving.Wholes.{left_by, entry_live}
use Rattle.conn_zone.specs.Proving.CallEffects.{left_as}
use Rattle.conn_zone.proofs.Weights.{own_weight, own_key, one_less, the_last, taken_out, others_stay, same_nodes}

-- what a close comes to
abbrev came_to : ConnState → ℕ → ConnReply × State Slab
came_to s at = close_as slab_store at (parts_of s) (entry_at at s.table)

closes : (s : ConnState) (at : ℕ) (e : ConnEntry) (last : Bool) → entry_at at s.table ≡ Some e → eqb (e.count - 1) 0 ≡ last → came_to s at ≡ left_as s at e (e.count - 1) last
closes s at e last found is = ap (close_as slab_store at (parts_of s)) found ∙ ap (left_as s at e (e.count - 1)) is

is_last : (e : ConnEntry) → e.count ≡ 1 → eqb (e.count - 1) 0 ≡ true
is_last e one = ap (λ (n : ℕ). eqb (n - 1) 0) one

-- ---- what it counts

abbrev Counts : ConnState → List ℕ → ConnEntry → ConnReply × State Slab → Type 0
Counts s other e r = connections other r.1.table + cond (has_key other e) 1 0 ≡ connections other s.table

pub close_counts-law : CloseCountsLaw
close_counts-law s at e other found some = go (eqb (e.count - 1) 0) refl where
  go : (last : Bool) → eqb (e.count - 1) 0 ≡ last → Counts s other e (came_to s at)
  go true is =
      let none = eqb-true (e.count - 1) 0 is in
      let sums = replaced_sum (own_weight other) (is_at at) [] s.table e found in
      let nothing : connections other [] ≡ 0 = refl in
      let one = the_last other e (omega (arith, none, some)) in
      subst (Counts s other e) (sym (closes s at e true found is)) (omega (arith, sums, nothing, one))
  go false is =
      let new = with_count (e.count - 1) e in
      let sums = replaced_sum (own_weight other) (is_at at) (new ∷ []) s.table e found in
      let one = sum_one (own_weight other) new in
      let less = one_less other e some in
      subst (Counts s other e) (sym (closes s at e false found is)) (omega (arith, sums, one, less))

-- ---- which entries it leaves

pub last_close-law : LastCloseLaw
last_close-law s at e whole found one =
    let own : e.block ≡ at = same_block at e (found_passes (is_at at) s.table e found) in
    let returned = give_back-returns s.slab at whole.sound (entry_live s at e whole found) in
    let left : Leaves s e (left_by s at) = record {
      gone = taken_out (has_key e.key) (is_at at) s.table e found (own_key e.key) (whole.keys e.key);
      others = λ key ne. others_stay key (is_at at) s.table e found (is_other key ne (has_key key e) refl);
      slab = ap (give_back s.slab) (sym own);
      freed = ap (live_bytes (give_back s.slab at)) own ∙ returned.gone;
    } in
    subst (λ (r : ConnReply × State Slab). Leaves s e (with_parts s r.1)) (sym (closes s at e true found (is_last e one))) left
  where
    is_other : (key : List ℕ) → key ≢ e.key → (b : Bool) → has_key key e ≡ b → has_key key e ≡ false
    is_other key ne true is = absurd (ne (same_key key e.key is))
    is_other key ne false is = is

abbrev Stays : ConnState → ConnReply × State Slab → Type 0
Stays s r = (nodes_of r.1.table ≡ nodes_of s.table) × (r.1.memory ≡ s.slab)

pub other_close-law : OtherCloseLaw
other_close-law s at e found many = go (eqb (e.count - 1) 0) refl where
  go : (last : Bool) → eqb (e.count - 1) 0 ≡ last → Stays s (came_to s at)
  go true is = absurd (let none = eqb-true (e.count - 1) 0 is in omega (arith, none, many))
  go false is = subst (Stays s) (sym (closes s at e false found is)) (same_nodes (is_at at) (e.count - 1) s.table e found, refl)
