-- What a call answers and changes, by what is found.
use Rattle.std.proofs.Common.{ℕ, ◌≡◌, ◌≢◌, ◌⊎◌, ◌+◌, ◌-◌, ◌<◌, ◌≤◌, zero, suc, Bool, true, false, cond, leb, eqb, List, [], ◌∷◌, ◌++◌, length, Option, Some, None, refl, sym, ap, subst, ◌∙◌, inl, inr, arith}
use Rattle.std.specs.Prelude.{find}
use Rattle.std.proofs.lemmas.Bool.{cases_eq, eq-eqb, ne_eqb}
use Rattle.std.proofs.lemmas.Grind.{common_steps}
use Rattle.zone_region.specs.Members.{In, IsDistinct}
use Rattle.zone_region.proofs.MembersLemmas.{In-split, In-more, IsDistinct-split}
use Rattle.std.proofs.lemmas.List.{length-append}
use Rattle.slab_model.specs.Store.{slab_store}
use Rattle.slab_model.specs.Grant.{grant}
use Rattle.slab_model.specs.Return.{give_back}
use Rattle.slab_model.specs.State.{Slab}
use Rattle.conn_zone.specs.declared.state.ConnEntry.{ConnEntry}
use Rattle.conn_zone.specs.declared.state.ConnState.{ConnState}
use Rattle.conn_zone.specs.declared.calls.ConnCall.{ConnCall}
use Rattle.conn_zone.specs.declared.calls.ConnCall.TheVariants.{Open, Close}
use Rattle.conn_zone.specs.declared.calls.ConnReply.{ConnReply}
use Rattle.conn_zone.specs.declared.calls.ConnReply.TheVariants.{Opened, AtLimit, Closed}
use Rattle.conn_zone.specs.Table.{has_key, is_at, entry_of, entry_at, with_count, replace_first}
use Rattle.conn_zone.specs.State.{State}
use Rattle.conn_zone.specs.Step.{node_size, step, open_as, open_found, open_missing, close_as, close_to, after_grant}
use Rattle.conn_zone.specs.Object.{parts_of, with_parts, answer_of, zone_after}
use Rattle.conn_zone.specs.Changes.{IsFound, recounted, with_missing, without_entry}

-- ---- an open of a key that is there

found_step : (s : ConnState) (key : List ℕ) (limit : ℕ) (e : ConnEntry) → entry_of key s.table ≡ Some e → step slab_store (parts_of s) (Open key limit) ≡ open_found key limit (parts_of s) e
found_step s key limit e found = ap (λ (o : Option ConnEntry). open_as slab_store key limit (parts_of s) o) found

low_limit : (limit count : ℕ) → limit ≤ count → leb limit count ≡ true
low_limit limit count low = grind (arith, common_steps)

high_limit : (limit count : ℕ) → count < limit → leb limit count ≡ false
high_limit limit count high = grind (arith, common_steps)

pub record IsAnswer (s : ConnState) (call : ConnCall) (reply : ConnReply) (after : ConnState) : Type 0 where
  pub reply_is : reply ≡ answer_of s call
  pub after_is : after ≡ zone_after s call

answered : (s : ConnState) (call : ConnCall) (reply : ConnReply) (parts : State Slab) → step slab_store (parts_of s) call ≡ (reply, parts) → IsAnswer s call reply (with_parts s parts)
answered s call reply parts is = record { reply_is = sym (ap (λ (r : ConnReply × State Slab). r.0) is); after_is = sym (ap (λ (r : ConnReply × State Slab). with_parts s r.1) is) }

pub at_limit : (s : ConnState) (key : List ℕ) (limit at count : ℕ) (e : ConnEntry) → IsFound s key at e → count ≡ e.count → limit ≤ count → IsAnswer s (Open key limit) (AtLimit count) s
at_limit s key limit at count e found is low =
    let test : leb limit e.count ≡ true = low_limit limit e.count (omega (arith, low, is)) in
    let branch : open_found key limit (parts_of s) e ≡ (AtLimit e.count, parts_of s) = ap (λ (b : Bool). let r : ConnReply × State Slab = cond b (AtLimit e.count, parts_of s) (Opened e.block (e.count + 1), record { table = replace_first (has_key key) (with_count (e.count + 1) e ∷ []) s.table; memory = s.slab }) in r) test in
    let reply = ap (λ (n : ℕ). let r : ConnReply × State Slab = (AtLimit n, parts_of s) in r) (sym is) in
    answered s (Open key limit) (AtLimit count) (parts_of s) (found_step s key limit e found.by_key ∙ branch ∙ reply)

pub below_limit : (s : ConnState) (key : List ℕ) (limit at count : ℕ) (e : ConnEntry) → IsFound s key at e → count ≡ e.count → count < limit → IsAnswer s (Open key limit) (Opened at (count + 1)) (recounted s (has_key key) (count + 1) e)
below_limit s key limit at count e found is high =
    let test : leb limit e.count ≡ false = high_limit limit e.count (omega (arith, high, is)) in
    let branch : open_found key limit (parts_of s) e ≡ (Opened e.block (e.count + 1), record { table = replace_first (has_key key) (with_count (e.count + 1) e ∷ []) s.table; memory = s.slab }) = ap (λ (b : Bool). let r : ConnReply × State Slab = cond b (AtLimit e.count, parts_of s) (Opened e.block (e.count + 1), record { table = replace_first (has_key key) (with_count (e.count + 1) e ∷ []) s.table; memory = s.slab }) in r) test in
    let block = ap (λ (b : ℕ). let r : ConnReply × State Slab = (Opened b (e.count + 1), record { table = replace_first (has_key key) (with_count (e.count + 1) e ∷ []) s.table; memory = s.slab }) in r) found.at_block in
    let counted = ap (λ (n : ℕ). let r : ConnReply × State Slab = (Opened at (n + 1), record { table = replace_first (has_key key) (with_count (n + 1) e ∷ []) s.table; memory = s.slab }) in r) (sym is) in
    answered s (Open key limit) (Opened at (count + 1)) (record { table = replace_first (has_key key) (with_count (count + 1) e ∷ []) s.table; memory = s.slab }) (found_step s key limit e found.by_key ∙ branch ∙ block ∙ counted)

-- ---- an open of a key that is missing

missing_step : (s : ConnState) (key : List ℕ) (limit : ℕ) → entry_of key s.table ≡ None → step slab_store (parts_of s) (Open key limit) ≡ open_missing slab_store key (parts_of s)
missing_step s key limit none = ap (λ (o : Option ConnEntry). open_as slab_store key limit (parts_of s) o) none

-- what the call answers where its node is this block, or none
abbrev pub reply_with : List ℕ → ConnState → Option ℕ → ConnReply
reply_with key s block = (after_grant key s.table block (grant s.slab (node_size + length key)).1).0

pub missing_answer : (s : ConnState) (key : List ℕ) (limit : ℕ) (block : Option ℕ) → entry_of key s.table ≡ None → block ≡ (grant s.slab (node_size + length key)).0 → IsAnswer s (Open key limit) (reply_with key s block) (with_missing s key)
missing_answer s key limit block none given =
    let whole = missing_step s key limit none in
    record {
      reply_is = ap (λ (b : Option ℕ). reply_with key s b) given ∙ sym (ap (λ (r : ConnReply × State Slab). r.0) whole);
      after_is = sym (ap (λ (r : ConnReply × State Slab). with_parts s r.1) whole);
    }

-- how many entries there are then
pub missing_length : (s : ConnState) (key : List ℕ) (at : ℕ) → Some at ≡ (grant s.slab (node_size + length key)).0 → length (with_missing s key).table ≡ length s.table + 1
missing_length s key at given = ap (λ (b : Option ℕ). length (after_grant key s.table b (grant s.slab (node_size + length key)).1).1.table) (sym given) ∙ omega arith

pub refused_length : (s : ConnState) (key : List ℕ) → None ≡ (grant s.slab (node_size + length key)).0 → length (with_missing s key).table ≡ length s.table
refused_length s key given = ap (λ (b : Option ℕ). length (after_grant key s.table b (grant s.slab (node_size + length key)).1).1.table) (sym given)

-- ---- a close

closed_step : (s : ConnState) (at : ℕ) (e : ConnEntry) → entry_at at s.table ≡ Some e → step slab_store (parts_of s) (Close at) ≡ close_to slab_store at (e.count - 1) e (parts_of s)
closed_step s at e found = ap (λ (o : Option ConnEntry). close_as slab_store at (parts_of s) o) found

pub last_closed : (s : ConnState) (at left : ℕ) (e : ConnEntry) → entry_at at s.table ≡ Some e → left ≡ e.count - 1 → left ≡ 0 → IsAnswer s (Close at) (Closed left) (without_entry s at)
last_closed s at left e found is none =
    let counted = ap (λ (n : ℕ). close_to slab_store at n e (parts_of s)) (sym is) in
    let test : eqb left 0 ≡ true = eq-eqb left 0 none in
    let branch = ap (λ (b : Bool). let r : ConnReply × State Slab = (Closed left, cond b (record { table = replace_first (is_at at) [] s.table; memory = give_back s.slab at }) (record { table = replace_first (is_at at) (with_count left e ∷ []) s.table; memory = s.slab })) in r) test in
    answered s (Close at) (Closed left) (record { table = replace_first (is_at at) [] s.table; memory = give_back s.slab at }) (closed_step s at e found ∙ counted ∙ branch)

pub other_closed : (s : ConnState) (at left : ℕ) (e : ConnEntry) → entry_at at s.table ≡ Some e → left ≡ e.count - 1 → left ≢ 0 → IsAnswer s (Close at) (Closed left) (recounted s (is_at at) left e)
other_closed s at left e found is some =
    let counted = ap (λ (n : ℕ). close_to slab_store at n e (parts_of s)) (sym is) in
    let test : eqb left 0 ≡ false = ne_eqb left 0 some in
    let branch = ap (λ (b : Bool). let r : ConnReply × State Slab = (Closed left, cond b (record { table = replace_first (is_at at) [] s.table; memory = give_back s.slab at }) (record { table = replace_first (is_at at) (with_count left e ∷ []) s.table; memory = s.slab })) in r) test in
    answered s (Close at) (Closed left) (record { table = replace_first (is_at at) (with_count left e ∷ []) s.table; memory = s.slab }) (closed_step s at e found ∙ counted ∙ branch)

-- ---- how many entries there are

-- one in the place of one
pub same_count : (test : ConnEntry → Bool) (new : ConnEntry) (table : List ConnEntry) (e : ConnEntry) → find test table ≡ Some e → length (replace_first test (new ∷ []) table) ≡ length table
same_count test new [] e found = absurd (cc)
same_count test new (x ∷ xs) e found = go (same_count test new xs e) (test x) found where
  go : (find test xs ≡ Some e → length (replace_first test (new ∷ []) xs) ≡ length xs) → (b : Bool) → cond b (Some x) (find test xs) ≡ Some e → length (cond b (new ∷ xs) (x ∷ replace_first test (new ∷ []) xs)) ≡ length (x ∷ xs)
  go later true f = refl
  go later false f = ap (λ (n : ℕ). suc n) (later f)

-- none in the place of one
pub one_fewer : (test : ConnEntry → Bool) (table : List ConnEntry) (e : ConnEntry) → find test table ≡ Some e → length (replace_first test [] table) + 1 ≡ length table
one_fewer test [] e found = absurd (cc)
one_fewer test (x ∷ xs) e found = go (one_fewer test xs e) (test x) found where
  go : (find test xs ≡ Some e → length (replace_first test [] xs) + 1 ≡ length xs) → (b : Bool) → cond b (Some x) (find test xs) ≡ Some e → length (cond b xs (x ∷ replace_first test [] xs)) + 1 ≡ length (x ∷ xs)
  go later true f = omega arith
  go later false f = let rest = later f in omega (arith, rest)

-- distinct numbers below `n` are at most `n`
is_in : (a : ℕ) (xs : List ℕ) → In a xs ⊎ (In a xs → ⊥)
is_in a [] = inr (λ h. h)
is_in a (x ∷ xs) = elim (cases_eq a x) [
  | inl e ↦ inl (inl e)
  | inr ne ↦ elim (is_in a xs) [ inl i ↦ inl (inr i) | inr out ↦ inr (λ h. elim h [ inl e ↦ ne e | inr i ↦ out i ]) ]
]

pub few_below : (n : ℕ) (xs : List ℕ) → IsDistinct xs → ((x : ℕ) → In x xs → x < n) → length xs ≤ n
few_below zero [] distinct below = omega arith
few_below zero (x ∷ xs) distinct below = absurd (omega (arith, below x (inl refl)))
few_below (suc n) xs distinct below = elim (is_in n xs) [
  | inl i ↦
      let s = In-split n xs i in
      let d = IsDistinct-split s.0 n s.1 (subst (λ (ys : List ℕ). IsDistinct ys) s.2 distinct) in
      let fewer = few_below n (s.0 ++ s.1) d.0 (λ x j.
      let there : In x xs = subst (λ (ys : List ℕ). In x ys) (sym s.2) (In-more x s.0 n s.1 j) in
      let low = below x there in
      let other : x ≢ n = λ e. d.1 (subst (λ (y : ℕ). In y (s.0 ++ s.1)) e j) in
      omega (arith, low, other)) in
      omega (arith, fewer, ap (λ (ys : List ℕ). length ys) s.2, length-append s.0 s.1, length-append s.0 (n ∷ s.1))
  | inr out ↦ let fewer = few_below n xs distinct (λ x j. let low = below x j in let other : x ≢ n = λ e. out (subst (λ (y : ℕ). In y xs) e j) in omega (arith, low, other)) in omega (arith, fewer)
]
