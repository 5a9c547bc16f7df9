-- Where an entry stands in the table, and what its call makes of a zone.
use Rattle.std.proofs.Common.{ℕ, suc, ◌≡◌, ◌+◌, ◌-◌, ◌<◌, ◌≤◌, Bool, true, false, cond, eqb, not, List, [], ◌∷◌, ◌++◌, find, Option, Some, refl, ap, ◌∙◌, arith}
use Rattle.std.specs.List.{remove, position_or_len}
use Rattle.req_zone.specs.declared.state.ReqEntry.{ReqEntry}
use Rattle.req_zone.specs.declared.state.ReqState.{ReqState}
use Rattle.req_zone.specs.declared.calls.ReqCall.TheVariants.{Check, Account, Release}
use Rattle.req_zone.specs.declared.calls.ReqReply.TheVariants.{Pass, Again, Busy, Accounted}
use Rattle.req_zone.specs.Amount.{amount_of}
use Rattle.req_zone.specs.Table.{has_key, entry_of, others}
use Rattle.req_zone.specs.Step.{stored, with_count, change_at, account_amount}
use Rattle.req_zone.specs.Object.{answer_of, zone_after}
use Rattle.req_zone.specs.Laws.{with_table, IsHeldBy}
use Rattle.req_zone.specs.Proving.Tables.{some_same}
use Rattle.req_zone.specs.Proving.Answers.{busy-law, busy_keeps-law, pass-law, again-law}

-- ---- the entry of a key

-- the entries before that of a key and behind it
pub record Parts (key : List ℕ) (table : List ReqEntry) (entry : ReqEntry) : Type 0 where
  pub newer : List ReqEntry
  pub older : List ReqEntry
  pub table_is : table ≡ newer ++ entry ∷ older
  pub others_is : others key table ≡ newer ++ older

pub parts : (key : List ℕ) (table : List ReqEntry) (e : ReqEntry) → entry_of key table ≡ Some e → Parts key table e
parts key [] e is = absurd (cc)
parts key (x ∷ xs) e is = go (has_key key x) refl is (λ h. parts key xs e h) where
  go : (b : Bool) → has_key key x ≡ b → cond b (Some x) (entry_of key xs) ≡ Some e → (entry_of key xs ≡ Some e → Parts key xs e) → Parts key (x ∷ xs) e
  go true here h rest = record {
    newer = [];
    older = xs;
    table_is = ap (λ (y : ReqEntry). y ∷ xs) (some_same x e h);
    others_is = ap (λ (b : Bool). remove (x ∷ xs) (cond (not b) (1 + position_or_len (has_key key) xs) 0)) here;
  }
  go false here h rest =
      let r = rest h in
      let next : 1 + position_or_len (has_key key) xs ≡ suc (position_or_len (has_key key) xs) = omega arith in
      record {
        newer = x ∷ r.newer;
        older = r.older;
        table_is = ap (λ (ys : List ReqEntry). x ∷ ys) r.table_is;
        others_is = ap (λ (b : Bool). remove (x ∷ xs) (cond (not b) (1 + position_or_len (has_key key) xs) 0)) here
            ∙ ap (λ (k : ℕ). remove (x ∷ xs) k) next ∙ ap (λ (ys : List ReqEntry). x ∷ ys) r.others_is;
      }

-- ---- the entry of a block

-- the entries before the first of a block and behind it, and the table in which it is another
pub record Place (at : ℕ) (table : List ReqEntry) (entry : ReqEntry) : Type 0 where
  pub newer : List ReqEntry
  pub older : List ReqEntry
  pub table_is : table ≡ newer ++ entry ∷ older
  pub changed_is : (f : ReqEntry → ReqEntry) → change_at at f table ≡ newer ++ f entry ∷ older

pub place : (at : ℕ) (table : List ReqEntry) (e : ReqEntry) → find (λ (entry : ReqEntry). eqb entry.block at) table ≡ Some e → Place at table e
place at [] e is = absurd (cc)
place at (x ∷ xs) e is = go (eqb x.block at) refl is (λ h. place at xs e h) where
  go : (b : Bool) → eqb x.block at ≡ b → cond b (Some x) (find (λ (entry : ReqEntry). eqb entry.block at) xs) ≡ Some e → (find (λ (entry : ReqEntry). eqb entry.block at) xs ≡ Some e → Place at xs e) → Place at (x ∷ xs) e
  go true here h rest =
      let same = some_same x e h in
      record {
        newer = [];
        older = xs;
        table_is = ap (λ (y : ReqEntry). y ∷ xs) same;
        changed_is = λ f. ap (λ (b : Bool). cond b (f x ∷ xs) (x ∷ change_at at f xs)) here ∙ ap (λ (y : ReqEntry). f y ∷ xs) same;
      }
  go false here h rest =
      let r = rest h in
      record {
        newer = x ∷ r.newer;
        older = r.older;
        table_is = ap (λ (ys : List ReqEntry). x ∷ ys) r.table_is;
        changed_is = λ f. ap (λ (b : Bool). cond b (f x ∷ xs) (x ∷ change_at at f xs)) here ∙ ap (λ (ys : List ReqEntry). x ∷ ys) (r.changed_is f);
      }

-- what an account makes of the zone
pub accounted : (s : ReqState) (at now : ℕ) (e : ReqEntry) → IsHeldBy s.table at e → (p : Place at s.table e) →
    (answer_of s (Account at now) ≡ Accounted (amount_of s.rate e.excess e.last now)) × (zone_after s (Account at now) ≡ with_table s (p.newer ++ with_count (e.count - 1) (stored (amount_of s.rate e.excess e.last now) now e) ∷ p.older))
accounted s at now e held p =
    let amount : account_amount s.rate now (find (λ (entry : ReqEntry). eqb entry.block at) s.table) ≡ amount_of s.rate e.excess e.last now = ap (λ (o : Option ReqEntry). account_amount s.rate now o) held.found in (
      ap (λ (n : ℕ). Accounted n) amount,
      ap (λ (n : ℕ). with_table s (change_at at (λ (entry : ReqEntry). with_count (entry.count - 1) (stored n now entry)) s.table)) amount
          ∙ ap (λ (table : List ReqEntry). with_table s table) (p.changed_is (λ (entry : ReqEntry). with_count (entry.count - 1) (stored (amount_of s.rate e.excess e.last now) now entry))),
    )

-- what a release makes of the zone
pub released : (s : ReqState) (at : ℕ) (e : ReqEntry) → (p : Place at s.table e) → zone_after s (Release at) ≡ with_table s (p.newer ++ with_count (e.count - 1) e ∷ p.older)
released s at e p = ap (λ (table : List ReqEntry). with_table s table) (p.changed_is (λ (entry : ReqEntry). with_count (entry.count - 1) entry))

-- ---- the check of a key that has an entry

-- the amount is above the burst
pub busy : (s : ReqState) (key : List ℕ) (now burst : ℕ) (last : Bool) (excess : ℕ) (e : ReqEntry) → entry_of key s.table ≡ Some e → burst < excess → excess ≡ amount_of s.rate e.excess e.last now → (p : Parts key s.table e) →
    (answer_of s (Check key now burst last) ≡ Busy excess) × (zone_after s (Check key now burst last) ≡ with_table s (e ∷ p.newer ++ p.older))
busy s key now burst last excess e is more amount p = (
  (busy-law s key now burst last excess).1 (e, record { found = is; above = more; amount = amount }),
  busy_keeps-law s key now burst last excess e (record { found = is; above = more; amount = amount }) ∙ ap (λ (rest : List ReqEntry). with_table s (e ∷ rest)) p.others_is,
)

-- the amount is within the burst, at the last limit of the request
pub passes : (s : ReqState) (key : List ℕ) (now burst excess : ℕ) (last : Bool) (e : ReqEntry) → last ≡ true → entry_of key s.table ≡ Some e → excess ≤ burst → excess ≡ amount_of s.rate e.excess e.last now → (p : Parts key s.table e) →
    (answer_of s (Check key now burst last) ≡ Pass excess) × (zone_after s (Check key now burst last) ≡ with_table s (stored excess now e ∷ p.newer ++ p.older))
passes s key now burst excess true e is_last is less amount p =
    let h = pass-law s key now burst excess e (record { found = is; within = less; amount = amount }) in
    (h.0, h.1 ∙ ap (λ (rest : List ReqEntry). with_table s (stored excess now e ∷ rest)) p.others_is)
passes s key now burst excess false e is_last is less amount p = absurd (cc)

-- and at an earlier one
pub holds : (s : ReqState) (key : List ℕ) (now burst excess : ℕ) (last : Bool) (e : ReqEntry) → last ≡ false → entry_of key s.table ≡ Some e → excess ≤ burst → excess ≡ amount_of s.rate e.excess e.last now → (p : Parts key s.table e) →
    (answer_of s (Check key now burst last) ≡ Again excess e.block) × (zone_after s (Check key now burst last) ≡ with_table s (with_count (e.count + 1) e ∷ p.newer ++ p.older))
holds s key now burst excess true e is_last is less amount p = absurd (cc)
holds s key now burst excess false e is_last is less amount p =
    let h = again-law s key now burst excess e (record { found = is; within = less; amount = amount }) in
    (h.0, h.1 ∙ ap (λ (rest : List ReqEntry). with_table s (with_count (e.count + 1) e ∷ rest)) p.others_is)
