-- What a share has is what its active requests hold, and each of its calls is permitted.
use Rattle.std.proofs.Common.{◌≡◌, ℕ, ◌+◌, ◌≤◌, Bool, true, false, nat_eq, if◌then◌else◌, List, [], ◌∷◌, ◌++◌, length, All, Option, Some, None, refl, sym, ap, ◌∙◌, subst, append_assoc, arith}
use Rattle.std.proofs.lemmas.List.{append-nil}
use Rattle.std.proofs.lemmas.List.Elements.{All-head, All-tail}
use Rattle.std.proofs.lemmas.Bool.{eqb-true}
use Rattle.zone_config.specs.declared.data.Config.{Config}
use Rattle.zone_config.specs.Conditions.{IsConfig}
use Rattle.replay_log.specs.declared.line.Line.{Line}
use Rattle.replay_log.specs.Limits.{IsLineOf}
use Rattle.request_script.specs.declared.active.Active.{Active}
use Rattle.request_script.specs.declared.decision.Decision.{Decision}
use Rattle.request_script.specs.Turn.{Exchange}
use Rattle.request_script.specs.Turn.Turn.{asks, decides}
use Rattle.request_script.specs.RequestSteps.{turn_of}
use Rattle.request_script.specs.Drive.{Table, with_active, nothing_active, Drives}
use Rattle.request_script.specs.Drive.Drives.{at_end, line}
use Rattle.request_script.specs.Laws.{PermitsLaw}
use Rattle.request_script.proofs.Totals.{total-append}
use Rattle.request_script.proofs.Held.{Thing, Has, times, once, has-fewer}
use Rattle.request_script.proofs.Permitting.{Runs, runs-leads}
use Rattle.request_script.proofs.PermittedTurns.{things_of, IsServed, Leaves, turn-run}

-- ---- the active requests that stand, each with its connection

pub record Standing : Type 0 where
  pub conn : ℕ
  pub active : Active

-- the active request of a connection
abbrev of_conn : ℕ → List Standing → Option Active
of_conn conn [] = None
of_conn conn (s ∷ ss) = if nat_eq s.conn conn then Some s.active else of_conn conn ss

-- those of other connections
abbrev without : ℕ → List Standing → List Standing
without conn [] = []
without conn (s ∷ ss) = if nat_eq s.conn conn then without conn ss else s ∷ without conn ss

-- with an active request, or none, for a connection
abbrev with_other : ℕ → Option Active → List Standing → List Standing
with_other conn None ss = without conn ss
with_other conn (Some active) ss = record { conn = conn; active = active } ∷ without conn ss

-- what they hold together
abbrev held_by : List Standing → List Thing
held_by [] = []
held_by (s ∷ ss) = things_of (Some s.active) ++ held_by ss

-- the request of a connection and those of the others hold no more than all
split-held : (t : Thing) (conn : ℕ) (ss : List Standing) → times t (things_of (of_conn conn ss)) + times t (held_by (without conn ss)) ≤ times t (held_by ss)
split-held t conn [] = omega arith
split-held t conn (s ∷ ss) = go (split-held t conn ss) (nat_eq s.conn conn) where
  go : times t (things_of (of_conn conn ss)) + times t (held_by (without conn ss)) ≤ times t (held_by ss) → (b : Bool)
      → times t (things_of (if b then Some s.active else of_conn conn ss)) + times t (held_by (if b then without conn ss else s ∷ without conn ss)) ≤ times t (held_by (s ∷ ss))
  go later true = let all = total-append (once t) (things_of (Some s.active)) (held_by ss) in omega (arith, later, all)
  go later false =
      let all = total-append (once t) (things_of (Some s.active)) (held_by ss) in let rest = total-append (once t) (things_of (Some s.active)) (held_by (without conn ss)) in
      omega (arith, later, all, rest)

-- other connections keep their requests
without-other : (conn other : ℕ) → nat_eq conn other ≡ false → (ss : List Standing) → of_conn other (without conn ss) ≡ of_conn other ss
without-other conn other apart [] = refl
without-other conn other apart (s ∷ ss) = go (without-other conn other apart ss) (nat_eq s.conn conn) refl where
  go : of_conn other (without conn ss) ≡ of_conn other ss → (b : Bool) → nat_eq s.conn conn ≡ b
      → of_conn other (if b then without conn ss else s ∷ without conn ss) ≡ of_conn other (s ∷ ss)
  go later true is =
      let own : nat_eq s.conn other ≡ false = ap (λ (c : ℕ). nat_eq c other) (eqb-true s.conn conn is) ∙ apart in
      later ∙ sym (ap (λ (b : Bool). if b then Some s.active else of_conn other ss) own)
  go later false is = ap (λ (o : Option Active). if nat_eq s.conn other then Some s.active else o) later

-- none stands of the connection itself
without-own : (conn : ℕ) (ss : List Standing) → of_conn conn (without conn ss) ≡ None
without-own conn [] = refl
without-own conn (s ∷ ss) = go (without-own conn ss) (nat_eq s.conn conn) refl where
  go : of_conn conn (without conn ss) ≡ None → (b : Bool) → nat_eq s.conn conn ≡ b → of_conn conn (if b then without conn ss else s ∷ without conn ss) ≡ None
  go later true is = later
  go later false is = ap (λ (b : Bool). if b then Some s.active else of_conn conn (without conn ss)) is ∙ later

-- ---- the table of a share after its exchanges

-- The active requests of a table are finitely many, and what they hold together was given to the share and not given back.
pub record IsHeld (table : Table) (past : List Exchange) : Type 0 where
  pub standing : List Standing
  pub are : (conn : ℕ) → table conn ≡ of_conn conn standing
  pub has : Has past (held_by standing)
  pub served : (conn : ℕ) → IsServed (table conn)

held-nothing : IsHeld nothing_active []
held-nothing = record { standing = []; are = λ conn. refl; has = λ t. omega arith; served = λ conn. tt }

-- the request of a connection, beside what the others hold
held-here : (table : Table) (past : List Exchange) (held : IsHeld table past) (conn : ℕ) → Has past (things_of (table conn) ++ held_by (without conn held.standing))
held-here table past held conn =
    has-fewer past (held_by held.standing) (things_of (table conn) ++ held_by (without conn held.standing)) (λ t.
    let own = ap (λ (active : Option Active). times t (things_of active)) (held.are conn) in
    let both = split-held t conn held.standing in let all = total-append (once t) (things_of (table conn)) (held_by (without conn held.standing)) in
    omega (arith, own, both, all)) held.has

module _ (table : Table) (conn : ℕ) (ss : List Standing) (are : (other : ℕ) → table other ≡ of_conn other ss) where
  -- another active request, or none, for a connection
  with-are : (active : Option Active) (other : ℕ) → with_active table conn active other ≡ of_conn other (with_other conn active ss)
  with-are active other = go active (nat_eq conn other) refl where
    go : (active : Option Active) (b : Bool) → nat_eq conn other ≡ b → (if b then active else table other) ≡ of_conn other (with_other conn active ss)
    go None true is = sym (ap (λ (c : ℕ). of_conn c (without conn ss)) (sym (eqb-true conn other is)) ∙ without-own conn ss)
    go None false is = are other ∙ sym (without-other conn other is ss)
    go (Some active) true is = sym (ap (λ (b : Bool). if b then Some active else of_conn other (without conn ss)) is)
    go (Some active) false is = are other ∙ sym (without-other conn other is ss) ∙ sym (ap (λ (b : Bool). if b then Some active else of_conn other (without conn ss)) is)

  with-has : (past : List Exchange) (active : Option Active) → Has past (things_of active ++ held_by (without conn ss)) → Has past (held_by (with_other conn active ss))
  with-has past None has = has
  with-has past (Some active) has = has

with-served : (table : Table) (conn : ℕ) (active : Option Active) → ((other : ℕ) → IsServed (table other)) → IsServed active → (other : ℕ) → IsServed (with_active table conn active other)
with-served table conn active each own other = go (nat_eq conn other) where
  go : (b : Bool) → IsServed (if b then active else table other)
  go true = own
  go false = each other

module _ (config : Config) (is : IsConfig config) where
  -- the turn of a line of a share
  turn-permitted : (table : Table) (past : List Exchange) (held : IsHeld table past) (one : Line) → IsLineOf (length config.locations) one
      → Runs (Leaves (held_by (without one.conn held.standing))) past (turn_of config (table one.conn) one)
  turn-permitted table past held one of =
      turn-run config (held_by (without one.conn held.standing)) is (table one.conn) one of.moment (held.served one.conn) past (held-here table past held one.conn)

  -- the lines of a share
  drives-held : (table : Table) (lines : List Line) (asked : List Exchange) (decisions : List Decision) (last : Table) → Drives config table lines asked decisions last
      → All (IsLineOf (length config.locations)) lines → (past : List Exchange) → IsHeld table past → IsHeld last (past ++ asked)
  drives-held _ _ _ _ _ (at_end table) of past held = subst (λ l. IsHeld table l) (sym (append-nil past)) held
  drives-held _ _ _ _ _ (line table one lines asked more decision active decisions last leads drives) of past held =
      let rest = held_by (without one.conn held.standing) in
      let own = All-head (IsLineOf (length config.locations)) one lines of in
      let left : Leaves rest (past ++ asked) active = runs-leads (Leaves rest) (turn_of config (table one.conn) one) past asked (decides decision active) (turn-permitted table past held one own) leads in
      let after : IsHeld (with_active table one.conn active) (past ++ asked) = record {
        standing = with_other one.conn active held.standing;
        are = with-are table one.conn held.standing held.are active;
        has = with-has table one.conn held.standing held.are (past ++ asked) active left.0;
        served = with-served table one.conn active held.served left.1;
      } in
      subst (λ l. IsHeld last l) (append_assoc past asked more)
      (drives-held (with_active table one.conn active) lines more decisions last drives (All-tail (IsLineOf (length config.locations)) one lines of) (past ++ asked) after)

pub permits-law : PermitsLaw
permits-law config lines one asked decisions table is drives of own since call next leads =
    let held = drives-held config is nothing_active lines asked decisions table drives of [] held-nothing in
    (runs-leads (Leaves (held_by (without one.conn held.standing))) (turn_of config (table one.conn) one) asked since (asks call next) (turn-permitted config is table asked held one own) leads).0
