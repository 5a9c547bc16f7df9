-- What a script's word tells of the turn behind it, for those who drive one.
use Rattle.std.proofs.Common.{◌≡◌, false, true, refl}
use Rattle.request_script.specs.declared.active.Active.{Active}
use Rattle.request_script.specs.declared.call.ZoneCall.{ZoneCall}
use Rattle.request_script.specs.declared.call.ZoneReply.{ZoneReply}
use Rattle.request_script.specs.declared.decision.Decision.{Decision}
use Rattle.request_script.specs.declared.script.Next.{Next}
use Rattle.request_script.specs.declared.script.Next.TheVariants.{Ask, Told}
use Rattle.std.specs.Prelude.{ℕ, Option}
use Rattle.request_script.specs.Drive.{with_active}
use Rattle.request_script.specs.Script.{Stage, ScriptState, Comes, MayAnswer, MayBegin, arrives, next_of}
use Rattle.request_script.specs.Script.Stage.{between, spent, waits}
use Rattle.request_script.specs.Turn.{Turn}
use Rattle.request_script.specs.Turn.Turn.{asks, decides}

-- a call is asked: the script waits for its reply
pub record HasAsked (old new : ScriptState) (conn : ℕ) (turn : Turn) (call : ZoneCall) : Type 0 where
  pub next : ZoneReply → Turn
  pub came : turn ≡ asks call next
  pub state : new ≡ record { config = old.config; table = old.table; stage = waits conn next }

-- the line is decided: the script is between lines
pub record HasTold (old new : ScriptState) (conn : ℕ) (turn : Turn) (decision : Decision) : Type 0 where
  pub active : Option Active
  pub came : turn ≡ decides decision active
  pub state : new ≡ record { config = old.config; table = with_active old.table conn active; stage = between }

asked-by : (turn : Turn) (old new : ScriptState) (conn : ℕ) (call : ZoneCall) → Ask call ≡ next_of turn → new ≡ arrives old.config old.table conn turn → HasAsked old new conn turn call
asked-by (asks other next) old new conn call says state = record { next = next; came = cc; state = state }
asked-by (decides decision active) old new conn call says state = absurd cc

told-by : (turn : Turn) (old new : ScriptState) (conn : ℕ) (decision : Decision) → Told decision ≡ next_of turn → new ≡ arrives old.config old.table conn turn → HasTold old new conn turn decision
told-by (asks call next) old new conn decision says state = absurd cc
told-by (decides other active) old new conn decision says state = record { active = active; came = cc; state = state }

pub Comes-ask : (old new : ScriptState) (conn : ℕ) (turn : Turn) (call : ZoneCall) → Comes old new conn turn (Ask call) → HasAsked old new conn turn call
Comes-ask old new conn turn call comes = asked-by turn old new conn call comes.says comes.state

pub Comes-told : (old new : ScriptState) (conn : ℕ) (turn : Turn) (decision : Decision) → Comes old new conn turn (Told decision) → HasTold old new conn turn decision
Comes-told old new conn turn decision comes = told-by turn old new conn decision comes.says comes.state

-- a script that has asked takes a reply
pub Comes-may_answer : (old new : ScriptState) (conn : ℕ) (turn : Turn) (call : ZoneCall) → Comes old new conn turn (Ask call) → MayAnswer new.stage
Comes-may_answer old new conn turn call comes = let asked = Comes-ask old new conn turn call comes in rw asked.state tt

-- one that has told a decision takes a line
pub Comes-may_begin : (old new : ScriptState) (conn : ℕ) (turn : Turn) (decision : Decision) → Comes old new conn turn (Told decision) → MayBegin new.stage
Comes-may_begin old new conn turn decision comes = let told = Comes-told old new conn turn decision comes in rw told.state tt

-- ---- what may come next

-- after a call a reply may come, and after a decision a line
abbrev pub Fits : Next → Stage → Type 0
Fits (Ask call) stage = MayAnswer stage
Fits (Told decision) stage = MayBegin stage

pub Comes-fits : (next : Next) (old new : ScriptState) (conn : ℕ) (turn : Turn) → Comes old new conn turn next → Fits next new.stage
Comes-fits (Ask call) old new conn turn comes = Comes-may_answer old new conn turn call comes
Comes-fits (Told decision) old new conn turn comes = Comes-may_begin old new conn turn decision comes

answers-from : (stage : Stage) (old new : ScriptState) (next : Next) (reply : ZoneReply) → old.stage ≡ stage → MayAnswer stage → (old.stage ≡ spent → false ≡ true)
    → ((conn : ℕ) (rest : ZoneReply → Turn) → old.stage ≡ waits conn rest → Comes old new conn (rest reply) next) → Fits next new.stage
answers-from between old new next reply is may alive comes = absurd may
answers-from (waits conn rest) old new next reply is may alive comes = Comes-fits next old new conn (rest reply) (comes conn rest is)
answers-from spent old new next reply is may alive comes = let no = alive is in absurd cc

-- What a reply was answered fits too. An answer that isn't want of memory shows that the script wasn't spent: that is how
-- its clause on a spent script reads there.
pub answers-fit : (old new : ScriptState) (next : Next) (reply : ZoneReply) → MayAnswer old.stage → (old.stage ≡ spent → false ≡ true)
    → ((conn : ℕ) (rest : ZoneReply → Turn) → old.stage ≡ waits conn rest → Comes old new conn (rest reply) next) → Fits next new.stage
answers-fit old new next reply may alive comes = answers-from old.stage old new next reply refl may alive comes
