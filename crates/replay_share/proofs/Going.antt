-- How the next line of a share goes on: its beginning, a reply, and its decision.
use Rattle.std.proofs.Common.{ℕ, ◌≡◌, ◌+◌, ◌*◌, ◌<◌, ◌≤◌, List, [], ◌∷◌, ◌++◌, length, take, get_or, append_assoc, length-append, subst, sym, ap, refl, ◌∙◌, arith}
use Rattle.std.specs.Prelude.{Option, slice_get}
use Rattle.std.specs.List.{All}
use Rattle.std.proofs.Math.Seq.{take-length}
use Rattle.std.proofs.lemmas.List.{append-nil, length-take-le, take_more}
use Rattle.zone_config.specs.declared.data.Config.{Config}
use Rattle.zone_config.specs.Conditions.{IsConfig}
use Rattle.replay_log.specs.declared.line.Line.{Line}
use Rattle.replay_log.specs.Limits.{IsLineOf}
use Rattle.request_script.specs.declared.active.Active.{Active}
use Rattle.request_script.specs.declared.call.ZoneCall.{ZoneCall}
use Rattle.request_script.specs.declared.call.ZoneReply.{ZoneReply}
use Rattle.request_script.specs.declared.decision.Decision.{Decision}
use Rattle.request_script.specs.declared.script.Next.{Next}
use Rattle.request_script.specs.declared.script.Next.TheVariants.{Ask, Told}
use Rattle.request_script.specs.Turn.{Turn, Exchange, Leads}
use Rattle.request_script.specs.Turn.Turn.{asks, decides}
use Rattle.request_script.specs.RequestSteps.{turn_of}
use Rattle.request_script.specs.Drive.{Table, nothing_active, Drives, with_active}
use Rattle.request_script.specs.Drive.Drives.{at_end}
use Rattle.request_script.specs.Script.{Stage, ScriptState, Comes, MayAnswer, begins, next_of, arrives}
use Rattle.request_script.specs.Script.Stage.{between, waits, spent}
use Rattle.request_script.proofs.PermittedDrives.{permits-law}
use Rattle.request_script.proofs.KindLaws.{kinds-law}
use Rattle.request_script.proofs.CountLaws.{ends-law, room_left-law}
use Rattle.request_script.proofs.Following.{exchange-law, line-law}
use Rattle.replay_share.specs.Calls.{CanAsk}
use Rattle.replay_share.specs.Share.{HasDecided, HasReplayed, IsUnderWay}

-- ---- a turn by what it says

-- the call that is asked, and another where a decision is told
call_in : ZoneCall → Next → ZoneCall
call_in other (Ask call) = call
call_in other (Told decision) = other

decision_in : Decision → Next → Decision
decision_in other (Ask call) = other
decision_in other (Told decision) = decision

IsAsk : Next → Type 0
IsAsk (Ask call) = Unit {0}
IsAsk (Told decision) = ⊥

IsTold : Next → Type 0
IsTold (Ask call) = ⊥
IsTold (Told decision) = Unit {0}

pub asks_call : (turn : Turn) (call : ZoneCall) → Ask call ≡ next_of turn → (next : ZoneReply → Turn) × (turn ≡ asks call next)
unfolding call_in IsAsk
asks_call (asks c next) call is = (next, ap (λ (x : ZoneCall). asks x next) (sym (ap (call_in c) is)))
asks_call (decides decision active) call is = elim (subst IsAsk is tt) [ ]

pub decides_so : (turn : Turn) (decision : Decision) → Told decision ≡ next_of turn → (active : Option Active) × (turn ≡ decides decision active)
unfolding decision_in IsTold
decides_so (asks c next) decision is = elim (subst IsTold is tt) [ ]
decides_so (decides d active) decision is = (active, ap (λ (x : Decision). decides x active) (sym (ap (decision_in d) is)))

module _ (config : Config) (is_config : IsConfig config) (line : Line) (is_line : IsLineOf (length config.locations) line) (lines : List Line) (are_lines : All (IsLineOf (length config.locations)) lines)
    (decisions : List Decision) (before : ScriptState) where
  -- ---- the beginning

  pub starts : (S : List Exchange → Type 0) (script : ScriptState) (next : Next) (h : HasDecided S config before lines decisions) → Comes before script line.conn (begins before line) next → IsUnderWay S before script line h.asked next 0
  starts S script next h comes = record {
    since = [];
    turn = begins before line;
    leads = refl;
    says = comes.says;
    state = comes.state;
    served = subst S (sym (append-nil h.asked)) h.served;
    calls = omega arith;
  }

  module _ (S : List Exchange → Type 0) (h : HasDecided S config before lines decisions) where
    -- the turn of the line, by the configuration that the laws speak of
    leads_from : (since : List Exchange) (turn : Turn) → Leads (begins before line) since turn → Leads (turn_of config (before.table line.conn) line) since turn
    leads_from since turn leads = subst (λ (c : Config). Leads (turn_of c (before.table line.conn) line) since turn) h.config_is leads

    -- ---- a call

    pub can_ask : (room : ℕ) (since : List Exchange) (turn : Turn) (call : ZoneCall) (next : ZoneReply → Turn) → 3 * length lines + 3 ≤ room → Leads (begins before line) since turn → turn ≡ asks call next → CanAsk config.zones room (h.asked ++ since) call
    can_ask room since turn call next fits leads turn_is =
        let on : Leads (turn_of config (before.table line.conn) line) since (asks call next) = subst (λ (t : Turn). Leads (turn_of config (before.table line.conn) line) since t) turn_is (leads_from since turn leads) in
        let left = room_left-law config lines line h.asked decisions before.table is_config h.drives since call next on in
        record {
          there = kinds-law config lines line h.asked decisions before.table is_config h.drives since call next on;
          room_left = omega (arith, left, fits);
          may = permits-law config lines line h.asked decisions before.table is_config h.drives are_lines is_line since call next on;
        }

    pub ends : (since : List Exchange) (turn : Turn) (call : ZoneCall) (next : ZoneReply → Turn) → Leads (begins before line) since turn → turn ≡ asks call next → length since < 32
    ends since turn call next leads turn_is =
        ends-law config lines line h.asked decisions before.table is_config h.drives since call next (subst (λ (t : Turn). Leads (turn_of config (before.table line.conn) line) since t) turn_is (leads_from since turn leads))

    -- the script waits for the reply
    pub waiting : (script : ScriptState) (turn : Turn) (call : ZoneCall) (next : ZoneReply → Turn) → script ≡ arrives before.config before.table line.conn turn → turn ≡ asks call next → script.stage ≡ waits line.conn next
    waiting script turn call next state turn_is = ap (λ (s : ScriptState). s.stage) (state ∙ ap (arrives before.config before.table line.conn) turn_is)

    pub may_answer : (stage : Stage) (next : ZoneReply → Turn) → stage ≡ waits line.conn next → MayAnswer stage
    may_answer stage next is = subst MayAnswer (sym is) tt

    -- ---- a reply

    pub goes_on : (U T : List Exchange → Type 0) (script new : ScriptState) (said now : Next) (n : ℕ) (call : ZoneCall) (reply : ZoneReply) (next : ZoneReply → Turn) (u : IsUnderWay U before script line h.asked said n)
        → u.turn ≡ asks call next → Comes script new line.conn (next reply) now → T ((h.asked ++ u.since) ++ record { call = call; reply = reply } ∷ []) → IsUnderWay T before new line h.asked now (n + 1)
    goes_on U T script new said now n call reply next u turn_is comes served =
        let e : Exchange = record { call = call; reply = reply } in
        let state : script ≡ arrives before.config before.table line.conn (asks call next) = u.state ∙ ap (arrives before.config before.table line.conn) turn_is in
        let config_is : script.config ≡ before.config = ap (λ (s : ScriptState). s.config) state in
        let table_is : script.table ≡ before.table = ap (λ (s : ScriptState). s.table) state in
        record {
          since = u.since ++ e ∷ [];
          turn = next reply;
          leads = exchange-law (begins before line) u.since call next reply (subst (λ (t : Turn). Leads (begins before line) u.since t) turn_is u.leads);
          says = comes.says;
          state = comes.state ∙ ap (λ (c : Config). arrives c script.table line.conn (next reply)) config_is ∙ ap (λ (t : Table). arrives before.config t line.conn (next reply)) table_is;
          served = subst T (append_assoc h.asked u.since (e ∷ [])) served;
          calls = omega (arith, u.calls, length-append u.since (e ∷ []));
        }

    -- ---- the decision

    pub is_decided : (T : List Exchange → Type 0) (script : ScriptState) (said : Next) (n : ℕ) (decision : Decision) (active : Option Active) (u : IsUnderWay T before script line h.asked said n) → u.turn ≡ decides decision active
        → HasDecided T config script (lines ++ line ∷ []) (decisions ++ decision ∷ [])
    is_decided T script said n decision active u turn_is =
        let state : script ≡ arrives before.config before.table line.conn (decides decision active) = u.state ∙ ap (arrives before.config before.table line.conn) turn_is in
        let leads : Leads (turn_of config (before.table line.conn) line) u.since (decides decision active) = subst (λ (t : Turn). Leads (turn_of config (before.table line.conn) line) u.since t) turn_is (leads_from u.since u.turn u.leads) in
        let drives = line-law config nothing_active lines h.asked decisions before.table line u.since decision active h.drives leads in
        record {
          asked = h.asked ++ u.since;
          drives = subst (λ (t : Table). Drives config nothing_active (lines ++ line ∷ []) (h.asked ++ u.since) (decisions ++ decision ∷ []) t) (sym (ap (λ (s : ScriptState). s.table) state)) drives;
          served = u.served;
          config_is = ap (λ (s : ScriptState). s.config) state ∙ h.config_is;
          stage = ap (λ (s : ScriptState). s.stage) state;
        }

-- ---- a share

module _ (S : List Exchange → Type 0) (config : Config) (script : ScriptState) where
  -- before its first line
  pub before_all : (decisions : List Decision) → script ≡ record { config = config; table = nothing_active; stage = between } → S [] → decisions ≡ [] → HasDecided S config script [] decisions
  before_all decisions is served none = record {
    asked = [];
    drives = subst (λ (ds : List Decision). Drives config nothing_active [] [] ds script.table) (sym none) (subst (λ (t : Table). Drives config nothing_active [] [] [] t) (sym (ap (λ (s : ScriptState). s.table) is)) (at_end nothing_active));
    served = served;
    config_is = ap (λ (s : ScriptState). s.config) is;
    stage = ap (λ (s : ScriptState). s.stage) is;
  }

  -- the lines so far, by another name
  pub same_lines : (lines more : List Line) (decisions ds : List Decision) → lines ≡ more → decisions ≡ ds → HasDecided S config script lines decisions → HasDecided S config script more ds
  same_lines lines more decisions ds lines_are decisions_are h =
      subst (λ (l : List Line). HasDecided S config script l ds) lines_are (subst (λ (d : List Decision). HasDecided S config script lines d) decisions_are h)

  -- after its last line
  pub after_all : (lines : List Line) (decisions : List Decision) → HasDecided S config script lines decisions → HasReplayed S config lines decisions
  after_all lines decisions h = record { asked = h.asked; table = script.table; drives = h.drives; served = h.served }

-- there is room for the next line
pub fits_next : (lines : List Line) (i room : ℕ) → i < length lines → 3 * length lines ≤ room → 3 * length (take i lines) + 3 ≤ room
fits_next lines i room low fits = omega (arith, low, fits, length-take-le i lines (omega (arith, low)))

pub line-more : (lines : List Line) (i : ℕ) (line : Line) → i < length lines → line ≡ get_or lines i line → take i lines ++ line ∷ [] ≡ take (i + 1) lines
line-more lines i line low is = ap (λ (l : Line). take i lines ++ l ∷ []) is ∙ sym (take_more lines i line low)

pub lines-all : (lines : List Line) (i : ℕ) → length lines ≤ i → i ≤ length lines → take i lines ≡ lines
lines-all lines i past within = let end : i ≡ length lines = omega (arith, past, within) in ap (λ (n : ℕ). take n lines) end ∙ take-length lines
