-- What is done for one line, by the replies of the zones.
use Rattle.std.specs.Prelude.{◌≡◌, List, [], ◌∷◌, Option}
use Rattle.request_script.specs.declared.active.Active.{Active}
use Rattle.request_script.specs.declared.call.ZoneCall.{ZoneCall}
use Rattle.request_script.specs.declared.call.ZoneReply.{ZoneReply}
use Rattle.request_script.specs.declared.decision.Decision.{Decision}

-- the turn of a line, from here on
pub data Turn : Type 0 where
  -- a zone is asked, and the turn goes on by its reply
  asks : (call : ZoneCall) (next : ZoneReply → Turn) → Turn
  -- the line is decided, and the connection then has this active request, or none
  decides : (decision : Decision) (active : Option Active) → Turn

-- a call and what it was answered
pub record Exchange : Type 0 where
  pub call : ZoneCall
  pub reply : ZoneReply

-- These exchanges, one after another, lead a turn to a turn: each call is the one that is asked.
abbrev pub Leads : Turn → List Exchange → Turn → Type 0
Leads turn [] end = turn ≡ end
Leads (decides decision active) (e ∷ es) end = ⊥
Leads (asks call next) (e ∷ es) end = (e.call ≡ call) × Leads (next e.reply) es end
