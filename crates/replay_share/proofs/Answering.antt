-- Where each reply is fixed by what was asked before it, a share has one drive.
use Rattle.std.proofs.Common.{◌≡◌, List, [], ◌∷◌, ◌++◌, sym, refl, ap, subst, ◌∙◌, append_assoc}
use Rattle.std.specs.Prelude.{Option, Some}
use Rattle.std.proofs.lemmas.List.{append-nil}
use Rattle.zone_config.specs.declared.data.Config.{Config}
use Rattle.replay_log.specs.declared.line.Line.{Line}
use Rattle.request_script.specs.declared.active.Active.{Active}
use Rattle.request_script.specs.declared.call.ZoneCall.{ZoneCall}
use Rattle.request_script.specs.declared.call.ZoneReply.{ZoneReply}
use Rattle.request_script.specs.declared.decision.Decision.{Decision}
use Rattle.request_script.specs.Turn.{Turn, Exchange, Leads}
use Rattle.request_script.specs.Turn.Turn.{asks, decides}
use Rattle.request_script.specs.RequestSteps.{turn_of}
use Rattle.request_script.specs.Drive.{Table, with_active, Drives}
use Rattle.request_script.specs.Drive.Drives.{at_end, line}

-- two ways to the same: what was asked, and what a turn came to
pub record IsSameTurn (asked others : List Exchange) (end other : Turn) : Type 0 where
  pub asked_is : asked ≡ others
  pub end_is : end ≡ other

pub record IsSameDrive (asked others : List Exchange) (decisions decided : List Decision) : Type 0 where
  pub asked_is : asked ≡ others
  pub decisions_are : decisions ≡ decided

-- `answer past call`: what the call is answered after these exchanges, where it is
module _ (answer : List Exchange → ZoneCall → Option ZoneReply) where
  -- after what was asked before, each reply is the one that the call is answered
  abbrev pub AreAnswered : List Exchange → List Exchange → Type 0
  AreAnswered past [] = Unit {0}
  AreAnswered past (e ∷ es) = (Some e.reply ≡ answer past e.call) × AreAnswered (past ++ e ∷ []) es

  answered-front : (past before after : List Exchange) → AreAnswered past (before ++ after) → AreAnswered past before
  answered-front past [] after h = tt
  answered-front past (e ∷ es) after h = (h.0, answered-front (past ++ e ∷ []) es after h.1)

  answered-rest : (past before after : List Exchange) → AreAnswered past (before ++ after) → AreAnswered (past ++ before) after
  answered-rest past [] after h = subst (λ (l : List Exchange). AreAnswered l after) (sym (append-nil past)) h
  answered-rest past (e ∷ es) after h = subst (λ (l : List Exchange). AreAnswered l after) (append_assoc past (e ∷ []) es) (answered-rest (past ++ e ∷ []) es after h.1)

  -- the same call after the same exchanges has one reply
  one_exchange : (past : List Exchange) (e other : Exchange) → e.call ≡ other.call → Some e.reply ≡ answer past e.call → Some other.reply ≡ answer past other.call → e ≡ other
  one_exchange past e other call_is h k =
      let both : Some e.reply ≡ Some other.reply = h ∙ ap (answer past) call_is ∙ sym k in
      let reply_is : e.reply ≡ other.reply = cc in
      ap (λ (c : ZoneCall). record { call = c; reply = e.reply }) call_is ∙ ap (λ (r : ZoneReply). record { call = other.call; reply = r }) reply_is

  asks_decides : (call : ZoneCall) (next : ZoneReply → Turn) (decision : Decision) (active : Option Active) → asks call next ≡ decides decision active → ⊥
  asks_decides call next decision active is = cc

  one_turn : (past : List Exchange) (turn : Turn) (asked others : List Exchange) (decision decided : Decision) (active held : Option Active)
      → Leads turn asked (decides decision active) → Leads turn others (decides decided held) → AreAnswered past asked → AreAnswered past others → IsSameTurn asked others (decides decision active) (decides decided held)
  one_turn past turn [] [] decision decided active held h k a b = record { asked_is = refl; end_is = sym h ∙ k }
  one_turn past (decides own kept) [] (o ∷ os) decision decided active held h k a b = absurd k
  one_turn past (asks call next) [] (o ∷ os) decision decided active held h k a b = absurd (asks_decides call next decision active h)
  one_turn past (decides own kept) (e ∷ es) others decision decided active held h k a b = absurd h
  one_turn past (asks call next) (e ∷ es) [] decision decided active held h k a b = absurd (asks_decides call next decided held k)
  one_turn past (asks call next) (e ∷ es) (o ∷ os) decision decided active held h k a b =
      let first : e ≡ o = one_exchange past e o (h.0 ∙ sym k.0) a.0 b.0 in
      let leads : Leads (next e.reply) os (decides decided held) = subst (λ (x : Exchange). Leads (next x.reply) os (decides decided held)) (sym first) k.1 in
      let answers : AreAnswered (past ++ e ∷ []) os = subst (λ (x : Exchange). AreAnswered (past ++ x ∷ []) os) (sym first) b.1 in
      let rest = one_turn (past ++ e ∷ []) (next e.reply) es os decision decided active held h.1 leads a.1 answers in
      record { asked_is = ap (λ (x : Exchange). x ∷ es) first ∙ ap (λ (l : List Exchange). o ∷ l) rest.asked_is; end_is = rest.end_is }

  decision-same : (decision decided : Decision) (active held : Option Active) → decides decision active ≡ decides decided held → decision ≡ decided
  decision-same decision decided active held is = cc

  active-same : (decision decided : Decision) (active held : Option Active) → decides decision active ≡ decides decided held → active ≡ held
  active-same decision decided active held is = cc

  pub one_drive : (config : Config) (past : List Exchange) (table : Table) (lines : List Line) (asked others : List Exchange) (decisions decided : List Decision) (last end : Table)
      → Drives config table lines asked decisions last → Drives config table lines others decided end → AreAnswered past asked → AreAnswered past others → IsSameDrive asked others decisions decided
  one_drive config past _ _ _ _ _ _ _ _ (at_end table) (at_end _) a b = record { asked_is = refl; decisions_are = refl }
  one_drive config past _ _ _ _ _ _ _ _ (line table one lines asked more decision active decisions last leads drives) (line _ _ _ others rest decided held after end leads_so drives_so) a b =
      let turn = one_turn past (turn_of config (table one.conn) one) asked others decision decided active held leads leads_so (answered-front past asked more a) (answered-front past others rest b) in
      let active_is = active-same decision decided active held turn.end_is in
      let behind = one_drive config (past ++ asked) (with_active table one.conn active) lines more rest decisions after last end drives
      (subst (λ (x : Option Active). Drives config (with_active table one.conn x) lines rest after end) (sym active_is) drives_so)
      (answered-rest past asked more a)
      (subst (λ (l : List Exchange). AreAnswered (past ++ l) rest) (sym turn.asked_is) (answered-rest past others rest b)) in
      record {
        asked_is = ap (λ (l : List Exchange). l ++ more) turn.asked_is ∙ ap (λ (l : List Exchange). others ++ l) behind.asked_is;
        decisions_are = ap (λ (d : Decision). d ∷ decisions) (decision-same decision decided active held turn.end_is) ∙ ap (λ (ds : List Decision). decided ∷ ds) behind.decisions_are;
      }
