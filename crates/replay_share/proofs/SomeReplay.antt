-- One worker can replay each log.
use Rattle.std.proofs.Common.{ℕ, ◌≡◌, ◌+◌, ◌*◌, ◌<◌, ◌^◌, List, [], ◌∷◌, ◌++◌, length, map, sym, refl, subst, arith, append_assoc, length-append}
use Rattle.std.specs.Prelude.{Option, slice_get}
use Rattle.std.specs.List.{All}
use Rattle.std.proofs.lemmas.List.{append-nil}
use Rattle.std.proofs.lemmas.List.Elements.{All-head, All-tail, All-nil, All-push}
use Rattle.peer_zone.specs.Laws.{RefusedLaw, OpenedLaw}
use Rattle.zone_config.specs.declared.data.Config.{Config}
use Rattle.zone_config.specs.Conditions.{IsConfig}
use Rattle.replay_log.specs.declared.line.Line.{Line}
use Rattle.replay_log.specs.Limits.{IsLineOf}
use Rattle.request_script.specs.declared.active.Active.{Active}
use Rattle.request_script.specs.declared.decision.Decision.{Decision}
use Rattle.request_script.specs.Turn.{Turn, Exchange, Leads}
use Rattle.request_script.specs.Turn.Turn.{asks, decides}
use Rattle.request_script.specs.RequestSteps.{turn_of}
use Rattle.request_script.specs.Drive.{Table, nothing_active, with_active, Drives}
use Rattle.request_script.specs.Drive.Drives.{at_end}
use Rattle.request_script.specs.Permitted.{zone_of}
use Rattle.request_script.specs.Laws.{Permits, AsksKinds, LeavesRoom}
use Rattle.request_script.proofs.PermittedDrives.{permits-law}
use Rattle.request_script.proofs.KindLaws.{kinds-law}
use Rattle.request_script.proofs.CountLaws.{room_left-law}
use Rattle.request_script.proofs.Following.{exchange-law, line-law}
use Rattle.replay_share.specs.Calls.{IsWith}
use Rattle.replay_share.specs.Replay.{Decided, decision_of, share_of, HasPlayed}
use Rattle.replay_share.specs.OneReplay.{SomeReplay}
use Rattle.replay_share.proofs.Alone.{pairs, own_all}
use Rattle.replay_share.proofs.ZoneHistories.{logs_from, have_parts, none_asked, exchange_at, IsPlayed, played_logs, played_more}

module _ (config : Config) (is : IsConfig config) where
  -- a turn that was followed to its end, after what was asked before
  record IsFollowed (past : List Exchange) (start : Turn) : Type 0 where
    since : List Exchange
    decision : Decision
    active : Option Active
    leads : Leads start since (decides decision active)
    played : IsPlayed config.zones (past ++ since)

  -- all lines were decided
  record IsPlayedThrough (lines : List Line) : Type 0 where
    asked : List Exchange
    decisions : List Decision
    table : Table
    drives : Drives config nothing_active lines asked decisions table
    played : IsPlayed config.zones asked

  module _ (past : List Exchange) (start : Turn) (room : ℕ) (few : room < 2 ^ 32) (permits : Permits past start) (kinds : AsksKinds config.zones start) (leaves : LeavesRoom past room start) where
    follows : (since : List Exchange) (turn : Turn) → Leads start since turn → IsPlayed config.zones (past ++ since) → IsFollowed past start
    follows since (decides decision active) leads played = record { since = since; decision = decision; active = active; leads = leads; played = played }
    follows since (asks call next) leads played =
        let e = exchange_at (slice_get config.zones (zone_of call)) (past ++ since) call in
        let left = leaves since call next leads in
        let more = played_more config.zones (past ++ since) call (kinds since call next leads) (omega (arith, left, few)) (permits since call next leads) played in
        follows (since ++ e ∷ []) (next e.reply) (exchange-law start since call next e.reply leads) (subst (IsPlayed config.zones) (append_assoc past since (e ∷ [])) more)

  plays : (before : List Line) (asked : List Exchange) (decisions : List Decision) (table : Table) (lines : List Line) → Drives config nothing_active before asked decisions table → IsPlayed config.zones asked
      → All (IsLineOf (length config.locations)) before → All (IsLineOf (length config.locations)) lines → 3 * (length before + length lines) < 2 ^ 32 → IsPlayedThrough (before ++ lines)
  plays before asked decisions table [] drives played done todo few =
      subst IsPlayedThrough (sym (append-nil before)) (record { asked = asked; decisions = decisions; table = table; drives = drives; played = played })
  plays before asked decisions table (one ∷ lines) drives played done todo few =
      let is_line = All-head (IsLineOf (length config.locations)) one lines todo in
      let room : 3 * (length before + 1) < 2 ^ 32 = omega (arith, few) in
      let start = turn_of config (table one.conn) one in
      let turn = follows asked start (3 * (length before + 1)) room (permits-law config before one asked decisions table is drives done is_line) (kinds-law config before one asked decisions table is drives)
      (room_left-law config before one asked decisions table is drives) [] start refl (subst (IsPlayed config.zones) (sym (append-nil asked)) played) in
      let left : 3 * (length (before ++ one ∷ []) + length lines) < 2 ^ 32 = omega (arith, few, length-append before (one ∷ [])) in
      subst IsPlayedThrough (append_assoc before (one ∷ []) lines)
      (plays (before ++ one ∷ []) (asked ++ turn.since) (decisions ++ turn.decision ∷ []) (with_active table one.conn turn.active) lines
      (line-law config nothing_active before asked decisions table one turn.since turn.decision turn.active drives turn.leads) turn.played
      (All-push (IsLineOf (length config.locations)) before one done is_line) (All-tail (IsLineOf (length config.locations)) one lines todo) left)

pub some_replay : RefusedLaw → OpenedLaw → SomeReplay
some_replay refused opened config lines is none ok few =
    let nothing : IsPlayed config.zones [] = record { each = none_asked refused opened config.zones is.zones.each is.servers none; kinds = All-nil (IsWith config.zones) } in
    let through = plays config is [] [] [] nothing_active lines (at_end nothing_active) nothing (All-nil (IsLineOf (length config.locations))) ok (omega (arith, few)) in
    let logs = logs_from 0 config.zones through.asked in
    let pair = pairs config nothing_active lines through.asked through.decisions through.table through.drives in
    let all : HasPlayed config pair.decided 0 logs = record {
      asked = through.asked;
      table = through.table;
      drives = subst (λ (l : List Line). Drives config nothing_active l through.asked (map decision_of pair.decided) through.table) (sym pair.lines_are)
          (subst (λ (ds : List Decision). Drives config nothing_active lines through.asked ds through.table) (sym pair.decisions_are) through.drives);
      parts = have_parts config.zones through.asked;
      kinds = through.played.kinds;
    } in
    let mine : HasPlayed config (share_of 1 0 pair.decided) 0 logs = subst (λ (l : List Decided). HasPlayed config l 0 logs) (sym (own_all pair.decided)) all in (
      record { decided = pair.decided; logs = logs },
      record {
        lines_are = pair.lines_are;
        histories = played_logs config.zones through.asked through.played;
        shares = λ k low. let k_is : k ≡ 0 = omega (arith, low) in subst (λ (i : ℕ). HasPlayed config (share_of 1 i pair.decided) i logs) (sym k_is) mine;
      },
    )
