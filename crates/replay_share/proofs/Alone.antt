-- A share that has all lines is a replay by one worker.
use Rattle.std.proofs.Common.{ℕ, ◌≡◌, ◌<◌, ◌%◌, Bool, true, false, List, [], ◌∷◌, ◌++◌, length, map, filter, subst, sym, ap, refl, ◌∙◌, arith}
use Rattle.std.specs.Prelude.{nat_eq, Option, Some, None, slice_get}
use Rattle.std.specs.Option.{option_map}
use Rattle.std.proofs.lemmas.Bool.Decides.{nat_tests}
use Rattle.std.proofs.lemmas.Option.{slice_get-map}
use Rattle.zone_config.specs.declared.data.Config.{Config}
use Rattle.zone_config.specs.declared.data.ZoneSpec.{ZoneSpec}
use Rattle.zone_config.specs.declared.data.ZoneSpec.TheVariants as zone
use Rattle.replay_log.specs.declared.line.Line.{Line}
use Rattle.request_script.specs.declared.decision.Decision.{Decision}
use Rattle.request_script.specs.Turn.{Exchange}
use Rattle.request_script.specs.Drive.{Table, nothing_active, Drives}
use Rattle.request_script.specs.Drive.Drives.{at_end, line}
use Rattle.request_script.specs.declared.active.Active.{Active}
use Rattle.request_script.specs.Turn.{Leads}
use Rattle.replay_share.specs.declared.journal.ZoneJournal.{ZoneJournal}
use Rattle.replay_share.specs.declared.journal.ZoneJournal.TheVariants.{Req, Conn, Peer}
use Rattle.replay_share.specs.Logs.{ZoneLog, IsAt, IsLogOf}
use Rattle.replay_share.specs.Journals.{IsJournalOf, Serves, log_of}
use Rattle.replay_share.specs.Share.{HasReplayed}
use Rattle.replay_share.specs.OneReplay.{AloneIsReplay}
use Rattle.replay_share.specs.Replay.{Decided, line_of, decision_of, goes_to, is_for, lines_of, share_of, HasPlayed, IsReplay}

-- ---- the lines and their decisions

-- lines that were decided, each with its decision
pub record HasPairs (lines : List Line) (decisions : List Decision) : Type 0 where
  pub decided : List Decided
  pub lines_are : map line_of decided ≡ lines
  pub decisions_are : map decision_of decided ≡ decisions

pub pairs : (config : Config) (first : Table) (lines : List Line) (asked : List Exchange) (decisions : List Decision) (last : Table) → Drives config first lines asked decisions last → HasPairs lines decisions
pairs config first _ _ _ last (at_end table) = record { decided = []; lines_are = refl; decisions_are = refl }
pairs config first _ _ _ last (line table one lines asked more decision active decisions end leads rest) =
    let behind = pairs config _ lines more decisions end rest in
    record {
      decided = record { line = one; decision = decision } ∷ behind.decided;
      lines_are = ap (λ (l : List Line). one ∷ l) behind.lines_are;
      decisions_are = ap (λ (l : List Decision). decision ∷ l) behind.decisions_are;
    }

-- ---- one worker has all lines

own_one : (d : Decided) → is_for 1 0 d ≡ true
own_one d = let none : d.line.conn % 1 ≡ 0 = omega arith in let t : nat_eq (d.line.conn % 1) 0 ≡ true = grind (arith, nat_tests, none) in t

pub own_all : (decided : List Decided) → share_of 1 0 decided ≡ decided
own_all [] = refl
own_all (d ∷ ds) = rw (own_one d) (ap (λ (l : List Decided). d ∷ l) (own_all ds))

line_mine : (l : Line) → goes_to 1 0 l ≡ true
line_mine l = let none : l.conn % 1 ≡ 0 = omega arith in let t : nat_eq (l.conn % 1) 0 ≡ true = grind (arith, nat_tests, none) in t

pub lines_all : (lines : List Line) → lines_of 1 0 lines ≡ lines
lines_all [] = refl
lines_all (l ∷ ls) = rw (line_mine l) (ap (λ (rest : List Line). l ∷ rest) (lines_all ls))

-- ---- the histories

log_of_one : (room : ℕ) (spec : ZoneSpec) (journal : ZoneJournal) → IsJournalOf room spec journal → IsLogOf 1 spec (log_of journal)
log_of_one room (zone.Req spec key) (Req journal) h = (h.ran.history, h.mine)
log_of_one room (zone.Conn spec key) (Conn journal) h = (h.ran.history, h.mine)
log_of_one room (zone.Peer spec at) (Peer journal) h = (h.ran.history, h.mine)
log_of_one room (zone.Req spec key) (Conn journal) h = elim h [ ]
log_of_one room (zone.Req spec key) (Peer journal) h = elim h [ ]
log_of_one room (zone.Conn spec key) (Req journal) h = elim h [ ]
log_of_one room (zone.Conn spec key) (Peer journal) h = elim h [ ]
log_of_one room (zone.Peer spec at) (Req journal) h = elim h [ ]
log_of_one room (zone.Peer spec at) (Conn journal) h = elim h [ ]

log_at : (room z : ℕ) (spec : Option ZoneSpec) (journal : Option ZoneJournal) → IsAt (IsJournalOf room) spec journal → IsAt (IsLogOf 1) spec (option_map log_of journal)
log_at room z None None h = tt
log_at room z (Some spec) (Some journal) h = log_of_one room spec journal h
log_at room z None (Some journal) h = elim h [ ]
log_at room z (Some spec) None h = elim h [ ]

-- ---- the replay

pub plays_alone : (config : Config) (room : ℕ) (journals : List ZoneJournal) (lines : List Line) (decisions : List Decision) (pair : HasPairs lines decisions) → HasReplayed (Serves journals config.zones room) config lines decisions
    → IsReplay config 1 lines pair.decided (map log_of journals)
plays_alone config room journals lines decisions pair h =
    let mine : share_of 1 0 pair.decided ≡ pair.decided = own_all pair.decided in
    let all : HasPlayed config pair.decided 0 (map log_of journals) = record {
      asked = h.asked;
      table = h.table;
      drives = subst (λ (l : List Line). Drives config nothing_active l h.asked (map decision_of pair.decided) h.table) (sym pair.lines_are)
          (subst (λ (ds : List Decision). Drives config nothing_active lines h.asked ds h.table) (sym pair.decisions_are) h.drives);
      parts = h.served.parts;
      kinds = h.served.kinds;
    } in
    let played : HasPlayed config (share_of 1 0 pair.decided) 0 (map log_of journals) = subst (λ (l : List Decided). HasPlayed config l 0 (map log_of journals)) (sym mine) all in
    record {
      lines_are = pair.lines_are;
      histories = λ z. subst (λ (o : Option ZoneLog). IsAt (IsLogOf 1) (slice_get config.zones z) o) (sym (slice_get-map log_of journals z)) (log_at room z (slice_get config.zones z) (slice_get journals z) (h.served.each z));
      shares = λ k low. let k_is : k ≡ 0 = omega (arith, low) in subst (λ (i : ℕ). HasPlayed config (share_of 1 i pair.decided) i (map log_of journals)) (sym k_is) played;
    }

pub alone-is-replay : AloneIsReplay
alone-is-replay config room journals lines decisions h =
    let all : HasReplayed (Serves journals config.zones room) config lines decisions = subst (λ (l : List Line). HasReplayed (Serves journals config.zones room) config l decisions) (lines_all lines) h in
    let pair = pairs config nothing_active lines all.asked decisions all.table all.drives in
    (pair.decided, pair.decisions_are, plays_alone config room journals lines decisions pair all)
