-- A log that was read, and the plans that begin with it.
use Rattle.std.proofs.Common.{ℕ, ◌≡◌, ◌≤◌, List, length, Ok, Err, ap, sym, subst, refl, inl, inr}
use Rattle.std.specs.List.{All}
use Rattle.std.specs.declared.vec.Vec.{Vec}
use Rattle.std.specs.declared.alloc.Global.{Global}
use Rattle.zone_config.specs.declared.data.Config.{Config}
use Rattle.replay_log.specs.declared.line.Line.{Line}
use Rattle.replay_log.specs.Limits.{IsLineOf}
use Rattle.replay_log.specs.Requests.{requests_of}
use Rattle.zonereplay.specs.declared.stop.Refusal.TheVariants.{Log}
use Rattle.zonereplay.specs.declared.stop.Stop.{Stop}
use Rattle.zonereplay.specs.declared.stop.Stop.TheVariants.{Refused, NoMemory}
use Rattle.zone_watch.specs.Watched.{Watched}
use Rattle.zonereplay.specs.Told.{Told, Shows, MayShow}
use Rattle.zonereplay.specs.Plan.{Plan, Ends, log_run, log_plan}
use Rattle.zonereplay.specs.Plan.End.{refused, written}
use Rattle.zonereplay.specs.Devices.{Files}
use Rattle.zonereplay.specs.Answers.{MayWatch}
use Rattle.zonereplay.specs.Stages.{IsTextOf, ReadsText, ReadsLog, Prepares}
use Rattle.zonereplay.proofs.StopLemmas.{read_ends, leaves_same}

-- what a plan goes on to by the text of its log
abbrev behind : Config → (List Line → Told) → List ℕ → Plan
behind config told text = log_run told (requests_of config.locations text)

module _ (log : List ℕ) (config : Config) (before after : Files) where
  -- ---- reading

  module _ (text : Vec ℕ Global) (given : List ℕ) (read : ReadsText log before after (Ok text)) (given_is : given ≡ text.items) where
    held : IsTextOf (before.contents log) given
    held = subst (λ (t : List ℕ). IsTextOf (before.contents log) t) (sym given_is) read.gives.0

    -- the text has lines
    pub log_read : (lines : Vec Line Global) → requests_of config.locations given ≡ Ok lines.items → All (IsLineOf (length config.locations)) lines.items → length lines.items ≤ 131072 → ReadsLog log config before after (Ok lines)
    log_read lines is limits few = record {
      files = read.files;
      gives = (
        record {
          limits = limits;
          few = few;
          ends = λ told. read_ends before.contents log (behind config told) given (written (told lines.items)) held (subst (λ (p : Plan). Ends before.contents p (written (told lines.items))) (sym (ap (log_run told) is)) refl);
        },
        read.gives.1,
      );
    }

    -- or a fault
    pub log_faulty : (line kind : ℕ) → requests_of config.locations given ≡ Err (record { line = line; kind = kind }) → ReadsLog log config before after (Err (Refused (Log line kind)))
    log_faulty line kind is = record {
      files = read.files;
      gives = λ told. (read_ends before.contents log (behind config told) given (refused (Log line kind)) held (subst (λ (p : Plan). Ends before.contents p (refused (Log line kind))) (sym (ap (log_run told) is)) refl), read.gives.1);
    }

  -- there was no memory for its lines
  pub log_too_large : (text : Vec ℕ Global) → ReadsText log before after (Ok text) → ReadsLog log config before after (Err NoMemory)
  log_too_large text read = record { files = read.files; gives = λ told. read.gives.1 }

  -- or it couldn't be read
  pub log_unread : (why : Stop) → ReadsText log before after (Err why) → ReadsLog log config before after (Err why)
  log_unread why read = record { files = read.files; gives = λ told. read.gives (behind config told) }

  -- ---- what is told of its lines

  module _ (told : List Line → Told) (seen : List Watched) where
    -- was prepared
    pub lines_prepares : (left : List Watched) (lines : Vec Line Global) (given : List Line) (text : List ℕ) → ReadsLog log config before after (Ok lines) → given ≡ lines.items → Shows (told given) seen left text → Prepares (log_plan log config told) before after seen left (Ok text)
    lines_prepares left lines given text read given_is shown =
        let own = subst (λ (ls : List Line). Shows (told ls) seen left text) given_is shown in
        record { files = read.files; gives = (record { told = told lines.items; ends = read.gives.0.ends told; shown = own }, read.gives.1) }

    may_watch : (left : List Watched) (lines : List Line) → Ends before.contents (log_plan log config told) (written (told lines)) → MayShow (told lines) seen left → MayWatch before.contents (log_plan log config told) seen left
    may_watch left lines ends (inl same) = inl same
    may_watch left lines ends (inr shown) = inr (told lines, ends, shown)

    -- or there was no memory for it
    pub lines_too_many : (left : List Watched) (lines : Vec Line Global) (given : List Line) → ReadsLog log config before after (Ok lines) → given ≡ lines.items → MayShow (told given) seen left → Prepares (log_plan log config told) before after seen left (Err NoMemory)
    lines_too_many left lines given read given_is may =
        let own = subst (λ (ls : List Line). MayShow (told ls) seen left) given_is may in
        record { files = read.files; gives = (read.gives.1, may_watch left lines.items (read.gives.0.ends told) own) }

    -- or there are none
    pub lines_stopped : (why : Stop) → ReadsLog log config before after (Err why) → Prepares (log_plan log config told) before after seen seen (Err why)
    lines_stopped why read = record { files = read.files; gives = (read.gives told, leaves_same before.contents (log_plan log config told) seen why) }
