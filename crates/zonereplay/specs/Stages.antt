-- The stages of a command: it reads its texts, prepares all that it writes, and concludes.
use Rattle.std.specs.Prelude.{ℕ, ◌≡◌, ◌≤◌, ◌⊎◌, List, [], length, Option, None, Result, Ok, Err, MatchResult}
use Rattle.std.specs.List.{All}
use Rattle.std.specs.declared.vec.Vec.{Vec}
use Rattle.std.specs.declared.alloc.Global.{Global}
use Rattle.zone_config.specs.declared.data.Config.{Config}
use Rattle.zone_config.specs.Conditions.{IsConfig}
use Rattle.replay_log.specs.declared.line.Line.{Line}
use Rattle.replay_log.specs.Limits.{IsLineOf}
use Rattle.replay_share.specs.Opening.{refused_line}
use Rattle.zonereplay.specs.declared.status.Status.{Status}
use Rattle.zonereplay.specs.declared.status.Status.TheVariants.{Done, ConfigFault, LogFault, WriteFault, NoMemory}
use Rattle.zonereplay.specs.declared.stop.Refusal.TheVariants.{Text, Rule, Log}
use Rattle.zonereplay.specs.declared.stop.Stop.{Stop}
use Rattle.zonereplay.specs.declared.stop.Stop.TheVariants as stop
use Rattle.zonereplay.specs.Stops.{status_of, line_of}
use Rattle.zonereplay.specs.Told.{Told, Shows}
use Rattle.zonereplay.specs.Plan.{Plan, SaysConfig, IsWrong, Ends, MayHold, in_limit, text_limit, with_zones, log_plan}
use Rattle.zonereplay.specs.Plan.Plan.{reads}
use Rattle.zonereplay.specs.Plan.End.{refused, written}
use Rattle.zonereplay.specs.Devices.{Files, Taken, FilesCalm, TakesWhole, TakesNone, TakesPart, TakesFault, Tries, write_fault}
use Rattle.zonereplay.specs.Answers.{Stops, MayWatch}
use Rattle.zone_outside.specs.Buffers.{Buffer}
use Rattle.zone_outside.specs.Faults.{Rose}
use Rattle.zone_watch.specs.Watched.{Watched}

-- the files hold what they held, and no count of them fell
pub record FilesKept (before after : Files) : Type 0 where
  pub kept : (name : List ℕ) → after.contents name ≡ before.contents name
  pub later : (name : List ℕ) → before.faults name ≤ after.faults name

-- ---- reading

-- a file may hold this text, which is within the limit
abbrev pub IsTextOf : Option (List ℕ) → List ℕ → Type 0
IsTextOf contents text = MayHold contents text × (length text ≤ text_limit)

-- a file was read: its text, or why each plan that begins with it stops
pub record ReadsText (name : List ℕ) (before after : Files) (read : Result (Vec ℕ Global) Stop) : Type 0 where
  pub files : FilesKept before after
  pub gives : MatchResult read (λ text. IsTextOf (before.contents name) text.items × FilesCalm before after) (λ why. (next : List ℕ → Plan) → Stops (reads name (in_limit next)) before after why)

-- a configuration was read: what the directives of the text say, in its limits; or what is wrong with it; or there was no memory
abbrev pub Configures : List ℕ → Result Config Stop → Type 0
Configures text (Ok config) = SaysConfig text config × IsConfig config
Configures text (Err (stop.Refused refusal)) = IsWrong text refusal
Configures text (Err stop.ReadFault) = ⊥
Configures text (Err stop.NoMemory) = Unit {0}

-- a configuration can be used: it was read, and each of its zones has its blocks
pub record IsUsable (text : List ℕ) (config : Config) : Type 0 where
  pub said : SaysConfig text config
  pub limits : IsConfig config
  pub given : refused_line config.zones ≡ None

-- its zones were opened too; or it is refused, whatever would follow; or there was no memory
abbrev pub OpensConfig : List ℕ → Result Config Stop → Type 0
OpensConfig text (Ok config) = IsUsable text config
OpensConfig text (Err (stop.Refused refusal)) = (contents : List ℕ → Option (List ℕ)) (next : Config → Plan) → Ends contents (with_zones text next) (refused refusal)
OpensConfig text (Err stop.ReadFault) = ⊥
OpensConfig text (Err stop.NoMemory) = Unit {0}

-- ---- reading a log

-- the lines of a log were read, in their limits, and each plan that begins with it goes on to what is told of them
pub record HasLines (name : List ℕ) (config : Config) (contents : List ℕ → Option (List ℕ)) (lines : List Line) : Type 0 where
  pub limits : All (IsLineOf (length config.locations)) lines
  pub few : length lines ≤ 131072
  pub ends : (told : List Line → Told) → Ends contents (log_plan name config told) (written (told lines))

-- a log was read with the locations of a configuration: its lines, or why each plan that begins with it stops
pub record ReadsLog (name : List ℕ) (config : Config) (before after : Files) (read : Result (Vec Line Global) Stop) : Type 0 where
  pub files : FilesKept before after
  pub gives : MatchResult read (λ lines. HasLines name config before.contents lines.items × FilesCalm before after) (λ why. (told : List Line → Told) → Stops (log_plan name config told) before after why)

-- ---- preparing

-- a text that shows what the plan writes, and what it leaves of the watchers
pub record Prints (contents : List ℕ → Option (List ℕ)) (plan : Plan) (seen left : List Watched) (text : List ℕ) : Type 0 where
  pub told : Told
  pub ends : Ends contents plan (written told)
  pub shown : Shows told seen left text

-- what a plan that stops leaves of the watchers: those that it was given, but where there was no memory
abbrev pub StopLeaves : (List ℕ → Option (List ℕ)) → Plan → List Watched → List Watched → Stop → Type 0
StopLeaves contents plan seen left (stop.Refused refusal) = left ≡ seen
StopLeaves contents plan seen left stop.ReadFault = left ≡ seen
StopLeaves contents plan seen left stop.NoMemory = MayWatch contents plan seen left

-- a plan was followed to its end: the text that it writes, or why it stops; and what it leaves of the watchers
pub record Prepares (plan : Plan) (before after : Files) (seen left : List Watched) (prepared : Result (List ℕ) Stop) : Type 0 where
  pub files : FilesKept before after
  pub gives : MatchResult prepared (λ text. Prints before.contents plan seen left text × FilesCalm before after) (λ why. Stops plan before after why × StopLeaves before.contents plan seen left why)

-- ---- concluding

-- an output took this line, and the answer is this status; or a write of it failed, and the answer says so
abbrev pub LineTold : Status → List ℕ → Status → Taken → Taken → Type 0
LineTold status line answer before after = ((answer ≡ status) × TakesWhole before after line) ⊎ ((answer ≡ WriteFault) × TakesFault before after line)

-- there was no memory, and an output took nothing
abbrev pub Wants : Status → Taken → Taken → Type 0
Wants answer before after = (answer ≡ NoMemory) × TakesNone before after

-- a line that takes memory: it is told, or there was none
abbrev pub NumbersTold : Status → List ℕ → Status → Taken → Taken → Type 0
NumbersTold status line answer before after = LineTold status line answer before after ⊎ Wants answer before after

-- what is told and answered of a stop; a line with numbers takes memory
abbrev pub StopTold : Stop → Status → Taken → Taken → Type 0
StopTold stop.NoMemory answer before after = Wants answer before after
StopTold (stop.Refused (Text line kind)) answer before after = NumbersTold ConfigFault (line_of (stop.Refused (Text line kind))) answer before after
StopTold (stop.Refused (Rule line rule)) answer before after = NumbersTold ConfigFault (line_of (stop.Refused (Rule line rule))) answer before after
StopTold (stop.Refused (Log line kind)) answer before after = NumbersTold LogFault (line_of (stop.Refused (Log line kind))) answer before after
StopTold why answer before after = LineTold (status_of why) (line_of why) answer before after

-- the text was written; or a write failed, and standard error was told so, if it took that
abbrev pub Wrote : List ℕ → Status → Taken → Taken → Taken → Taken → Type 0
Wrote text answer out out_after err err_after =
    ((answer ≡ Done) × TakesWhole out out_after text × TakesNone err err_after)
    ⊎ ((answer ≡ WriteFault) × TakesPart out out_after text × Tries err err_after write_fault)

-- the text that was prepared was written, or the stop was told
abbrev pub Concludes : Result (List ℕ) Stop → Status → Taken → Taken → Taken → Taken → Type 0
Concludes (Ok text) answer out out_after err err_after = Wrote text answer out out_after err err_after
Concludes (Err why) answer out out_after err err_after = TakesNone out out_after × StopTold why answer err err_after

-- ---- closing

-- after this number all that standard output kept was handed on, or a failed write changes nothing more; or the job was done, a write failed, and standard error was told so, if it took that
abbrev pub Closes : ℕ → ℕ → Buffer → Buffer → Taken → Taken → Type 0
Closes number answer out out_after err err_after =
    ((answer ≡ number) × (number ≡ 0 → out_after.kept ≡ []) × TakesNone err err_after)
    ⊎ ((number ≡ 0) × (answer ≡ 5) × Rose out.faults out_after.faults × Tries err err_after write_fault)
