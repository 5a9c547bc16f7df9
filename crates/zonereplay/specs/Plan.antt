-- What a command does, by its words and by the texts that it reads.
use Rattle.std.specs.Prelude.{ℕ, ◌≡◌, nat_lt, Bool, true, false, List, length, Option, Some, None, Result, Ok, Err, if◌then◌else◌, ◌⊎◌}
use Rattle.std.specs.List.{position}
use Rattle.directive_text.specs.declared.tree.Directive.{Directive}
use Rattle.directive_text.specs.Spelling.{Spells}
use Rattle.directive_text.specs.Faults.{HasFault}
use Rattle.zone_config.specs.declared.data.Config.{Config}
use Rattle.config_rules.specs.Rules.{fault_of}
use Rattle.zone_config.specs.Reading.{GivesConfig}
use Rattle.zone_config.specs.Configuration.{is_zone_called}
use Rattle.decision_text.specs.CheckText.{check_text}
use Rattle.replay_log.specs.declared.keys.KeyLine.{KeyLine}
use Rattle.zonereplay.specs.declared.stop.Refusal.{Refusal}
use Rattle.zonereplay.specs.declared.stop.Refusal.TheVariants.{Usage, TooLong, Text, Rule, Log}
use Rattle.zonereplay.specs.Words.{Command, OneJob, command_of}
use Rattle.zonereplay.specs.Words.Command.{one, check, plain, image, made, replay as on_workers}
use Rattle.replay_log.specs.Lines.{Fault}
use Rattle.replay_log.specs.Keys.{keys_of}
use Rattle.replay_log.specs.Requests.{requests_of}
use Rattle.replay_log.specs.declared.line.Line.{Line}
use Rattle.replay_share.specs.Opening.{refused_line}
use Rattle.made_log.specs.MadeConfig.{made_config}
use Rattle.made_log.specs.MadeLog.{made_lines}
use Rattle.zonereplay.specs.OneText.{one_text}
use Rattle.zonereplay.specs.Told.{Told}
use Rattle.zonereplay.specs.Told.Told.{exactly, replay, replay_with_words, zone_words, summary}

-- the steps that are left
pub data Plan : Type 0 where
  -- it refuses the words or a text
  refuses : (refusal : Refusal) → Plan
  -- it writes a text that shows this
  writes : (told : Told) → Plan
  -- it reads the file of this name, and goes on by its text
  reads : (name : List ℕ) (next : List ℕ → Plan) → Plan
  -- it reads the configuration of a text, and refuses the text by its first fault or goes on by what the directives say
  configures : (text : List ℕ) (next : Config → Plan) → Plan

-- ---- configurations

-- the text spells directives that give this configuration
pub record SaysConfig (text : List ℕ) (config : Config) : Type 0 where
  pub directives : List Directive
  pub spelled : Spells text directives
  pub given : GivesConfig directives config

-- the text spells directives of which the one at this line is the first to break a rule, and this is its first rule that is broken
pub record BreaksRule (text : List ℕ) (line rule : ℕ) : Type 0 where
  pub directives : List Directive
  pub spelled : Spells text directives
  pub broken : fault_of directives ≡ Some (record { line = line; rule = rule })

-- what is wrong with the text of a configuration
abbrev pub IsWrong : List ℕ → Refusal → Type 0
IsWrong text (Text line kind) = HasFault text line kind
IsWrong text (Rule line rule) = BreaksRule text line rule
IsWrong text Usage = ⊥
IsWrong text TooLong = ⊥
IsWrong text (Log line kind) = ⊥

-- how a plan may end
pub data End : Type 0 where
  refused : (refusal : Refusal) → End
  written : (told : Told) → End

-- the most bytes of a text that is read
abbrev pub text_limit : ℕ
text_limit = 16777216

-- a text that is too long is refused
abbrev pub in_limit : (List ℕ → Plan) → List ℕ → Plan
in_limit next text = if nat_lt text_limit (length text) then refuses TooLong else next text

-- ---- the commands

-- the keys are replayed, or the log's first fault is told
abbrev pub one_run : OneJob → Result (List KeyLine) Fault → Plan
one_run job (Ok keys) = writes (exactly (one_text job keys))
one_run job (Err fault) = refuses (Log fault.line fault.kind)

-- `one RATE BURST SIZE LOG`
abbrev pub one_plan : OneJob → List ℕ → Plan
one_plan job log = reads log (in_limit (λ text. one_run job (keys_of text)))

-- what follows where no zone lacks a block for a server; else the configuration is refused at the line of the first that does
abbrev pub unless_refused : Option ℕ → Plan → Plan
unless_refused None next = next
unless_refused (Some line) next = refuses (Rule line 19)

-- the configuration of a text is read, and its zones are opened
abbrev pub with_zones : List ℕ → (Config → Plan) → Plan
with_zones text next = configures text (λ config. unless_refused (refused_line config.zones) (next config))

-- what the configuration of a text says is written
abbrev pub check_run : List ℕ → Plan
check_run text = with_zones text (λ config. writes (exactly (check_text config)))

-- `check CONFIG`
abbrev pub check_plan : List ℕ → Plan
check_plan name = reads name (in_limit check_run)

-- what is told of the lines is written, or the log's first fault is told
abbrev pub log_run : (List Line → Told) → Result (List Line) Fault → Plan
log_run told (Ok lines) = writes (told lines)
log_run told (Err fault) = refuses (Log fault.line fault.kind)

-- the log of this name is read with the locations of a configuration, and what is told of its lines is written
abbrev pub log_plan : List ℕ → Config → (List Line → Told) → Plan
log_plan log config told = reads log (in_limit (λ text. log_run told (requests_of config.locations text)))

-- the log is replayed on one worker
abbrev pub plain_log : List ℕ → Config → Plan
plain_log log config = log_plan log config (λ lines. replay config 1 lines)

-- `plain CONFIG LOG`
abbrev pub plain_plan : List ℕ → List ℕ → Plan
plain_plan name log = reads name (in_limit (λ text. with_zones text (plain_log log)))

-- what follows by the number of a zone; where there is no such zone, the configuration is refused
abbrev pub with_zone : Option ℕ → (ℕ → Plan) → Plan
with_zone None next = refuses (Rule 0 11)
with_zone (Some zone) next = next zone

-- the log is replayed on one worker, and the words of the zone of this name are written
abbrev pub image_log : List ℕ → List ℕ → Config → Plan
image_log log name config = with_zone (position (is_zone_called name) config.zones) (λ zone. log_plan log config (λ lines. zone_words config zone lines))

-- `image CONFIG LOG ZONE`
abbrev pub image_plan : List ℕ → List ℕ → List ℕ → Plan
image_plan name log zone = reads name (in_limit (λ text. with_zones text (image_log log zone)))

-- `made SEED LINES`: nothing is read, and the made log is replayed in the made configuration
abbrev pub made_plan : ℕ → ℕ → Plan
made_plan seed lines = writes (summary made_config (made_lines seed lines))

-- what is told of a replay on so many workers, without the words of the zones or with them
abbrev pub workers_told : ℕ → Bool → Config → List Line → Told
workers_told workers false config = λ lines. replay config workers lines
workers_told workers true config = λ lines. replay_with_words config workers lines

-- the log is replayed on so many workers
abbrev pub workers_log : List ℕ → ℕ → Bool → Config → Plan
workers_log log workers words config = log_plan log config (workers_told workers words config)

-- `replay CONFIG LOG WORKERS`, and the same with `words`
abbrev pub replay_plan : List ℕ → List ℕ → ℕ → Bool → Plan
replay_plan name log workers words = reads name (in_limit (λ text. with_zones text (workers_log log workers words)))

-- words of no form are refused
abbrev pub plan_for : Option Command → Plan
plan_for None = refuses Usage
plan_for (Some (one job log)) = one_plan job log
plan_for (Some (check config)) = check_plan config
plan_for (Some (plain config log)) = plain_plan config log
plan_for (Some (image config log zone)) = image_plan config log zone
plan_for (Some (made seed lines)) = made_plan seed lines
plan_for (Some (on_workers config log workers words)) = replay_plan config log workers words

-- the plan of these words
abbrev pub plan_of : List (List ℕ) → Plan
plan_of words = plan_for (command_of words)

-- ---- where a plan leads

-- a file may hold this text: the one that it tells, or any where it tells none
abbrev pub MayHold : Option (List ℕ) → List ℕ → Type 0
MayHold None text = Unit {0}
MayHold (Some told) text = text ≡ told

-- the plan ends so, where the files have these contents
abbrev pub Ends : (List ℕ → Option (List ℕ)) → Plan → End → Type 0
Ends contents (refuses refusal) end = end ≡ refused refusal
Ends contents (writes told) end = end ≡ written told
Ends contents (reads name next) end = (text : List ℕ) × MayHold (contents name) text × Ends contents (next text) end
Ends contents (configures text next) end =
    ((config : Config) × SaysConfig text config × Ends contents (next config) end)
    ⊎ ((refusal : Refusal) × IsWrong text refusal × (end ≡ refused refusal))

-- the plan comes to reading this name
abbrev pub Reaches : (List ℕ → Option (List ℕ)) → Plan → List ℕ → Type 0
Reaches contents (refuses refusal) name = ⊥
Reaches contents (writes told) name = ⊥
Reaches contents (configures text next) name = (config : Config) × SaysConfig text config × Reaches contents (next config) name
Reaches contents (reads first next) name = (name ≡ first) ⊎ ((text : List ℕ) × MayHold (contents first) text × Reaches contents (next text) name)
