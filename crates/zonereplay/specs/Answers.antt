-- What a status says, and all that a command promises of its plan.
use Rattle.std.specs.Prelude.{ℕ, ◌≡◌, ◌≤◌, ◌⊎◌, List, Option}
use Rattle.zone_outside.specs.Faults.{Rose}
use Rattle.zone_watch.specs.Watched.{Watched}
use Rattle.zonereplay.specs.declared.status.Status.{Status}
use Rattle.zonereplay.specs.declared.status.Status.TheVariants.{Done, Usage, ConfigFault, LogFault, ReadFault, WriteFault, TooLong, NoMemory}
use Rattle.zonereplay.specs.declared.stop.Refusal.{Refusal}
use Rattle.zonereplay.specs.declared.stop.Stop.{Stop}
use Rattle.zonereplay.specs.declared.stop.Stop.TheVariants as stop
use Rattle.zonereplay.specs.Statuses.{code_of}
use Rattle.zonereplay.specs.Stops.{status_of, line_of}
use Rattle.zonereplay.specs.Told.{Told, Shows}
use Rattle.zonereplay.specs.Plan.{Plan, Ends, Reaches}
use Rattle.zonereplay.specs.Plan.End.{refused, written}
use Rattle.zonereplay.specs.Devices.{Files, Devices, FilesCalm, TakesWhole, TakesNone, TakesPart, TakesFault, Tries, write_fault}

-- ---- the causes

-- a file that the plan comes to could not be opened or read
pub record Unread (plan : Plan) (before after : Files) : Type 0 where
  pub name : List ℕ
  pub named : Reaches before.contents plan name
  pub rose : Rose (before.faults name) (after.faults name)

-- why the plan stops: it ends in this refusal and no file failed, or a file failed, or there was no memory
abbrev pub Stops : Plan → Files → Files → Stop → Type 0
Stops plan before after (stop.Refused refusal) = Ends before.contents plan (refused refusal) × FilesCalm before after
Stops plan before after stop.ReadFault = Unread plan before after
Stops plan before after stop.NoMemory = FilesCalm before after

-- ---- what a status says

-- all the text was written
pub record Written (plan : Plan) (before after : Devices) : Type 0 where
  pub told : Told
  pub ends : Ends before.files.contents plan (written told)
  pub text : List ℕ
  pub shown : Shows told before.watchers after.watchers text
  pub files : FilesCalm before.files after.files
  pub out : TakesWhole before.out after.out text
  pub err : TakesNone before.err after.err

-- a write of the text failed
pub record OutFault (plan : Plan) (before after : Devices) : Type 0 where
  pub told : Told
  pub ends : Ends before.files.contents plan (written told)
  pub text : List ℕ
  pub shown : Shows told before.watchers after.watchers text
  pub files : FilesCalm before.files after.files
  pub out : TakesPart before.out after.out text
  pub err : Tries before.err after.err write_fault

-- the plan stopped, and its line was written
pub record Stopped (plan : Plan) (before after : Devices) (status : Status) : Type 0 where
  pub stop : Stop
  pub status_is : status ≡ status_of stop
  pub cause : Stops plan before.files after.files stop
  pub out : TakesNone before.out after.out
  pub err : TakesWhole before.err after.err (line_of stop)
  pub watchers : after.watchers ≡ before.watchers

-- the plan stopped, and a write of its line failed
pub record ErrFault (plan : Plan) (before after : Devices) : Type 0 where
  pub stop : Stop
  pub cause : Stops plan before.files after.files stop
  pub out : TakesNone before.out after.out
  pub err : TakesFault before.err after.err (line_of stop)
  pub watchers : after.watchers ≡ before.watchers

-- the watchers are as they were, or as a text that the plan writes leaves them
abbrev pub MayWatch : (List ℕ → Option (List ℕ)) → Plan → List Watched → List Watched → Type 0
MayWatch contents plan before after = (after ≡ before) ⊎ ((told : Told) × Ends contents plan (written told) × ((text : List ℕ) × Shows told before after text))

-- there was no memory, and nothing was written
pub record WantOfMemory (plan : Plan) (before after : Devices) : Type 0 where
  pub files : FilesCalm before.files after.files
  pub out : TakesNone before.out after.out
  pub err : TakesNone before.err after.err
  pub watchers : MayWatch before.files.contents plan before.watchers after.watchers

-- what a status says
abbrev pub Says : Plan → Devices → Devices → Status → Type 0
Says plan before after Done = Written plan before after
Says plan before after Usage = Stopped plan before after Usage
Says plan before after ConfigFault = Stopped plan before after ConfigFault
Says plan before after LogFault = Stopped plan before after LogFault
Says plan before after ReadFault = Stopped plan before after ReadFault
Says plan before after TooLong = Stopped plan before after TooLong
Says plan before after WriteFault = OutFault plan before after ⊎ ErrFault plan before after
Says plan before after NoMemory = WantOfMemory plan before after

-- ---- completeness

-- the plan can't end in a refusal, no file that it comes to failed, and standard output took each write
pub record IsFree (plan : Plan) (before after : Devices) : Type 0 where
  pub sound : (refusal : Refusal) → Ends before.files.contents plan (refused refusal) → ⊥
  pub read : Unread plan before.files after.files → ⊥
  pub wrote : Rose before.out.faults after.out.faults → ⊥

-- ---- a command

-- a command with this plan ended with this number
pub record Does (plan : Plan) (before after : Devices) (number : ℕ) : Type 0 where
  -- it is that of a status, which has its cause
  pub status : Status
  pub number_is : number ≡ code_of status
  pub says : Says plan before after status
  -- with sound texts and devices without faults the job is done, or there was no memory; it follows from `says`
  pub complete : IsFree plan before after → (number ≡ 0) ⊎ (number ≡ 7)
  -- what the files hold stays, and their counts of faults never fall
  pub kept : (name : List ℕ) → after.files.contents name ≡ before.files.contents name
  pub later : (name : List ℕ) → before.files.faults name ≤ after.files.faults name
