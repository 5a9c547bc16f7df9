-- The causes of the statuses.
use Rattle.std.proofs.Common.{ℕ, ◌≡◌, ◌⊎◌, List, Option, Some, None, Result, Ok, Err, ap, arith, sym, subst, refl, inl, inr}
use Rattle.std.specs.Io.KnownBytes.{Keeps}
use Rattle.zonereplay.specs.declared.status.Status.{Status}
use Rattle.zonereplay.specs.declared.status.Status.TheVariants as status
use Rattle.zonereplay.specs.declared.stop.Refusal.{Refusal}
use Rattle.zonereplay.specs.declared.stop.Refusal.TheVariants.{Usage, TooLong, Text, Rule, Log}
use Rattle.zonereplay.specs.declared.stop.Stop.{Stop}
use Rattle.zonereplay.specs.declared.stop.Stop.TheVariants.{Refused, ReadFault, NoMemory}
use Rattle.zonereplay.specs.Statuses.{code_of}
use Rattle.zonereplay.specs.Stops.{status_of, line_of}
use Rattle.zonereplay.specs.Told.{Told}
use Rattle.zonereplay.specs.Plan.{Plan, Ends}
use Rattle.zonereplay.specs.Plan.Plan.{refuses, writes}
use Rattle.zonereplay.specs.Plan.End.{refused, written}
use Rattle.zonereplay.specs.Devices.{Taken, Files, Devices, FilesCalm, TakesWhole, TakesNone, TakesFault}
use Rattle.zonereplay.specs.Answers.{Stops, Stopped, MayWatch, Says, IsFree, Does}
use Rattle.zonereplay.specs.Stages.{LineTold, Wants, StopTold, Wrote, Concludes, FilesKept, Prints, StopLeaves, Prepares}

known_kept : (known : Option (List ℕ)) → Keeps known known
known_kept None = tt
known_kept (Some text) = refl

-- an output that was left alone took nothing
pub none_taken : (taken : Taken) → TakesNone taken taken
none_taken taken = record { kept = known_kept taken.text; calm = refl }

-- ---- what a status says

-- a line that was due was told, or standard error refused it
line_says : (plan : Plan) (before after : Devices) (stop : Stop) (answer : Status) → TakesNone before.out after.out → Stops plan before.files after.files stop → after.watchers ≡ before.watchers
    → (TakesWhole before.err after.err (line_of stop) → Says plan before after (status_of stop)) → LineTold (status_of stop) (line_of stop) answer before.err after.err → Says plan before after answer
line_says plan before after stop answer out cause same says (inl (is, whole)) = subst (Says plan before after) (sym is) (says whole)
line_says plan before after stop answer out cause same says (inr (is, fault)) = subst (Says plan before after) (sym is) (inr (record { stop = stop; cause = cause; out = out; err = fault; watchers = same }))

want_says : (plan : Plan) (before after : Devices) (answer : Status) → TakesNone before.out after.out → FilesCalm before.files after.files → MayWatch before.files.contents plan before.watchers after.watchers → Wants answer before.err after.err → Says plan before after answer
want_says plan before after answer out files watchers (is, err) = subst (Says plan before after) (sym is) (record { files = files; out = out; err = err; watchers = watchers })

stopped : (plan : Plan) (before after : Devices) (stop : Stop) → TakesNone before.out after.out → Stops plan before.files after.files stop → after.watchers ≡ before.watchers → TakesWhole before.err after.err (line_of stop) → Stopped plan before after (status_of stop)
stopped plan before after stop out cause same whole = record { stop = stop; status_is = refl; cause = cause; out = out; err = whole; watchers = same }

-- a stop is answered by its status
stop_says : (plan : Plan) (before after : Devices) (stop : Stop) (answer : Status) → TakesNone before.out after.out → Stops plan before.files after.files stop → StopLeaves before.files.contents plan before.watchers after.watchers stop → StopTold stop answer before.err after.err → Says plan before after answer
stop_says plan before after (Refused Usage) answer out cause same tells = line_says plan before after (Refused Usage) answer out cause same (stopped plan before after (Refused Usage) out cause same) tells
stop_says plan before after (Refused TooLong) answer out cause same tells = line_says plan before after (Refused TooLong) answer out cause same (stopped plan before after (Refused TooLong) out cause same) tells
stop_says plan before after (Refused (Text line kind)) answer out cause same (inl tells) = line_says plan before after (Refused (Text line kind)) answer out cause same (stopped plan before after (Refused (Text line kind)) out cause same) tells
stop_says plan before after (Refused (Text line kind)) answer out cause same (inr want) = want_says plan before after answer out cause.1 (inl same) want
stop_says plan before after (Refused (Rule line rule)) answer out cause same (inl tells) = line_says plan before after (Refused (Rule line rule)) answer out cause same (stopped plan before after (Refused (Rule line rule)) out cause same) tells
stop_says plan before after (Refused (Rule line rule)) answer out cause same (inr want) = want_says plan before after answer out cause.1 (inl same) want
stop_says plan before after (Refused (Log line kind)) answer out cause same (inl tells) = line_says plan before after (Refused (Log line kind)) answer out cause same (stopped plan before after (Refused (Log line kind)) out cause same) tells
stop_says plan before after (Refused (Log line kind)) answer out cause same (inr want) = want_says plan before after answer out cause.1 (inl same) want
stop_says plan before after ReadFault answer out cause same tells = line_says plan before after ReadFault answer out cause same (stopped plan before after ReadFault out cause same) tells
stop_says plan before after NoMemory answer out cause may want = want_says plan before after answer out cause may want

-- a text that was prepared was written, or a write failed
text_says : (plan : Plan) (before after : Devices) (text : List ℕ) (answer : Status) → Prints before.files.contents plan before.watchers after.watchers text → FilesCalm before.files after.files → Wrote text answer before.out after.out before.err after.err → Says plan before after answer
text_says plan before after text answer prints files (inl (is, out, err)) =
    subst (Says plan before after) (sym is) (record { told = prints.told; ends = prints.ends; text = text; shown = prints.shown; files = files; out = out; err = err })
text_says plan before after text answer prints files (inr (is, out, err)) =
    subst (Says plan before after) (sym is) (inl (record { told = prints.told; ends = prints.ends; text = text; shown = prints.shown; files = files; out = out; err = err }))

-- ---- completeness

-- where all is free, a plan stops for want of memory alone
free_stop : (plan : Plan) (before after : Devices) (stop : Stop) (status : Status) → IsFree plan before after → Stops plan before.files after.files stop → status ≡ status_of stop → code_of status ≡ 7
free_stop plan before after (Refused refusal) status free cause is = absurd (free.sound refusal cause.0)
free_stop plan before after ReadFault status free cause is = absurd (free.read cause)
free_stop plan before after NoMemory status free cause is = ap code_of is

-- where all is free, no line is due whose write may fail
free_line : (plan : Plan) (before after : Devices) (stop : Stop) → IsFree plan before after → Stops plan before.files after.files stop → TakesFault before.err after.err (line_of stop) → ⊥
free_line plan before after (Refused refusal) free cause fault = free.sound refusal cause.0
free_line plan before after ReadFault free cause fault = free.read cause
free_line plan before after NoMemory free cause fault = omega (arith, fault.line_failed.proper)

complete : (plan : Plan) (before after : Devices) (status : Status) → Says plan before after status → IsFree plan before after → (code_of status ≡ 0) ⊎ (code_of status ≡ 7)
complete plan before after status.Done all free = inl refl
complete plan before after status.Usage told free = inr (free_stop plan before after told.stop status.Usage free told.cause told.status_is)
complete plan before after status.ConfigFault told free = inr (free_stop plan before after told.stop status.ConfigFault free told.cause told.status_is)
complete plan before after status.LogFault told free = inr (free_stop plan before after told.stop status.LogFault free told.cause told.status_is)
complete plan before after status.ReadFault told free = inr (free_stop plan before after told.stop status.ReadFault free told.cause told.status_is)
complete plan before after status.TooLong told free = inr (free_stop plan before after told.stop status.TooLong free told.cause told.status_is)
complete plan before after status.WriteFault (inl fault) free = absurd (free.wrote fault.out.rose)
complete plan before after status.WriteFault (inr fault) free = absurd (free_line plan before after fault.stop free fault.cause fault.err)
complete plan before after status.NoMemory want free = inr refl

does : (plan : Plan) (before after : Devices) (status : Status) → FilesKept before.files after.files → Says plan before after status → Does plan before after (code_of status)
does plan before after status files says = record { status = status; number_is = refl; says = says; complete = complete plan before after status says; kept = files.kept; later = files.later }

-- ---- how a command ends

-- a command that followed its plan and concluded
command_does : (plan : Plan) (before after : Devices) (prepared : Result (List ℕ) Stop) (status : Status) → Prepares plan before.files after.files before.watchers after.watchers prepared
    → Concludes prepared status before.out after.out before.err after.err → Does plan before after (code_of status)
command_does plan before after (Ok text) status prepares wrote = does plan before after status prepares.files (text_says plan before after text status prepares.gives.0 prepares.gives.1 wrote)
command_does plan before after (Err why) status prepares concludes = does plan before after status prepares.files (stop_says plan before after why status concludes.0 prepares.gives.0 prepares.gives.1 concludes.1)

module _ {plan asked : Plan} {before after : Devices} {prepared : Result (List ℕ) Stop} (status : Status) {number : ℕ} where
  -- and is told by its words and by a number
  pub command_done : asked ≡ plan → number ≡ code_of status → Prepares plan before.files after.files before.watchers after.watchers prepared → Concludes prepared status before.out after.out before.err after.err → Does asked before after number
  command_done is number_is prepares concludes =
      subst (λ (p : Plan). Does p before after number) (sym is) (subst (λ (n : ℕ). Does plan before after n) (sym number_is) (command_does plan before after prepared status prepares concludes))

-- words of no form
usage_does : (plan : Plan) (before after : Devices) (status : Status) → plan ≡ refuses Usage → after.files ≡ before.files → after.out ≡ before.out → after.watchers ≡ before.watchers → StopTold (Refused Usage) status before.err after.err → Does plan before after (code_of status)
usage_does plan before after status is files out watchers tells =
    let ends = subst (λ (p : Plan). Ends before.files.contents p (refused Usage)) (sym is) refl in
    let calm : FilesCalm before.files after.files = λ name. ap (λ (f : Files). f.faults name) files in
    let kept : FilesKept before.files after.files = record { kept = λ name. ap (λ (f : Files). f.contents name) files; later = λ name. rw files (omega arith) } in
    does plan before after status kept (stop_says plan before after (Refused Usage) status (rw out (none_taken before.out)) (ends, calm) watchers tells)

module _ {plan : Plan} {before after : Devices} (status : Status) {number : ℕ} where
  pub usage_done : plan ≡ refuses Usage → number ≡ code_of status → after.files ≡ before.files → after.out ≡ before.out → after.watchers ≡ before.watchers → StopTold (Refused Usage) status before.err after.err → Does plan before after number
  usage_done is number_is files out watchers tells = subst (λ (n : ℕ). Does plan before after n) (sym number_is) (usage_does plan before after status is files out watchers tells)

-- ---- a command that reads nothing

not_both : (told : Told) (refusal : Refusal) → refused refusal ≡ written told → ⊥
not_both told refusal is = cc

module _ (told : Told) (before after : Devices) where
  -- it stops for want of memory alone
  writes_stop : (stop : Stop) (status : Status) → Stops (writes told) before.files after.files stop → status ≡ status_of stop → code_of status ≡ 7
  writes_stop (Refused refusal) status cause is = absurd (not_both told refusal cause.0)
  writes_stop ReadFault status cause is = absurd cause.named
  writes_stop NoMemory status cause is = ap code_of is

  writes_says : (status : Status) → Says (writes told) before after status → (code_of status ≡ 0) ⊎ ((code_of status ≡ 5) ⊎ (code_of status ≡ 7))
  writes_says status.Done says = inl refl
  writes_says status.Usage says = inr (inr (writes_stop says.stop status.Usage says.cause says.status_is))
  writes_says status.ConfigFault says = inr (inr (writes_stop says.stop status.ConfigFault says.cause says.status_is))
  writes_says status.LogFault says = inr (inr (writes_stop says.stop status.LogFault says.cause says.status_is))
  writes_says status.ReadFault says = inr (inr (writes_stop says.stop status.ReadFault says.cause says.status_is))
  writes_says status.TooLong says = inr (inr (writes_stop says.stop status.TooLong says.cause says.status_is))
  writes_says status.WriteFault says = inr (inl refl)
  writes_says status.NoMemory says = inr (inr refl)

  -- so it ends with 0, 5 or 7
  pub writes_statuses : (number : ℕ) → Does (writes told) before after number → (number ≡ 0) ⊎ ((number ≡ 5) ⊎ (number ≡ 7))
  writes_statuses number does = subst (λ (n : ℕ). (n ≡ 0) ⊎ ((n ≡ 5) ⊎ (n ≡ 7))) (sym does.number_is) (writes_says does.status does.says)
