-- Plans and where they stop.
use Rattle.std.proofs.Common.{ℕ, ◌≡◌, ◌<◌, ◌≤◌, cond, List, length, replicate, Option, Some, None, Result, Ok, Err, arith, ap, sym, subst, refl, suc, inl, inr, ◌∙◌}
use Rattle.std.specs.Prelude.{IfSome}
use Rattle.std.specs.declared.vec.Vec.{Vec}
use Rattle.std.specs.declared.alloc.Global.{Global}
use Rattle.std.proofs.lemmas.Bool.{lt-ltb, le-ltb}
use Rattle.std.proofs.lemmas.List.{length-replicate}
use Rattle.std.proofs.Math.Path.{fun_ext}
use Rattle.zone_outside.specs.Faults.{Rose}
use Rattle.zonereplay.specs.declared.stop.Refusal.TheVariants.{TooLong}
use Rattle.zonereplay.specs.declared.stop.Stop.{Stop}
use Rattle.zonereplay.specs.declared.stop.Stop.TheVariants.{Refused, ReadFault, NoMemory}
use Rattle.zone_config.specs.declared.data.Config.{Config}
use Rattle.zonereplay.specs.Plan.{Plan, End, Ends, Reaches, MayHold, text_limit, in_limit, unless_refused, with_zones}
use Rattle.zonereplay.specs.Plan.Plan.{refuses, reads}
use Rattle.zonereplay.specs.Plan.End.{refused, written}
use Rattle.zonereplay.specs.Devices.{Files, FilesCalm}
use Rattle.zone_watch.specs.Watched.{Watched}
use Rattle.zonereplay.specs.Answers.{Stops, MayWatch}
use Rattle.zonereplay.specs.Stages.{FilesKept, IsTextOf, ReadsText, IsUsable, OpensConfig, Prints, StopLeaves, Prepares}

-- there is a text longer than n
long_text : (n : ℕ) → (text : List ℕ) × (n < length text)
long_text n = (replicate (suc n) 0, omega (arith, length-replicate {A = ℕ} (suc n) 0))

-- a text that is too long is refused
in_limit-long : (next : List ℕ → Plan) (text : List ℕ) → text_limit < length text → in_limit next text ≡ refuses TooLong
in_limit-long next text long = ap (λ b. cond b (refuses TooLong) (next text)) (lt-ltb text_limit (length text) long)

-- a text within the limit is gone on by
in_limit-short : (next : List ℕ → Plan) (text : List ℕ) → length text ≤ text_limit → in_limit next text ≡ next text
in_limit-short next text short = ap (λ b. cond b (refuses TooLong) (next text)) (le-ltb text_limit (length text) short)

ends_long : (contents : List ℕ → Option (List ℕ)) (next : List ℕ → Plan) (text : List ℕ) → text_limit < length text → Ends contents (in_limit next text) (refused TooLong)
ends_long contents next text long = subst (λ (p : Plan). Ends contents p (refused TooLong)) (sym (in_limit-long next text long)) refl

some_long : (contents : List ℕ → Option (List ℕ)) (next : List ℕ → Plan) (here : Option (List ℕ)) → IfSome here (λ text. text_limit < length text) → (text : List ℕ) × MayHold here text × Ends contents (in_limit next text) (refused TooLong)
some_long contents next None long = let found = long_text text_limit in (found.0, tt, ends_long contents next found.0 found.1)
some_long contents next (Some text) long = (text, refl, ends_long contents next text long)

-- a file that holds too long a text stops each plan that begins with it
pub too_long_stops : (name : List ℕ) (before after : Files) → IfSome (before.contents name) (λ text. text_limit < length text) → FilesCalm before after → (next : List ℕ → Plan) → Stops (reads name (in_limit next)) before after (Refused TooLong)
too_long_stops name before after long calm next = (some_long before.contents next (before.contents name) long, calm)

-- a file that failed stops each plan that begins with it
pub unread_stops : (name : List ℕ) (before after : Files) → Rose (before.faults name) (after.faults name) → (next : List ℕ → Plan) → Stops (reads name (in_limit next)) before after ReadFault
unread_stops name before after rose next = record { name = name; named = inl refl; rose = rose }

-- ---- the watchers of a plan that stops

module _ (contents : List ℕ → Option (List ℕ)) (plan whole : Plan) (seen left : List Watched) (on : (end : End) → Ends contents plan end → Ends contents whole end) where
  -- what a plan prints is printed by one that goes on to it
  pub prints_on : (text : List ℕ) → Prints contents plan seen left text → Prints contents whole seen left text
  prints_on text prints = record { told = prints.told; ends = on (written prints.told) prints.ends; shown = prints.shown }

  may_watch_on : MayWatch contents plan seen left → MayWatch contents whole seen left
  may_watch_on (inl same) = inl same
  may_watch_on (inr (told, ends, shown)) = inr (told, on (written told) ends, shown)

  -- and what it leaves of the watchers where it stops is left by that one
  pub leaves_on : (why : Stop) → StopLeaves contents plan seen left why → StopLeaves contents whole seen left why
  leaves_on (Refused refusal) same = same
  leaves_on ReadFault same = same
  leaves_on NoMemory may = may_watch_on may

-- a plan that stops before it comes to the watchers leaves them as they were
pub leaves_same : (contents : List ℕ → Option (List ℕ)) (plan : Plan) (seen : List Watched) (why : Stop) → StopLeaves contents plan seen seen why
leaves_same contents plan seen (Refused refusal) = refl
leaves_same contents plan seen ReadFault = refl
leaves_same contents plan seen NoMemory = inl refl

-- ---- after a text was read

-- a plan that reads a text ends as what it goes on to by it
pub read_ends : (contents : List ℕ → Option (List ℕ)) (name : List ℕ) (next : List ℕ → Plan) (text : List ℕ) (end : End) → IsTextOf (contents name) text → Ends contents (next text) end → Ends contents (reads name (in_limit next)) end
read_ends contents name next text end held ends = (text, held.0, subst (λ (p : Plan). Ends contents p end) (sym (in_limit-short next text held.1)) ends)

read_reaches : (contents : List ℕ → Option (List ℕ)) (name : List ℕ) (next : List ℕ → Plan) (text other : List ℕ) → IsTextOf (contents name) text → Reaches contents (next text) other → Reaches contents (reads name (in_limit next)) other
read_reaches contents name next text other held reached = inr (text, held.0, subst (λ (p : Plan). Reaches contents p other) (sym (in_limit-short next text held.1)) reached)

-- it stops as what it goes on to
read_stops : (name : List ℕ) (before after : Files) (next : List ℕ → Plan) (text : List ℕ) (why : Stop) → IsTextOf (before.contents name) text → Stops (next text) before after why → Stops (reads name (in_limit next)) before after why
read_stops name before after next text (Refused refusal) held stops = (read_ends before.contents name next text (refused refusal) held stops.0, stops.1)
read_stops name before after next text ReadFault held unread = record { name = unread.name; named = read_reaches before.contents name next text unread.name held unread.named; rose = unread.rose }
read_stops name before after next text NoMemory held calm = calm

read_gives : (name : List ℕ) (before after : Files) (seen left : List Watched) (next : List ℕ → Plan) (text : List ℕ) (prepared : Result (List ℕ) Stop) → IsTextOf (before.contents name) text → Prepares (next text) before after seen left prepared → Prepares (reads name (in_limit next)) before after seen left prepared
read_gives name before after seen left next text (Ok written_text) held went =
    let on = λ (end : End). read_ends before.contents name next text end held in
    record { files = went.files; gives = (prints_on before.contents (next text) (reads name (in_limit next)) seen left on written_text went.gives.0, went.gives.1) }
read_gives name before after seen left next text (Err why) held went =
    let on = λ (end : End). read_ends before.contents name next text end held in
    record { files = went.files; gives = (read_stops name before after next text why held went.gives.0, leaves_on before.contents (next text) (reads name (in_limit next)) seen left on why went.gives.1) }

-- files that hold what they held, and of which none failed, are as they were
same_files : (before after : Files) → FilesKept before after → FilesCalm before after → after ≡ before
same_files before after files calm =
    let made : (List ℕ → Option (List ℕ)) → (List ℕ → ℕ) → Files = λ contents faults. record { contents = contents; faults = faults } in
    ap (λ c. made c after.faults) (fun_ext files.kept) ∙ ap (made before.contents) (fun_ext calm)

-- a plan that reads a text goes on by it
pub read_prepares : (name : List ℕ) (before between after : Files) (seen left : List Watched) (next : List ℕ → Plan) (text : Vec ℕ Global) (given : List ℕ) (prepared : Result (List ℕ) Stop) → ReadsText name before between (Ok text) → given ≡ text.items → Prepares (next given) between after seen left prepared
    → Prepares (reads name (in_limit next)) before after seen left prepared
read_prepares name before between after seen left next text given prepared read given_is went =
    let same = same_files before between read.files read.gives.1 in
    let own = subst (λ (t : List ℕ). Prepares (next t) between after seen left prepared) given_is went in
    read_gives name before after seen left next text.items prepared read.gives.0 (subst (λ (f : Files). Prepares (next text.items) f after seen left prepared) same own)

-- a plan that can't read a text stops
pub read_stopped : (name : List ℕ) (before after : Files) (seen : List Watched) (next : List ℕ → Plan) (why : Stop) → ReadsText name before after (Err why) → Prepares (reads name (in_limit next)) before after seen seen (Err why)
read_stopped name before after seen next why read = record { files = read.files; gives = (read.gives next, leaves_same before.contents (reads name (in_limit next)) seen why) }

-- ---- after a configuration was read and its zones opened

config_ends : (contents : List ℕ → Option (List ℕ)) (text : List ℕ) (next : Config → Plan) (config : Config) (end : End) → IsUsable text config → Ends contents (next config) end → Ends contents (with_zones text next) end
config_ends contents text next config end use_it ends = inl (config, use_it.said, subst (λ (o : Option ℕ). Ends contents (unless_refused o (next config)) end) (sym use_it.given) ends)

config_reaches : (contents : List ℕ → Option (List ℕ)) (text : List ℕ) (next : Config → Plan) (config : Config) (name : List ℕ) → IsUsable text config → Reaches contents (next config) name → Reaches contents (with_zones text next) name
config_reaches contents text next config name use_it reached = (config, use_it.said, subst (λ (o : Option ℕ). Reaches contents (unless_refused o (next config)) name) (sym use_it.given) reached)

config_stops : (text : List ℕ) (before after : Files) (next : Config → Plan) (config : Config) (why : Stop) → IsUsable text config → Stops (next config) before after why → Stops (with_zones text next) before after why
config_stops text before after next config (Refused refusal) use_it stops = (config_ends before.contents text next config (refused refusal) use_it stops.0, stops.1)
config_stops text before after next config ReadFault use_it unread = record { name = unread.name; named = config_reaches before.contents text next config unread.name use_it unread.named; rose = unread.rose }
config_stops text before after next config NoMemory use_it calm = calm

-- a plan that uses a configuration goes on by it
pub config_prepares : (text : List ℕ) (before after : Files) (seen left : List Watched) (next : Config → Plan) (config : Config) (prepared : Result (List ℕ) Stop) → IsUsable text config → Prepares (next config) before after seen left prepared → Prepares (with_zones text next) before after seen left prepared
config_prepares text before after seen left next config (Ok written_text) use_it went =
    let on = λ (end : End). config_ends before.contents text next config end use_it in
    record { files = went.files; gives = (prints_on before.contents (next config) (with_zones text next) seen left on written_text went.gives.0, went.gives.1) }
config_prepares text before after seen left next config (Err why) use_it went =
    let on = λ (end : End). config_ends before.contents text next config end use_it in
    record { files = went.files; gives = (config_stops text before after next config why use_it went.gives.0, leaves_on before.contents (next config) (with_zones text next) seen left on why went.gives.1) }

-- a plan that can't use it stops
pub config_stopped : (text : List ℕ) (files : Files) (seen : List Watched) (next : Config → Plan) (why : Stop) → OpensConfig text (Err why) → Prepares (with_zones text next) files files seen seen (Err why)
config_stopped text files seen next (Refused refusal) h = record { files = record { kept = λ name. refl; later = λ name. omega arith }; gives = ((h files.contents next, λ name. refl), refl) }
config_stopped text files seen next ReadFault h = absurd h
config_stopped text files seen next NoMemory h = record { files = record { kept = λ name. refl; later = λ name. omega arith }; gives = (λ name. refl, inl refl) }
