-- The words of the command line.
use Rattle.std.specs.Prelude.{ℕ, ◌-◌, ◌*◌, ◌/◌, ◌^◌, Bool, true, false, ◌||◌, ◌&&◌, ◌==◌, nat_le, if◌then◌else◌, List, [], ◌∷◌, length, take, drop, slice_index, Option, Some, None, codes}
use Rattle.std.specs.Option.{option_map}
use Rattle.std.specs.Str.{bytes_eq}
use Rattle.zone_outside.specs.Numbers.{number_of}

-- a number that is at least this
abbrev pub from_least : ℕ → Option ℕ → Option ℕ
from_least least None = None
from_least least (Some n) = if nat_le least n then Some n else None

-- so many requests in one of this unit, in thousandths of a request per second
abbrev pub rate_in : List ℕ → Option ℕ → Option ℕ
rate_in unit requests =
    if bytes_eq unit (codes "r/s") then option_map (λ n. n * 1000) requests
    else if bytes_eq unit (codes "r/m") then option_map (λ n. n * 1000 / 60) requests
    else None

-- `Nr/s` or `Nr/m` with N from 1 to 1,000,000
abbrev pub rate_of : List ℕ → Option ℕ
rate_of word =
    let front = length word - 3 in
    rate_in (drop front word) (from_least 1 (number_of 1000000 (take front word)))

-- 0 to 1,000,000 requests, in thousandths
abbrev pub burst_of : List ℕ → Option ℕ
burst_of word = option_map (λ n. n * 1000) (number_of 1000000 word)

-- how many bytes the last letter of a size stands for, 1 where it is none of the letters
abbrev pub unit_of : ℕ → ℕ
unit_of c =
    if c == 75 || c == 107 then 1024
    else if c == 77 || c == 109 then 1048576
    else 1

-- a number, or one followed by `k`, `K`, `m` or `M`
abbrev pub plain_size_of : List ℕ → Option ℕ
plain_size_of word =
    let front = length word - 1 in
    let unit = unit_of (slice_index word front) in
    if unit == 1 then number_of 67108864 word else option_map (λ n. n * unit) (number_of 67108864 (take front word))

-- a size that a zone may have
abbrev pub in_limits : Option ℕ → Option ℕ
in_limits None = None
in_limits (Some n) = if nat_le 32768 n && nat_le n 67108864 then Some n else None

-- the size of a zone, in bytes
abbrev pub size_of : List ℕ → Option ℕ
size_of word = in_limits (plain_size_of word)

-- what `one` replays: thousandths of a request per second, thousandths of a request, and bytes
pub record OneJob : Type 0 where
  pub rate : ℕ
  pub burst : ℕ
  pub bytes : ℕ

-- what the words may ask for
pub data Command : Type 0 where
  -- a log of keys, by its name, is replayed in one zone
  one : (job : OneJob) (log : List ℕ) → Command
  -- a configuration is read, by its name
  check : (config : List ℕ) → Command
  -- a log of requests is replayed on one worker in the zones of a configuration, by their names
  plain : (config log : List ℕ) → Command
  -- the same, and then the words of the zone of this name
  image : (config log zone : List ℕ) → Command
  -- a log of so many lines is made of a seed and replayed
  made : (seed lines : ℕ) → Command
  -- a log of requests is replayed on so many workers in the zones of a configuration, by their names; and where words are asked for, so are the words of each zone
  replay : (config log : List ℕ) (workers : ℕ) (words : Bool) → Command

-- the job, where each of its numbers was read
abbrev pub one_job : Option ℕ → Option ℕ → Option ℕ → List ℕ → Option Command
one_job (Some rate) (Some burst) (Some bytes) log = Some (one (record { rate = rate; burst = burst; bytes = bytes }) log)
one_job rate burst bytes log = None

-- `one RATE BURST SIZE LOG`
abbrev pub one_of : List (List ℕ) → Option Command
one_of (command ∷ rate ∷ burst ∷ size ∷ log ∷ []) =
    if bytes_eq command (codes "one") then one_job (rate_of rate) (burst_of burst) (size_of size) log else None
one_of words = None

-- `check CONFIG`
abbrev pub check_of : List (List ℕ) → Option Command
check_of (command ∷ config ∷ []) = if bytes_eq command (codes "check") then Some (check config) else None
check_of words = None

-- `plain CONFIG LOG`
abbrev pub plain_of : List (List ℕ) → Option Command
plain_of (command ∷ config ∷ log ∷ []) = if bytes_eq command (codes "plain") then Some (plain config log) else None
plain_of words = None

-- `image CONFIG LOG ZONE`
abbrev pub image_of : List (List ℕ) → Option Command
image_of (command ∷ config ∷ log ∷ zone ∷ []) = if bytes_eq command (codes "image") then Some (image config log zone) else None
image_of words = None

-- the seed and the number of lines, where both were read
abbrev pub made_job : Option ℕ → Option ℕ → Option Command
made_job (Some seed) (Some lines) = Some (made seed lines)
made_job seed lines = None

-- `made SEED LINES`: a seed below 2^64, and 0 to 131,072 lines
abbrev pub made_of : List (List ℕ) → Option Command
made_of (command ∷ seed ∷ lines ∷ []) =
    if bytes_eq command (codes "made") then made_job (number_of (2 ^ 64 - 1) seed) (number_of 131072 lines) else None
made_of words = None

-- 1 to 16 workers
abbrev pub workers_of : List ℕ → Option ℕ
workers_of word = from_least 1 (number_of 16 word)

-- the job, where the number of workers was read
abbrev pub replay_job : List ℕ → List ℕ → Option ℕ → Bool → Option Command
replay_job config log (Some workers) words = Some (replay config log workers words)
replay_job config log None words = None

-- `replay CONFIG LOG WORKERS`, or the same with a further word `words`
abbrev pub replay_of : List (List ℕ) → Option Command
replay_of (command ∷ config ∷ log ∷ workers ∷ []) =
    if bytes_eq command (codes "replay") then replay_job config log (workers_of workers) false else None
replay_of (command ∷ config ∷ log ∷ workers ∷ more ∷ []) =
    if bytes_eq command (codes "replay") then (if bytes_eq more (codes "words") then replay_job config log (workers_of workers) true else None) else None
replay_of words = None

-- the first of two that is there
abbrev pub first_form : Option Command → Option Command → Option Command
first_form None second = second
first_form (Some command) second = Some command

-- what the words ask for, none where they are of none of the forms that are built
abbrev pub command_of : List (List ℕ) → Option Command
command_of words = first_form (one_of words) (first_form (check_of words) (first_form (plain_of words) (first_form (image_of words) (first_form (made_of words) (replay_of words)))))
