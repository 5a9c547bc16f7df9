-- What is read from the words.
use Rattle.zonereplay.specs.Words.{OneJob}
use Rattle.zonereplay.specs.declared.job.Job.{Job}

-- these numbers
abbrev pub asked : Job → OneJob
asked job = record { rate = job.rate; burst = job.burst; bytes = job.bytes }
