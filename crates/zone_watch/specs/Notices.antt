-- The notices of lines and what was decided of them.
use Rattle.std.specs.Prelude.{List, [], ◌∷◌}
use Rattle.replay_log.specs.declared.line.Line.{Line}
use Rattle.request_script.specs.declared.decision.Decision.{Decision}
use Rattle.request_script.specs.declared.decision.Notice.{Notice}

-- a line's number and its decision, line by line
abbrev pub notices_of : List Line → List Decision → List Notice
notices_of (line ∷ lines) (decision ∷ decisions) = record { line = line.number; decision = decision } ∷ notices_of lines decisions
notices_of _ _ = []
