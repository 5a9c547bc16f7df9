use Rattle.std.proofs.Common.{◌≡◌, ℕ, List, Option, ap, subst, ◌∙◌}
use Rattle.std.proofs.Math.Path.{fun_ext}
use Rattle.replay_log.specs.Lines.{lines_of}
use Rattle.replay_log.specs.Requests.{request_line, locations_in, requests_of}
use Rattle.replay_log.specs.Reading.{GivesLines}
use Rattle.replay_log.proofs.LimitLemmas.{limits_of}
use Rattle.replay_log.proofs.requests.read_log.Goals as goal

gives : goal.returns-clause-value
gives c =
    let P : (List ℕ → Option ℕ) → Type 0 = λ found. GivesLines (lines_of (request_line found) c.args.text.now) c.read_lines.result in
    subst P (fun_ext (λ name. c.in_ok-numbers.ensures name ∙ ap (λ levels. locations_in levels name) c.as_slice.ensures)) c.read_lines.ensures.value

pub returns-clause-value : goal.returns-clause-value
returns-clause-value c = gives c

pub returns-clause-limits : goal.returns-clause-limits
returns-clause-limits c = limits_of c.args.config.now.locations c.args.text.now c.read_lines.result (gives c)
