use Rattle.request_script.specs.Script.{state_of}
use Rattle.request_script.proofs.ScriptLemmas.{Fits}
use Rattle.request_script.proofs.tests.run.Given as goal

abbrev pub invariant-loop-reply : goal.invariant-loop-reply
invariant-loop-reply g l = Fits l.next (state_of l.script).stage
