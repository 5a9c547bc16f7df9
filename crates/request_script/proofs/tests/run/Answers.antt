use Rattle.request_script.specs.Script.{state_of}
use Rattle.request_script.proofs.ScriptLemmas.{answers-fit}
use Rattle.request_script.proofs.tests.run.Goals as goal

pub loop-reply-preserved : goal.loop-reply-preserved
loop-reply-preserved g c =
    answers-fit (state_of c.loop-reply.script) (state_of c.answer.new.self) c.in_ok-next-in-Ask.next _ (rw c.in-Ask.is at c.loop-reply.invariant) c.in_ok-next-in-Ask.ensures.spent
    c.in_ok-next-in-Ask.ensures.value
