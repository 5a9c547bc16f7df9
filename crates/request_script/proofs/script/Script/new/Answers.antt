use Rattle.request_script.proofs.ConfigLemmas.{IsConfig-rates, IsConfig-servers}
use Rattle.request_script.proofs.script.Script.new.Goals as goal

pub invariant_of-result-clause-rates : goal.invariant_of-result-clause-rates
invariant_of-result-clause-rates c = IsConfig-rates _ c.requires

pub invariant_of-result-clause-servers : goal.invariant_of-result-clause-servers
invariant_of-result-clause-servers c = IsConfig-servers _ c.requires
