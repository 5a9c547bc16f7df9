use Rattle.zonereplay.proofs.OneShown.{one_shown, some_shown, one_plain, one_worker, one_summary, one_made}
use Rattle.zonereplay.proofs.theorems.laws.Goals as goal

pub returns : goal.returns
returns c = record { one_shown = one_shown; some_shown = some_shown c.laws.ensures.some_replay; one_plain = one_plain; one_worker = one_worker; one_summary = one_summary; one_made = one_made }
