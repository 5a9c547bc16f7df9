use Rattle.zone_object.proofs.Fair.{fair-law, held-law}
use Rattle.zone_object.proofs.Histories.{answered}
use Rattle.zone_object.proofs.theorems.laws.Goals as goal

pub returns : goal.returns
returns g c = let o = g.S.ZoneObject in let laws = g.met.S.ZoneObject in record {
  ready = laws.each_is_ready;
  answered = answered o.is_quiet o.reply_of o.state_after o.permits o.ready laws.each_is_ready o.can_answer laws.each_can_answer;
  one_start = laws.one_start;
  fair = fair-law o.permits;
  held = held-law o.permits;
}
