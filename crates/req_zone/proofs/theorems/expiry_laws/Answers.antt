use Rattle.req_zone.specs.Proving.Answers.{held_stays-law}
use Rattle.req_zone.specs.Proving.Oldest.{first_step-law, stale_step-law, forced_step-law, none_expires-law}
use Rattle.req_zone.proofs.theorems.expiry_laws.Goals as goal

pub returns : goal.returns
returns c = record {
  first_step = first_step-law;
  stale_step = stale_step-law;
  forced_step = forced_step-law;
  none_expires = none_expires-law;
  held_stays = held_stays-law;
}
