use Rattle.req_zone.specs.Proving.Answers.{answer-law}
use Rattle.req_zone.specs.Proving.Fresh.{open-law, start-law}
use Rattle.req_zone.specs.Proving.Named.{held_entry-law, whole-law, space-law}
use Rattle.req_zone.specs.Proving.Oldest.{oldest_whole-law, asked_whole-law, admitted_whole-law, call_whole-law}
use Rattle.req_zone.proofs.theorems.zone_laws.Goals as goal

pub returns : goal.returns
returns c = record {
  opens = open-law;
  start = start-law;
  whole = whole-law;
  space = space-law;
  held_entry = held_entry-law;
  oldest_whole = oldest_whole-law;
  asked_whole = asked_whole-law;
  admitted_whole = admitted_whole-law;
  call_whole = call_whole-law;
  answers = answer-law;
}
