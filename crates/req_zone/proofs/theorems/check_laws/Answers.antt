use Rattle.req_zone.specs.Proving.Answers.{pass-law, again-law, first_room-law, second_room-law, busy-law, busy_keeps-law, no_room-law, no_room_leaves-law}
use Rattle.req_zone.proofs.theorems.check_laws.Goals as goal

pub returns : goal.returns
returns c = record {
  busy = busy-law;
  busy_keeps = busy_keeps-law;
  pass = pass-law;
  again = again-law;
  first_room = first_room-law;
  second_room = second_room-law;
  no_room = no_room-law;
  no_room_leaves = no_room_leaves-law;
}
