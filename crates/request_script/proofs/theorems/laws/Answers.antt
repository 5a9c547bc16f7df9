use Rattle.request_script.proofs.PermittedDrives.{permits-law}
use Rattle.request_script.proofs.KindLaws.{kinds-law}
use Rattle.request_script.proofs.CountLaws.{ends-law, rooms-law, room_left-law}
use Rattle.request_script.proofs.theorems.laws.Goals as goal

pub returns : goal.returns
returns c = record { permits = permits-law; kinds = kinds-law; ends = ends-law; rooms = rooms-law; room_left = room_left-law }
