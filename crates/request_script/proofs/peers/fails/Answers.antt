use Rattle.request_script.proofs.peers.fails.Goals as goal

pub returns-in-Some : goal.returns-in-Some
returns-in-Some c = rw (c.free.ensures, c.in-Some.is, c.in_ok-progress.ensures, c.as_slice.ensures)
