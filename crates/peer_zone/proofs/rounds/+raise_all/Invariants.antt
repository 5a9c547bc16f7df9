use Rattle.peer_zone.proofs.rounds.+raise_all.Given as goal

abbrev pub decreases-raise_all : goal.decreases-raise_all
decreases-raise_all g l = l.left
