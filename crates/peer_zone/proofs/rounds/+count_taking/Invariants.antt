use Rattle.peer_zone.proofs.rounds.+count_taking.Given as goal

abbrev pub decreases-count_taking : goal.decreases-count_taking
decreases-count_taking g l = l.left
