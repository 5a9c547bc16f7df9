use Rattle.peer_zone.proofs.rounds.+least_busy.Given as goal

abbrev pub decreases-least_busy : goal.decreases-least_busy
decreases-least_busy g l = l.left
