use Rattle.req_zone.proofs.words.ReqWords.+expire_stale.Given as goal

abbrev pub decreases-expire_stale : goal.decreases-expire_stale
decreases-expire_stale g l = l.most
