use Rattle.req_zone.proofs.words.ReqWords.check.Goals as goal

pub returns-in-Some-clause-reply : goal.returns-in-Some-clause-reply
returns-in-Some-clause-reply g c = λ s l. let x = c.in-Some.ensures.found s l in c.check_found.ensures.reply s c.args.key.now x.0 l x.1

pub returns-in-Some-clause-laid : goal.returns-in-Some-clause-laid
returns-in-Some-clause-laid g c = λ s l. let x = c.in-Some.ensures.found s l in c.check_found.ensures.laid s c.args.key.now x.0 l x.1
