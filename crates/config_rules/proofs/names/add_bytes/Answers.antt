use Rattle.config_rules.proofs.Sets.{has_one_more}
use Rattle.config_rules.proofs.names.add_bytes.Goals as goal

pub returns-clause-ok : goal.returns-clause-ok
returns-clause-ok c = λ names just. has_one_more c.args.known.now c.insert.new.self c.args.bytes names c.in_ok-insert.ensures.keys just
