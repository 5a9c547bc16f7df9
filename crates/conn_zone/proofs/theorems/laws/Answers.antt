use Rattle.conn_zone.specs.ObjectLaws.{answer-law, start-law}
use Rattle.conn_zone.specs.Proving.Fresh.{open-law}
use Rattle.conn_zone.proofs.Named.{whole-law, counted_entry-law}
use Rattle.conn_zone.proofs.Opens.{open_counts-law, opened-law, evicts_nothing-law}
use Rattle.conn_zone.proofs.Closes.{close_counts-law, last_close-law, other_close-law}
use Rattle.conn_zone.proofs.theorems.laws.Goals as goal

pub returns-clause-open_counts : goal.returns-clause-open_counts
returns-clause-open_counts c = open_counts-law

pub returns-clause-opened : goal.returns-clause-opened
returns-clause-opened c = opened-law

pub returns-clause-close_counts : goal.returns-clause-close_counts
returns-clause-close_counts c = close_counts-law

pub returns-clause-evicts_nothing : goal.returns-clause-evicts_nothing
returns-clause-evicts_nothing c = evicts_nothing-law

pub returns-clause-last_close : goal.returns-clause-last_close
returns-clause-last_close c = last_close-law

pub returns-clause-other_close : goal.returns-clause-other_close
returns-clause-other_close c = other_close-law

pub returns-clause-whole : goal.returns-clause-whole
returns-clause-whole c = whole-law

pub returns-clause-counted_entry : goal.returns-clause-counted_entry
returns-clause-counted_entry c = counted_entry-law

pub returns-clause-opens : goal.returns-clause-opens
returns-clause-opens c = open-law

pub returns-clause-answers : goal.returns-clause-answers
returns-clause-answers c = answer-law

pub returns-clause-start : goal.returns-clause-start
returns-clause-start c = start-law
