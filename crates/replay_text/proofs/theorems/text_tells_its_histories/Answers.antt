use Rattle.replay_text.proofs.TellingLemmas.{text-tells, text-with-words-tells}
use Rattle.replay_text.proofs.theorems.text_tells_its_histories.Goals as goal

pub returns-clause-plain : goal.returns-clause-plain
returns-clause-plain c = text-tells

pub returns-clause-with_words : goal.returns-clause-with_words
returns-clause-with_words c = text-with-words-tells
