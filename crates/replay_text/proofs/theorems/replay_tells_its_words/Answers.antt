use Rattle.replay_text.proofs.WordsLemmas.{replay-same}
use Rattle.replay_text.proofs.theorems.replay_tells_its_words.Goals as goal

pub returns : goal.returns
returns c = replay-same
