use Rattle.decision_text.proofs.ImageLemmas.{image-same}
use Rattle.decision_text.proofs.theorems.image_tells_its_words.Goals as goal

pub returns : goal.returns
returns c = image-same
