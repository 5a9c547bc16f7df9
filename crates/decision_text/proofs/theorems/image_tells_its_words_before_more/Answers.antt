use Rattle.decision_text.proofs.ImageLemmas.{image-before}
use Rattle.decision_text.proofs.theorems.image_tells_its_words_before_more.Goals as goal

pub returns : goal.returns
returns c = image-before
