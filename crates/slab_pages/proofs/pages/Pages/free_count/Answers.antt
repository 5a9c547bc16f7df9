use Rattle.slab_pages.proofs.PagesLemmas.{runs-unique}
use Rattle.slab_pages.proofs.pages.Pages.free_count.Goals as goal

pub returns-clause-only : goal.returns-clause-only
returns-clause-only c = λ xs ys h k. runs-unique c.args.self.now xs ys h k
