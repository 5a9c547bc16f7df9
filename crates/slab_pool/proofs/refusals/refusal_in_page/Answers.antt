use Rattle.std.proofs.Common.{◌/◌, ap, arith}
use Rattle.slab_model.specs.State.{page_at}
use Rattle.slab_pool.proofs.RunLemmas.{page-room}
use Rattle.slab_pool.proofs.RefusalLemmas.{no-class, page-uneven, tells, word-free, word-later, word-first}
use Rattle.slab_pool.proofs.ReturnLemmas.{in-zone}
use Rattle.slab_pool.proofs.refusals.refusal_in_page.Goals as goal

pub returns-then-place-ne0 : goal.returns-then-place-ne0
returns-then-place-ne0 c = λ slab p. let w = c.requires.laid in page-uneven slab.shape (page_at slab.pages c.args.page) c.args.place (no-class _ w.0 slab c.args.page w.1 p w.3) c.if-place-ne0.true

pub offset_of-requires : goal.offset_of-requires
offset_of-requires c = let w = c.requires.laid in (page-room _ w.0 c.args.page w.1 w.2).0

pub slab-word-requires : goal.slab-word-requires
slab-word-requires c = let w = c.requires.laid in omega (arith, (page-room _ w.0 c.args.page w.1 w.2).1, ap (λ n. n / 8) c.offset_of.ensures)

pub returns-then-word-lt-USED : goal.returns-then-word-lt-USED
returns-then-word-lt-USED c = λ slab p. let w = c.requires.laid in word-free slab.shape (page_at slab.pages c.args.page) _ c.args.place (tells _ slab c.args.page _ _ p (in-zone _ w.0 slab c.args.page w.1 p w.2) (no-class _ w.0 slab c.args.page w.1 p w.3) c.offset_of.ensures c.slab-word.ensures) c.if-place-ne0.false c.if-word-lt-USED.true

pub returns-then-word : goal.returns-then-word
returns-then-word c = λ slab p. let w = c.requires.laid in word-later slab.shape (page_at slab.pages c.args.page) _ c.args.place (tells _ slab c.args.page _ _ p (in-zone _ w.0 slab c.args.page w.1 p w.2) (no-class _ w.0 slab c.args.page w.1 p w.3) c.offset_of.ensures c.slab-word.ensures) c.if-place-ne0.false c.if-word.true

pub returns : goal.returns
returns c = λ slab p. let w = c.requires.laid in word-first slab.shape (page_at slab.pages c.args.page) _ c.args.place (tells _ slab c.args.page _ _ p (in-zone _ w.0 slab c.args.page w.1 p w.2) (no-class _ w.0 slab c.args.page w.1 p w.3) c.offset_of.ensures c.slab-word.ensures) c.if-place-ne0.false c.if-word-lt-USED.false c.if-word.false
