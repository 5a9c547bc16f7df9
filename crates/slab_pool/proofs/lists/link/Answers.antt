use Rattle.std.proofs.Common.{◌+◌, sym, ap, ◌∙◌, arith}
use Rattle.slab_model.specs.declared.shape.Shape.{Shape}
use Rattle.slab_model.specs.Geometry.{kind_of}
use Rattle.slab_pages.specs.SlabLayout.{type_of}
use Rattle.slab_pool.proofs.ListLemmas.{set-kept, node-may_set, node-fits, node-later, runs-later, linked_page, linked_head}
use Rattle.slab_pool.proofs.KindLemmas.{types-few}
use Rattle.slab_pool.proofs.lists.link.Goals as goal

pub set_word-requires : goal.set_word-requires
set_word-requires c = node-may_set c.args.pages.now c.args.class 1 c.args.a c.requires.known c.requires.runs (omega arith) c.requires.from

pub overflow_add-v : goal.overflow_add-v
overflow_add-v c = omega (arith, node-fits c.args.pages.now c.args.class c.args.a c.requires.known c.requires.from, c.type_of.ensures, types-few (kind_of c.set_word.new.self.shape c.args.class))

pub set_word-requires-then-b-head_of : goal.set_word-requires-then-b-head_of
set_word-requires-then-b-head_of c = node-may_set c.set_word.new.self c.args.class 2 c.args.b c.requires.known (runs-later _ _ (set-kept _ _ _ _ c.set_word.ensures.set c.set_word.ensures.laid) c.requires.runs) (omega arith) (node-later _ _ c.args.class c.args.b (set-kept _ _ _ _ c.set_word.ensures.set c.set_word.ensures.laid) c.requires.to)

pub returns-then-b-head_of-clause-links : goal.returns-then-b-head_of-clause-links
returns-then-b-head_of-clause-links c = linked_page c.args.class _ c.args.pages.now c.set_word.new.self c.set_word-then-b-head_of.new.self c.args.a c.args.b _ c.requires.known c.requires.runs c.requires.from c.requires.to (λ e. c.if-b-head_of.true (e ∙ sym c.head_of.ensures)) c.set_word.ensures.set c.set_word-then-b-head_of.ensures.set (ap (λ t. c.args.a + t) (c.type_of.ensures ∙ ap (λ (s : Shape). type_of (kind_of s c.args.class)) (set-kept _ _ _ _ c.set_word.ensures.set c.set_word.ensures.laid).shape_is))

pub returns-else-b-head_of-clause-links : goal.returns-else-b-head_of-clause-links
returns-else-b-head_of-clause-links c = linked_head c.args.class _ c.args.pages.now c.set_word.new.self c.args.a c.args.b c.requires.known c.requires.runs c.requires.from (c.if-b-head_of.false ∙ c.head_of.ensures) c.set_word.ensures.set
