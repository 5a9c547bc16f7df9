use Rattle.std.proofs.Common.{◌/◌, ap, ◌∙◌, arith}
use Rattle.slab_model.specs.declared.shape.Shape.{Shape}
use Rattle.slab_model.specs.Geometry.{kind_of}
use Rattle.slab_pages.specs.SlabLayout.{type_of}
use Rattle.slab_pool.proofs.ListLemmas.{set-kept, taken-room, taken-later, taken-may_set, neighbours, before-read, after-read, unlinked}
use Rattle.slab_pool.proofs.lists.unlink.Goals as goal

pub offset_of-o-requires : goal.offset_of-o-requires
offset_of-o-requires c = (taken-room _ _ c.requires.taken).0

pub prev-requires : goal.prev-requires
prev-requires c = omega (arith, (taken-room _ _ c.requires.taken).1, ap (λ n. n / 8) c.offset_of-o.ensures)

pub overflow_sub-before : goal.overflow_sub-before
overflow_sub-before c = let l = c.requires.list in (before-read _ c.args.class c.args.page _ _ _ (neighbours c.args.pages.now c.args.class c.args.page l.0 c.requires.known l.1 l.2) c.offset_of-o.ensures c.prev.ensures c.type_of.ensures).0

pub next-after-requires : goal.next-after-requires
next-after-requires c = omega (arith, (taken-room _ _ c.requires.taken).1, ap (λ n. n / 8) c.offset_of-o.ensures)

pub link-requires-clause-from : goal.link-requires-clause-from
link-requires-clause-from c = let l = c.requires.list in (before-read _ c.args.class c.args.page _ _ _ (neighbours c.args.pages.now c.args.class c.args.page l.0 c.requires.known l.1 l.2) c.offset_of-o.ensures c.prev.ensures c.type_of.ensures).1

pub link-requires-clause-to : goal.link-requires-clause-to
link-requires-clause-to c = let l = c.requires.list in after-read _ c.args.class c.args.page _ _ (neighbours c.args.pages.now c.args.class c.args.page l.0 c.requires.known l.1 l.2) c.offset_of-o.ensures c.next-after.ensures

pub set_word-requires : goal.set_word-requires
set_word-requires c = taken-may_set _ c.args.page 1 _ (taken-later _ _ _ c.link.ensures.runs c.requires.taken) (omega arith) c.offset_of-o.ensures

pub set_word-requires-2 : goal.set_word-requires-2
set_word-requires-2 c = taken-may_set _ c.args.page 2 _ (taken-later _ _ _ (set-kept _ _ _ _ c.set_word.ensures.set c.set_word.ensures.laid) (taken-later _ _ _ c.link.ensures.runs c.requires.taken)) (omega arith) c.offset_of-o.ensures

pub returns-clause-unlinks : goal.returns-clause-unlinks
returns-clause-unlinks c = λ listed h m. unlinked c.args.class c.args.page listed c.args.pages.now c.link.new.pages c.set_word.new.self c.set_word-2.new.self c.requires.known c.requires.taken (record {
  o = c.offset_of-o.result;
  p = c.prev.result;
  t = c.type_of.result;
  f = c.next-after.result;
  v = c.type_of-v.result;
  o_is = c.offset_of-o.ensures;
  p_is = c.prev.ensures;
  t_is = c.type_of.ensures;
  f_is = c.next-after.ensures;
  v_is = c.type_of-v.ensures ∙ ap (λ (s : Shape). type_of (kind_of s c.args.class)) ((set-kept _ _ _ _ c.set_word.ensures.set c.set_word.ensures.laid).shape_is ∙ c.link.ensures.runs.shape_is);
  link = c.link.ensures.links;
  first = c.set_word.ensures.set;
  second = c.set_word-2.ensures.set;
}) h m
