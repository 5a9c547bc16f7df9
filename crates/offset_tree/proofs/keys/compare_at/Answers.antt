use Rattle.std.proofs.Common.{sym, ◌∙◌}
use Rattle.offset_tree.specs.Keys.{key_of}
use Rattle.offset_tree.proofs.KeyLemmas.{order_by_bytes}
use Rattle.offset_tree.proofs.keys.compare_at.Goals as goal

pub returns-clause-order : goal.returns-clause-order
returns-clause-order g c =
    let m = g.B.Blocks.words c.args.blocks.now in
    c.compare_keys.ensures.order
    ∙ sym (order_by_bytes _ _ _ c.args.key.now (key_of m c.args.form.now c.args.x) _ _ c.cmp-by_hash.ensures c.word-node_hash.ensures.value c.ne.ensures c.if-ne.false)
