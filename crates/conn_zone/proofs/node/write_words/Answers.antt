use Rattle.std.proofs.Common.{ℕ, ◌<◌, List, drop, subst, ◌∙◌, arith}
use Rattle.std.proofs.lemmas.List.{take_rest, length-drop}
use Rattle.std.proofs.lemmas.List.Elements.{All-from_get_or}
use Rattle.block_bytes.specs.Bytes.{PutsBytes}
use Rattle.conn_zone.specs.Layout.{AreBytes}
use Rattle.conn_zone.proofs.NodeWords.{new_word, written, puts_none}
use Rattle.conn_zone.proofs.node.write_words.Goals as goal

pub returns-then-bytes-gt4-clause-node : goal.returns-then-bytes-gt4-clause-node
returns-then-bytes-gt4-clause-node g c =
    let bytes : AreBytes c.args.bytes.now = All-from_get_or (λ (b : ℕ). b < 256) c.args.bytes.now 0 (λ i low. omega (arith, c.type_inv.bytes i)) in
    let puts = subst (λ (bs : List ℕ). PutsBytes (g.B.Blocks.words c.set-2.new.self) (g.B.Blocks.words c.write_bytes.new.blocks) c.args.b.at 5 bs) (take_rest c.args.bytes.now 4) c.write_bytes.ensures.puts in
    written _ _ _ _ c.args.b.at _ _ c.args.bytes.now c.set.ensures.sets c.set-2.ensures.sets puts (omega (arith, c.requires.room)) (c.from.ensures ∙ c.crc32.ensures) (new_word c.args.bytes.now c.args.first bytes c.requires.key.1 c.requires.first) bytes

pub returns-else-bytes-gt4-clause-node : goal.returns-else-bytes-gt4-clause-node
returns-else-bytes-gt4-clause-node g c =
    let bytes : AreBytes c.args.bytes.now = All-from_get_or (λ (b : ℕ). b < 256) c.args.bytes.now 0 (λ i low. omega (arith, c.type_inv.bytes i)) in
    let few = length-drop 4 c.args.bytes.now in
    let puts = puts_none (g.B.Blocks.words c.set-2.new.self) c.args.b.at 5 (drop 4 c.args.bytes.now) (omega (arith, few, c.if-bytes-gt4.false)) in
    written _ _ _ _ c.args.b.at _ _ c.args.bytes.now c.set.ensures.sets c.set-2.ensures.sets puts (omega (arith, c.requires.room)) (c.from.ensures ∙ c.crc32.ensures) (new_word c.args.bytes.now c.args.first bytes c.requires.key.1 c.requires.first) bytes
