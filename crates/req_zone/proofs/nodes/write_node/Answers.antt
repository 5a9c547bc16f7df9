use Rattle.std.proofs.Common.{ℕ, ◌*◌, ◌∙◌, subst, arith}
use Rattle.zone_region.specs.Words.{SetsWord}
use Rattle.req_zone.specs.Lays.{entry_with}
use Rattle.req_zone.proofs.NodeLemmas.{sets_node}
use Rattle.req_zone.proofs.nodes.write_node.Goals as goal

pub returns-clause-sets : goal.returns-clause-sets
returns-clause-sets g c = sets_node _ _ _ _ _ (entry_with c.args.key.now c.args.b.at c.args.numbers) (record {
  bytes = λ i. omega (arith, c.type_inv.key i);
  short = c.requires.short;
  room = c.requires.room;
  hash = subst (λ (v : ℕ). SetsWord (g.B.Blocks.words c.args.blocks.now) (g.B.Blocks.words c.set.new.self) c.args.b.at 0 v) (c.from.ensures ∙ c.requires.hash) c.set.ensures.sets;
  size = c.set-2.ensures.sets;
  numbers = c.write_numbers.ensures.sets;
  key = c.write_bytes.ensures.puts;
})
