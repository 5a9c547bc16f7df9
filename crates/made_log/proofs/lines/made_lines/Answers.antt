use Rattle.std.proofs.Common.{◌≡◌, ◌+◌, ◌≤◌, subst, sym, arith, refl, List}
use Rattle.std.specs.List.{All}
use Rattle.replay_log.specs.declared.line.Line.{Line}
use Rattle.replay_log.specs.Limits.{IsLineOf}
use Rattle.made_log.specs.MadeLog.{made_lines}
use Rattle.made_log.proofs.Drawing.{lines-first, lines-next, lines-all, moment-next, made-in-limits}
use Rattle.made_log.proofs.lines.made_lines.Goals as goal

pub loop-number-init : goal.loop-number-init
loop-number-init c = record {
  made = lines-first c.args.seed c.args.count 1000000 c.in_ok-lines.lines.items c.generator_of-generator.result c.in_ok-lines.ensures.items refl c.generator_of-generator.ensures;
  low = omega arith;
}

pub draw_line-line-requires : goal.draw_line-line-requires
draw_line-line-requires c = omega (arith, c.loop-number.invariant.low, c.loop-number-test.true, c.requires)

pub loop-number-preserved : goal.loop-number-preserved
loop-number-preserved c = record {
  made = lines-next c.loop-number.lines.items c.push.new.self.items (made_lines c.args.seed c.args.count) c.args.count c.loop-number.number c.loop-number.moment c.loop-number.generator c.draw_line-line.new.generator c.draw_line-line.result
      c.loop-number-test.true c.loop-number.invariant.made c.draw_line-line.ensures.line c.draw_line-line.ensures.after c.in_ok-push.ensures.items;
  low = moment-next c.draw_line-line.result (c.loop-number.number + 1) c.loop-number.moment c.loop-number.number c.loop-number.generator c.draw_line-line.ensures.line c.loop-number.invariant.low;
}

pub returns-clause-made : goal.returns-clause-made
returns-clause-made c = lines-all c.loop-number.lines.items (made_lines c.args.seed c.args.count) c.args.count c.loop-number.number (c.loop-number.number + 1) c.loop-number.moment c.loop-number.generator c.loop-number-test.false c.loop-number.invariant.made

pub returns-clause-in_limits : goal.returns-clause-in_limits
returns-clause-in_limits c =
    let made = lines-all c.loop-number.lines.items (made_lines c.args.seed c.args.count) c.args.count c.loop-number.number (c.loop-number.number + 1) c.loop-number.moment c.loop-number.generator c.loop-number-test.false c.loop-number.invariant.made in
    subst (λ (ls : List Line). All (IsLineOf 1) ls) (sym made) (made-in-limits c.args.seed c.args.count c.requires)
