use Rattle.std.specs.Prelude.{codes, count_by, length}
use Rattle.made_log.specs.Summary.{is_delayed, is_gateway, is_limited, is_pass}
use Rattle.made_log.proofs.Parts.{five-numbers}
use Rattle.made_log.proofs.summary.push_decisions_line.Goals as goal

pub returns : goal.returns
returns c =
    let decisions = c.args.decisions.now in
    five-numbers c.args.text.now.items c.push_with.new.text.items c.push_with-2.new.text.items c.push_with-3.new.text.items c.push_with-4.new.text.items c.push_with-5.new.text.items c.extend_from_slice.new.self.items
    (codes "made lines=") (codes " pass=") (codes " delayed=") (codes " limited=") (codes " gateway=")
    (length decisions) c.passed.result c.delayed.result c.limited.result c.gateway.result (count_by is_pass decisions) (count_by is_delayed decisions) (count_by is_limited decisions) (count_by is_gateway decisions)
    c.in_ok-push_with.ensures c.in_ok-push_with-2.ensures c.passed.ensures c.in_ok-push_with-3.ensures c.delayed.ensures c.in_ok-push_with-4.ensures c.limited.ensures c.in_ok-push_with-5.ensures c.gateway.ensures
    c.in_ok-extend_from_slice.ensures.items
