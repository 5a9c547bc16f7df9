use Rattle.std.proofs.Common.{◌+◌, [], sym, ap, ◌∙◌, arith}
use Rattle.std.specs.Prelude.{option_map}
use Rattle.crossbeam_queue.specs.Passes.{view}
use Rattle.shared_zone.proofs.RuleKept.{makes}
use Rattle.shared_zone.proofs.Calls.{begins_of}
use Rattle.shared_zone.proofs.Lists.{get_more}
use Rattle.shared_zone.proofs.zone.SharedZone.open.Goals as goal

pub another-requires-clause-rule : goal.another-requires-clause-rule
another-requires-clause-rule g c = let i = c.loop-number.invariant in makes _ _ _ _ _ (i.start_is ∙ ap (λ v. v.start) c.put.ensures.put.view) i.calm i.next_is

pub loop-number-preserved : goal.loop-number-preserved
loop-number-preserved g c =
    let i = c.loop-number.invariant in
    let q = c.another.ensures.queue in
    let r = c.another.ensures.rule in
    record {
      seat_is = (q.0.0 ∙ i.seat_is.0, q.0.2 ∙ i.seat_is.1);
      start_is = ap (λ v. v.start) r.0 ∙ i.start_is;
      rooms_is = ap (λ v. v.rooms) r.0 ∙ i.rooms_is;
      calm = ap (λ v. v.holding) r.0 ∙ i.calm;
      next_is = ap (λ v. v.next) r.0 ∙ ap (option_map (λ n. n + 1)) i.next_is;
      count = c.push_reserved.ensures.len ∙ ap (λ n. n + 1) i.count;
      room = rw c.push_reserved.ensures.capacity i.room;
      made = rw c.push_reserved.ensures.items (get_more (λ k. record { zone = record { id = record { table = c.in_ok-queue.queue.table.shared.table_id }; start = (view c.put.new.seat).start; rooms = c.args.rooms.now }; number = k; seen = [] }) c.loop-number.passes.items _ c.loop-number.number
          (sym c.loop-number.passes.ok.0 ∙ i.count) i.made
          (λ j. record { zone = record { id = record { table = q.1.0 j }; start = (ap (λ v. v.start) r.1 ∙ i.start_is) j; rooms = (ap (λ v. v.rooms) r.1 ∙ i.rooms_is) j }; number = c.loop-number.number; seen = (r.1 j).seen }));
    }

pub returns-clause-begins : goal.returns-clause-begins
returns-clause-begins g c =
    let i = c.loop-number.invariant in
    let o = g.S.ZoneObject in
    let j = c.in_ok-journal.ensures.parts in
    begins_of o.is_quiet o.lays o.reply_of o.state_after o.permits c.args.object _ _ _ _ _ c.put.ensures.put (ap (λ t. t.log) c.new-2.ensures ∙ ap (λ j. j.log) j) (ap (λ t. t.object) c.new-2.ensures ∙ ap (λ j. j.object) j)
    (λ k lt. i.made k (omega (arith, c.loop-number-test.false)))
