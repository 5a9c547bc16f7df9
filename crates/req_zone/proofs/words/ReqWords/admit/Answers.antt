use Rattle.std.proofs.Common.{ℕ, ◌≡◌, ◌+◌, ◌*◌, ◌/◌, ◌≤◌, List, length, Some, sym, subst, arith}
use Rattle.slab_model.specs.Grant.{grant, block_bytes}
use Rattle.offset_tree.specs.Bounds.{search_cost}
use Rattle.req_zone.specs.Step.{node_size}
use Rattle.req_zone.specs.Laws.{asked_for}
use Rattle.req_zone.specs.Words.{blocks_in, LaysReq}
use Rattle.req_zone.specs.Lays.{entry_with}
use Rattle.req_zone.proofs.ZoneLemmas.{refused}
use Rattle.req_zone.proofs.AdmitLemmas.{few_entries, Comes, admitted_zone}
use Rattle.req_zone.proofs.StepLemmas.{count_blocks, match_none, comes, can_be_added, is_added}
use Rattle.req_zone.proofs.words.ReqWords.admit.Goals as goal

pub add-requires : goal.add-requires
add-requires g c =
    let s = c.requires.laid.0 in
    let h = c.requires.laid.1 in
    let came : Comes c.args.self.now.pool c.alloc.new.self c.write_node.new.blocks s (entry_with c.args.key.now c.in_ok-b.b.at c.fresh.result) (block_bytes s.slab (80 + c.len.result) / 8) =
    comes c.args.self.now c.alloc.new.self c.write_node.new.blocks s c.args.key.now c.bytes.result.now c.in_ok-b.b.at (80 + c.len.result) c.fresh.result h c.requires.laid.2
    (record { block = c.in_ok-b.ensures.block; laid = c.in_ok-b.ensures.laid; words = c.in_ok-b.ensures.words; room = c.in_ok-b.ensures.room; kept = c.in_ok-b.ensures.kept })
    (omega (arith, c.len.ensures)) c.bytes.ensures c.write_node.ensures.sets c.write_node.ensures.rest in
    (blocks_in s.table, can_be_added c.args.self.now c.alloc.new.self c.write_node.new.blocks s (entry_with c.args.key.now c.in_ok-b.b.at c.fresh.result) _ h came)

pub overflow_add-self : goal.overflow_add-self
overflow_add-self g c = let h = c.requires.laid.1 in omega (arith, few_entries c.args.self.now.pool c.requires.laid.0 h.words, h.entries_is)

pub returns-clause-block : goal.returns-clause-block
returns-clause-block g c s h = subst (λ (n : ℕ). Some c.in_ok-b.b.at ≡ (grant s.slab n).0) (omega (arith, c.len.ensures)) (c.in_ok-b.ensures.block s.slab h.words.slab)

pub returns-in_err-b-clause-laid : goal.returns-in_err-b-clause-laid
returns-in_err-b-clause-laid g c s h none =
    let size : 80 + c.len.result ≡ node_size + length c.args.key.now = omega (arith, c.len.ensures) in
    let words = refused c.args.self.now.pool c.alloc.new.self s (80 + c.len.result) h.words (omega arith) (sym (c.in_err-b.ensures.block s.slab h.words.slab)) (c.in_err-b.ensures.laid s.slab h.words.slab) (c.in_err-b.ensures.words s.slab h.words.slab) c.in_err-b.ensures.kept in
    match_none c.from_residual.result _ _ c.from_residual.ensures (record {
      words = subst (λ (n : ℕ). LaysReq c.alloc.new.self (asked_for s n)) size words;
      table_is = h.table_is;
      name_is = h.name_is;
      rate_is = h.rate_is;
      entries_is = h.entries_is;
      rate_in = h.rate_in;
    })

pub returns-clause-laid : goal.returns-clause-laid
returns-clause-laid g c s h none =
    let at = c.in_ok-b.b.at in
    let came : Comes c.args.self.now.pool c.alloc.new.self c.write_node.new.blocks s (entry_with c.args.key.now at c.fresh.result) (block_bytes s.slab (80 + c.len.result) / 8) =
    comes c.args.self.now c.alloc.new.self c.write_node.new.blocks s c.args.key.now c.bytes.result.now at (80 + c.len.result) c.fresh.result h none
    (record { block = c.in_ok-b.ensures.block; laid = c.in_ok-b.ensures.laid; words = c.in_ok-b.ensures.words; room = c.in_ok-b.ensures.room; kept = c.in_ok-b.ensures.kept })
    (omega (arith, c.len.ensures)) c.bytes.ensures c.write_node.ensures.sets c.write_node.ensures.rest in
    let can = can_be_added c.args.self.now c.alloc.new.self c.write_node.new.blocks s (entry_with c.args.key.now at c.fresh.result) _ h came in
    let added = is_added c.args.self.now c.write_node.new.blocks c.add.new.blocks s at h (c.add.ensures.lays (blocks_in s.table) can) (c.add.ensures.changes (blocks_in s.table) can) c.add.ensures.rest in
    record {
      words = admitted_zone c.args.self.now.pool c.alloc.new.self c.write_node.new.blocks c.add.new.blocks s c.args.key.now c.args.now c.args.last at c.fresh.result _ (c.fresh.ensures c.args.key.now at) h.words came added;
      table_is = h.table_is;
      name_is = h.name_is;
      rate_is = h.rate_is;
      entries_is = omega (arith, h.entries_is);
      rate_in = h.rate_in;
    }

pub returns-clause-cost : goal.returns-clause-cost
returns-clause-cost g c s h none =
    let at = c.in_ok-b.b.at in
    let came : Comes c.args.self.now.pool c.alloc.new.self c.write_node.new.blocks s (entry_with c.args.key.now at c.fresh.result) (block_bytes s.slab (80 + c.len.result) / 8) =
    comes c.args.self.now c.alloc.new.self c.write_node.new.blocks s c.args.key.now c.bytes.result.now at (80 + c.len.result) c.fresh.result h none
    (record { block = c.in_ok-b.ensures.block; laid = c.in_ok-b.ensures.laid; words = c.in_ok-b.ensures.words; room = c.in_ok-b.ensures.room; kept = c.in_ok-b.ensures.kept })
    (omega (arith, c.len.ensures)) c.bytes.ensures c.write_node.ensures.sets c.write_node.ensures.rest in
    let can = can_be_added c.args.self.now c.alloc.new.self c.write_node.new.blocks s (entry_with c.args.key.now at c.fresh.result) _ h came in
    subst (λ (n : ℕ). c.add.new.steps ≤ c.args.steps.now + (3 * search_cost n (length c.args.key.now) + 24)) (count_blocks s) (c.add.ensures.cost (blocks_in s.table) can)

pub returns-in_err-b-clause-cost : goal.returns-in_err-b-clause-cost
returns-in_err-b-clause-cost g c s h none = match_none c.from_residual.result _ _ c.from_residual.ensures (omega arith)
