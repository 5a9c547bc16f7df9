-- A part of the key is compared with that of one word of the node, and then the rest.
use Rattle.std.proofs.Common.{ℕ, ◌≡◌, ◌⊎◌, ◌+◌, ◌-◌, ◌*◌, ◌/◌, ◌%◌, ◌^◌, ◌<◌, List, length, get_or, min, drop, subst, sym, ap, ◌∙◌, arith, inl, inr}
use Rattle.std.specs.Ordering.{nat_cmp, ordering_then}
use Rattle.std.specs.Cmp.Lexicographic.{slice_cmp}
use Rattle.std.specs.declared.cmp.Ordering.{Ordering}
use Rattle.offset_tree.specs.Keys.{IsForm, bytes_of, key_of}
use Rattle.offset_tree.specs.declared.tree.Form.{Form}
use Rattle.offset_tree.proofs.KeyLemmas.{equal_told, unequal_then}
use Rattle.offset_tree.proofs.PartLemmas.{at_start, part_first, one_ends, part_ends, part_read, reads}
use Rattle.offset_tree.proofs.keys.compare_keys.Goals as goal

at_of : {f : Form} → IsForm f → (f.key_at ≡ 80) ⊎ (f.key_at ≡ 36)
at_of h = elim h.len_place [ inl a ↦ inl a.2 | inr a ↦ inr a.2 ]

pub loop-done-init : goal.loop-done-init
loop-done-init g c =
    let form = c.args.form.now in
    let len = ap (λ (w : ℕ). w / 2 ^ (8 * (form.len_at % 8)) % 2 ^ (8 * form.len_bytes)) (sym c.word.ensures.value) ∙ sym c.len_in-len.ensures in
    record {
      bytes = λ i. subst (λ (bs : List ℕ). get_or bs i 0 < 256) c.bytes-bytes.ensures (omega (arith, c.type_inv.bytes i));
      same = λ r e. at_start c.args.key.now (g.B.Blocks.words c.args.blocks.now) c.args.x form.key_at _ r (len ∙ omega (arith, e));
      within = omega arith;
      whole = inl (omega arith);
      first = λ e. omega arith;
      cost = omega arith;
    }

pub returns-then-ne-clause-order : goal.returns-then-ne-clause-order
returns-then-ne-clause-order g c =
    let m = g.B.Blocks.words c.args.blocks.now in
    let done = c.loop-done.done in
    let n = c.min-count.result in
    let r = c.len_in-len.result - (done + n) in
    let all = part_first c.bytes-bytes.result.now c.args.key.now m c.args.x c.args.form.now.key_at done n c.len_in-len.result c.number_in-part.result c.word-word.result c.part_of.result c.compare_words-by_part.result
    (slice_cmp nat_cmp c.args.key.now (key_of m c.args.form.now c.args.x)) c.bytes-bytes.ensures c.loop-done.invariant.bytes (omega arith) (omega arith) (omega arith)
    c.number_in-part.ensures c.word-word.ensures.value c.part_of.ensures c.compare_words-by_part.ensures c.loop-done.invariant.same r (omega arith) in
    sym (all ∙ unequal_then c.compare_words-by_part.result _ c.ne.result c.ne.ensures c.if-ne.true)

pub returns-then-ne-clause-cost : goal.returns-then-ne-clause-cost
returns-then-ne-clause-cost g c =
    let read = part_read c.args.form.now.key_at c.loop-done.done c.min-both.result c.min-count.result c.word.new.steps c.loop-done.steps c.word-word.new.steps c.word-word.ensures.cost (omega arith) c.loop-done-test.true
    c.loop-done.invariant.whole c.loop-done.invariant.first c.loop-done.invariant.cost in
    reads c.args.form.now.key_at (c.loop-done.done + c.min-count.result) (length c.args.key.now) c.args.steps.now c.word.new.steps c.word-word.new.steps (at_of c.requires.form) c.word.ensures.cost (omega arith) read

pub loop-done-preserved : goal.loop-done-preserved
loop-done-preserved g c =
    let m = g.B.Blocks.words c.args.blocks.now in
    let done = c.loop-done.done in
    let n = c.min-count.result in
    let equal = equal_told c.compare_words-by_part.result c.ne.result c.ne.ensures c.if-ne.false in
    record {
      bytes = c.loop-done.invariant.bytes;
      same = λ r e. part_first c.bytes-bytes.result.now c.args.key.now m c.args.x c.args.form.now.key_at done n c.len_in-len.result c.number_in-part.result c.word-word.result c.part_of.result c.compare_words-by_part.result
          (slice_cmp nat_cmp c.args.key.now (key_of m c.args.form.now c.args.x)) c.bytes-bytes.ensures c.loop-done.invariant.bytes (omega arith) (omega arith) (omega arith)
          c.number_in-part.ensures c.word-word.ensures.value c.part_of.ensures c.compare_words-by_part.ensures c.loop-done.invariant.same r e
          ∙ ap (λ (o : Ordering). ordering_then o (slice_cmp nat_cmp (drop (done + n) c.args.key.now) (bytes_of m c.args.x (c.args.form.now.key_at + (done + n)) r))) equal;
      within = omega arith;
      whole = part_ends c.args.form.now.key_at done c.min-both.result n c.min-count.ensures c.loop-done-test.true;
      first = λ e. absurd (omega (arith, e));
      cost = part_read c.args.form.now.key_at done c.min-both.result n c.word.new.steps c.loop-done.steps c.word-word.new.steps c.word-word.ensures.cost (omega arith) c.loop-done-test.true
          c.loop-done.invariant.whole c.loop-done.invariant.first c.loop-done.invariant.cost;
    }

pub returns-clause-order : goal.returns-clause-order
returns-clause-order g c =
    let done : c.loop-done.done ≡ c.min-both.result = omega arith in
    c.cmp.ensures
    ∙ (ap (λ (z : ℕ). nat_cmp z c.len_in-len.result) c.len-2.ensures
    ∙ sym (one_ends c.args.key.now (g.B.Blocks.words c.args.blocks.now) c.args.x c.args.form.now.key_at c.loop-done.done c.len_in-len.result _
    (done ∙ (c.min-both.ensures ∙ ap (λ (z : ℕ). min z c.len_in-len.result) c.len.ensures)) c.loop-done.invariant.same))

pub returns-clause-cost : goal.returns-clause-cost
returns-clause-cost g c = reads c.args.form.now.key_at c.loop-done.done (length c.args.key.now) c.args.steps.now c.word.new.steps c.loop-done.steps (at_of c.requires.form) c.word.ensures.cost (omega arith) c.loop-done.invariant.cost
