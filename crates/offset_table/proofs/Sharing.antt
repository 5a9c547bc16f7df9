-- What each structure leaves of the other, and what both leave of the table.
use Rattle.std.proofs.Common.{ℕ, ◌≢◌, ◌/◌, List, ap, subst, ◌∙◌, refl, arith, inl, inr}
use Rattle.zone_region.specs.Words.{Words}
use Rattle.zone_region.specs.Members.{In}
use Rattle.offset_queue.specs.Queue.{IsQueue, ChangesLinks}
use Rattle.offset_queue.proofs.Keeping.{kept_queue}
use Rattle.offset_tree.specs.Keys.{IsForm}
use Rattle.offset_tree.specs.Changes.{ChangesNodes}
use Rattle.offset_tree.specs.Layout.{IsTree}
use Rattle.offset_tree.proofs.Keeping.{kept_tree, kept_request_nodes}
use Rattle.offset_table.specs.declared.table.Table.{Table}
use Rattle.offset_table.specs.Table.{request_form, tree_of, queue_of, ChangesTable}

-- what changes links of a queue keeps the tree
pub queue_keeps_tree : (m n : Words) (t : Table) (xs sorted : List ℕ) → ChangesLinks m n (queue_of t) 5 xs → IsTree m (tree_of t) sorted → IsTree n (tree_of t) sorted
queue_keeps_tree m n t xs sorted c h = kept_tree m n (tree_of t) sorted (kept_request_nodes m n (tree_of t) sorted refl (record {
  lengths = λ z i. c.lengths z;
  root = c.head 0 (λ e. omega (arith, e)) (λ e. omega (arith, e));
  nodes = λ z i j k. c.entries z i (away z j) (λ e. elim k [ inl low ↦ omega (arith, e, low) | inr high ↦ omega (arith, e, high) ]) (λ e. elim k [ inl low ↦ omega (arith, e, low) | inr high ↦ omega (arith, e, high) ]);
})) h where
  away : (z : ℕ) → In z sorted → z ≢ t.context.at
  away z i e = h.holds.distinct.0 (subst (λ (y : ℕ). In y sorted) e i)

-- what changes nodes of a tree keeps the queue
pub tree_keeps_queue : (m n : Words) (t : Table) (xs order : List ℕ) → ChangesNodes m n t.context.at xs → IsQueue m (queue_of t) 5 order → IsQueue n (queue_of t) 5 order
tree_keeps_queue m n t xs order c h = kept_queue m n (queue_of t) 5 order (record {
  lengths = λ z i. c.lengths z;
  head_prev = c.head 8 (λ e. omega (arith, e));
  head_next = c.head 9 (λ e. omega (arith, e));
  prevs = λ z i. c.nodes z 5 (away z i) (inr (omega arith));
  nexts = λ z i. c.nodes z 6 (away z i) (inr (omega arith));
}) h where
  away : (z : ℕ) → In z order → z ≢ t.context.at
  away z i e = h.holds.distinct.0 (subst (λ (y : ℕ). In y order) e i)

-- both change no more than a table's calls may
pub links_in_table : (m n : Words) (t : Table) (xs : List ℕ) → ChangesLinks m n (queue_of t) 5 xs → ChangesTable m n t xs
links_in_table m n t xs c = record {
  lengths = c.lengths;
  others = c.others;
  nodes = λ z i ne k. c.entries z i ne (λ e. elim k [ inl low ↦ omega (arith, e, low) | inr high ↦ omega (arith, e, high) ]) (λ e. elim k [ inl low ↦ omega (arith, e, low) | inr high ↦ omega (arith, e, high) ]);
  flags = λ z ne. ap (λ (w : ℕ). w / 256) (c.entries z 4 ne (λ e. omega (arith, e)) (λ e. omega (arith, e)));
  head = λ i root prev next. c.head i prev next;
}

pub nodes_in_table : (m n : Words) (t : Table) (xs ys : List ℕ) → ((x : ℕ) → In x xs → In x ys) → ChangesNodes m n t.context.at xs → ChangesTable m n t ys
nodes_in_table m n t xs ys into c = record {
  lengths = c.lengths;
  others = λ z ne out. c.others z ne (λ i. out (into z i));
  nodes = λ z i ne k. c.nodes z i ne (elim k [ inl low ↦ inl low | inr high ↦ inr (omega (arith, high)) ]);
  flags = c.flags;
  head = λ i root prev next. c.head i root;
}

pub table_changed_twice : (l m n : Words) (t : Table) (xs : List ℕ) → ChangesTable l m t xs → ChangesTable m n t xs → ChangesTable l n t xs
table_changed_twice l m n t xs a b = record {
  lengths = λ z. b.lengths z ∙ a.lengths z;
  others = λ z ne out. b.others z ne out ∙ a.others z ne out;
  nodes = λ z i ne k. b.nodes z i ne k ∙ a.nodes z i ne k;
  flags = λ z ne. b.flags z ne ∙ a.flags z ne;
  head = λ i root prev next. b.head i root prev next ∙ a.head i root prev next;
}
