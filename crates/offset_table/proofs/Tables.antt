-- What each call leaves of a table.
use Rattle.std.proofs.Common.{ℕ, ◌≡◌, List, [], ◌∷◌, ◌++◌, length, sym, subst, ◌∙◌, arith, inl, inr}
use Rattle.zone_region.specs.Words.{Words}
use Rattle.zone_region.specs.Members.{In, IsDistinct}
use Rattle.zone_region.proofs.HoldingLemmas.{holds_some, holds_kept}
use Rattle.zone_region.proofs.MembersLemmas.{In-more, In-one_more, In-middle, In-moved, IsDistinct-split, same_length}
use Rattle.offset_queue.specs.Queue.{IsHead, IsQueue, CanPush, ChangesLinks}
use Rattle.offset_queue.proofs.Keeping.{can_push}
use Rattle.offset_tree.specs.Keys.{HoldsKey}
use Rattle.offset_tree.specs.Changes.{ChangesNodes, MakesEmpty}
use Rattle.offset_tree.specs.Layout.{IsContext, IsTree, CanInsert, Inserted}
use Rattle.offset_table.specs.declared.table.Table.{Table}
use Rattle.offset_table.specs.Table.{tree_of, queue_of, IsTable, CanAdd, IsTableContext, MakesTable, ChangesTable}
use Rattle.offset_table.proofs.Sharing.{queue_keeps_tree, tree_keeps_queue, links_in_table, nodes_in_table, table_changed_twice}

-- both lists are equally long
pub equally_many : (m : Words) (t : Table) (order : List ℕ) → (h : IsTable m t order) → length h.sorted ≡ length order
equally_many m t order h = same_length h.sorted order h.tree.holds.distinct.1 h.queue.holds.distinct.1 h.back h.there

pub made_table : (n l : Words) (t : Table) → IsTree n (tree_of t) [] → IsQueue l (queue_of t) 5 [] → ChangesLinks n l (queue_of t) 5 [] → IsTable l t []
made_table n l t tree queue c = record { sorted = []; queue = queue; tree = queue_keeps_tree n l t [] [] c tree; there = λ x i. i; back = λ x i. i }

pub makes_table : (m n l : Words) (t : Table) → MakesEmpty m n t.context.at → IsQueue l (queue_of t) 5 [] → ChangesLinks n l (queue_of t) 5 [] → MakesTable m l t
makes_table m n l t e q c = record {
  lengths = λ z. c.lengths z ∙ e.lengths z;
  others = λ z ne. c.others z ne (λ none. none) ∙ e.others z ne;
  root = c.head 0 (λ f. omega (arith, f)) (λ f. omega (arith, f)) ∙ e.root;
  offset = c.head 1 (λ f. omega (arith, f)) (λ f. omega (arith, f)) ∙ e.offset;
  sentinel = λ i low high. c.head i (λ f. omega (arith, f, high)) (λ f. omega (arith, f, high)) ∙ e.sentinel i low high;
  prev = q.lays.prev;
  next = q.lays.next;
  rest = λ i k. c.head i (λ f. elim k [ inl two ↦ omega (arith, f, two) | inr high ↦ omega (arith, f, high) ]) (λ f. elim k [ inl two ↦ omega (arith, f, two) | inr high ↦ omega (arith, f, high) ])
      ∙ e.rest i (elim k [ inl two ↦ inl two | inr high ↦ inr (omega (arith, high)) ]);
}

-- `add`: the block can be put into the tree
pub can_insert_node : (m : Words) (t : Table) (b : ℕ) (key order : List ℕ) → (c : CanAdd m t b key order) → CanInsert m (tree_of t) b key c.table.sorted
can_insert_node m t b key order c =
    let sorted = c.table.sorted in
    let into = λ (x : ℕ) (i : In x (b ∷ sorted)). elim i as (λ _. In x (b ∷ order)) [ inl e ↦ inl e | inr j ↦ inr (c.table.back x j) ] in
    let distinct : IsDistinct (t.context.at ∷ b ∷ sorted) = (λ i. c.holds.distinct.0 (into t.context.at i), (λ i. c.holds.distinct.1.0 (c.table.back b i), c.table.tree.holds.distinct.1)) in
    record {
      holds = holds_some m (t.context.at ∷ b ∷ order) (t.context.at ∷ b ∷ sorted) distinct (λ x i. elim i [ inl e ↦ inl e | inr j ↦ inr (into x j) ]) c.holds;
      room = record {
        context = c.table.tree.room.context;
        nodes = λ x i. elim i [ inl e ↦ subst (λ (z : ℕ). HoldsKey m (tree_of t).form z) (sym e) c.room | inr j ↦ c.table.tree.room.nodes x j ];
      };
      lays = c.table.tree.lays;
      key_is = c.key_is;
      other = λ x i. c.other x (c.table.back x i);
    }

-- and then into the queue
pub can_push_node : (m n : Words) (t : Table) (b : ℕ) (key order : List ℕ) → (c : CanAdd m t b key order) → Inserted m n (tree_of t) b c.table.sorted → CanPush n (queue_of t) 5 b order
can_push_node m n t b key order c i =
    let queue = tree_keeps_queue m n t (i.before ++ b ∷ i.after) order i.changes c.table.queue in
    can_push n (queue_of t) 5 b order (holds_kept m n (t.context.at ∷ b ∷ order) (λ x j. i.changes.lengths x) c.holds) (omega (arith, i.changes.lengths b, c.room.key)) queue

pub added : (m n l : Words) (t : Table) (b : ℕ) (key order : List ℕ) → (c : CanAdd m t b key order) → Inserted m n (tree_of t) b c.table.sorted → IsQueue l (queue_of t) 5 (b ∷ order) → ChangesLinks n l (queue_of t) 5 (b ∷ order) → IsTable l t (b ∷ order)
added m n l t b key order c i queue links = record {
  sorted = i.before ++ b ∷ i.after;
  queue = queue;
  tree = queue_keeps_tree n l t (b ∷ order) (i.before ++ b ∷ i.after) links i.tree;
  there = λ x j. elim j [
    | inl e ↦ subst (λ (y : ℕ). In y (i.before ++ b ∷ i.after)) (sym e) (In-middle i.before b i.after)
    | inr k ↦ In-more x i.before b i.after (subst (λ (zs : List ℕ). In x zs) i.is (c.table.there x k))
  ];
  back = λ x j. grown x j;
} where
  grown : (x : ℕ) → In x (i.before ++ b ∷ i.after) → In x (b ∷ order)
  grown x j = elim (In-one_more x i.before b i.after j) [
    | inl e ↦ inl e
    | inr k ↦ inr (c.table.back x (subst (λ (zs : List ℕ). In x zs) (sym i.is) k))
  ]

pub added_changes : (m n l : Words) (t : Table) (b : ℕ) (key order : List ℕ) → (c : CanAdd m t b key order) → Inserted m n (tree_of t) b c.table.sorted → ChangesLinks n l (queue_of t) 5 (b ∷ order) → ChangesTable m l t (b ∷ order)
added_changes m n l t b key order c i links =
    table_changed_twice m n l t (b ∷ order) (nodes_in_table m n t (i.before ++ b ∷ i.after) (b ∷ order) grown i.changes) (links_in_table n l t (b ∷ order) links) where
      grown : (x : ℕ) → In x (i.before ++ b ∷ i.after) → In x (b ∷ order)
      grown x j = elim (In-one_more x i.before b i.after j) [
        | inl e ↦ inl e
        | inr k ↦ inr (c.table.back x (subst (λ (zs : List ℕ). In x zs) (sym i.is) k))
      ]

-- `touch`
pub touched : (m n : Words) (t : Table) (ys : List ℕ) (b : ℕ) (zs : List ℕ) → IsTable m t (ys ++ b ∷ zs) → IsQueue n (queue_of t) 5 (b ∷ ys ++ zs) → ChangesLinks m n (queue_of t) 5 (ys ++ b ∷ zs) → IsTable n t (b ∷ ys ++ zs)
touched m n t ys b zs h queue links = record {
  sorted = h.sorted;
  queue = queue;
  tree = queue_keeps_tree m n t (ys ++ b ∷ zs) h.sorted links h.tree;
  there = λ x j. h.there x (In-moved x ys b zs j);
  back = λ x j. In-one_more x ys b zs (h.back x j);
}

-- `remove`: the block goes from both lists
pub removed : (m n l : Words) (t : Table) (ys : List ℕ) (b : ℕ) (zs before after : List ℕ) → (h : IsTable m t (ys ++ b ∷ zs)) → h.sorted ≡ before ++ b ∷ after → IsQueue n (queue_of t) 5 (ys ++ zs) → IsTree l (tree_of t) (before ++ after) → ChangesNodes n l t.context.at (before ++ b ∷ after) → IsTable l t (ys ++ zs)
removed m n l t ys b zs before after h e queue tree nodes =
    let dq = IsDistinct-split ys b zs h.queue.holds.distinct.1 in
    let dt = IsDistinct-split before b after (subst (λ (ws : List ℕ). IsDistinct ws) e h.tree.holds.distinct.1) in
    record {
      sorted = before ++ after;
      queue = tree_keeps_queue n l t (before ++ b ∷ after) (ys ++ zs) nodes queue;
      tree = tree;
      there = λ x j. elim (In-one_more x before b after (subst (λ (ws : List ℕ). In x ws) e (h.there x (In-more x ys b zs j)))) [
        | inl f ↦ absurd (dq.1 (subst (λ (y : ℕ). In y (ys ++ zs)) f j))
        | inr k ↦ k
      ];
      back = λ x j. elim (In-one_more x ys b zs (h.back x (subst (λ (ws : List ℕ). In x ws) (sym e) (In-more x before b after j)))) [
        | inl f ↦ absurd (dt.1 (subst (λ (y : ℕ). In y (before ++ after)) f j))
        | inr k ↦ k
      ];
    }
