-- For callers: what other changes leave of a table, and when a block can be added.
use Rattle.std.proofs.Common.{ℕ, ◌≡◌, ◌≢◌, ◌+◌, ◌*◌, ◌^◌, ◌<◌, ◌≤◌, List, ◌∷◌, inl, inr, sym, subst, ◌∙◌, ap, refl, arith}
use Rattle.zone_region.specs.Words.{Words, SetsWord}
use Rattle.zone_region.specs.Members.{In}
use Rattle.zone_region.specs.Granting.{GrantsWords, ReturnsWords}
use Rattle.zone_region.specs.Holding.{HoldsBlocks}
use Rattle.zone_region.proofs.GrantingLemmas.{granted_same, returned_same}
use Rattle.zone_region.proofs.WordLemmas.{word_at-set_block, word_at-set_index, length-set_word}
use Rattle.offset_queue.proofs.Keeping.{kept_queue, kept_blocks as kept_links}
use Rattle.offset_tree.specs.Keys.{HoldsKey}
use Rattle.offset_tree.proofs.Keeping.{kept_tree, kept_blocks as kept_nodes, kept_request_nodes, same_block}
use Rattle.offset_table.specs.declared.table.Table.{Table}
use Rattle.offset_table.specs.Table.{request_form, tree_of, queue_of, rank_at, IsTable, IsTableContext, CanAdd}

-- the words of the context and of the nodes stay
pub kept_table : (m n : Words) (t : Table) (order : List ℕ) → ((z : ℕ) → In z (t.context.at ∷ order) → n z ≡ m z) → IsTable m t order → IsTable n t order
kept_table m n t order same h = record {
  sorted = h.sorted;
  queue = kept_queue m n (queue_of t) 5 order (kept_links m n (queue_of t) 5 order same) h.queue;
  tree = kept_tree m n (tree_of t) h.sorted (kept_nodes m n (tree_of t) h.sorted (λ z i. same z (elim i [ inl e ↦ inl e | inr j ↦ inr (h.back z j) ]))) h.tree;
  there = h.there;
  back = h.back;
}

-- a grant of a block leaves a table
pub granted_table : (m n : Words) (at count : ℕ) (t : Table) (order : List ℕ) → GrantsWords m n at count → IsTable m t order → IsTable n t order
granted_table m n at count t order g h = kept_table m n t order (granted_same m n at count (t.context.at ∷ order) g h.queue.holds.live) h

-- and so does the return of a block that isn't the context or a node
pub returned_table : (m n : Words) (at : ℕ) (t : Table) (order : List ℕ) → ReturnsWords m n at → (In at (t.context.at ∷ order) → ⊥) → IsTable m t order → IsTable n t order
returned_table m n at t order r out h = kept_table m n t order (returned_same m n at (t.context.at ∷ order) r out) h

-- a new block of ten words or more, above offset 0 and below 2^63, can be a table's context
pub granted_table_context : (m n : Words) (t : Table) (count : ℕ) → GrantsWords m n t.context.at count → 10 ≤ count → 0 < t.context.at → t.context.at + 8 * count ≤ 2 ^ 63 → IsTableContext n t
granted_table_context m n t count g room above below = record {
  room = omega (arith, g.long, room);
  above = above;
  below = omega (arith, g.long, below);
}

-- a number of a node, in word 7, 8 or 9, may be set
pub set_in_table : (m n : Words) (t : Table) (b i v : ℕ) (order : List ℕ) → In b order → 7 ≤ i → i ≤ 9 → SetsWord m n b i v → IsTable m t order → IsTable n t order
set_in_table m n t b i v order there low high s h =
    let away : t.context.at ≢ b = λ e. h.queue.holds.distinct.0 (subst (λ (y : ℕ). In y order) (sym e) there) in
    record {
      sorted = h.sorted;
      queue = kept_queue m n (queue_of t) 5 order (record {
        lengths = λ z j. length-set_word m n b i v z s;
        head_prev = word_at-set_block m n b i v t.context.at 8 s away;
        head_next = word_at-set_block m n b i v t.context.at 9 s away;
        prevs = λ z j. word_at-set_index m n b i v z 5 s (λ e. omega (arith, e, low));
        nexts = λ z j. word_at-set_index m n b i v z 6 s (λ e. omega (arith, e, low));
      }) h.queue;
      tree = kept_tree m n (tree_of t) h.sorted (kept_request_nodes m n (tree_of t) h.sorted refl (record {
        lengths = λ z j. length-set_word m n b i v z s;
        root = word_at-set_block m n b i v t.context.at 0 s away;
        nodes = λ z k j w. word_at-set_index m n b i v z k s (λ e. elim w [ inl small ↦ omega (arith, e, small, low) | inr large ↦ omega (arith, e, large, high) ]);
      })) h.tree;
      there = h.there;
      back = h.back;
    }

-- A block can be added to a table that stays, where no node had its hash and key.
pub can_add : (m n : Words) (t : Table) (b hash : ℕ) (key order : List ℕ) → ((z : ℕ) → In z (t.context.at ∷ order) → n z ≡ m z) → IsTable m t order →
    ((x : ℕ) → In x order → rank_at m x ≢ (hash, key)) → HoldsBlocks n (t.context.at ∷ b ∷ order) → HoldsKey n request_form b → rank_at n b ≡ (hash, key) → CanAdd n t b key order
can_add m n t b hash key order same h none holds room rank = record {
  table = kept_table m n t order same h;
  holds = holds;
  room = room;
  key_is = ap (λ r. r.1) rank;
  other = λ x i e. none x i (sym (same_block m n request_form x (same x (inr i))).1 ∙ (e ∙ rank));
}
