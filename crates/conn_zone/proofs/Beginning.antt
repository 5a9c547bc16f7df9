-- A zone that begins.
use Rattle.std.proofs.Common.{ℕ, ◌≡◌, ◌≢◌, ◌+◌, ◌*◌, ◌<◌, ◌≤◌, List, [], ◌∷◌, ◌++◌, length, set, get_or, Option, Some, None, refl, sym, ap, subst, ◌∙◌, inl, inr, arith, get_or-set_same, get_or-set_other}
use Rattle.std.specs.Prelude.{codes}
use Rattle.std.proofs.lemmas.Bool.{cases_eq}
use Rattle.std.proofs.lemmas.List.{length-append, length-set}
use Rattle.std.proofs.lemmas.List.Elements.{All-nil}
use Rattle.zone_region.specs.Words.{Words, word_at, SetsWord}
use Rattle.zone_region.specs.Granting.{GrantsWords, SameBlockWords}
use Rattle.zone_region.proofs.WordLemmas.{word_at-set_same, word_at-set_index, length-set_word}
use Rattle.block_bytes.specs.Bytes.{HoldsBytes, PutsBytes}
use Rattle.block_bytes.proofs.BytesLemmas.{holds_bytes-same}
use Rattle.slab_model.specs.declared.shape.Shape.{Shape}
use Rattle.slab_model.specs.Geometry.{shape_of}
use Rattle.slab_model.specs.State.{Slab, fresh_slab}
use Rattle.slab_model.specs.Grant.{grant}
use Rattle.slab_model.proofs.ShapeLemmas.{grant_shape}
use Rattle.slab_pages.specs.Places.{Image, log_ctx_word, data_word}
use Rattle.slab_pool.specs.Pool.{LaysPool}
use Rattle.slab_pool.specs.Live.{block_words, rest_of}
use Rattle.slab_pool.proofs.HeldLemmas.{holds-blocks}
use Rattle.slab_pool.proofs.RestLemmas.{rest-laid}
use Rattle.offset_tree.specs.declared.tree.Tree.{Tree}
use Rattle.offset_tree.specs.Changes.{MakesEmpty}
use Rattle.offset_tree.specs.Layout.{IsContext, IsTree}
use Rattle.offset_tree.proofs.Keeping.{kept_tree}
use Rattle.conn_zone.specs.Object.{context_size, name_size, with_context, with_name, opened_zone}
use Rattle.conn_zone.specs.Laws.{Opens}
use Rattle.conn_zone.specs.Layout.{LaysNode, LaysFrom, name_bytes, tree_at}
use Rattle.conn_zone.specs.Changes.{IsFresh}
use Rattle.conn_zone.specs.Proving.Fresh.{open-law}

-- ---- the two grants

pub opens : (image : Image) (name : List ℕ) (bytes : ℕ) (text : List ℕ) → IsFresh image name bytes text → Opens name bytes
opens image name bytes text f = open-law name bytes f.named f.limits

-- the text is as long as its block is to be
pub text_length : (image : Image) (name : List ℕ) (bytes : ℕ) (text : List ℕ) → IsFresh image name bytes text → length text ≡ name_size name
text_length image name bytes text f =
    let joined : length (name_bytes name) ≡ 21 + length (name ++ 34 ∷ 0 ∷ []) = length-append (codes " in limit_conn_zone \"") (name ++ 34 ∷ 0 ∷ []) in
    let end = length-append name (34 ∷ 0 ∷ []) in
    omega (arith, ap (λ (t : List ℕ). length t) f.text_is, joined, end)

-- what is given isn't nothing
pub is_some_block : (given : ℕ) (answer : Option ℕ) → None ≡ answer → answer ≡ Some given → ⊥
is_some_block given answer none some = no (none ∙ some) where
  no : None ≡ Some given → ⊥
  no e = cc

pub given_at : (at given : ℕ) (answer : Option ℕ) → Some at ≡ answer → answer ≡ Some given → at ≡ given
given_at at given answer is some = ap (elim [ Some n ↦ n | None ↦ at ]) (is ∙ some)

-- the block of the context, before the tree is in it
pub is_context : (image : Image) (slab : Slab) (at : ℕ) → LaysPool image slab → 8 ≤ length (block_words image at) → IsContext (block_words image) (tree_at at)
is_context image slab at p long =
    let one = holds-blocks image slab (at ∷ []) p (λ none. none, tt)
    (λ x i. elim i [ inl e ↦ subst (λ (z : ℕ). 0 < length (block_words image z)) (sym e) (omega (arith, long)) | inr none ↦ absurd none ]) in
    record { room = long; above = one.above at (inl refl); below = one.below at (inl refl) }

-- ---- the steps, one after another

-- both blocks were granted: that of the context, then that of the name
pub record HasGranted (fresh first second : Image) (name : List ℕ) (bytes context at : ℕ) : Type 0 where
  pub context_is : context ≡ (opened_zone name bytes).context
  pub at_is : at ≡ (opened_zone name bytes).name_block
  pub laid : LaysPool second (with_name bytes name).1
  pub room : 8 ≤ length (block_words second context)
  pub long : name_size name ≤ 8 * length (block_words second at)
  pub apart : context ≢ at

-- the words of the context, of the name and of the header were written
pub record HasWritten (second third fourth fifth last : Image) (t : Tree) (context at : ℕ) (text : List ℕ) : Type 0 where
  pub empty : IsTree (block_words third) t []
  pub makes : MakesEmpty (block_words second) (block_words third) t.context.at
  pub third_rest : rest_of third ≡ rest_of second
  pub zero : SetsWord (block_words third) (block_words fourth) context 2 0
  pub fourth_rest : rest_of fourth ≡ rest_of third
  pub puts : PutsBytes (block_words fourth) (block_words fifth) at 0 text
  pub fifth_rest : rest_of fifth ≡ rest_of fourth
  pub roots : last ≡ record { shape = fifth.shape; words = set (set fifth.words log_ctx_word at) data_word context }
  pub laid : (slab : Slab) → LaysPool fifth slab → LaysPool last slab
  pub same : SameBlockWords (block_words fifth) (block_words last)

-- the blocks keep their lengths until the header is written
pub lengths : (second third fourth fifth last : Image) (t : Tree) (context at : ℕ) (text : List ℕ) → HasWritten second third fourth fifth last t context at text → (z : ℕ) → length (block_words fifth z) ≡ length (block_words second z)
lengths second third fourth fifth last t context at text w z = w.puts.lengths z ∙ length-set_word (block_words third) (block_words fourth) context 2 0 z w.zero ∙ w.makes.lengths z

-- a root word of the header
roots_are : (words : List ℕ) (at context : ℕ) → 24 ≤ length words → (get_or (set (set words log_ctx_word at) data_word context) log_ctx_word 0 ≡ at) × (get_or (set (set words log_ctx_word at) data_word context) data_word 0 ≡ context)
roots_are words at context long = (
  get_or-set_other (set words log_ctx_word at) data_word log_ctx_word context 0 (λ e. omega (arith, e)) ∙ get_or-set_same words log_ctx_word at 0 (omega (arith, long)),
  get_or-set_same (set words log_ctx_word at) data_word context 0 (omega (arith, long, length-set words log_ctx_word at)),
)

pub begun : (fresh first second third fourth fifth last : Image) (name : List ℕ) (bytes context at : ℕ) (t : Tree) (text : List ℕ) → IsFresh fresh name bytes text → HasGranted fresh first second name bytes context at → t ≡ tree_at context → HasWritten second third fourth fifth last t context at text
    → LaysFrom last context (opened_zone name bytes)
begun fresh first second third fourth fifth last name bytes context at t text f g is w =
    let s = opened_zone name bytes in
    let o = opens fresh name bytes text f in
    let slab = (with_name bytes name).1 in
    let kept = rest-laid second fifth slab (w.fifth_rest ∙ w.fourth_rest ∙ w.third_rest) g.laid in
    let sized = kept.laid.runs.sized in
    let large = f.limits.large in
    let bytes_are : slab.shape.bytes ≡ bytes = shape_bytes in
    let long : 24 ≤ length fifth.words = omega (arith, sized, large, bytes_are) in
    let roots = roots_are fifth.words at context long in
    let words = ap (λ (i : Image). i.words) w.roots in
    let empty : IsTree (block_words third) (tree_at s.context) [] = subst (λ (u : Tree). IsTree (block_words third) u []) (is ∙ ap (λ (c : ℕ). tree_at c) g.context_is) w.empty in
    let apart : s.context ≢ at = λ e. g.apart (g.context_is ∙ e) in
    let there = λ (i : ℕ) (ne : i ≢ 2). let r : word_at (block_words last) s.context i ≡ word_at (block_words third) s.context i =
    word (block_words last) (block_words fifth) i (w.same s.context)
    ∙ word (block_words fifth) (block_words fourth) i (w.puts.others s.context apart)
    ∙ word_at-set_index (block_words third) (block_words fourth) context 2 0 s.context i w.zero ne in r in
    let context_at : t.context.at ≡ s.context = ap (λ (u : Tree). u.context.at) is ∙ g.context_is in
    let makes = subst (λ (c : ℕ). MakesEmpty (block_words second) (block_words third) c) context_at w.makes in
    record {
      zone = record {
        whole = o.whole;
        slab = w.laid slab kept;
        log_ctx = ap (λ (ws : List ℕ). get_or ws log_ctx_word 0) words ∙ roots.0 ∙ g.at_is;
        data_is = ap (λ (ws : List ℕ). get_or ws data_word 0) words ∙ roots.1 ∙ g.context_is;
        blocks = record {
          context = record {
            sentinel = there 1 (λ e. omega (arith, e)) ∙ makes.offset;
            zeros = λ i low high. elim (cases_eq i 2) [
              | inl two ↦ subst (λ (j : ℕ). word_at (block_words last) s.context j ≡ 0) (sym two) (second_word g w)
              | inr ne ↦ there i ne ∙ makes.sentinel i (omega (arith, low, ne)) high
            ];
          };
          name = holds_bytes-same (block_words fifth) (block_words last) s.name_block 0 (name_bytes name) (w.same s.name_block)
              (subst (λ (z : ℕ). HoldsBytes (block_words fifth) z 0 (name_bytes name)) g.at_is (subst (λ (b : List ℕ). HoldsBytes (block_words fifth) at 0 b) f.text_is w.puts.held));
          nodes = All-nil (LaysNode (block_words last));
          entries = record {
            blocks = [];
            tree = kept_tree (block_words third) (block_words last) (tree_at s.context) [] (record {
              lengths = λ z i. ap (λ (ws : List ℕ). length ws) (w.same z) ∙ w.puts.lengths z ∙ length-set_word (block_words third) (block_words fourth) context 2 0 z w.zero;
              root = there 0 (λ e. omega (arith, e));
              nodes = λ z i. absurd i;
              keys = λ z i. absurd i;
            }) empty;
            members = λ z. (λ i. i, λ i. i);
          };
        };
      };
      context_is = sym g.context_is;
    } where
      word : (m n : Words) (i : ℕ) → m (opened_zone name bytes).context ≡ n (opened_zone name bytes).context → word_at m (opened_zone name bytes).context i ≡ word_at n (opened_zone name bytes).context i
      word m n i same = ap (λ (ws : List ℕ). get_or ws i 0) same

      shape_bytes : (with_name bytes name).1.shape.bytes ≡ bytes
      shape_bytes = ap (λ (h : Shape). h.bytes) (grant_shape (with_context bytes).1 (name_size name) ∙ grant_shape (fresh_slab (shape_of bytes)) context_size)

      second_word : HasGranted fresh first second name bytes context at → HasWritten second third fourth fifth last t context at text → word_at (block_words last) (opened_zone name bytes).context 2 ≡ 0
      second_word g w = subst (λ (c : ℕ). word_at (block_words last) c 2 ≡ 0) g.context_is (
          ap (λ (ws : List ℕ). get_or ws 2 0) (w.same context)
          ∙ ap (λ (ws : List ℕ). get_or ws 2 0) (w.puts.others context g.apart)
          ∙ word_at-set_same (block_words third) (block_words fourth) context 2 0 w.zero (omega (arith, w.makes.lengths context, g.room))
          )

-- what both grants leave
pub has_granted : (fresh first second : Image) (name : List ℕ) (bytes context at count : ℕ) (text : List ℕ) → IsFresh fresh name bytes text
    → Some context ≡ (with_context bytes).0 → 64 ≤ 8 * length (block_words first context)
    → Some at ≡ (grant (with_context bytes).1 (length text)).0 → LaysPool second (grant (with_context bytes).1 (length text)).1 → GrantsWords (block_words first) (block_words second) at count → length text ≤ 8 * length (block_words second at)
    → HasGranted fresh first second name bytes context at
has_granted fresh first second name bytes context at count text f one room two laid words long =
    let o = opens fresh name bytes text f in
    let size = text_length fresh name bytes text f in
    let apart : context ≢ at = λ same. absurd (let none = ap (λ (ws : List ℕ). length ws) words.fresh in let here = ap (λ (z : ℕ). length (block_words first z)) same in omega (arith, none, here, room)) in
    record {
      context_is = given_at context _ (with_context bytes).0 one o.context;
      at_is = given_at at _ (with_name bytes name).0 (two ∙ ap (λ (n : ℕ). (grant (with_context bytes).1 n).0) size) o.name_block;
      laid = subst (λ (n : ℕ). LaysPool second (grant (with_context bytes).1 n).1) size laid;
      room = omega (arith, room, ap (λ (ws : List ℕ). length ws) (words.others context apart));
      long = omega (arith, long, size);
      apart = apart;
    }

-- the tree's context has its room
pub has_context : (fresh first second : Image) (name : List ℕ) (bytes context at : ℕ) (t : Tree) → HasGranted fresh first second name bytes context at → t ≡ tree_at context → IsContext (block_words second) t
has_context fresh first second name bytes context at t g is = subst (λ (u : Tree). IsContext (block_words second) u) (sym is) (is_context second (with_name bytes name).1 context g.laid g.room)

-- the second grant gives a block
pub second_given : (fresh : Image) (name : List ℕ) (bytes : ℕ) (text : List ℕ) → IsFresh fresh name bytes text → None ≡ (grant (with_context bytes).1 (length text)).0 → ⊥
second_given fresh name bytes text f none = is_some_block _ (with_name bytes name).0 (none ∙ ap (λ (n : ℕ). (grant (with_context bytes).1 n).0) (text_length fresh name bytes text f)) (opens fresh name bytes text f).name_block
