-- What opening a zone leaves in its words.
use Rattle.std.proofs.Common.{ℕ, ◌≡◌, ◌≢◌, ◌+◌, ◌*◌, ◌/◌, ◌^◌, ◌<◌, ◌≤◌, List, [], ◌∷◌, ◌++◌, length, get_or, set, replicate, Some, None, sym, ap, subst, ◌∙◌, refl, arith, inl, inr, length-append, get_or-set_same, get_or-set_other}
use Rattle.std.specs.Prelude.{unwrap_or, Option}
use Rattle.std.proofs.lemmas.List.{length-set, length-replicate, get_or-replicate}
use Rattle.std.proofs.lemmas.List.Elements.{All-nil}
use Rattle.zone_region.specs.Words.{Words, word_at}
use Rattle.zone_region.specs.Members.{In}
use Rattle.zone_region.specs.Granting.{GrantsWords, SameBlockWords}
use Rattle.block_bytes.specs.Bytes.{HoldsBytes, PutsBytes}
use Rattle.block_bytes.proofs.BytesLemmas.{holds_bytes-same}
use Rattle.slab_model.specs.Geometry.{IsInLimits, shape_of, class_of, class_size}
use Rattle.slab_model.specs.declared.shape.Shape.{Shape}
use Rattle.slab_model.specs.State.{Slab, fresh_slab}
use Rattle.slab_model.specs.Grant.{block_bytes}
use Rattle.slab_pages.specs.Places.{Image, log_ctx_word, data_word}
use Rattle.slab_pool.specs.Pool.{LaysPool}
use Rattle.slab_pool.specs.Live.{block_words, rest_of}
use Rattle.slab_pool.proofs.RestLemmas.{rest-laid}
use Rattle.slab_pool.proofs.HeldLemmas.{holds-blocks}
use Rattle.offset_table.specs.declared.table.Table.{Table}
use Rattle.offset_table.specs.Table.{IsTable, IsTableContext, MakesTable}
use Rattle.offset_table.proofs.Keeping.{kept_table}
use Rattle.req_zone.specs.declared.state.ReqEntry.{ReqEntry}
use Rattle.req_zone.specs.declared.state.ReqState.{ReqState}
use Rattle.req_zone.specs.Object.{IsName, name_size, context_size, with_context, with_name, opened_zone}
use Rattle.req_zone.specs.Words.{name_text, table_in, HasSentinel, HoldsEntry, LaysReq}
use Rattle.req_zone.specs.Proving.Fresh.{opened_whole}
use Rattle.req_zone.proofs.ZoneLemmas.{same_sentinel}

-- the bytes of the name block
pub text_size : (name : List ℕ) → length (name_text name) ≡ name_size name
text_size name = omega (arith, length-append name (34 ∷ 0 ∷ []))

-- a context takes a block of 128 bytes
pub context_bytes : (slab : Slab) → block_bytes slab context_size ≡ 128
unfolding block_bytes class_of class_size
context_bytes slab = refl

-- what each call leaves: both blocks are granted, the table is made empty, the name is written, the header names both
pub record Begins (p0 p1 p2 p3 p4 p5 : Image) (bytes : ℕ) (name : List ℕ) (context block count : ℕ) : Type 0 where
  pub limits : IsInLimits (shape_of bytes)
  pub ok : IsName name
  pub first : (with_context bytes).0 ≡ Some context
  pub zeros : block_words p1 context ≡ replicate (block_bytes (fresh_slab (shape_of bytes)) context_size / 8) 0
  pub second : (with_name bytes name).0 ≡ Some block
  pub laid : LaysPool p2 (with_name bytes name).1
  pub words : GrantsWords (block_words p1) (block_words p2) block count
  pub table : IsTable (block_words p3) (record { context = record { at = context } }) []
  pub makes : MakesTable (block_words p2) (block_words p3) (record { context = record { at = context } })
  pub kept : rest_of p3 ≡ rest_of p2
  pub puts : PutsBytes (block_words p3) (block_words p4) block 0 (name_text name)
  pub stays : rest_of p4 ≡ rest_of p3
  pub root : p5 ≡ record { shape = p4.shape; words = set (set p4.words log_ctx_word block) data_word context }
  pub given : (slab : Slab) → LaysPool p4 slab → LaysPool p5 slab
  pub same : SameBlockWords (block_words p4) (block_words p5)

-- both blocks differ, and the context keeps its words when the name's block is granted
pub context_long : (p1 : Image) (bytes context : ℕ) → block_words p1 context ≡ replicate (block_bytes (fresh_slab (shape_of bytes)) context_size / 8) 0 → length (block_words p1 context) ≡ 16
context_long p1 bytes context zeros = ap (λ (ws : List ℕ). length ws) zeros ∙ length-replicate (block_bytes (fresh_slab (shape_of bytes)) context_size / 8) 0 ∙ ap (λ (n : ℕ). n / 8) (context_bytes (fresh_slab (shape_of bytes)))

pub blocks_differ : (p1 p2 : Image) (context block count : ℕ) → length (block_words p1 context) ≡ 16 → GrantsWords (block_words p1) (block_words p2) block count → context ≢ block
blocks_differ p1 p2 context block count long g e = absurd (omega (arith, long, ap (λ (b : ℕ). length (block_words p1 b)) e, ap (λ (ws : List ℕ). length ws) g.fresh))

-- the context's block can hold a table
pub table_room : (p2 : Image) (slab : Slab) (context : ℕ) → LaysPool p2 slab → length (block_words p2 context) ≡ 16 → IsTableContext (block_words p2) (record { context = record { at = context } })
table_room p2 slab context p long =
    let one = holds-blocks p2 slab (context ∷ []) p (λ none. none, tt) (λ x i. elim i [ inl e ↦ subst (λ (z : ℕ). 0 < length (block_words p2 z)) (sym e) (omega (arith, long)) | inr none ↦ absurd none ]) in
    record { room = omega (arith, long); above = one.above context (inl refl); below = one.below context (inl refl) }

-- the words of a zone that was just opened lay out the opened state
pub begun : (p0 p1 p2 p3 p4 p5 : Image) (rate bytes : ℕ) (name : List ℕ) (context block count : ℕ) → Begins p0 p1 p2 p3 p4 p5 bytes name context block count → LaysReq p5 (opened_zone rate name bytes) × ((let t : Table = record { context = record { at = context } } in t) ≡ table_in (opened_zone rate name bytes))
begun p0 p1 p2 p3 p4 p5 rate bytes name context block count b =
    let context_is : context ≡ (opened_zone rate name bytes).context = sym (ap (λ (o : Option ℕ). unwrap_or o 0) b.first) in
    let block_is : block ≡ (opened_zone rate name bytes).name_block = sym (ap (λ (o : Option ℕ). unwrap_or o 0) b.second) in
    let t : Table = record { context = record { at = context } } in
    let table_is : t ≡ table_in (opened_zone rate name bytes) = ap (λ (at : ℕ). let u : Table = record { context = record { at = at } } in u) context_is in
    let long = context_long p1 bytes context b.zeros in
    let ne = blocks_differ p1 p2 context block count long b.words in
    let here : block_words p5 context ≡ block_words p3 context = b.same context ∙ b.puts.others context ne in
    let zero : word_at (block_words p2) context 2 ≡ 0 = ap (λ (ws : List ℕ). get_or ws 2 0) (b.words.others context ne ∙ b.zeros) ∙ get_or-replicate (block_bytes (fresh_slab (shape_of bytes)) context_size / 8) 2 0 0 (omega (arith, context_bytes (fresh_slab (shape_of bytes)))) in
    let sentinel : HasSentinel (block_words p5) context = same_sentinel (block_words p3) (block_words p5) context here (record { offset = b.makes.offset; none = b.makes.rest 2 (inl refl) ∙ zero; sentinel = b.makes.sentinel }) in
    let written : HoldsBytes (block_words p5) block 0 (name_text name) = holds_bytes-same (block_words p4) (block_words p5) block 0 (name_text name) (b.same block) b.puts.held in
    let table : IsTable (block_words p5) t [] = kept_table (block_words p3) (block_words p5) t [] (λ z i. elim i [ inl e ↦ subst (λ (x : ℕ). block_words p5 x ≡ block_words p3 x) (sym e) here | inr none ↦ absurd none ]) b.table in
    let laid = b.given (with_name bytes name).1 (rest-laid p2 p4 (with_name bytes name).1 (b.stays ∙ b.kept) b.laid) in
    let words : p5.words ≡ set (set p4.words log_ctx_word block) data_word context = ap (λ (i : Image). i.words) b.root in
    let many : 4096 ≤ length p4.words = omega (arith, laid.laid.runs.sized, ap (λ (ws : List ℕ). length ws) words, length-set (set p4.words log_ctx_word block) data_word context, length-set p4.words log_ctx_word block, laid.sound.limits.large, laid.sound.limits.shift) in
    let log_ctx : get_or p5.words log_ctx_word 0 ≡ block = ap (λ (ws : List ℕ). get_or ws log_ctx_word 0) words ∙ get_or-set_other (set p4.words log_ctx_word block) data_word log_ctx_word context 0 (λ e. omega (arith, e)) ∙ get_or-set_same p4.words log_ctx_word block 0 (omega (arith, many)) in
    let data_is : get_or p5.words data_word 0 ≡ context = ap (λ (ws : List ℕ). get_or ws data_word 0) words ∙ get_or-set_same (set p4.words log_ctx_word block) data_word context 0 (omega (arith, many, length-set p4.words log_ctx_word block)) in (
      record {
        whole = opened_whole rate name bytes b.ok b.limits;
        slab = laid;
        log_ctx = log_ctx ∙ block_is;
        data_is = data_is ∙ context_is;
        name = subst (λ (at : ℕ). HoldsBytes (block_words p5) at 0 (name_text name)) block_is written;
        sentinel = subst (λ (at : ℕ). HasSentinel (block_words p5) at) context_is sentinel;
        table = subst (λ (u : Table). IsTable (block_words p5) u []) table_is table;
        nodes = All-nil (HoldsEntry (block_words p5));
      },
      table_is,
    )

-- a zone is known by its bytes and the size of its pages
pub same_shape : (shape : Shape) (bytes : ℕ) → shape.bytes ≡ bytes → shape.page_shift ≡ 12 → shape ≡ shape_of bytes
same_shape shape bytes e f =
    let g : ℕ → ℕ → Shape = λ m n. record { bytes = m; page_shift = n } in
    ap (λ m. g m shape.page_shift) e ∙ ap (λ n. g bytes n) f
