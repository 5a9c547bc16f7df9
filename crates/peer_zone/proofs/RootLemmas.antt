-- A zone whose blocks are placed, once what names them is written.
use Rattle.std.proofs.Common.{ℕ, ◌≡◌, ◌≢◌, ◌+◌, ◌*◌, ◌<◌, ◌≤◌, ◌∙◌, sym, ap, subst, refl, inl, inr, Bool, List, [], ◌∷◌, ◌++◌, length, map, get_or, set, Option, Some, None, arith, length-append, get_or-set_same, get_or-set_other}
use Rattle.std.specs.Prelude.{◌&&◌, nat_eq, unwrap_or, option_and_then}
use Rattle.std.proofs.lemmas.List.{length-map, length-set}
use Rattle.zone_region.specs.Words.{Words}
use Rattle.zone_region.specs.Members.{In, IsDistinct}
use Rattle.zone_region.specs.Granting.{SameBlockWords}
use Rattle.zone_region.proofs.MembersLemmas.{In-append_left, In-append_right}
use Rattle.block_bytes.specs.Bytes.{PutsBytes}
use Rattle.block_bytes.proofs.BytesLemmas.{holds_bytes-same}
use Rattle.slab_model.specs.Geometry.{IsInLimits}
use Rattle.slab_model.specs.State.{Slab}
use Rattle.slab_model.specs.Grant.{grant}
use Rattle.slab_pages.specs.Places.{Image, log_ctx_word, data_word}
use Rattle.slab_pool.specs.Pool.{LaysPool}
use Rattle.slab_pool.specs.Live.{block_words, rest_of}
use Rattle.slab_pool.proofs.RestLemmas.{rest-laid}
use Rattle.peer_zone.specs.declared.calls.PeerSpec.{PeerSpec}
use Rattle.peer_zone.specs.declared.opening.Placed.{Placed}
use Rattle.peer_zone.specs.declared.state.PeerRecord.{PeerRecord}
use Rattle.peer_zone.specs.Records.{fresh_record}
use Rattle.peer_zone.specs.Object.{is_single}
use Rattle.peer_zone.specs.Opening.{Request, besides, context_size, name_size, list_size, record_requests, backup_requests, grant_all, server_of, refused_server, pool_of, opened_zone, IsSpec, IsOpened}
use Rattle.peer_zone.specs.Words.{first_of, LaysRecords}
use Rattle.peer_zone.specs.Layout.{HoldsList, HoldsContext, name_text}
use Rattle.peer_zone.specs.Lays.{Lays, head_of}
use Rattle.peer_zone.specs.Faults.{HasPages}
use Rattle.peer_zone.specs.Placing.{ChangesBlock, KeepsLive, GrantsBlock, IsPlaced, PlacesRecords, PlacesBackup, Begins}
use Rattle.peer_zone.specs.Proving.Blocks.{opened-whole}
use Rattle.peer_zone.proofs.OpeningLaws.{opened-law}
use Rattle.peer_zone.proofs.RecordLemmas.{records-kept}
use Rattle.peer_zone.proofs.ZoneLemmas.{distinct-whole, list-kept, context-kept, backup-kept}
use Rattle.peer_zone.proofs.GrantLemmas.{granted-keeps, keeps-twice, keeps-room, GoesOn, goes_on, goes_on-one, goes_on-all}

-- the bytes of the name block
pub text_size : (name : List ℕ) → length (name_text name) ≡ name_size name
text_size name = omega (arith, length-append name (34 ∷ 0 ∷ []))

-- ---- all blocks are placed

-- the blocks of records are live
records-live : (m : Words) (ps : List PeerRecord) (ats : List ℕ) (z : ℕ) → LaysRecords m ps ats → In z ats → 0 < length (m z)
records-live m [] [] z laid i = absurd i
records-live m [] (at ∷ ats) z laid i = absurd laid
records-live m (p ∷ ps) [] z laid i = absurd laid
records-live m (p ∷ ps) (at ∷ ats) z laid i = elim i [
  | inl e ↦ subst (λ (x : ℕ). 0 < length (m x)) (sym e) (omega (arith, laid.0.held.room))
  | inr there ↦ records-live m ps ats z laid.1 there
]

-- the slab after the first three grants
abbrev pub one_of : PeerSpec → Slab
one_of spec = (grant (pool_of spec) context_size).1

abbrev pub two_of : PeerSpec → Slab
two_of spec = (grant (one_of spec) (name_size spec.name)).1

abbrev pub three_of : PeerSpec → Slab
three_of spec = (grant (two_of spec) list_size).1

abbrev pub primary_requests : PeerSpec → List Request
primary_requests spec = record_requests 0 spec.primary

abbrev pub later_requests : PeerSpec → List Request
later_requests spec = backup_requests (length spec.primary) spec.backup

-- what is left to grant once the context has its block, then the name, then the primary list
pub on-one : (spec : PeerSpec) (context : ℕ) → (grant (pool_of spec) context_size).0 ≡ Some context → GoesOn spec (context ∷ []) (one_of spec) (besides (name_size spec.name) ∷ besides list_size ∷ primary_requests spec ++ later_requests spec)
on-one spec context block = goes_on-one spec [] (pool_of spec) (besides context_size) (besides (name_size spec.name) ∷ besides list_size ∷ primary_requests spec ++ later_requests spec) context (goes_on spec) block

pub on-two : (spec : PeerSpec) (context name : ℕ) → (grant (pool_of spec) context_size).0 ≡ Some context → (grant (one_of spec) (name_size spec.name)).0 ≡ Some name → GoesOn spec (context ∷ name ∷ []) (two_of spec) (besides list_size ∷ primary_requests spec ++ later_requests spec)
on-two spec context name a b = goes_on-one spec (context ∷ []) (one_of spec) (besides (name_size spec.name)) (besides list_size ∷ primary_requests spec ++ later_requests spec) name (on-one spec context a) b

pub on-three : (spec : PeerSpec) (context name list : ℕ) → (grant (pool_of spec) context_size).0 ≡ Some context → (grant (one_of spec) (name_size spec.name)).0 ≡ Some name → (grant (two_of spec) list_size).0 ≡ Some list → GoesOn spec (context ∷ name ∷ list ∷ []) (three_of spec) (primary_requests spec ++ later_requests spec)
on-three spec context name list a b c = goes_on-one spec (context ∷ name ∷ []) (two_of spec) (besides list_size) (primary_requests spec ++ later_requests spec) list (on-two spec context name a b) c

-- and once the primary records have theirs
pub on-records : (spec : PeerSpec) (context name list : ℕ) → GoesOn spec (context ∷ name ∷ list ∷ []) (three_of spec) (primary_requests spec ++ later_requests spec) → (grant_all (three_of spec) (primary_requests spec)).refused ≡ None
    → GoesOn spec (context ∷ name ∷ list ∷ (grant_all (three_of spec) (primary_requests spec)).blocks) (grant_all (three_of spec) (primary_requests spec)).slab (later_requests spec)
on-records spec context name list on none = goes_on-all spec (context ∷ name ∷ list ∷ []) (three_of spec) (primary_requests spec) (later_requests spec) on none

pub placed : (p0 p1 p2 p3 p4 p5 : Image) (spec : PeerSpec) (p : Placed)
    → GrantsBlock p0 p1 (pool_of spec) context_size p.context.at
    → GrantsBlock p1 p2 (one_of spec) (name_size spec.name) p.name.at
    → GrantsBlock p2 p3 (two_of spec) list_size p.list.at
    → PlacesRecords p3 p4 (grant_all (three_of spec) (primary_requests spec)) spec.primary p.first
    → PlacesBackup p4 p5 (grant_all (grant_all (three_of spec) (primary_requests spec)).slab (later_requests spec)) spec.backup p.backup
    → IsPlaced p5 spec p
placed p0 p1 p2 p3 p4 p5 spec p a b c r k =
    let first = grant_all (three_of spec) (primary_requests spec) in
    let second = grant_all first.slab (later_requests spec) in
    let on = on-records spec p.context.at p.name.at p.list.at (on-three spec p.context.at p.name.at p.list.at a.block b.block c.block) r.grants.all in
    let keeps_five : KeepsLive (block_words p3) (block_words p5) = keeps-twice (block_words p3) (block_words p4) (block_words p5) r.grants.kept k.grants.kept in
    let keeps_two = keeps-twice (block_words p2) (block_words p3) (block_words p5) (granted-keeps p2 p3 (two_of spec) list_size p.list.at c) keeps_five in
    let keeps_one = keeps-twice (block_words p1) (block_words p2) (block_words p5) (granted-keeps p1 p2 (one_of spec) (name_size spec.name) p.name.at b) keeps_two in
    let context_room : 64 ≤ 8 * length (block_words p5 p.context.at) = keeps-room (block_words p1) (block_words p5) p.context.at context_size keeps_one (omega arith) a.room in
    let list_room : 64 ≤ 8 * length (block_words p5 p.list.at) = keeps-room (block_words p3) (block_words p5) p.list.at list_size keeps_five (omega arith) c.room in
    record {
      all = ap (λ g. g.refused) on ∙ k.grants.all;
      laid = subst (λ (slab : Slab). LaysPool p5 slab) (sym (ap (λ g. g.slab) on)) k.grants.laid;
      records = first.blocks;
      behind = second.blocks;
      blocks_are = ap (λ g. g.blocks) on;
      context_room = omega (arith, context_room);
      name_room = keeps-room (block_words p2) (block_words p5) p.name.at (name_size spec.name) keeps_two (omega arith) b.room;
      list_room = omega (arith, list_room);
      first_is = r.first_is;
      backup_is = k.head_is;
      primary = records-kept (block_words p4) (block_words p5) (map fresh_record spec.primary) first.blocks (λ z i. k.grants.kept z (records-live (block_words p4) (map fresh_record spec.primary) first.blocks z r.records i)) r.records;
      backup = k.backup;
    }

-- ---- what names them is written

-- the block that heads the primary list, the context, the name and the header were written, one after another
pub record WritesRoots (p5 p6 p7 p8 p9 : Image) (spec : PeerSpec) (p : Placed) (single : Bool) (backup : ℕ) : Type 0 where
  pub list : HoldsList (block_words p6) p.list.at p.first (length spec.primary) single
  pub list_changes : ChangesBlock (block_words p5) (block_words p6) p.list.at
  pub list_rest : rest_of p6 ≡ rest_of p5
  pub context : HoldsContext (block_words p7) p.context.at p.list.at backup spec.method
  pub context_changes : ChangesBlock (block_words p6) (block_words p7) p.context.at
  pub context_rest : rest_of p7 ≡ rest_of p6
  pub name : PutsBytes (block_words p7) (block_words p8) p.name.at 0 (name_text spec.name)
  pub name_rest : rest_of p8 ≡ rest_of p7
  pub root : p9 ≡ record { shape = p8.shape; words = set (set p8.words log_ctx_word p.name.at) data_word p.context.at }
  pub given : (slab : Slab) → LaysPool p8 slab → LaysPool p9 slab
  pub same : SameBlockWords (block_words p8) (block_words p9)

-- a root word of the header
roots_are : (words : List ℕ) (name context : ℕ) → 24 ≤ length words → (get_or (set (set words log_ctx_word name) data_word context) log_ctx_word 0 ≡ name) × (get_or (set (set words log_ctx_word name) data_word context) data_word 0 ≡ context)
roots_are words name context long = (
  get_or-set_other (set words log_ctx_word name) data_word log_ctx_word context 0 (λ e. omega (arith, e)) ∙ get_or-set_same words log_ctx_word name 0 (omega (arith, long)),
  get_or-set_same (set words log_ctx_word name) data_word context 0 (omega (arith, long, length-set words log_ctx_word name)),
)

pub head-or-none : (ats : List ℕ) → unwrap_or (head_of ats) 0 ≡ first_of ats
head-or-none [] = refl
head-or-none (at ∷ ats) = refl

single-fresh : (spec : PeerSpec) → is_single (opened_zone spec) ≡ (nat_eq (length spec.primary) 1 && nat_eq (length spec.backup) 0)
single-fresh spec =
    ap (λ (n : ℕ). nat_eq n 1 && nat_eq (length (map fresh_record spec.backup)) 0) (length-map spec.primary fresh_record)
    ∙ ap (λ (n : ℕ). nat_eq (length spec.primary) 1 && nat_eq n 0) (length-map spec.backup fresh_record)

pub begun : (p5 p6 p7 p8 p9 : Image) (spec : PeerSpec) (p : Placed) (single : Bool) (backup : ℕ) → IsSpec spec → IsPlaced p5 spec p → single ≡ (nat_eq (length spec.primary) 1 && nat_eq (length spec.backup) 0) → backup ≡ unwrap_or p.backup 0 → WritesRoots p5 p6 p7 p8 p9 spec p single backup → Begins p9 spec p
begun p5 p6 p7 p8 p9 spec p single backup is i single_is backup_is w =
    let s = opened_zone spec in
    let opened : IsOpened s = (opened-law spec is i.all).1 in
    let whole = opened-whole s opened in
    let distinct : IsDistinct (p.context.at ∷ p.name.at ∷ p.list.at ∷ i.records ++ i.behind) = subst (λ (xs : List ℕ). IsDistinct xs) i.blocks_are (distinct-whole s whole) in
    let kept = rest-laid p5 p8 s.slab (w.name_rest ∙ w.context_rest ∙ w.list_rest) i.laid in
    let laid = w.given s.slab kept in
    let words = ap (λ (j : Image). j.words) w.root in
    let long : 24 ≤ length p8.words = omega (arith, kept.laid.runs.sized, kept.sound.limits.large, kept.sound.limits.shift) in
    let roots = roots_are p8.words p.name.at p.context.at long in
    let context_name : p.context.at ≢ p.name.at = λ e. distinct.0 (inl e) in
    let context_list : p.context.at ≢ p.list.at = λ e. distinct.0 (inr (inl e)) in
    let name_list : p.name.at ≢ p.list.at = λ e. distinct.1.0 (inl e) in
    let from_eight : (z : ℕ) → z ≢ p.name.at → block_words p9 z ≡ block_words p7 z = λ z other. w.same z ∙ w.name.others z other in
    let from_seven : (z : ℕ) → z ≢ p.name.at → z ≢ p.context.at → block_words p9 z ≡ block_words p6 z = λ z a b. from_eight z a ∙ w.context_changes.others z b in
    let from_six : (z : ℕ) → z ≢ p.name.at → z ≢ p.context.at → z ≢ p.list.at → block_words p9 z ≡ block_words p5 z = λ z a b c. from_seven z a b ∙ w.list_changes.others z c in
    let front : (z : ℕ) → In z i.records → block_words p9 z ≡ block_words p5 z = λ z t.
    from_six z
    (λ e. distinct.1.0 (inr (In-append_left p.name.at i.records i.behind (subst (λ (x : ℕ). In x i.records) e t))))
    (λ e. distinct.0 (inr (inr (In-append_left p.context.at i.records i.behind (subst (λ (x : ℕ). In x i.records) e t)))))
    (λ e. distinct.1.1.0 (In-append_left p.list.at i.records i.behind (subst (λ (x : ℕ). In x i.records) e t))) in
    let back : (z : ℕ) → In z i.behind → block_words p9 z ≡ block_words p5 z = λ z t.
    from_six z
    (λ e. distinct.1.0 (inr (In-append_right p.name.at i.records i.behind (subst (λ (x : ℕ). In x i.behind) e t))))
    (λ e. distinct.0 (inr (inr (In-append_right p.context.at i.records i.behind (subst (λ (x : ℕ). In x i.behind) e t)))))
    (λ e. distinct.1.1.0 (In-append_right p.list.at i.records i.behind (subst (λ (x : ℕ). In x i.behind) e t))) in
    let held = list-kept (block_words p6) (block_words p9) p.list.at p.first (length spec.primary) single (from_seven p.list.at (λ e. name_list (sym e)) (λ e. context_list (sym e))) w.list in
    let fresh_primary : length (map fresh_record spec.primary) ≡ length spec.primary = length-map spec.primary fresh_record in
    record {
      all = i.all;
      words = record {
        pool = laid;
        whole = whole;
        context = p.context.at;
        name = p.name.at;
        list = p.list.at;
        records = i.records;
        behind = i.behind;
        blocks_are = i.blocks_are;
        data_is = ap (λ (ws : List ℕ). get_or ws data_word 0) words ∙ roots.1;
        log_ctx_is = ap (λ (ws : List ℕ). get_or ws log_ctx_word 0) words ∙ roots.0;
        context_held = subst (λ (b : ℕ). HoldsContext (block_words p9) p.context.at p.list.at b spec.method) (backup_is ∙ ap (λ (o : Option ℕ). unwrap_or o 0) i.backup_is ∙ head-or-none i.behind) (context-kept (block_words p7) (block_words p9) p.context.at p.list.at backup spec.method (from_eight p.context.at context_name) w.context);
        name_held = holds_bytes-same (block_words p8) (block_words p9) p.name.at 0 (name_text spec.name) (w.same p.name.at) w.name.held;
        list_held = subst (λ (b : Bool). HoldsList (block_words p9) p.list.at (first_of i.records) (length (map fresh_record spec.primary)) b) (single_is ∙ sym (single-fresh spec)) (subst (λ (n : ℕ). HoldsList (block_words p9) p.list.at (first_of i.records) n single) (sym fresh_primary) (subst (λ (f : ℕ). HoldsList (block_words p9) p.list.at f (length spec.primary) single) i.first_is held));
        primary = records-kept (block_words p5) (block_words p9) (map fresh_record spec.primary) i.records front i.primary;
        backup = backup-kept (block_words p5) (block_words p9) (map fresh_record spec.backup) i.behind back i.backup;
      };
      primary_is = refl;
      backup_is = i.backup_is;
    }

-- ---- a zone that was just opened

pub opened-lays : (image : Image) (spec : PeerSpec) (p : Placed) (entries : ℕ) → IsSpec spec → Begins image spec p → entries ≡ length spec.primary + length spec.backup → Lays (record { pool = image; spec = spec; primary = p.list.at; backup = p.backup; entries = entries }) (opened_zone spec)
opened-lays image spec p entries is b many = record {
  words = b.words;
  spec_is = (opened-law spec is b.all).0;
  primary_is = b.primary_is;
  backup_is = b.backup_is;
  entries_is = omega (arith, many, length-map spec.primary fresh_record, length-map spec.backup fresh_record);
}

pub has_pages : (spec : PeerSpec) → IsSpec spec → spec.page_shift ≡ 12 → HasPages spec
has_pages spec is shift =
    let limits = subst (λ (n : ℕ). IsInLimits (record { bytes = spec.bytes; page_shift = n })) shift is.limits in
    omega (arith, limits.large)

pub none_refused : (image : Image) (spec : PeerSpec) (p : Placed) → Begins image spec p → refused_server spec ≡ None
none_refused image spec p b = ap (λ (r : Option Request). option_and_then server_of r) b.all

pub opened_quiet : (image : Image) (spec : PeerSpec) (p : Placed) → IsSpec spec → Begins image spec p → IsOpened (opened_zone spec)
opened_quiet image spec p is b = (opened-law spec is b.all).1
