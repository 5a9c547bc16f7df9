-- The lists of a zone, and a zone with other numbers in one of them.
use Rattle.std.proofs.Common.{ℕ, zero, suc, ◌≡◌, ◌+◌, ◌<◌, ◌≤◌, ◌∙◌, sym, ap, subst, refl, inl, inr, Bool, true, false, cond, List, [], ◌∷◌, ◌++◌, length, get_or, Option, Some, None, arith}
use Rattle.std.specs.Prelude.{◌&&◌, nat_eq, nat_lt}
use Rattle.std.specs.List.{All}
use Rattle.std.proofs.lemmas.Bool.Decides.{nat_tests}
use Rattle.std.proofs.lemmas.List.{length-map}
use Rattle.zone_region.specs.Words.{Words, word_at}
use Rattle.zone_region.specs.Members.{In, IsDistinct}
use Rattle.zone_region.proofs.MembersLemmas.{In-append_left, In-append_right}
use Rattle.block_bytes.proofs.BytesLemmas.{holds_bytes-same}
use Rattle.slab_model.specs.State.{Slab}
use Rattle.slab_model.specs.Blocks.{live_bytes}
use Rattle.slab_pages.specs.Places.{Image}
use Rattle.slab_pool.specs.Live.{block_words, rest_of}
use Rattle.slab_pool.proofs.RestLemmas.{rest-laid, rest-root}
use Rattle.peer_zone.specs.declared.calls.Method.{Method}
use Rattle.peer_zone.specs.declared.calls.Method.TheVariants.{Round, Least}
use Rattle.peer_zone.specs.declared.calls.Server.{Server}
use Rattle.peer_zone.specs.declared.state.PeerRecord.{PeerRecord}
use Rattle.peer_zone.specs.declared.state.PeerState.{PeerState}
use Rattle.peer_zone.specs.declared.words.PeerWords.{PeerWords}
use Rattle.peer_zone.specs.declared.words.ListHead.{ListHead}
use Rattle.peer_zone.specs.Records.{servers_of, peer_at, is_available}
use Rattle.peer_zone.specs.Choice.{Part, Found, Choice, change_at, settled, raised_in, total_in, best_in, by_round, least_in, tied, count_in, among_least, choose}
use Rattle.peer_zone.specs.Object.{is_single, list_of, with_list, choice_of, conns_at, HasRoom}
use Rattle.peer_zone.specs.Holding.{named_at, live_at, IsWhole}
use Rattle.peer_zone.specs.Words.{word_of_bool, first_of, LaysRecords}
use Rattle.peer_zone.specs.CallSteps.{ChangesBlocks, IsChain, HasPeer, IsFreeable}
use Rattle.peer_zone.specs.Layout.{HoldsList, HoldsContext, HasZeros, LaysBackup, LaysPeers}
use Rattle.peer_zone.specs.Lays.{Lays, head_of, after_head, head_in, records_in, IsHead}
use Rattle.peer_zone.specs.Proving.Blocks.{named-more}
use Rattle.peer_zone.specs.Proving.Kept.{servers-settled, servers-raised}
use Rattle.peer_zone.specs.Proving.Lists.{spec-with, whole-with}
use Rattle.peer_zone.proofs.RecordLemmas.{records-kept, length-laid}
use Rattle.peer_zone.proofs.ChangeLemmas.{room-at}

-- ---- the blocks of a zone are distinct

named-in : (xs : List ℕ) (x : ℕ) → In x xs → 1 ≤ named_at xs x
named-in [] x i = absurd i
named-in (y ∷ ys) x i = elim i [
  | inl e ↦ let one : nat_eq y x ≡ true = grind (arith, nat_tests) in let m = named-more y ys x in let c : cond (nat_eq y x) 1 0 ≡ 1 = ap (λ (b : Bool). cond {A = ℕ} b 1 0) one in omega (arith, m, c)
  | inr t ↦ let m = named-more y ys x in let h = named-in ys x t in omega (arith, m, h)
]

distinct-named : (xs : List ℕ) → ((at : ℕ) → named_at xs at ≤ 1) → IsDistinct xs
distinct-named [] once = tt
distinct-named (x ∷ xs) once = (
  λ i. let one : nat_eq x x ≡ true = grind (arith, nat_tests) in let c : cond (nat_eq x x) 1 0 ≡ 1 = ap (λ (b : Bool). cond {A = ℕ} b 1 0) one in let m = named-more x xs x in let h = named-in xs x i in let o = once x in absurd (omega (arith, m, c, h, o)),
  distinct-named xs (λ at. let m = named-more x xs at in let o = once at in omega (arith, m, o)),
)

live-once : (slab : Slab) (at : ℕ) → live_at slab at ≤ 1
live-once slab at = go (nat_lt 0 (live_bytes slab at)) where
  go : (b : Bool) → cond b 1 0 ≤ 1
  go true = omega arith
  go false = omega arith

pub distinct-whole : (s : PeerState) → IsWhole s → IsDistinct s.blocks
distinct-whole s w = distinct-named s.blocks (λ at. let n = w.named at in let l = live-once s.slab at in omega (arith, n, l))

-- members of two parts of a distinct list differ
apart-parts : (xs ys : List ℕ) (z : ℕ) → IsDistinct (xs ++ ys) → In z ys → In z xs → ⊥
apart-parts [] ys z d i j = absurd j
apart-parts (x ∷ xs) ys z d i j = elim j [
  | inl e ↦ d.0 (In-append_right x xs ys (subst (λ (w : ℕ). In w ys) e i))
  | inr t ↦ apart-parts xs ys z d.1 i t
]

-- ---- the heads of the lists

single-two : (s : PeerState) (n : ℕ) → length s.backup ≡ suc n → is_single s ≡ false
single-two s n e =
    let none : nat_eq (length s.backup) 0 ≡ false = grind (arith, nat_tests) in
    ap (λ (b : Bool). nat_eq (length s.primary) 1 && b) none ∙ last (nat_eq (length s.primary) 1) where
      last : (b : Bool) → b && false ≡ false
      last true = refl
      last false = refl

backup-head : (m : Words) (s : PeerState) (ps : List PeerRecord) (behind : List ℕ) (at : ℕ) → s.backup ≡ ps → LaysBackup m ps behind → head_of behind ≡ Some at → HoldsList m at (first_of (after_head behind)) (length s.backup) (is_single s)
backup-head m s [] [] at is laid e = cc
backup-head m s [] (b ∷ bs) at is laid e = absurd laid
backup-head m s (p ∷ ps) [] at is laid e = absurd laid
backup-head m s (p ∷ ps) (b ∷ bs) at is laid e =
    let same : b ≡ at = cc in
    let long : length s.backup ≡ length (p ∷ ps) = ap (λ (xs : List PeerRecord). length xs) is in
    let single : is_single s ≡ false = single-two s (length ps) long in
    subst (λ (x : ℕ). HoldsList m x (first_of bs) (length s.backup) (is_single s)) same
    (subst (λ (n : ℕ). HoldsList m b (first_of bs) n (is_single s)) (sym long) (subst (λ (x : Bool). HoldsList m b (first_of bs) (length (p ∷ ps)) x) (sym single) laid.0))

backup-records : (m : Words) (ps : List PeerRecord) (behind : List ℕ) → LaysBackup m ps behind → LaysRecords m ps (after_head behind)
backup-records m [] [] laid = tt
backup-records m [] (b ∷ bs) laid = absurd laid
backup-records m (p ∷ ps) [] laid = absurd laid
backup-records m (p ∷ ps) (b ∷ bs) laid = laid.1

backup-none : (m : Words) (ps : List PeerRecord) (behind : List ℕ) → LaysBackup m ps behind → head_of behind ≡ None → ps ≡ []
backup-none m [] [] laid e = refl
backup-none m [] (b ∷ bs) laid e = refl
backup-none m (p ∷ ps) [] laid e = absurd laid
backup-none m (p ∷ ps) (b ∷ bs) laid e = cc

pub head-held : (image : Image) (s : PeerState) (l : LaysPeers image s) (list at : ℕ) → head_in l list ≡ Some at → HoldsList (block_words image) at (first_of (records_in l list)) (length (list_of s list)) (is_single s)
head-held image s l list at e = go (nat_eq list 0) e where
  go : (b : Bool) → cond b (Some l.list) (head_of l.behind) ≡ Some at → HoldsList (block_words image) at (first_of (cond b l.records (after_head l.behind))) (length (cond b s.primary s.backup)) (is_single s)
  go true is = let same : l.list ≡ at = cc in subst (λ (x : ℕ). HoldsList (block_words image) x (first_of l.records) (length s.primary) (is_single s)) same l.list_held
  go false is = backup-head (block_words image) s s.backup l.behind at refl l.backup is

pub head-none : (image : Image) (s : PeerState) (l : LaysPeers image s) (list : ℕ) → head_in l list ≡ None → list_of s list ≡ []
head-none image s l list e = go (nat_eq list 0) e where
  go : (b : Bool) → cond b (Some l.list) (head_of l.behind) ≡ None → cond b s.primary s.backup ≡ []
  go true is = cc
  go false is = backup-none (block_words image) s.backup l.behind l.backup is

pub records-held : (image : Image) (s : PeerState) (l : LaysPeers image s) (list : ℕ) → LaysRecords (block_words image) (list_of s list) (records_in l list)
records-held image s l list = go (nat_eq list 0) where
  go : (b : Bool) → LaysRecords (block_words image) (cond b s.primary s.backup) (cond b l.records (after_head l.behind))
  go true = l.primary
  go false = backup-records (block_words image) s.backup l.behind l.backup

pub word-single : (b : Bool) → nat_eq (word_of_bool b) 1 ≡ b
word-single true = refl
word-single false = refl

-- ---- blocks that stay

zeros-kept : (m n : Words) (at from : ℕ) → n at ≡ m at → HasZeros m at from → HasZeros n at from
zeros-kept m n at from e h i low high = ap (λ ws. get_or ws i 0) e ∙ h i low high

pub list-kept : (m n : Words) (at first servers : ℕ) (single : Bool) → n at ≡ m at → HoldsList m at first servers single → HoldsList n at first servers single
list-kept m n at first servers single e h =
    let same : (i : ℕ) → word_at n at i ≡ word_at m at i = λ i. ap (λ ws. get_or ws i 0) e in
    record {
      room = omega (arith, h.room, ap (λ ws. length ws) e);
      first_is = same 0 ∙ h.first_is;
      count = same 1 ∙ h.count;
      single_is = same 2 ∙ h.single_is;
      zeros = zeros-kept m n at 3 e h.zeros;
    }

pub context-kept : (m n : Words) (at primary backup : ℕ) (method : Method) → n at ≡ m at → HoldsContext m at primary backup method → HoldsContext n at primary backup method
context-kept m n at primary backup method e h =
    let same : (i : ℕ) → word_at n at i ≡ word_at m at i = λ i. ap (λ ws. get_or ws i 0) e in
    record {
      room = omega (arith, h.room, ap (λ ws. length ws) e);
      primary_is = same 0 ∙ h.primary_is;
      backup_is = same 1 ∙ h.backup_is;
      method_is = same 2 ∙ h.method_is;
      zeros = zeros-kept m n at 3 e h.zeros;
    }

pub backup-kept : (m n : Words) (ps : List PeerRecord) (behind : List ℕ) → ((z : ℕ) → In z behind → n z ≡ m z) → LaysBackup m ps behind → LaysBackup n ps behind
backup-kept m n [] [] same laid = laid
backup-kept m n [] (b ∷ bs) same laid = laid
backup-kept m n (p ∷ ps) [] same laid = laid
backup-kept m n (p ∷ ps) (b ∷ bs) same laid = (list-kept m n b (first_of bs) (length (p ∷ ps)) false (same b (inl refl)) laid.0, records-kept m n (p ∷ ps) bs (λ z i. same z (inr i)) laid.1)

-- the backup list with other numbers
backup-changed : (m n : Words) (ps qs : List PeerRecord) (behind : List ℕ) → IsDistinct behind → LaysBackup m ps behind → ChangesBlocks m n (after_head behind) → LaysRecords n qs (after_head behind) → length qs ≡ length ps → LaysBackup n qs behind
backup-changed m n [] [] [] d laid c new same = tt
backup-changed m n [] (q ∷ qs) [] d laid c new same = absurd new
backup-changed m n [] qs (b ∷ bs) d laid c new same = absurd laid
backup-changed m n (p ∷ ps) qs [] d laid c new same = absurd laid
backup-changed m n (p ∷ ps) [] (b ∷ bs) d laid c new same = absurd (omega (arith, same))
backup-changed m n (p ∷ ps) (q ∷ qs) (b ∷ bs) d laid c new same = (list-kept m n b (first_of bs) (length (q ∷ qs)) false (c.others b d.0) (subst (λ (x : ℕ). HoldsList m b (first_of bs) x false) (sym same) laid.0), new)

-- ---- a zone with other numbers in one list

-- the zone lays out the state with this list, with the same heads
pub record LaysOther (image : Image) (s after : PeerState) (l : LaysPeers image s) (new : Image) : Type 0 where
  pub laid : LaysPeers new after
  pub list_is : laid.list ≡ l.list
  pub behind_is : laid.behind ≡ l.behind

pub lays-with : (old new : Image) (s : PeerState) (l : LaysPeers old s) (list : ℕ) (peers : List PeerRecord) → rest_of new ≡ rest_of old → ChangesBlocks (block_words old) (block_words new) (records_in l list) → LaysRecords (block_words new) peers (records_in l list) → servers_of peers ≡ servers_of (list_of s list) → LaysOther old s (with_list s list peers) l new
lays-with old new s l list peers rest changes laid servers = go (nat_eq list 0) changes laid (whole-with s list peers servers l.whole) where
  distinct : IsDistinct (l.context ∷ l.name ∷ l.list ∷ l.records ++ l.behind)
  distinct = subst (λ (xs : List ℕ). IsDistinct xs) l.blocks_are (distinct-whole s l.whole)

  m : Words
  m = block_words old

  n : Words
  n = block_words new

  root : (get_or new.words 20 0 ≡ get_or old.words 20 0) × (get_or new.words 23 0 ≡ get_or old.words 23 0)
  root = rest-root old new s.slab rest l.pool

  go : (b : Bool) → ChangesBlocks (block_words old) (block_words new) (cond b l.records (after_head l.behind)) → LaysRecords (block_words new) peers (cond b l.records (after_head l.behind)) → IsWhole (cond b (record s { primary = peers }) (record s { backup = peers })) → LaysOther old s (cond b (record s { primary = peers }) (record s { backup = peers })) l new
  go true c new_laid whole =
      let out : (z : ℕ) → In z l.behind → (In z l.records → ⊥) = λ z i j. apart-parts l.records l.behind z distinct.1.1.1 i j in
      let long : length peers ≡ length s.primary = sym (length-laid (block_words new) peers l.records new_laid) ∙ length-laid (block_words old) s.primary l.records l.primary in
      record {
        laid = record {
          pool = rest-laid old new s.slab rest l.pool;
          whole = whole;
          context = l.context;
          name = l.name;
          list = l.list;
          records = l.records;
          behind = l.behind;
          blocks_are = l.blocks_are;
          data_is = root.1 ∙ l.data_is;
          log_ctx_is = root.0 ∙ l.log_ctx_is;
          context_held = context-kept (block_words old) (block_words new) l.context l.list (first_of l.behind) s.method (c.others l.context (λ i. distinct.0 (inr (inr (In-append_left l.context l.records l.behind i))))) l.context_held;
          name_held = holds_bytes-same (block_words old) (block_words new) l.name 0 _ (c.others l.name (λ i. distinct.1.0 (inr (In-append_left l.name l.records l.behind i)))) l.name_held;
          list_held = subst (λ (x : ℕ). HoldsList (block_words new) l.list (first_of l.records) x (nat_eq x 1 && nat_eq (length s.backup) 0)) (sym long) (list-kept (block_words old) (block_words new) l.list (first_of l.records) (length s.primary) (is_single s) (c.others l.list (λ i. distinct.1.1.0 (In-append_left l.list l.records l.behind i))) l.list_held);
          primary = new_laid;
          backup = backup-kept (block_words old) (block_words new) s.backup l.behind (λ z i. c.others z (out z i)) l.backup;
        };
        list_is = refl;
        behind_is = refl;
      }
  go false c new_laid whole =
      let in_behind : (z : ℕ) → In z (after_head l.behind) → In z l.behind = λ z i. within l.behind z i in
      let long : length peers ≡ length s.backup = sym (length-laid (block_words new) peers (after_head l.behind) new_laid) ∙ length-laid (block_words old) s.backup (after_head l.behind) (backup-records (block_words old) s.backup l.behind l.backup) in
      record {
        laid = record {
          pool = rest-laid old new s.slab rest l.pool;
          whole = whole;
          context = l.context;
          name = l.name;
          list = l.list;
          records = l.records;
          behind = l.behind;
          blocks_are = l.blocks_are;
          data_is = root.1 ∙ l.data_is;
          log_ctx_is = root.0 ∙ l.log_ctx_is;
          context_held = context-kept (block_words old) (block_words new) l.context l.list (first_of l.behind) s.method (c.others l.context (λ i. distinct.0 (inr (inr (In-append_right l.context l.records l.behind (in_behind l.context i)))))) l.context_held;
          name_held = holds_bytes-same (block_words old) (block_words new) l.name 0 _ (c.others l.name (λ i. distinct.1.0 (inr (In-append_right l.name l.records l.behind (in_behind l.name i))))) l.name_held;
          list_held = subst (λ (x : ℕ). HoldsList (block_words new) l.list (first_of l.records) (length s.primary) (nat_eq (length s.primary) 1 && nat_eq x 0)) (sym long) (list-kept (block_words old) (block_words new) l.list (first_of l.records) (length s.primary) (is_single s) (c.others l.list (λ i. distinct.1.1.0 (In-append_right l.list l.records l.behind (in_behind l.list i)))) l.list_held);
          primary = records-kept (block_words old) (block_words new) s.primary l.records (λ z i. c.others z (λ j. apart-parts l.records l.behind z distinct.1.1.1 (in_behind z j) i)) l.primary;
          backup = backup-changed (block_words old) (block_words new) s.backup peers l.behind (tail l.records l.behind distinct.1.1.1) l.backup c new_laid long;
        };
        list_is = refl;
        behind_is = refl;
      } where
        within : (xs : List ℕ) (z : ℕ) → In z (after_head xs) → In z xs
        within [] z i = absurd i
        within (x ∷ xs) z i = inr i

        tail : (xs ys : List ℕ) → IsDistinct (xs ++ ys) → IsDistinct ys
        tail [] ys d = d
        tail (x ∷ xs) ys d = tail xs ys d.1

-- it has as many servers
entries-with : (s : PeerState) (list : ℕ) (peers : List PeerRecord) → length peers ≡ length (list_of s list) → length (with_list s list peers).primary + length (with_list s list peers).backup ≡ length s.primary + length s.backup
entries-with s list peers same = go (nat_eq list 0) same where
  go : (b : Bool) → length peers ≡ length (cond b s.primary s.backup) → length (cond {A = PeerState} b (record s { primary = peers }) (record s { backup = peers })).primary + length (cond {A = PeerState} b (record s { primary = peers }) (record s { backup = peers })).backup ≡ length s.primary + length s.backup
  go true e = omega (arith, e)
  go false e = omega (arith, e)

-- the zone as a whole
pub lays-whole : (z : PeerWords) (new : PeerWords) (s : PeerState) (l : Lays z s) (list : ℕ) (peers : List PeerRecord) → new.spec ≡ z.spec → new.primary ≡ z.primary → new.backup ≡ z.backup → new.entries ≡ z.entries → rest_of new.pool ≡ rest_of z.pool → ChangesBlocks (block_words z.pool) (block_words new.pool) (records_in l.words list) → LaysRecords (block_words new.pool) peers (records_in l.words list) → servers_of peers ≡ servers_of (list_of s list) → Lays new (with_list s list peers)
lays-whole z new s l list peers spec primary backup entries rest changes laid servers =
    let o = lays-with z.pool new.pool s l.words list peers rest changes laid servers in
    record {
      words = o.laid;
      spec_is = spec-with s list peers servers ∙ l.spec_is ∙ sym spec;
      primary_is = primary ∙ l.primary_is ∙ sym o.list_is;
      backup_is = backup ∙ l.backup_is ∙ ap head_of (sym o.behind_is);
      entries_is = omega (arith, entries, l.entries_is, entries-with s list peers (sym (length-map peers (λ (p : PeerRecord). p.server)) ∙ ap (λ (xs : List Server). length xs) servers ∙ length-map (list_of s list) (λ (p : PeerRecord). p.server)));
    }

-- ---- a choice keeps the servers

pub servers-choice : (single : Bool) (method : Method) (part : Part) (now : ℕ) (ps : List PeerRecord) → servers_of (choose single method part now ps).peers ≡ servers_of ps
servers-choice true method part now [] = refl
servers-choice true method part now (p ∷ ps) = go (part 0 p) where
  go : (b : Bool) → servers_of (cond {A = Choice} b (record { chosen = Some 0; peers = record p { conns = p.conns + 1 } ∷ ps }) (record { chosen = None; peers = p ∷ ps })).peers ≡ servers_of (p ∷ ps)
  go true = refl
  go false = refl
servers-choice false Round part now ps = servers-settled (total_in part 0 ps) now (best_in part 0 ps) (raised_in part 0 ps) ∙ servers-raised part 0 ps
servers-choice false Least part now ps = least (least_in part 0 None ps) where
  least : (f : Option Found) → servers_of (among_least part now ps f).peers ≡ servers_of ps
  least None = refl
  least (Some f) = go (nat_lt 1 (count_in (tied part f) 0 ps)) where
    go : (b : Bool) → servers_of (cond {A = Choice} b (by_round (tied part f) now ps) (settled 0 now (Some f) ps)).peers ≡ servers_of ps
    go true = servers-settled (total_in (tied part f) 0 ps) now (best_in (tied part f) 0 ps) (raised_in (tied part f) 0 ps) ∙ servers-raised (tied part f) 0 ps
    go false = servers-settled 0 now (Some f) ps

-- no server of an empty list is chosen
pub choose-empty : (single : Bool) (method : Method) (part : Part) (now : ℕ) (ps : List PeerRecord) → ps ≡ [] → ((choose single method part now ps).chosen ≡ None) × ((choose single method part now ps).peers ≡ ps)
choose-empty single method part now [] e = go single method where
  go : (b : Bool) (x : Method) → ((choose b x part now []).chosen ≡ None) × ((choose b x part now []).peers ≡ [])
  go true x = (refl, refl)
  go false Round = (refl, refl)
  go false Least = (refl, refl)
choose-empty single method part now (p ∷ ps) e = cc

pub change-empty : (index : ℕ) (f : PeerRecord → PeerRecord) (ps : List PeerRecord) → ps ≡ [] → change_at index f ps ≡ ps
change-empty index f [] e = refl
change-empty index f (p ∷ ps) e = cc

-- a zone with the list that it has
pub with-same : (s : PeerState) (list : ℕ) → with_list s list (list_of s list) ≡ s
with-same s list = go (nat_eq list 0) where
  go : (b : Bool) → cond b (record s { primary = cond b s.primary s.backup }) (record s { backup = cond b s.primary s.backup }) ≡ s
  go true = refl
  go false = refl

pub room-of : (s : PeerState) (list : ℕ) → All HasRoom s.primary → All HasRoom s.backup → All HasRoom (list_of s list)
room-of s list a b = go (nat_eq list 0) where
  go : (x : Bool) → All HasRoom (cond x s.primary s.backup)
  go true = a
  go false = b

pub few-of : (s : PeerState) (list : ℕ) → length s.primary ≤ 64 → length s.backup ≤ 64 → length (list_of s list) ≤ 64
few-of s list a b = go (nat_eq list 0) where
  go : (x : Bool) → length (cond x s.primary s.backup) ≤ 64
  go true = a
  go false = b

-- ---- a call over a list

-- a choice by what the zone's words tell is the state's
pub chosen-as : (s : PeerState) (list tried now : ℕ) (single : Bool) (method : Method) → single ≡ is_single s → method ≡ s.method → choose single method (is_available single tried now) now (list_of s list) ≡ choice_of s list tried now
chosen-as s list tried now single method e f = ap (λ (b : Bool). choose b method (is_available b tried now) now (list_of s list)) e ∙ ap (λ (x : Method). choose (is_single s) x (is_available (is_single s) tried now) now (list_of s list)) f

pub chain-of : (image : Image) (s : PeerState) (l : LaysPeers image s) (list : ℕ) (head : ListHead) → All HasRoom s.primary → All HasRoom s.backup → IsHead s list (records_in l list) head → IsChain (block_words image) head.first head.servers (list_of s list) (records_in l list)
chain-of image s l list head a b h = record { laid = records-held image s l list; first_is = h.first_is; servers_are = h.servers_are; room = room-of s list a b }

-- a server with a connection is there
pub conns-peer : (ps : List PeerRecord) (index : ℕ) → 0 < conns_at ps index → (p : PeerRecord) × (peer_at ps index ≡ Some p) × (0 < p.conns)
conns-peer [] index h = absurd (omega (arith, h))
conns-peer (p ∷ ps) zero h = (p, refl, h)
conns-peer (p ∷ ps) (suc index) h = conns-peer ps index h

pub freeable : (image : Image) (s : PeerState) (l : LaysPeers image s) (list index : ℕ) (head : ListHead) → All HasRoom s.primary → All HasRoom s.backup → 0 < conns_at (list_of s list) index → IsHead s list (records_in l list) head → (p : PeerRecord) × HasPeer (block_words image) head.first index (list_of s list) (records_in l list) p × IsFreeable p
freeable image s l list index head a b some h =
    let p = conns-peer (list_of s list) index some in
    (p.0, record { laid = records-held image s l list; first_is = h.first_is; there = p.1 }, record { conns = p.2; fails = (room-at (list_of s list) index p.0 (room-of s list a b) p.1).fails })
