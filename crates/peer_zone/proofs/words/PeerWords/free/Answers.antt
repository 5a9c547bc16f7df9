use Rattle.std.proofs.Common.{sym, subst, refl, Bool, List, arith}
use Rattle.slab_pool.specs.Live.{block_words}
use Rattle.peer_zone.specs.declared.state.PeerRecord.{PeerRecord}
use Rattle.peer_zone.specs.declared.state.PeerState.{PeerState}
use Rattle.peer_zone.specs.Choice.{change_at, freed}
use Rattle.peer_zone.specs.Object.{is_single, list_of, with_list}
use Rattle.peer_zone.specs.Words.{LaysRecords}
use Rattle.peer_zone.specs.Lays.{Lays, records_in}
use Rattle.peer_zone.specs.Proving.Kept.{servers-freed}
use Rattle.peer_zone.proofs.RecordLemmas.{peer-below}
use Rattle.peer_zone.proofs.ZoneLemmas.{change-empty, with-same, lays-whole, freeable}
use Rattle.peer_zone.proofs.words.PeerWords.free.Goals as goal

pub free-requires : goal.free-requires
free-requires g c =
    let r = c.requires in
    let f = freeable c.args.self.now.pool r.0 r.1.words c.args.list c.args.index c.in-Some.head r.2.primary r.2.backup r.2.asked.2 (c.in-Some.ensures.head r.0 r.1) in
    (list_of r.0 c.args.list, records_in r.1.words c.args.list, f.0, f.1, f.2)

pub returns-in-None-clause-laid : goal.returns-in-None-clause-laid
returns-in-None-clause-laid g c = λ s l ready.
    let e = change-empty c.args.index (freed (is_single s) c.args.failed c.args.now) (list_of s c.args.list) (c.in-None.ensures.head s l) in
    subst (λ (peers : List PeerRecord). Lays c.args.self.now (with_list s c.args.list peers)) (sym e) (subst (λ (t : PeerState). Lays c.args.self.now t) (sym (with-same s c.args.list)) l)

pub returns-in-Some-clause-laid : goal.returns-in-Some-clause-laid
returns-in-Some-clause-laid g c = λ s l ready.
    let h = c.in-Some.ensures.head s l in
    let f = freeable c.args.self.now.pool s l.words c.args.list c.args.index c.in-Some.head ready.primary ready.backup ready.asked.2 h in
    let d = c.free.ensures.does (list_of s c.args.list) (records_in l.words c.args.list) f.0 f.1 in
    lays-whole c.args.self.now _ s l c.args.list (change_at c.args.index (freed (is_single s) c.args.failed c.args.now) (list_of s c.args.list)) refl refl refl refl c.free.ensures.rest d.changes
    (subst (λ (b : Bool). LaysRecords (block_words c.free.new.blocks) (change_at c.args.index (freed b c.args.failed c.args.now) (list_of s c.args.list)) (records_in l.words c.args.list)) h.single_is d.laid)
    (servers-freed c.args.now c.args.index (is_single s) c.args.failed (list_of s c.args.list))

pub returns-in-Some-clause-cost : goal.returns-in-Some-clause-cost
returns-in-Some-clause-cost g c = λ s l ready.
    let h = c.in-Some.ensures.head s l in
    let f = freeable c.args.self.now.pool s l.words c.args.list c.args.index c.in-Some.head ready.primary ready.backup ready.asked.2 h in
    let low = peer-below (list_of s c.args.list) c.args.index f.0 f.1.there in
    omega (arith, low, c.free.ensures.cost, c.head.ensures.cost)
