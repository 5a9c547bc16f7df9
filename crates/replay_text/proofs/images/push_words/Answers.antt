use Rattle.std.proofs.Common.{subst, sym}
use Rattle.std.specs.Prelude.{OnOk}
use Rattle.req_zone.specs.declared.words.ReqWords.{ReqWords}
use Rattle.conn_zone.specs.Layout.{Zone}
use Rattle.peer_zone.specs.declared.words.PeerWords.{PeerWords}
use Rattle.zone_config.specs.declared.data.ZoneSpec.{ZoneSpec}
use Rattle.zone_config.specs.declared.data.ZoneSpec.TheVariants as zone
use Rattle.zone_config.specs.Configuration.{zone_name}
use Rattle.replay_share.specs.declared.journal.ZoneJournal.{ZoneJournal}
use Rattle.replay_share.specs.declared.journal.ZoneJournal.TheVariants.{Req, Conn, Peer}
use Rattle.replay_share.specs.Journals.{IsJournalOf, log_of}
use Rattle.replay_text.specs.After.{IsReqAfter, IsConnAfter, IsPeerAfter}
use Rattle.replay_text.specs.Images.{AddsWords, LaysAfter}
use Rattle.replay_text.proofs.images.push_words.Goals as goal

pub returns-in-Req-Req : goal.returns-in-Req-Req
returns-in-Req-Req c =
    let result = c.push_req_words.result in
    let before = c.args.text.now.items in
    let after = c.push_req_words.new.text.items in
    let log = c.in-Req-Req.journal.log in
    let kept = subst (λ (j : ZoneJournal). IsJournalOf c.requires.0 (zone.Req c.in-Req-Req.spec c.in-Req-Req.key-0) j) c.in-Req-Req.is-1 (subst (λ (s : ZoneSpec). IsJournalOf c.requires.0 s c.args.zone.now) c.in-Req-Req.is-0 c.requires.1) in
    let laid = subst (λ (z : ReqWords). IsReqAfter c.in-Req-Req.spec log z) (sym c.object.ensures) kept.ran.laid in
    subst (λ (j : ZoneJournal). OnOk result (AddsWords (zone_name c.args.spec.now) (LaysAfter c.args.spec.now (log_of j)) before after)) (sym c.in-Req-Req.is-1)
    (subst (λ (s : ZoneSpec). OnOk result (AddsWords (zone_name s) (LaysAfter s (log_of (Req c.in-Req-Req.journal))) before after)) (sym c.in-Req-Req.is-0)
    (c.push_req_words.ensures log laid))

pub returns-in-Conn-Conn : goal.returns-in-Conn-Conn
returns-in-Conn-Conn c =
    let result = c.push_conn_words.result in
    let before = c.args.text.now.items in
    let after = c.push_conn_words.new.text.items in
    let log = c.in-Conn-Conn.journal.log in
    let kept = subst (λ (j : ZoneJournal). IsJournalOf c.requires.0 (zone.Conn c.in-Conn-Conn.spec c.in-Conn-Conn.key-0) j) c.in-Conn-Conn.is-1 (subst (λ (s : ZoneSpec). IsJournalOf c.requires.0 s c.args.zone.now) c.in-Conn-Conn.is-0 c.requires.1) in
    let laid = subst (λ (z : Zone). IsConnAfter c.in-Conn-Conn.spec log z) (sym c.object-in-Conn-Conn.ensures) kept.ran.laid in
    subst (λ (j : ZoneJournal). OnOk result (AddsWords (zone_name c.args.spec.now) (LaysAfter c.args.spec.now (log_of j)) before after)) (sym c.in-Conn-Conn.is-1)
    (subst (λ (s : ZoneSpec). OnOk result (AddsWords (zone_name s) (LaysAfter s (log_of (Conn c.in-Conn-Conn.journal))) before after)) (sym c.in-Conn-Conn.is-0)
    (c.push_conn_words.ensures log laid))

pub returns-in-Peer-Peer : goal.returns-in-Peer-Peer
returns-in-Peer-Peer c =
    let result = c.push_peer_words.result in
    let before = c.args.text.now.items in
    let after = c.push_peer_words.new.text.items in
    let log = c.in-Peer-Peer.journal.log in
    let kept = subst (λ (j : ZoneJournal). IsJournalOf c.requires.0 (zone.Peer c.in-Peer-Peer.spec c.in-Peer-Peer.line-0) j) c.in-Peer-Peer.is-1 (subst (λ (s : ZoneSpec). IsJournalOf c.requires.0 s c.args.zone.now) c.in-Peer-Peer.is-0 c.requires.1) in
    let laid = subst (λ (z : PeerWords). IsPeerAfter c.in-Peer-Peer.spec log z) (sym c.object-in-Peer-Peer.ensures) kept.ran.laid in
    subst (λ (j : ZoneJournal). OnOk result (AddsWords (zone_name c.args.spec.now) (LaysAfter c.args.spec.now (log_of j)) before after)) (sym c.in-Peer-Peer.is-1)
    (subst (λ (s : ZoneSpec). OnOk result (AddsWords (zone_name s) (LaysAfter s (log_of (Peer c.in-Peer-Peer.journal))) before after)) (sym c.in-Peer-Peer.is-0)
    (c.push_peer_words.ensures log laid))
