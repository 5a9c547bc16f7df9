use Rattle.std.proofs.Common.{subst, sym}
use Rattle.std.specs.Prelude.{OnOk}
use Rattle.zone_config.specs.declared.data.ZoneSpec.{ZoneSpec}
use Rattle.zone_config.specs.declared.data.ZoneSpec.TheVariants as zone
use Rattle.zone_config.specs.Configuration.{zone_name}
use Rattle.replay_workers.specs.declared.history.ZoneHistory.{ZoneHistory}
use Rattle.replay_workers.specs.declared.history.ZoneHistory.TheVariants.{Req, Conn, Peer}
use Rattle.replay_workers.specs.Columns.{IsRunOf, log_left}
use Rattle.replay_text.specs.Images.{AddsWords, LaysAfter}
use Rattle.replay_text.proofs.left.push_words_left.Goals as goal

pub returns-in-Req-Req : goal.returns-in-Req-Req
returns-in-Req-Req c =
    let result = c.push_req_words.result in
    let before = c.args.text.now.items in
    let after = c.push_req_words.new.text.items in
    let kept = subst (λ (l : ZoneHistory). IsRunOf c.requires.0 (zone.Req c.in-Req-Req.spec c.in-Req-Req.key-0) l) c.in-Req-Req.is-1 (subst (λ (s : ZoneSpec). IsRunOf c.requires.0 s c.args.left.now) c.in-Req-Req.is-0 c.requires.1) in
    subst (λ (l : ZoneHistory). OnOk result (AddsWords (zone_name c.args.spec.now) (LaysAfter c.args.spec.now (log_left l)) before after)) (sym c.in-Req-Req.is-1)
    (subst (λ (s : ZoneSpec). OnOk result (AddsWords (zone_name s) (LaysAfter s (log_left (Req c.in-Req-Req.zone c.in-Req-Req.entries-1))) before after)) (sym c.in-Req-Req.is-0)
    (c.push_req_words.ensures c.in-Req-Req.entries-1.items kept.0.laid))

pub returns-in-Conn-Conn : goal.returns-in-Conn-Conn
returns-in-Conn-Conn c =
    let result = c.push_conn_words.result in
    let before = c.args.text.now.items in
    let after = c.push_conn_words.new.text.items in
    let kept = subst (λ (l : ZoneHistory). IsRunOf c.requires.0 (zone.Conn c.in-Conn-Conn.spec c.in-Conn-Conn.key-0) l) c.in-Conn-Conn.is-1 (subst (λ (s : ZoneSpec). IsRunOf c.requires.0 s c.args.left.now) c.in-Conn-Conn.is-0 c.requires.1) in
    subst (λ (l : ZoneHistory). OnOk result (AddsWords (zone_name c.args.spec.now) (LaysAfter c.args.spec.now (log_left l)) before after)) (sym c.in-Conn-Conn.is-1)
    (subst (λ (s : ZoneSpec). OnOk result (AddsWords (zone_name s) (LaysAfter s (log_left (Conn c.in-Conn-Conn.zone c.in-Conn-Conn.entries-1))) before after)) (sym c.in-Conn-Conn.is-0)
    (c.push_conn_words.ensures c.in-Conn-Conn.entries-1.items kept.0.laid))

pub returns-in-Peer-Peer : goal.returns-in-Peer-Peer
returns-in-Peer-Peer c =
    let result = c.push_peer_words.result in
    let before = c.args.text.now.items in
    let after = c.push_peer_words.new.text.items in
    let kept = subst (λ (l : ZoneHistory). IsRunOf c.requires.0 (zone.Peer c.in-Peer-Peer.spec c.in-Peer-Peer.line-0) l) c.in-Peer-Peer.is-1 (subst (λ (s : ZoneSpec). IsRunOf c.requires.0 s c.args.left.now) c.in-Peer-Peer.is-0 c.requires.1) in
    subst (λ (l : ZoneHistory). OnOk result (AddsWords (zone_name c.args.spec.now) (LaysAfter c.args.spec.now (log_left l)) before after)) (sym c.in-Peer-Peer.is-1)
    (subst (λ (s : ZoneSpec). OnOk result (AddsWords (zone_name s) (LaysAfter s (log_left (Peer c.in-Peer-Peer.zone c.in-Peer-Peer.entries-1))) before after)) (sym c.in-Peer-Peer.is-0)
    (c.push_peer_words.ensures c.in-Peer-Peer.entries-1.items kept.0.laid))
