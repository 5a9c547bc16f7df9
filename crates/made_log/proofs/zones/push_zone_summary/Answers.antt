use Rattle.std.proofs.Common.{ℕ, ◌≡◌, ◌++◌, subst, sym}
use Rattle.std.specs.Prelude.{OnOk}
use Rattle.zone_config.specs.declared.data.ZoneSpec.{ZoneSpec}
use Rattle.replay_share.specs.declared.journal.ZoneJournal.{ZoneJournal}
use Rattle.replay_share.specs.declared.journal.ZoneJournal.TheVariants.{Req, Conn, Peer}
use Rattle.replay_share.specs.Journals.{IsJournalOf, log_of}
use Rattle.made_log.specs.Summary.{line_of}
use Rattle.made_log.proofs.zones.push_zone_summary.Goals as goal

pub returns-in-Req-Req : goal.returns-in-Req-Req
returns-in-Req-Req c =
    let grows = c.push_req_zone.new.text.items in
    subst (λ (j : ZoneJournal). (room : ℕ) → IsJournalOf room c.args.spec.now j → OnOk c.push_req_zone.result (grows ≡ c.args.text.now.items ++ line_of c.args.spec.now (log_of j))) (sym c.in-Req-Req.is-1)
    (subst (λ (s : ZoneSpec). (room : ℕ) → IsJournalOf room s (Req c.in-Req-Req.journal) → OnOk c.push_req_zone.result (grows ≡ c.args.text.now.items ++ line_of s (log_of (Req c.in-Req-Req.journal)))) (sym c.in-Req-Req.is-0)
    c.push_req_zone.ensures)

pub returns-in-Conn-Conn : goal.returns-in-Conn-Conn
returns-in-Conn-Conn c =
    let grows = c.push_conn_zone.new.text.items in
    subst (λ (j : ZoneJournal). (room : ℕ) → IsJournalOf room c.args.spec.now j → OnOk c.push_conn_zone.result (grows ≡ c.args.text.now.items ++ line_of c.args.spec.now (log_of j))) (sym c.in-Conn-Conn.is-1)
    (subst (λ (s : ZoneSpec). (room : ℕ) → IsJournalOf room s (Conn c.in-Conn-Conn.journal) → OnOk c.push_conn_zone.result (grows ≡ c.args.text.now.items ++ line_of s (log_of (Conn c.in-Conn-Conn.journal)))) (sym c.in-Conn-Conn.is-0)
    c.push_conn_zone.ensures)

pub returns-in-Peer-Peer : goal.returns-in-Peer-Peer
returns-in-Peer-Peer c =
    let grows = c.push_peer_zone.new.text.items in
    subst (λ (j : ZoneJournal). (room : ℕ) → IsJournalOf room c.args.spec.now j → OnOk c.push_peer_zone.result (grows ≡ c.args.text.now.items ++ line_of c.args.spec.now (log_of j))) (sym c.in-Peer-Peer.is-1)
    (subst (λ (s : ZoneSpec). (room : ℕ) → IsJournalOf room s (Peer c.in-Peer-Peer.journal) → OnOk c.push_peer_zone.result (grows ≡ c.args.text.now.items ++ line_of s (log_of (Peer c.in-Peer-Peer.journal)))) (sym c.in-Peer-Peer.is-0)
    c.push_peer_zone.ensures)
