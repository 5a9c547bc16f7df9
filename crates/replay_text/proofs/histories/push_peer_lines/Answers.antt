use Rattle.std.proofs.Common.{get_or, refl, arith}
use Rattle.peer_zone.specs.declared.calls.PeerCall.TheVariants.{Choose}
use Rattle.peer_zone.specs.declared.calls.PeerReply.TheVariants.{Peer}
use Rattle.replay_share.specs.Logs.{PeerEntry}
use Rattle.replay_text.specs.ReplayText.{peer_line}
use Rattle.replay_text.proofs.TextLemmas.{lines-grow}
use Rattle.replay_text.proofs.histories.push_peer_lines.Goals as goal

pub loop-entry-preserved : goal.loop-entry-preserved
loop-entry-preserved c =
    let other : PeerEntry = record { caller = 0; call = Choose 0 0 0; reply = Peer 0 } in
    let entry : PeerEntry = get_or c.args.entries.now c.loop-entry.entry-index other in
    record {
      placed = omega arith;
      grown = lines-grow peer_line c.args.text.now.items c.loop-entry.text.items c.push_peer_entry.new.text.items c.args.entries.now c.loop-entry.entry-index c.loop-entry.place other entry
          (omega arith) refl c.loop-entry.invariant.placed c.loop-entry.invariant.grown c.in_ok-push_peer_entry.ensures;
    }
