use Rattle.std.proofs.Common.{rules, ◌≡◌, subst, sym}
use Rattle.std.specs.List.{All}
use Rattle.peer_zone.specs.declared.calls.PeerSpec.{PeerSpec}
use Rattle.peer_zone.specs.Object.{IsServer}
use Rattle.replay_share.proofs.Served.{servers, new_peer}
use Rattle.replay_share.proofs.opening.open_peer.Goals as goal

pub open-requires-clause-primary : goal.open-requires-clause-primary
open-requires-clause-primary c = subst (λ (s : PeerSpec). All IsServer s.primary) (sym c.in_ok-spec.ensures) (servers c.args.given.now.primary c.requires.servers.primary_servers)

pub open-requires-clause-backup : goal.open-requires-clause-backup
open-requires-clause-backup c = subst (λ (s : PeerSpec). All IsServer s.backup) (sym c.in_ok-spec.ensures) (servers c.args.given.now.backup c.requires.servers.backup_servers)

pub returns-in-Ok : goal.returns-in-Ok
returns-in-Ok c = new_peer c.args.given.now c.in_ok-spec.spec c.in-Ok.zone c.in_ok-spec.ensures c.in-Ok.ensures.quiet c.in-Ok.ensures.laid.2 c.in-Ok.ensures.laid.1
