-- What is opened is where a history begins.
use Rattle.std.specs.Prelude.{◌≡◌, Result, Ok, Err, None, IfOk, MatchResult}
use Rattle.peer_zone.specs.declared.calls.PeerSpec.{PeerSpec}
use Rattle.peer_zone.specs.declared.errors.OpenFault.{OpenFault}
use Rattle.peer_zone.specs.declared.state.PeerState.{PeerState}
use Rattle.peer_zone.specs.declared.words.PeerWords.{PeerWords}
use Rattle.peer_zone.specs.Opening.{IsOpened, opened_zone, refused_server}
use Rattle.peer_zone.specs.Lays.{Lays}
use Rattle.peer_zone.specs.Faults.{HasPages, IsFaultOf}

pub opened-begins : (spec : PeerSpec) (r : Result PeerWords OpenFault) → MatchResult r (λ (zone : PeerWords). HasPages spec × (refused_server spec ≡ None) × Lays zone (opened_zone spec)) (IsFaultOf spec) → IfOk r (λ (zone : PeerWords). IsOpened (opened_zone spec)) → IfOk r (λ (zone : PeerWords). (s : PeerState) × IsOpened s × Lays zone s)
opened-begins spec (Ok zone) laid quiet = (opened_zone spec, quiet, laid.2)
opened-begins spec (Err fault) laid quiet = tt
