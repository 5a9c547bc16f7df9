-- What the last call of a history was answered, and the bounds of its numbers.
use Rattle.std.proofs.Common.{ℕ, ◌≡◌, ◌<◌, ◌≤◌, if◌then◌else◌, Bool, true, false, List, [], ◌∷◌, ◌++◌, length, sym, subst, nat_eq, arith}
use Rattle.zone_object.specs.declared.object.Entry.{Entry}
use Rattle.zone_object.specs.History.{run, IsReady, IsHistory}
use Rattle.zone_object.proofs.Histories.{at_each-rest}
use Rattle.req_zone.specs.declared.calls.ReqCall.{ReqCall}
use Rattle.req_zone.specs.declared.calls.ReqCall.TheVariants.{Check, Account, Release}
use Rattle.req_zone.specs.declared.calls.ReqReply.{ReqReply}
use Rattle.req_zone.specs.declared.calls.ReqReply.TheVariants.{Pass, Again, Busy, NoRoom, Accounted, Released}
use Rattle.req_zone.specs.declared.state.ReqState.{ReqState}
use Rattle.req_zone.specs.Object as req
use Rattle.peer_zone.specs.declared.calls.PeerCall.{PeerCall}
use Rattle.peer_zone.specs.declared.calls.PeerCall.TheVariants.{Choose, Free}
use Rattle.peer_zone.specs.declared.calls.PeerReply.{PeerReply}
use Rattle.peer_zone.specs.declared.calls.PeerReply.TheVariants as reply
use Rattle.peer_zone.specs.declared.state.PeerState.{PeerState}
use Rattle.peer_zone.specs.declared.state.PeerRecord.{PeerRecord}
use Rattle.peer_zone.specs.Object as peer
use Rattle.request_script.specs.Replies.{HasSmallExcess, HasSmallIndex}

module _ {X St C R : Type 0} (is_quiet : St → Type 0) (reply_of : St → C → R) (state_after : St → C → St) (permits : List (Entry X St C R) → C → Type 0)
    (ready : St → C → Type 0) (can_answer : St → C → R → Type 0)
    (each_ready : (start : St) (log : List (Entry X St C R)) → IsHistory is_quiet reply_of state_after permits start log → IsReady state_after ready start log)
    (each_can : (s : St) (call : C) → ready s call → can_answer s call (reply_of s call)) where
  pub last_ready : (s : St) (log : List (Entry X St C R)) (e : Entry X St C R) → IsHistory is_quiet reply_of state_after permits s (log ++ e ∷ []) → ready (run state_after s log) e.call
  last_ready s log e h = (at_each-rest state_after (λ t x. ready t x.call) s log (e ∷ []) (each_ready s (log ++ e ∷ []) h)).0

  pub last_answered : (s : St) (log : List (Entry X St C R)) (e : Entry X St C R) → IsHistory is_quiet reply_of state_after permits s (log ++ e ∷ []) → can_answer (run state_after s log) e.call e.reply
  last_answered s log e h =
      let is = (at_each-rest state_after (λ t x. x.reply ≡ reply_of t x.call) s log (e ∷ []) h.legal).0 in
      subst (λ r. can_answer (run state_after s log) e.call r) (sym is) (each_can (run state_after s log) e.call (last_ready s log e h))

-- a request zone answers small excesses
small_check : (entries burst : ℕ) (last : Bool) (reply : ReqReply) → req.CanCheck entries burst last reply → HasSmallExcess reply
small_check entries burst true (Pass excess) c = c.1
small_check entries burst false (Pass excess) c = elim c [ ]
small_check entries burst true (Again excess at) c = elim c [ ]
small_check entries burst false (Again excess at) c = c.1
small_check entries burst last (Busy excess) c = c.1
small_check entries burst last (NoRoom evicted) c = tt
small_check entries burst last (Accounted excess) c = elim c [ ]
small_check entries burst last Released c = tt

small_account : (reply : ReqReply) → req.CanAccount reply → HasSmallExcess reply
small_account (Pass excess) c = elim c [ ]
small_account (Again excess at) c = elim c [ ]
small_account (Busy excess) c = elim c [ ]
small_account (NoRoom evicted) c = tt
small_account (Accounted excess) c = c
small_account Released c = tt

small_release : (reply : ReqReply) → req.CanRelease reply → HasSmallExcess reply
small_release (Pass excess) c = elim c [ ]
small_release (Again excess at) c = elim c [ ]
small_release (Busy excess) c = elim c [ ]
small_release (NoRoom evicted) c = tt
small_release (Accounted excess) c = elim c [ ]
small_release Released c = tt

pub small_excess : (s : ReqState) (call : ReqCall) (reply : ReqReply) → req.CanAnswer s call reply → HasSmallExcess reply
small_excess s (Check key now burst last) reply c = small_check (length s.table) burst last reply c
small_excess s (Account at now) reply c = small_account reply c
small_excess s (Release at) reply c = small_release reply c

-- each list has at most 64 servers
few_in : (b : Bool) (xs ys : List PeerRecord) → length xs ≤ 64 → length ys ≤ 64 → length (if b then xs else ys) ≤ 64
few_in true xs ys p q = p
few_in false xs ys p q = q

-- an upstream's zone answers small indexes
pub small_index : (s : PeerState) (call : PeerCall) (reply : PeerReply) → peer.Ready s call → peer.CanAnswer s call reply → HasSmallIndex reply
small_index s (Choose list tried now) (reply.Peer index) ready c = omega (arith, c, few_in (nat_eq list 0) s.primary s.backup ready.primary_few ready.backup_few)
small_index s (Free list index failed now) (reply.Peer at) ready c = elim c [ ]
small_index s call reply.NoPeer ready c = tt
small_index s call reply.Freed ready c = tt
