-- The calls of the limits of a level and of the choice of a server are permitted.
use Rattle.std.proofs.Common.{ℕ, ◌<◌, ◌≤◌, ◌^◌, Bool, ◌&&◌, nat_eq, if◌then◌else◌, List, [], ◌∷◌, ◌++◌, map, reverse, length, All, Option, arith}
use Rattle.std.proofs.lemmas.List.Elements.{All-head, All-tail}
use Rattle.zone_key.specs.declared.vars.Vars.{Vars}
use Rattle.zone_config.specs.declared.data.Config.{Config}
use Rattle.zone_config.specs.declared.data.ReqLimit.{ReqLimit}
use Rattle.zone_config.specs.declared.data.ConnLimit.{ConnLimit}
use Rattle.zone_config.specs.Conditions.{IsConnLimit}
use Rattle.req_zone.specs.declared.calls.ReqCall.TheVariants.{Check, Account, Release}
use Rattle.req_zone.specs.declared.calls.ReqReply.TheVariants.{Pass, Again, Busy, NoRoom, Accounted, Released}
use Rattle.req_zone.specs.Amount.{IsMoment}
use Rattle.conn_zone.specs.declared.calls.ConnCall.TheVariants as call
use Rattle.conn_zone.specs.declared.calls.ConnReply.TheVariants as conn
use Rattle.peer_zone.specs.declared.calls.PeerCall.TheVariants.{Choose, Free}
use Rattle.peer_zone.specs.declared.calls.PeerReply.TheVariants as peer
use Rattle.request_script.specs.declared.active.Active.{Active}
use Rattle.request_script.specs.declared.active.Opened.{Opened}
use Rattle.request_script.specs.declared.active.Taken.{Taken}
use Rattle.request_script.specs.declared.call.ZoneCall.{ZoneCall}
use Rattle.request_script.specs.declared.call.ZoneCall.TheVariants as to
use Rattle.request_script.specs.declared.call.ZoneReply.{ZoneReply}
use Rattle.request_script.specs.declared.call.ZoneReply.TheVariants as from
use Rattle.request_script.specs.declared.decision.ConnStatus.{ConnStatus}
use Rattle.request_script.specs.declared.said.Hold.{Hold}
use Rattle.request_script.specs.declared.said.Delay.{Delay}
use Rattle.request_script.specs.declared.said.ReqSaid.{ReqSaid}
use Rattle.request_script.specs.Turn.{Turn, Exchange}
use Rattle.request_script.specs.Zones.{key_of, is_skipped, has_backups}
use Rattle.request_script.specs.ReqLimits.{accounted, after_check, accounts, allowed_of, delay_by, greater, is_last, no_delay, releases, req_reply, req_walk, unset, walk_ends}
use Rattle.request_script.specs.ConnLimits.{after_open, closes, conn_passed, conn_refused, conn_reply, conn_walk, opened_in}
use Rattle.request_script.specs.Peers.{after_choice, asks_list, chooses, frees, index_in, peer_reply, seconds, taken_at}
use Rattle.request_script.proofs.Totals.{total-append, total-map, total-reverse}
use Rattle.request_script.proofs.Held.{Thing, Has, once, with_one, has-same, has-more, has-less, has-fewer, holds-entry, holds-connection, holds-peer}
use Rattle.request_script.proofs.Held.Thing.{hold, connection, server}
use Rattle.request_script.proofs.Exchanges.{check-takes, again-gives, account-takes, release-takes, open-takes, opened-gives, close-takes, choose-takes, peer-gives, free-takes}
use Rattle.request_script.proofs.Permitting.{Runs, if-runs, unskipped}

abbrev pub hold_of : Hold → Thing
hold_of held = hold held.zone held.at

abbrev pub connection_of : Opened → Thing
connection_of one = connection one.zone one.at

abbrev pub server_of : Taken → Thing
server_of taken = server taken.zone taken.list taken.index

module _ {X : Type 0} (of : X → Thing) (xs : List X) (rest : List Thing) where
  -- things in the other order
  pub has-turned : (past : List Exchange) → Has past (map of xs ++ rest) → Has past (map of (reverse xs) ++ rest)
  has-turned past has = has-fewer past (map of xs ++ rest) (map of (reverse xs) ++ rest) (λ t.
      let a = total-append (once t) (map of xs) rest in let b = total-append (once t) (map of (reverse xs)) rest in
      let c = total-map (once t) of xs in let d = total-map (once t) of (reverse xs) in
      let e = total-reverse (λ (x : X). once t (of x)) xs in
      omega (arith, a, b, c, d, e)) has

  -- one thing more, as the last
  pub has-last : (past : List Exchange) (x : X) → Has past (of x ∷ map of xs ++ rest) → Has past (map of (xs ++ x ∷ []) ++ rest)
  has-last past x has = has-fewer past (of x ∷ map of xs ++ rest) (map of (xs ++ x ∷ []) ++ rest) (λ t.
      let a = total-append (once t) (map of xs) rest in let b = total-append (once t) (map of (xs ++ x ∷ [])) rest in
      let c = total-map (once t) of xs in let d = total-map (once t) of (xs ++ x ∷ []) in
      let e = total-append (λ (y : X). once t (of y)) xs (x ∷ []) in
      omega (arith, a, b, c, d, e)) has

module _ (Ends : List Exchange → Option Active → Type 0) where
  -- what follows where a share has these things is permitted
  abbrev pub Goes : List Thing → Turn → Type 0
  Goes things turn = (past : List Exchange) → Has past things → Runs Ends past turn

  releases-run : (holds : List Hold) (rest : List Thing) (behind : Turn) → Goes rest behind → Goes (map hold_of holds ++ rest) (releases holds behind)
  releases-run [] rest behind goes past has = goes past has
  releases-run (held ∷ holds) rest behind goes past has = (
    holds-entry past held.zone held.at (map hold_of holds ++ rest) has,
    λ reply.
        releases-run holds rest behind goes (with_one past (to.Req held.zone (Release held.at)) reply)
        (has-less past (to.Req held.zone (Release held.at)) reply (hold_of held) (map hold_of holds ++ rest) (release-takes held.zone held.at reply) has),
  )

  pub closes-run : (opened : List Opened) (rest : List Thing) (behind : Turn) → Goes rest behind → Goes (map connection_of opened ++ rest) (closes opened behind)
  closes-run [] rest behind goes past has = goes past has
  closes-run (one ∷ more) rest behind goes past has = (
    holds-connection past one.zone one.at (map connection_of more ++ rest) has,
    λ reply.
        closes-run more rest behind goes (with_one past (to.Conn one.zone (call.Close one.at)) reply)
        (has-less past (to.Conn one.zone (call.Close one.at)) reply (connection_of one) (map connection_of more ++ rest) (close-takes one.zone one.at reply) has),
  )

  -- ---- limits of requests

  module _ (config : Config) (now : ℕ) (early : IsMoment now) (vars : Vars) (dry : Bool) (rest : List Thing) (behind : ReqSaid → Turn) (goes : (said : ReqSaid) → Goes rest (behind said)) where
    accounts-run : (holds : List Hold) (greatest : Delay) → Goes (map hold_of holds ++ rest) (accounts config now vars dry greatest holds behind)
    accounts-run [] greatest past has = goes _ past has
    accounts-run (held ∷ holds) greatest past has = (
      (early, holds-entry past held.zone held.at (map hold_of holds ++ rest) has),
      λ reply.
          accounts-run holds (greater greatest (delay_by config held.zone held.allowed (accounted (req_reply reply)))) (with_one past (to.Req held.zone (Account held.at now)) reply)
          (has-less past (to.Req held.zone (Account held.at now)) reply (hold_of held) (map hold_of holds ++ rest) (account-takes held.zone held.at now reply) has),
    )

    ends-run : (holds : List Hold) → Goes (map hold_of holds ++ rest) (walk_ends config now vars dry holds behind)
    ends-run [] past has = goes unset past has
    ends-run (held ∷ holds) past has = accounts-run (reverse (held ∷ holds)) no_delay past (has-turned hold_of (held ∷ holds) rest past has)

    -- what follows a check's reply
    check-run : (limit : ReqLimit) (holds : List Hold) (last : Bool) (goes_on : List Hold → Turn) → ((more : List Hold) → Goes (map hold_of more ++ rest) (goes_on more))
        → (past : List Exchange) → Has past (map hold_of holds ++ rest) → (reply : ZoneReply)
        → Runs Ends (with_one past (to.Req limit.zone (Check (key_of config vars limit.zone) now limit.burst last)) reply) (after_check config now vars dry limit holds goes_on behind (req_reply reply))
    check-run limit holds last goes_on walks past has reply = go reply where
      asked : ZoneCall
      asked = to.Req limit.zone (Check (key_of config vars limit.zone) now limit.burst last)

      after : (reply : ZoneReply) → Has (with_one past asked reply) (map hold_of holds ++ rest)
      after reply = has-same past asked reply (map hold_of holds ++ rest) (check-takes limit.zone (key_of config vars limit.zone) now limit.burst last reply) has

      lets_go : (reply : ZoneReply) (said : ReqSaid) → Runs Ends (with_one past asked reply) (releases (reverse holds) (behind said))
      lets_go reply said = releases-run (reverse holds) rest (behind said) (goes said) (with_one past asked reply) (has-turned hold_of holds rest (with_one past asked reply) (after reply))

      go : (reply : ZoneReply) → Runs Ends (with_one past asked reply) (after_check config now vars dry limit holds goes_on behind (req_reply reply))
      go (from.Req (Again value at)) =
          let one : Hold = record { zone = limit.zone; at = at; allowed = allowed_of limit } in
          let reply = from.Req (Again value at) in
          walks (holds ++ one ∷ []) (with_one past asked reply) (has-last hold_of holds rest (with_one past asked reply) one
          (has-more past asked reply (hold_of one) (map hold_of holds ++ rest) (check-takes limit.zone (key_of config vars limit.zone) now limit.burst last reply)
          (again-gives limit.zone (Check (key_of config vars limit.zone) now limit.burst last) value at) has))
      go (from.Req (Pass value)) =
          let reply = from.Req (Pass value) in
          accounts-run (reverse holds) (delay_by config limit.zone (allowed_of limit) value) (with_one past asked reply) (has-turned hold_of holds rest (with_one past asked reply) (after reply))
      go (from.Req (Busy value)) = lets_go (from.Req (Busy value)) _
      go (from.Req (NoRoom evicted)) = lets_go (from.Req (NoRoom evicted)) _
      go (from.Req (Accounted value)) = lets_go (from.Req (Accounted value)) _
      go (from.Req Released) = lets_go (from.Req Released) _
      go (from.Conn reply) = lets_go (from.Conn reply) _
      go (from.Peer reply) = lets_go (from.Peer reply) _

    pub reqs-run : (limits : List ReqLimit) (holds : List Hold) → All (λ (limit : ReqLimit). limit.burst ≤ 1000000000) limits → Goes (map hold_of holds ++ rest) (req_walk config now vars dry holds limits behind)
    reqs-run [] holds small past has = ends-run holds past has
    reqs-run (limit ∷ limits) holds small past has =
        let later = All-tail (λ (limit : ReqLimit). limit.burst ≤ 1000000000) limit limits small in
        if-runs Ends (is_skipped 65535 (key_of config vars limit.zone)) past _ _ (reqs-run limits holds later past has) (λ is.
        let named = unskipped 65535 (length (key_of config vars limit.zone)) is in let some = named.0 in let few = named.1 in (
          record { named = (some, omega (arith, few)); early = early; small = All-head (λ (limit : ReqLimit). limit.burst ≤ 1000000000) limit limits small },
          λ reply.
              check-run limit holds (is_last limits) (λ more. req_walk config now vars dry more limits behind) (λ more. reqs-run limits more later) past has reply,
        ))

  -- ---- limits of connections

  module _ (config : Config) (vars : Vars) (dry : Bool) (rest : List Thing) (behind : ConnStatus → List Opened → Turn) (goes : (status : ConnStatus) (opened : List Opened) → Goes (map connection_of opened ++ rest) (behind status opened)) where
    -- what follows an open's reply
    open-run : (limit : ConnLimit) (opened : List Opened) (goes_on : List Opened → Turn) → ((more : List Opened) → Goes (map connection_of more ++ rest) (goes_on more))
        → (past : List Exchange) → Has past (map connection_of opened ++ rest) → (reply : ZoneReply)
        → Runs Ends (with_one past (to.Conn limit.zone (call.Open (key_of config vars limit.zone) limit.limit)) reply) (after_open config vars dry limit opened goes_on behind (opened_in (conn_reply reply)))
    open-run limit opened goes_on walks past has reply = go reply where
      asked : ZoneCall
      asked = to.Conn limit.zone (call.Open (key_of config vars limit.zone) limit.limit)

      shuts : (reply : ZoneReply) → Runs Ends (with_one past asked reply) (closes (reverse opened) (behind (conn_refused dry limit.zone) []))
      shuts reply = closes-run (reverse opened) rest (behind (conn_refused dry limit.zone) []) (goes (conn_refused dry limit.zone) []) (with_one past asked reply)
          (has-turned connection_of opened rest (with_one past asked reply) (has-same past asked reply (map connection_of opened ++ rest) (open-takes limit.zone (key_of config vars limit.zone) limit.limit reply) has))

      go : (reply : ZoneReply) → Runs Ends (with_one past asked reply) (after_open config vars dry limit opened goes_on behind (opened_in (conn_reply reply)))
      go (from.Conn (conn.Opened at count)) =
          let one : Opened = record { zone = limit.zone; at = at } in
          let reply = from.Conn (conn.Opened at count) in
          walks (opened ++ one ∷ []) (with_one past asked reply) (has-last connection_of opened rest (with_one past asked reply) one
          (has-more past asked reply (connection_of one) (map connection_of opened ++ rest) (open-takes limit.zone (key_of config vars limit.zone) limit.limit reply)
          (opened-gives limit.zone (call.Open (key_of config vars limit.zone) limit.limit) at count) has))
      go (from.Conn (conn.AtLimit count)) = shuts (from.Conn (conn.AtLimit count))
      go (from.Conn conn.NoRoom) = shuts (from.Conn conn.NoRoom)
      go (from.Conn (conn.Closed count)) = shuts (from.Conn (conn.Closed count))
      go (from.Req reply) = shuts (from.Req reply)
      go (from.Peer reply) = shuts (from.Peer reply)

    pub conns-run : (zones : List _) (limits : List ConnLimit) (opened : List Opened) → All (IsConnLimit zones) limits → Goes (map connection_of opened ++ rest) (conn_walk config vars dry opened limits behind)
    conns-run zones [] opened are past has = goes (conn_passed opened) opened past has
    conns-run zones (limit ∷ limits) opened are past has =
        let later = All-tail (IsConnLimit zones) limit limits are in let own = All-head (IsConnLimit zones) limit limits are in
        if-runs Ends (is_skipped 255 (key_of config vars limit.zone)) past _ _ (conns-run zones limits opened later past has) (λ is.
        let named = unskipped 255 (length (key_of config vars limit.zone)) is in let some = named.0 in let few = named.1 in
        let within = own.limit in let least = within.0 in let most = within.1 in (
          ((some, omega (arith, few)), (omega (arith, least), omega (arith, most))),
          λ reply.
              open-run limit opened (λ more. conn_walk config vars dry more limits behind) (λ more. conns-run zones limits more later) past has reply,
        ))

  -- ---- servers

  module _ (config : Config) (now : ℕ) (early : IsMoment now) (rest : List Thing) where
    early-seconds : seconds now < 2 ^ 42
    early-seconds = omega (arith, early)

    list-run : (zone list tried : ℕ) (found : ℕ → Turn) (none : Turn) → list < 2 → ((index : ℕ) → Goes (server zone list index ∷ rest) (found index)) → Goes rest none → Goes rest (asks_list config now zone list tried found none)
    list-run zone list tried found none two goes ends past has = ((two, early-seconds), go) where
      asked : ZoneCall
      asked = to.Peer zone (Choose list tried (seconds now))

      nobody : (reply : ZoneReply) → Runs Ends (with_one past asked reply) none
      nobody reply = ends (with_one past asked reply) (has-same past asked reply rest (choose-takes zone list tried (seconds now) reply) has)

      go : (reply : ZoneReply) → Runs Ends (with_one past asked reply) (after_choice found none (index_in (peer_reply reply)))
      go (from.Peer (peer.Peer index)) =
          goes index (with_one past asked (from.Peer (peer.Peer index)))
          (has-more past asked (from.Peer (peer.Peer index)) (server zone list index) rest (choose-takes zone list tried (seconds now) (from.Peer (peer.Peer index))) (peer-gives zone list tried (seconds now) index) has)
      go (from.Peer peer.NoPeer) = nobody (from.Peer peer.NoPeer)
      go (from.Peer peer.Freed) = nobody (from.Peer peer.Freed)
      go (from.Req reply) = nobody (from.Req reply)
      go (from.Conn reply) = nobody (from.Conn reply)

    pub chooses-run : (zone tries list tried : ℕ) (found : Taken → Turn) (none : Turn) → list < 2 → ((taken : Taken) → taken.list < 2 → Goes (server_of taken ∷ rest) (found taken)) → Goes rest none
        → Goes rest (chooses config now zone tries list tried found none)
    chooses-run zone tries list tried found none two goes ends past has =
        list-run zone list tried (λ index. found (taken_at zone tries list tried index))
        (if nat_eq list 0 && has_backups config zone then asks_list config now zone 1 0 (λ index. found (taken_at zone tries 1 0 index)) none else none) two
        (λ index. goes (taken_at zone tries list tried index) two)
        (λ later have. if-runs Ends (nat_eq list 0 && has_backups config zone) later (asks_list config now zone 1 0 (λ index. found (taken_at zone tries 1 0 index)) none) none
        (list-run zone 1 0 (λ index. found (taken_at zone tries 1 0 index)) none (omega arith) (λ index. goes (taken_at zone tries 1 0 index) (omega arith)) ends later have)
        (λ _. ends later have)) past has

    pub frees-run : (taken : Taken) (failed : Bool) (behind : Turn) → taken.list < 2 → Goes rest behind → Goes (server_of taken ∷ rest) (frees now taken failed behind)
    frees-run taken failed behind two goes past has = (
      (two, early-seconds, holds-peer past taken.zone taken.list taken.index rest has),
      λ reply.
          goes (with_one past (to.Peer taken.zone (Free taken.list taken.index failed (seconds now))) reply)
          (has-less past (to.Peer taken.zone (Free taken.list taken.index failed (seconds now))) reply (server_of taken) rest (free-takes taken.zone taken.list taken.index failed (seconds now) reply) has),
    )
