-- What the limits of a level cost.
use Rattle.std.proofs.Common.{◌≡◌, ℕ, ◌+◌, ◌*◌, ◌≤◌, Bool, ◌&&◌, nat_eq, if◌then◌else◌, List, [], ◌∷◌, ◌++◌, reverse, Option, Some, None, refl, arith}
use Rattle.zone_key.specs.declared.vars.Vars.{Vars}
use Rattle.zone_config.specs.declared.data.Config.{Config}
use Rattle.zone_config.specs.declared.data.ReqLimit.{ReqLimit}
use Rattle.zone_config.specs.declared.data.ConnLimit.{ConnLimit}
use Rattle.req_zone.specs.declared.calls.ReqReply.{ReqReply}
use Rattle.req_zone.specs.declared.calls.ReqReply.TheVariants.{Pass, Again, Busy}
use Rattle.request_script.specs.declared.active.Active.{Active}
use Rattle.request_script.specs.declared.active.Opened.{Opened}
use Rattle.request_script.specs.declared.active.Taken.{Taken}
use Rattle.request_script.specs.declared.decision.ConnStatus.{ConnStatus}
use Rattle.request_script.specs.declared.said.Hold.{Hold}
use Rattle.request_script.specs.declared.said.Delay.{Delay}
use Rattle.request_script.specs.declared.said.ReqSaid.{ReqSaid}
use Rattle.request_script.specs.Turn.{Turn}
use Rattle.request_script.specs.Zones.{key_of, is_skipped, has_backups}
use Rattle.request_script.specs.ReqLimits.{accounted, after_check, accounts, allowed_of, delay_by, greater, no_delay, releases, req_reply, req_walk, unset, walk_ends}
use Rattle.request_script.specs.ConnLimits.{after_open, closes, conn_passed, conn_refused, conn_reply, conn_walk, opened_in}
use Rattle.request_script.specs.Peers.{after_choice, asks_list, chooses, index_in, peer_reply, taken_at}
use Rattle.request_script.proofs.Totals.{total, total-append, total-reverse}
use Rattle.request_script.proofs.Priced.{Prices, Within, if-within}

abbrev pub of_holds : (ℕ → ℕ) → List Hold → ℕ
of_holds price holds = total (λ (hold : Hold). price hold.zone) holds

abbrev pub of_reqs : (ℕ → ℕ) → List ReqLimit → ℕ
of_reqs price limits = total (λ (limit : ReqLimit). price limit.zone) limits

abbrev pub of_conns : (ℕ → ℕ) → List ConnLimit → ℕ
of_conns price limits = total (λ (limit : ConnLimit). price limit.zone) limits

abbrev pub of_opened : (ℕ → ℕ) → List Opened → ℕ
of_opened price opened = total (λ (one : Opened). price one.zone) opened

module _ (p : Prices) (bound : ℕ) (Ends : Option Active → Type 0) where
  releases-within : (holds : List Hold) (rest : ℕ) (behind : Turn) → ((spent : ℕ) → spent + rest ≤ bound → Within p bound Ends spent behind)
      → (spent : ℕ) → spent + of_holds p.req holds + rest ≤ bound → Within p bound Ends spent (releases holds behind)
  releases-within [] rest behind goes spent fits = goes spent (omega (arith, fits))
  releases-within (hold ∷ holds) rest behind goes spent fits =
      (omega (arith, fits), λ _. releases-within holds rest behind goes (spent + p.req hold.zone) (omega (arith, fits)))

  pub closes-within : (opened : List Opened) (rest : ℕ) (behind : Turn) → ((spent : ℕ) → spent + rest ≤ bound → Within p bound Ends spent behind)
      → (spent : ℕ) → spent + of_opened p.conn opened + rest ≤ bound → Within p bound Ends spent (closes opened behind)
  closes-within [] rest behind goes spent fits = goes spent (omega (arith, fits))
  closes-within (one ∷ more) rest behind goes spent fits =
      (omega (arith, fits), λ _. closes-within more rest behind goes (spent + p.conn one.zone) (omega (arith, fits)))

  -- ---- limits of requests

  module _ (config : Config) (now : ℕ) (vars : Vars) (dry : Bool) where
    accounts-within : (holds : List Hold) (greatest : Delay) (rest : ℕ) (behind : ReqSaid → Turn) → ((said : ReqSaid) (spent : ℕ) → spent + rest ≤ bound → Within p bound Ends spent (behind said))
        → (spent : ℕ) → spent + of_holds p.req holds + rest ≤ bound → Within p bound Ends spent (accounts config now vars dry greatest holds behind)
    accounts-within [] greatest rest behind goes spent fits = goes _ spent (omega (arith, fits))
    accounts-within (hold ∷ holds) greatest rest behind goes spent fits =
        (omega (arith, fits), λ reply. accounts-within holds (greater greatest (delay_by config hold.zone hold.allowed (accounted (req_reply reply)))) rest behind goes (spent + p.req hold.zone) (omega (arith, fits)))

    ends-within : (holds : List Hold) (rest : ℕ) (behind : ReqSaid → Turn) → ((said : ReqSaid) (spent : ℕ) → spent + rest ≤ bound → Within p bound Ends spent (behind said))
        → (spent : ℕ) → spent + of_holds p.req holds + rest ≤ bound → Within p bound Ends spent (walk_ends config now vars dry holds behind)
    ends-within [] rest behind goes spent fits = goes unset spent (omega (arith, fits))
    ends-within (hold ∷ holds) rest behind goes spent fits =
        let turned = total-reverse (λ (hold : Hold). p.req hold.zone) (hold ∷ holds) in
        accounts-within (reverse (hold ∷ holds)) no_delay rest behind goes spent (omega (arith, fits, turned))

    check-within : (limit : ReqLimit) (holds : List Hold) (left rest : ℕ) (goes_on : List Hold → Turn) (behind : ReqSaid → Turn)
        → ((more : List Hold) (spent : ℕ) → spent + of_holds p.req more + left + rest ≤ bound → Within p bound Ends spent (goes_on more))
        → ((said : ReqSaid) (spent : ℕ) → spent + rest ≤ bound → Within p bound Ends spent (behind said))
        → (reply : ReqReply) (spent : ℕ) → spent + of_holds p.req holds + p.req limit.zone + left + rest ≤ bound
        → Within p bound Ends spent (after_check config now vars dry limit holds goes_on behind reply)
    check-within limit holds left rest goes_on behind walks goes (Again value at) spent fits =
        let one : Hold = record { zone = limit.zone; at = at; allowed = allowed_of limit } in
        let more = total-append (λ (hold : Hold). p.req hold.zone) holds (one ∷ []) in
        walks (holds ++ one ∷ []) spent (omega (arith, fits, more))
    check-within limit holds left rest goes_on behind walks goes (Pass value) spent fits =
        let turned = total-reverse (λ (hold : Hold). p.req hold.zone) holds in
        accounts-within (reverse holds) (delay_by config limit.zone (allowed_of limit) value) rest behind goes spent (omega (arith, fits, turned))
    check-within limit holds left rest goes_on behind walks goes (Busy value) spent fits =
        let turned = total-reverse (λ (hold : Hold). p.req hold.zone) holds in
        releases-within (reverse holds) rest (behind _) (goes _) spent (omega (arith, fits, turned))
    check-within limit holds left rest goes_on behind walks goes _ spent fits =
        let turned = total-reverse (λ (hold : Hold). p.req hold.zone) holds in
        releases-within (reverse holds) rest (behind _) (goes _) spent (omega (arith, fits, turned))

    -- each limit is asked once, and its hold is given back at most once
    pub reqs-within : (limits : List ReqLimit) (holds : List Hold) (rest : ℕ) (behind : ReqSaid → Turn) → ((said : ReqSaid) (spent : ℕ) → spent + rest ≤ bound → Within p bound Ends spent (behind said))
        → (spent : ℕ) → spent + of_holds p.req holds + 2 * of_reqs p.req limits + rest ≤ bound → Within p bound Ends spent (req_walk config now vars dry holds limits behind)
    reqs-within [] holds rest behind goes spent fits = ends-within holds rest behind goes spent (omega (arith, fits))
    reqs-within (limit ∷ limits) holds rest behind goes spent fits =
        if-within p bound Ends (is_skipped 65535 (key_of config vars limit.zone)) spent _ _
        (reqs-within limits holds rest behind goes spent (omega (arith, fits))) (
          omega (arith, fits),
          λ reply.
              check-within limit holds (2 * of_reqs p.req limits) rest (λ more. req_walk config now vars dry more limits behind) behind
              (λ more after fit. reqs-within limits more rest behind goes after (omega (arith, fit)))
              goes (req_reply reply) (spent + p.req limit.zone) (omega (arith, fits)),
        )

  -- ---- limits of connections

  module _ (config : Config) (vars : Vars) (dry : Bool) (all : List ConnLimit) where
    -- the connections and the limits that are left are of the level's limits
    abbrev pub AreOf : List Opened → List ConnLimit → Type 0
    AreOf opened limits = (q : ℕ → ℕ) → of_opened q opened + of_conns q limits ≤ of_conns q all

    abbrev Goes : ℕ → (ConnStatus → List Opened → Turn) → Type 0
    Goes rest behind = (status : ConnStatus) (opened : List Opened) (spent : ℕ) → AreOf opened [] → spent + of_opened p.conn opened + rest ≤ bound → Within p bound Ends spent (behind status opened)

    open-within : (limit : ConnLimit) (opened : List Opened) (limits : List ConnLimit) (rest : ℕ) (goes_on : List Opened → Turn) (behind : ConnStatus → List Opened → Turn)
        → ((more : List Opened) (spent : ℕ) → AreOf more limits → spent + of_opened p.conn more + 2 * of_conns p.conn limits + rest ≤ bound → Within p bound Ends spent (goes_on more))
        → Goes rest behind → AreOf opened (limit ∷ limits)
        → (at : Option ℕ) (spent : ℕ) → spent + of_opened p.conn opened + p.conn limit.zone + 2 * of_conns p.conn limits + rest ≤ bound
        → Within p bound Ends spent (after_open config vars dry limit opened goes_on behind at)
    open-within limit opened limits rest goes_on behind walks goes of (Some at) spent fits =
        let one : Opened = record { zone = limit.zone; at = at } in
        let more : (q : ℕ → ℕ) → of_opened q (opened ++ one ∷ []) ≡ of_opened q opened + (q limit.zone + 0) = λ q. total-append (λ (o : Opened). q o.zone) opened (one ∷ []) in
        walks (opened ++ one ∷ []) spent (λ q. let m = more q in let o = of q in omega (arith, m, o)) (let m = more p.conn in omega (arith, fits, m))
    open-within limit opened limits rest goes_on behind walks goes of None spent fits =
        let turned = total-reverse (λ (o : Opened). p.conn o.zone) opened in
        closes-within (reverse opened) rest (behind (conn_refused dry limit.zone) [])
        (λ after fit. goes (conn_refused dry limit.zone) [] after (λ q. omega arith) (omega (arith, fit))) spent (omega (arith, fits, turned))

    -- each limit is asked once, and its connection is closed at most once
    pub conns-within : (limits : List ConnLimit) (opened : List Opened) (rest : ℕ) (behind : ConnStatus → List Opened → Turn) → Goes rest behind → AreOf opened limits
        → (spent : ℕ) → spent + of_opened p.conn opened + 2 * of_conns p.conn limits + rest ≤ bound → Within p bound Ends spent (conn_walk config vars dry opened limits behind)
    conns-within [] opened rest behind goes of spent fits = goes (conn_passed opened) opened spent of (omega (arith, fits))
    conns-within (limit ∷ limits) opened rest behind goes of spent fits =
        if-within p bound Ends (is_skipped 255 (key_of config vars limit.zone)) spent _ _
        (conns-within limits opened rest behind goes (λ q. let o = of q in omega (arith, o)) spent (omega (arith, fits))) (
          omega (arith, fits),
          λ reply.
              open-within limit opened limits rest (λ more. conn_walk config vars dry more limits behind) behind
              (λ more after are fit. conns-within limits more rest behind goes are after fit)
              goes of (opened_in (conn_reply reply)) (spent + p.conn limit.zone) (omega (arith, fits)),
        )

  -- ---- servers

  module _ (config : Config) (now : ℕ) where
    choice-within : (found : ℕ → Turn) (none : Turn) (spent : ℕ) → ((index : ℕ) → Within p bound Ends spent (found index)) → Within p bound Ends spent none
        → (index : Option ℕ) → Within p bound Ends spent (after_choice found none index)
    choice-within found none spent goes ends (Some index) = goes index
    choice-within found none spent goes ends None = ends

    list-within : (zone list tried : ℕ) (found : ℕ → Turn) (none : Turn) (spent : ℕ) → ((index : ℕ) → Within p bound Ends (spent + p.peer zone) (found index)) → Within p bound Ends (spent + p.peer zone) none
        → spent + p.peer zone ≤ bound → Within p bound Ends spent (asks_list config now zone list tried found none)
    list-within zone list tried found none spent goes ends fits = (fits, λ reply. choice-within found none (spent + p.peer zone) goes ends (index_in (peer_reply reply)))

    -- at most two lists are asked
    pub chooses-within : (zone tries list tried rest : ℕ) (found : Taken → Turn) (none : Turn)
        → ((taken : Taken) (spent : ℕ) → taken.zone ≡ zone → spent + rest ≤ bound → Within p bound Ends spent (found taken))
        → ((spent : ℕ) → spent + rest ≤ bound → Within p bound Ends spent none)
        → (spent : ℕ) → spent + 2 * p.peer zone + rest ≤ bound → Within p bound Ends spent (chooses config now zone tries list tried found none)
    chooses-within zone tries list tried rest found none goes ends spent fits =
        let once = spent + p.peer zone in let twice = once + p.peer zone in
        list-within zone list tried (λ index. found (taken_at zone tries list tried index))
        (if nat_eq list 0 && has_backups config zone then asks_list config now zone 1 0 (λ index. found (taken_at zone tries 1 0 index)) none else none)
        spent (λ index. goes (taken_at zone tries list tried index) once refl (omega (arith, fits)))
        (if-within p bound Ends (nat_eq list 0 && has_backups config zone) once (asks_list config now zone 1 0 (λ index. found (taken_at zone tries 1 0 index)) none) none
        (list-within zone 1 0 (λ index. found (taken_at zone tries 1 0 index)) none once
        (λ index. goes (taken_at zone tries 1 0 index) twice refl (omega (arith, fits))) (ends twice (omega (arith, fits))) (omega (arith, fits)))
        (ends once (omega (arith, fits)))) (omega (arith, fits))
