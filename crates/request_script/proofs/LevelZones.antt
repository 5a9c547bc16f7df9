-- A level names no zone twice.
use Rattle.std.proofs.Common.{◌≡◌, ℕ, ◌+◌, ◌<◌, ◌≤◌, Bool, true, false, List, length, Option, Some, None, refl, ap, sym, ◌∙◌, true≢false, slice_get, All, IfSome, arith}
use Rattle.std.proofs.lemmas.Option.{slice_get_within}
use Rattle.zone_config.specs.declared.data.Level.{Level}
use Rattle.zone_config.specs.declared.data.ReqLimit.{ReqLimit}
use Rattle.zone_config.specs.declared.data.ConnLimit.{ConnLimit}
use Rattle.zone_config.specs.declared.data.ZoneSpec.{ZoneSpec}
use Rattle.zone_config.specs.declared.data.ZoneSpec.TheVariants.{Req, Conn, Peer}
use Rattle.zone_config.specs.Conditions.{IsLevel, IsReqLimit, IsConnLimit, IsSomePeerZone}
use Rattle.request_script.proofs.Totals.{weigh}
use Rattle.request_script.proofs.ZoneKinds.{is_req, is_conn, is_peer, req-tells, conn-tells, peer-tells}
use Rattle.request_script.proofs.Named.{once, once-other, once-most, total-none, named-once, below, below-none, below-sum, below-most, below-once, below-named}
use Rattle.request_script.proofs.PricedLimits.{of_reqs, of_conns}

module _ (zones : List ZoneSpec) (z : ℕ) where
  -- a zone of another kind isn't zone z
  apart-from : (is_kind : Option ZoneSpec → Bool) → is_kind (slice_get zones z) ≡ false → (zone : ℕ) → is_kind (slice_get zones zone) ≡ true → once z zone ≡ 0
  apart-from is_kind not_z zone is = once-other z zone (λ same. true≢false (sym is ∙ ap (λ (y : ℕ). is_kind (slice_get zones y)) same ∙ not_z))

  no_reqs : is_req (slice_get zones z) ≡ false → (limits : List ReqLimit) → All (IsReqLimit zones) limits → of_reqs (once z) limits ≡ 0
  no_reqs other limits each = total-none (λ (limit : ReqLimit). once z limit.zone) (IsReqLimit zones) (λ limit own. apart-from is_req other limit.zone (req-tells (slice_get zones limit.zone) own.zone)) limits each

  no_conns : is_conn (slice_get zones z) ≡ false → (limits : List ConnLimit) → All (IsConnLimit zones) limits → of_conns (once z) limits ≡ 0
  no_conns other limits each = total-none (λ (limit : ConnLimit). once z limit.zone) (IsConnLimit zones) (λ limit own. apart-from is_conn other limit.zone (conn-tells (slice_get zones limit.zone) own.zone)) limits each

  no_peers : is_peer (slice_get zones z) ≡ false → (peers : Option ℕ) → IfSome peers (λ zone. IsSomePeerZone (slice_get zones zone)) → weigh (once z) peers ≡ 0
  no_peers other None is = refl
  no_peers other (Some zone) is = apart-from is_peer other zone (peer-tells (slice_get zones zone) is)

  one_peer : (peers : Option ℕ) → weigh (once z) peers ≤ 1
  one_peer None = omega arith
  one_peer (Some zone) = once-most z zone

  -- a level names zone z at most once
  pub level-once : (level : Level) → IsLevel zones level → of_reqs (once z) level.req + of_conns (once z) level.conn + weigh (once z) level.peers ≤ 1
  level-once level is = go (slice_get zones z) refl where
    go : (o : Option ZoneSpec) → slice_get zones z ≡ o → of_reqs (once z) level.req + of_conns (once z) level.conn + weigh (once z) level.peers ≤ 1
    go None at =
        let r = no_reqs (ap is_req at) level.req is.req in let c = no_conns (ap is_conn at) level.conn is.conn in let p = no_peers (ap is_peer at) level.peers is.peers in
        omega (arith, r, c, p)
    go (Some (Req spec key)) at =
        let r = named-once (λ (limit : ReqLimit). limit.zone) z level.req is.req_once in let c = no_conns (ap is_conn at) level.conn is.conn in let p = no_peers (ap is_peer at) level.peers is.peers in
        omega (arith, r, c, p)
    go (Some (Conn spec key)) at =
        let r = no_reqs (ap is_req at) level.req is.req in let c = named-once (λ (limit : ConnLimit). limit.zone) z level.conn is.conn_once in let p = no_peers (ap is_peer at) level.peers is.peers in
        omega (arith, r, c, p)
    go (Some (Peer spec line)) at =
        let r = no_reqs (ap is_req at) level.req is.req in let c = no_conns (ap is_conn at) level.conn is.conn in let p = one_peer level.peers in
        omega (arith, r, c, p)

-- ---- so it names at most as many zones as there are

module _ (zones : List ZoneSpec) where
  -- a zone of a kind is one of them
  there : (is_kind : Option ZoneSpec → Bool) → is_kind None ≡ false → (zone : ℕ) → is_kind (slice_get zones zone) ≡ true → zone < length zones
  there is_kind none zone is = go (slice_get zones zone) refl where
    go : (o : Option ZoneSpec) → slice_get zones zone ≡ o → zone < length zones
    go None at = absurd (true≢false (sym is ∙ ap is_kind at ∙ none))
    go (Some spec) at = slice_get_within zones zone spec at

  -- how many upstreams a level names, 0 or 1
  abbrev pub peers_named : Option ℕ → ℕ
  peers_named peers = weigh (λ (zone : ℕ). 1) peers

  peers-below : (peers : Option ℕ) → IfSome peers (λ zone. IsSomePeerZone (slice_get zones zone)) → below (length zones) (λ z. weigh (once z) peers) ≡ peers_named peers
  peers-below None is = below-none (length zones)
  peers-below (Some zone) is = below-once (length zones) zone (there is_peer refl zone (peer-tells (slice_get zones zone) is))

  pub level-few : (level : Level) → IsLevel zones level → length level.req + length level.conn + peers_named level.peers ≤ length zones
  level-few level is =
      let n = length zones in
      let r = below-named (λ (limit : ReqLimit). limit.zone) n level.req (λ k d within. let own = is.req k d within in there is_req refl _ (req-tells _ own.zone)) in
      let c = below-named (λ (limit : ConnLimit). limit.zone) n level.conn (λ k d within. let own = is.conn k d within in there is_conn refl _ (conn-tells _ own.zone)) in
      let p = peers-below level.peers is.peers in
      let rc = below-sum n (λ z. of_reqs (once z) level.req) (λ z. of_conns (once z) level.conn) in
      let all = below-sum n (λ z. of_reqs (once z) level.req + of_conns (once z) level.conn) (λ z. weigh (once z) level.peers) in
      let most = below-most n (λ z. of_reqs (once z) level.req + of_conns (once z) level.conn + weigh (once z) level.peers) (λ z. level-once zones z level is) in
      omega (arith, r, c, p, rc, all, most)
