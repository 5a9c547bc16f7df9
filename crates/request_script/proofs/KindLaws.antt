-- Each call goes to a zone of its kind: a call to another would cost 1, and none costs anything.
use Rattle.std.proofs.Common.{◌≡◌, ℕ, ◌≤◌, Bool, true, false, if◌then◌else◌, List, Option, Some, None, refl, ap, slice_get, IfSome, arith}
use Rattle.zone_config.specs.declared.data.Level.{Level}
use Rattle.zone_config.specs.declared.data.ReqLimit.{ReqLimit}
use Rattle.zone_config.specs.declared.data.ConnLimit.{ConnLimit}
use Rattle.zone_config.specs.declared.data.ZoneSpec.{ZoneSpec}
use Rattle.zone_config.specs.Conditions.{IsLevel, IsReqLimit, IsConnLimit, IsReqZone, IsConnZone, IsSomePeerZone}
use Rattle.request_script.specs.declared.call.ZoneCall.{ZoneCall}
use Rattle.request_script.specs.declared.call.ZoneCall.TheVariants as to
use Rattle.request_script.specs.Turn.Turn.{asks}
use Rattle.request_script.specs.Permitted.{IsOfKind, zone_of}
use Rattle.request_script.specs.Laws.{KindsLaw}
use Rattle.request_script.proofs.Totals.{weigh}
use Rattle.request_script.proofs.Named.{total-none}
use Rattle.request_script.proofs.ZoneKinds.{is_req, is_conn, is_peer, req-tells, conn-tells, peer-tells, tells-req, tells-conn, tells-peer}
use Rattle.request_script.proofs.Priced.{Prices, price}
use Rattle.request_script.proofs.PricedTurns.{IsAfforded}
use Rattle.request_script.proofs.PricedDrives.{asks-within}

module _ (Is : Option ZoneSpec → Type 0) (is_kind : Option ZoneSpec → Bool) (zones : List ZoneSpec) where
  -- 1 for a zone of another kind
  abbrev other : ℕ → ℕ
  other zone = if is_kind (slice_get zones zone) then 0 else 1

  own-free : ((o : Option ZoneSpec) → Is o → is_kind o ≡ true) → (zone : ℕ) → Is (slice_get zones zone) → other zone ≡ 0
  own-free tells zone is = ap (λ (b : Bool). if b then 0 else 1) (tells (slice_get zones zone) is)

  free-own : ((o : Option ZoneSpec) → is_kind o ≡ true → Is o) → (zone : ℕ) → other zone ≤ 0 → Is (slice_get zones zone)
  free-own tells zone free = go (is_kind (slice_get zones zone)) refl where
    go : (b : Bool) → is_kind (slice_get zones zone) ≡ b → Is (slice_get zones zone)
    go true is = tells (slice_get zones zone) is
    go false is = absurd (let one : other zone ≡ 1 = ap (λ (b : Bool). if b then 0 else 1) is in omega (arith, one, free))

module _ (zones : List ZoneSpec) where
  abbrev others : Prices
  others = record { req = other IsReqZone is_req zones; conn = other IsConnZone is_conn zones; peer = other IsSomePeerZone is_peer zones }

  peers-free : (peers : Option ℕ) → IfSome peers (λ zone. IsSomePeerZone (slice_get zones zone)) → weigh (other IsSomePeerZone is_peer zones) peers ≡ 0
  peers-free None is = refl
  peers-free (Some zone) is = own-free IsSomePeerZone is_peer zones peer-tells zone is

  others-afforded : (level : Level) → IsLevel zones level → IsAfforded others 0 level
  others-afforded level is =
      let r = total-none (λ (limit : ReqLimit). others.req limit.zone) (IsReqLimit zones) (λ limit own. own-free IsReqZone is_req zones req-tells limit.zone own.zone) level.req is.req in
      let c = total-none (λ (limit : ConnLimit). others.conn limit.zone) (IsConnLimit zones) (λ limit own. own-free IsConnZone is_conn zones conn-tells limit.zone own.zone) level.conn is.conn in
      let p = peers-free level.peers is.peers in
      record { opens = omega (arith, r, c, p); goes_on = omega (arith, r, c, p) }

  of_kind : (call : ZoneCall) → price others call ≤ 0 → IsOfKind (slice_get zones (zone_of call)) call
  of_kind (to.Req zone call) free = free-own IsReqZone is_req zones tells-req zone free
  of_kind (to.Conn zone call) free = free-own IsConnZone is_conn zones tells-conn zone free
  of_kind (to.Peer zone call) free = free-own IsSomePeerZone is_peer zones tells-peer zone free

pub kinds-law : KindsLaw
kinds-law config lines one asked decisions table is drives since call next leads =
    let within = asks-within config (others config.zones) 0 is (others-afforded config.zones) lines one asked decisions table drives since (asks call next) leads in
    let fits = within.0 in
    of_kind config.zones call (omega (arith, fits))
