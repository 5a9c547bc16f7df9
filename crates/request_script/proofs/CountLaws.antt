-- A zone is asked at most 3 times for a line, and all zones together at most 32 times.
use Rattle.std.proofs.Common.{◌≡◌, ℕ, ◌≤◌, Bool, if◌then◌else◌, List, [], ◌∷◌, ◌++◌, length, Option, Some, None, refl, ap, ◌∙◌, arith}
use Rattle.std.proofs.lemmas.Bool.{eq-eqb}
use Rattle.zone_config.specs.declared.data.Level.{Level}
use Rattle.zone_config.specs.declared.data.ZoneSpec.{ZoneSpec}
use Rattle.zone_config.specs.Conditions.{IsLevel}
use Rattle.request_script.specs.declared.call.ZoneCall.{ZoneCall}
use Rattle.request_script.specs.declared.call.ZoneCall.TheVariants as to
use Rattle.request_script.specs.Turn.{Exchange}
use Rattle.request_script.specs.Turn.Turn.{asks}
use Rattle.request_script.specs.Drive.{nothing_active}
use Rattle.request_script.specs.Permitted.{is_to, zone_of, calls_to}
use Rattle.request_script.specs.Laws.{EndsLaw, RoomsLaw, RoomLeftLaw}
use Rattle.request_script.proofs.Totals.{weigh, total, total-sum_by, total-append}
use Rattle.request_script.proofs.Named.{once}
use Rattle.request_script.proofs.Priced.{Prices, price, spent_by}
use Rattle.request_script.proofs.PricedTurns.{IsAfforded}
use Rattle.request_script.proofs.PricedDrives.{drives-within, asks-within}
use Rattle.request_script.proofs.LevelZones.{level-once, level-few}

-- ---- all zones: each call costs 1

abbrev ones : Prices
ones = record { req = λ zone. 1; conn = λ zone. 1; peer = λ zone. 1 }

total-ones : {X : Type 0} (xs : List X) → total (λ x. 1) xs ≡ length xs
total-ones [] = refl
total-ones (x ∷ xs) = let later = total-ones xs in omega (arith, later)

one-most : (peers : Option ℕ) → weigh (λ (zone : ℕ). 1) peers ≤ 1
one-most None = omega arith
one-most (Some zone) = omega arith

-- an open asks each zone that its level names at most twice, and a later event asks 8 connection zones once and an upstream's 3 times
ones-afforded : (zones : List ZoneSpec) → length zones ≤ 16 → (level : Level) → IsLevel zones level → IsAfforded ones 32 level
ones-afforded zones count level is =
    let few = level-few zones level is in let conns = is.conn_count in let p = one-most level.peers in
    let r = total-ones level.req in let c = total-ones level.conn in
    record { opens = omega (arith, few, count, r, c); goes_on = omega (arith, conns, c, p) }

price-one : (call : ZoneCall) → price ones call ≡ 1
price-one (to.Req zone call) = refl
price-one (to.Conn zone call) = refl
price-one (to.Peer zone call) = refl

spent-length : (since : List Exchange) → spent_by ones since ≡ length since
spent-length [] = refl
spent-length (e ∷ es) = let one = price-one e.call in let later = spent-length es in omega (arith, one, later)

pub ends-law : EndsLaw
ends-law config lines one asked decisions table is drives since call next leads =
    let within = asks-within config ones 32 is (ones-afforded config.zones is.zones.count) lines one asked decisions table drives since (asks call next) leads in
    let fits = within.0 in let single = price-one call in let all = spent-length since in
    omega (arith, fits, single, all)

-- ---- one zone: each call to it costs 1

abbrev at_zone : ℕ → Prices
at_zone z = record { req = once z; conn = once z; peer = once z }

at_zone-afforded : (zones : List ZoneSpec) (z : ℕ) (level : Level) → IsLevel zones level → IsAfforded (at_zone z) 3 level
at_zone-afforded zones z level is = let one = level-once zones z level is in record { opens = omega (arith, one); goes_on = omega (arith, one) }

price-at_zone : (z : ℕ) (call : ZoneCall) → price (at_zone z) call ≡ (if is_to z call then 1 else 0)
price-at_zone z (to.Req zone call) = refl
price-at_zone z (to.Conn zone call) = refl
price-at_zone z (to.Peer zone call) = refl

counted : (z : ℕ) (asked : List Exchange) → calls_to z asked ≡ spent_by (at_zone z) asked
counted z asked = total-sum_by (λ (e : Exchange). if is_to z e.call then 1 else 0) asked ∙ same asked where
  same : (es : List Exchange) → total (λ (e : Exchange). if is_to z e.call then 1 else 0) es ≡ spent_by (at_zone z) es
  same [] = refl
  same (e ∷ es) = let one = price-at_zone z e.call in let later = same es in omega (arith, one, later)

pub rooms-law : RoomsLaw
rooms-law config lines asked decisions table zone is drives =
    let within = drives-within config (at_zone zone) 3 is (at_zone-afforded config.zones zone) nothing_active lines asked decisions table drives (λ conn. tt) in
    let few = within.1 in let all = counted zone asked in
    omega (arith, few, all)

price-own : (call : ZoneCall) → price (at_zone (zone_of call)) call ≡ 1
price-own (to.Req zone call) = ap (λ (b : Bool). if b then 1 else 0) (eq-eqb zone zone refl)
price-own (to.Conn zone call) = ap (λ (b : Bool). if b then 1 else 0) (eq-eqb zone zone refl)
price-own (to.Peer zone call) = ap (λ (b : Bool). if b then 1 else 0) (eq-eqb zone zone refl)

pub room_left-law : RoomLeftLaw
room_left-law config lines one asked decisions table is drives since call next leads =
    let z = zone_of call in
    let before = rooms-law config lines asked decisions table z is drives in
    let within = asks-within config (at_zone z) 3 is (at_zone-afforded config.zones z) lines one asked decisions table drives since (asks call next) leads in
    let fits = within.0 in let own = price-own call in
    let old = counted z asked in let all = counted z (asked ++ since) in let both = total-append (λ (e : Exchange). price (at_zone z) e.call) asked since in
    omega (arith, before, fits, own, old, all, both)
