-- The kinds of zones as tests.
use Rattle.std.proofs.Common.{◌≡◌, Bool, true, false, Option, Some, None, refl, sym, true≢false}
use Rattle.zone_config.specs.declared.data.ZoneSpec.{ZoneSpec}
use Rattle.zone_config.specs.declared.data.ZoneSpec.TheVariants.{Req, Conn, Peer}
use Rattle.zone_config.specs.Conditions.{IsReqZone, IsConnZone, IsSomePeerZone}

abbrev pub is_req : Option ZoneSpec → Bool
is_req (Some (Req spec key)) = true
is_req _ = false

abbrev pub is_conn : Option ZoneSpec → Bool
is_conn (Some (Conn spec key)) = true
is_conn _ = false

abbrev pub is_peer : Option ZoneSpec → Bool
is_peer (Some (Peer spec line)) = true
is_peer _ = false

pub req-tells : (o : Option ZoneSpec) → IsReqZone o → is_req o ≡ true
req-tells None is = absurd is
req-tells (Some (Req spec key)) is = refl
req-tells (Some (Conn spec key)) is = absurd is
req-tells (Some (Peer spec line)) is = absurd is

pub conn-tells : (o : Option ZoneSpec) → IsConnZone o → is_conn o ≡ true
conn-tells None is = absurd is
conn-tells (Some (Req spec key)) is = absurd is
conn-tells (Some (Conn spec key)) is = refl
conn-tells (Some (Peer spec line)) is = absurd is

pub peer-tells : (o : Option ZoneSpec) → IsSomePeerZone o → is_peer o ≡ true
peer-tells None is = absurd is
peer-tells (Some (Req spec key)) is = absurd is
peer-tells (Some (Conn spec key)) is = absurd is
peer-tells (Some (Peer spec line)) is = refl

pub tells-req : (o : Option ZoneSpec) → is_req o ≡ true → IsReqZone o
tells-req None is = absurd (true≢false (sym is))
tells-req (Some (Req spec key)) is = tt
tells-req (Some (Conn spec key)) is = absurd (true≢false (sym is))
tells-req (Some (Peer spec line)) is = absurd (true≢false (sym is))

pub tells-conn : (o : Option ZoneSpec) → is_conn o ≡ true → IsConnZone o
tells-conn None is = absurd (true≢false (sym is))
tells-conn (Some (Req spec key)) is = absurd (true≢false (sym is))
tells-conn (Some (Conn spec key)) is = tt
tells-conn (Some (Peer spec line)) is = absurd (true≢false (sym is))

pub tells-peer : (o : Option ZoneSpec) → is_peer o ≡ true → IsSomePeerZone o
tells-peer None is = absurd (true≢false (sym is))
tells-peer (Some (Req spec key)) is = absurd (true≢false (sym is))
tells-peer (Some (Conn spec key)) is = absurd (true≢false (sym is))
tells-peer (Some (Peer spec line)) is = tt
