-- Which directives are read in which context.
use Rattle.std.specs.Prelude.{ℕ, Bool, ◌||◌, List, Option, None, Some, codes, if◌then◌else◌}
use Rattle.zone_key.specs.Expr.{is_same}
use Rattle.config_rules.specs.declared.kind.Context.{Context}
use Rattle.config_rules.specs.declared.kind.Context.TheVariants.{Top, Http, Server, Location, Upstream}
use Rattle.config_rules.specs.declared.kind.Kind.{Kind}
use Rattle.config_rules.specs.declared.kind.Kind.TheVariants as kind

-- the methods that choose among servers
abbrev pub is_method : List ℕ → Bool
is_method w = is_same w (codes "ip_hash") || is_same w (codes "hash") || is_same w (codes "random") || is_same w (codes "sticky")

-- the directives of limits
abbrev pub is_limit_name : List ℕ → Bool
is_limit_name w =
    is_same w (codes "limit_req_zone") || is_same w (codes "limit_conn_zone") || is_same w (codes "limit_req") || is_same w (codes "limit_conn")
    || is_same w (codes "limit_req_status") || is_same w (codes "limit_conn_status") || is_same w (codes "limit_req_dry_run") || is_same w (codes "limit_conn_dry_run")

-- the other directives that are read in some context, but for the methods
abbrev pub is_other_name : List ℕ → Bool
is_other_name w =
    is_same w (codes "http") || is_same w (codes "server") || is_same w (codes "upstream") || is_same w (codes "location")
    || is_same w (codes "proxy_pass") || is_same w (codes "zone") || is_same w (codes "least_conn")

-- a directive that a context doesn't have: it has another, or none does
abbrev pub elsewhere : List ℕ → Kind
elsewhere w = if is_limit_name w || is_other_name w || is_method w then kind.Misplaced else kind.Unnamed

-- limits and their answers, which http, server and location have
abbrev pub limiting : List ℕ → Kind
limiting w =
    if is_same w (codes "limit_req") then kind.LimitReq
    else if is_same w (codes "limit_conn") then kind.LimitConn
    else if is_same w (codes "limit_req_status") || is_same w (codes "limit_conn_status") then kind.Status
    else if is_same w (codes "limit_req_dry_run") || is_same w (codes "limit_conn_dry_run") then kind.DryRun
    else elsewhere w

-- what a name means at http
abbrev pub in_http : List ℕ → Kind
in_http w =
    if is_same w (codes "server") then kind.Server
    else if is_same w (codes "upstream") then kind.Upstream
    else if is_same w (codes "limit_req_zone") then kind.ReqZone
    else if is_same w (codes "limit_conn_zone") then kind.ConnZone
    else limiting w

-- what a name means in a location
abbrev pub in_location : List ℕ → Kind
in_location w =
    if is_same w (codes "location") then kind.Location
    else if is_same w (codes "proxy_pass") then kind.ProxyPass
    else limiting w

-- what a name means in an upstream
abbrev pub in_upstream : List ℕ → Kind
in_upstream w =
    if is_same w (codes "server") then kind.Peer
    else if is_same w (codes "zone") then kind.PeerZone
    else if is_same w (codes "least_conn") then kind.LeastConn
    else if is_method w then kind.OtherMethod
    else elsewhere w

-- what a directive's name means in a context
abbrev pub kind_of : Context → List ℕ → Kind
kind_of Top w = if is_same w (codes "http") then kind.Http else elsewhere w
kind_of Http w = in_http w
kind_of Server w = if is_same w (codes "location") then kind.Location else limiting w
kind_of Location w = in_location w
kind_of Upstream w = in_upstream w

-- the context of a directive's block, if it is read
abbrev pub inner_context : Kind → Option Context
inner_context kind.Http = Some Http
inner_context kind.Server = Some Server
inner_context kind.Location = Some Location
inner_context kind.Upstream = Some Upstream
inner_context _ = None
