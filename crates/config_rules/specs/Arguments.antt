-- What the arguments of a directive are, by its kind.
use Rattle.std.specs.Prelude.{ℕ, List, [], ◌∷◌, ◌||◌, Option, None, Some, map, codes, if◌then◌else◌}
use Rattle.zone_key.specs.Expr.{is_same}
use Rattle.config_rules.specs.declared.kind.Kind.{Kind}
use Rattle.config_rules.specs.declared.kind.Kind.TheVariants as kind
use Rattle.config_rules.specs.declared.argument.Argument.{Argument}
use Rattle.config_rules.specs.declared.argument.Argument.TheVariants.{Key, Zone, Name, Size, Use, Rate, Number, Switch, Time, Address, Known, Unknown}
use Rattle.config_rules.specs.Words.{declared_in, value_of}

-- what a word is where it begins with this prefix, and what it is else
abbrev pub valued : List ℕ → (List ℕ → Argument) → List ℕ → Argument → Argument
valued prefix meaning w other = elim (value_of prefix w) [ Some v ↦ meaning v | None ↦ other ]

-- a zone where it declares one, and what it is else
abbrev pub declaring : List ℕ → Argument → Argument
declaring w other = elim (declared_in w) [ Some z ↦ Zone z.name z.size | None ↦ other ]

-- a number from `low` to `most`
abbrev pub number : ℕ → ℕ → List ℕ → Argument
number low most v = Number v low most

-- an argument of `limit_req`
abbrev pub limit_argument : List ℕ → Argument
limit_argument w =
    valued (codes "zone=") Use w
    (valued (codes "burst=") (number 0 1000000) w
    (valued (codes "delay=") (number 0 1000000) w
    (if is_same w (codes "nodelay") then Known else Unknown)))

-- an argument of a server of an upstream, behind its address
abbrev pub peer_argument : List ℕ → Argument
peer_argument w =
    valued (codes "weight=") (number 1 65535) w
    (valued (codes "max_conns=") (number 0 1000000000) w
    (valued (codes "max_fails=") (number 0 1000000000) w
    (valued (codes "fail_timeout=") Time w
    (if is_same w (codes "backup") || is_same w (codes "down") then Known else Unknown))))

-- an argument behind the first
abbrev pub later_argument : Kind → List ℕ → Argument
later_argument kind.ReqZone w = declaring w (valued (codes "rate=") Rate w Unknown)
later_argument kind.ConnZone w = declaring w Unknown
later_argument kind.LimitReq w = limit_argument w
later_argument kind.LimitConn w = number 1 65535 w
later_argument kind.PeerZone w = Size w
later_argument kind.Peer w = peer_argument w
later_argument _ w = Known

-- the first argument
abbrev pub first_argument : Kind → List ℕ → Argument
first_argument kind.ReqZone w = Key w
first_argument kind.ConnZone w = Key w
first_argument kind.LimitReq w = limit_argument w
first_argument kind.LimitConn w = Use w
first_argument kind.Status w = number 400 599 w
first_argument kind.DryRun w = Switch w
first_argument kind.PeerZone w = Name w
first_argument kind.Peer w = Address w
first_argument _ w = Known

-- the arguments of a directive of this kind
abbrev pub meanings : Kind → List (List ℕ) → List Argument
meanings k [] = []
meanings k (w ∷ ws) = first_argument k w ∷ map (later_argument k) ws

-- the name of a zone that it declares
abbrev pub declared_name : Argument → Option (List ℕ)
declared_name (Zone name size) = Some name
declared_name (Name name) = Some name
declared_name _ = None

-- the size of a zone that it declares
abbrev pub declared_size : Argument → Option (List ℕ)
declared_size (Zone name size) = Some size
declared_size (Size size) = Some size
declared_size _ = None

-- the name of a zone that it uses
abbrev pub used_name : Argument → Option (List ℕ)
used_name (Use name) = Some name
used_name _ = None
