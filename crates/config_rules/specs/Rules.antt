-- The rules that directives must keep: each is a test of one place, and of what stands before it.
use Rattle.std.specs.Prelude.{ℕ, ◌+◌, Bool, true, false, ◌==◌, ◌&&◌, ◌||◌, not, nat_lt, nat_le, List, [], ◌∷◌, ◌++◌, Option, None, Some, length, codes, is_some, is_none, unwrap_or, count_by, if◌then◌else◌}
use Rattle.std.specs.Option.{option_map, option_map_or, option_and_then}
use Rattle.std.specs.List.{list_any, find, filter_map, flat_map}
use Rattle.zone_key.specs.Expr.{is_same, expr_of}
use Rattle.directive_text.specs.declared.tree.Directive.{Directive}
use Rattle.config_rules.specs.declared.kind.Kind.{Kind}
use Rattle.config_rules.specs.declared.kind.Kind.TheVariants.{Misplaced, Http, Server, Upstream, Location, ReqZone, ConnZone, LimitReq, LimitConn, Status, DryRun, ProxyPass, PeerZone, Peer, LeastConn, OtherMethod}
use Rattle.config_rules.specs.declared.argument.Argument.{Argument}
use Rattle.config_rules.specs.declared.argument.Argument.TheVariants.{Key, Zone, Name, Use, Rate, Number, Switch, Time, Address, Unknown}
use Rattle.config_rules.specs.declared.earlier.Earlier.{Earlier}
use Rattle.config_rules.specs.declared.earlier.ZoneNames.{ZoneNames}
use Rattle.config_rules.specs.Words.{first_of, behind_first, name_of, arguments_of, line_of, has_block, inner_of, is_called, has_called, value_of, parameter_name, is_same_name}
use Rattle.config_rules.specs.Numbers.{is_number_in, size_of, zone_size, rate_of, time_of}
use Rattle.config_rules.specs.Arguments.{meanings, declared_name, declared_size, used_name}
use Rattle.config_rules.specs.InOrder.{Place, kind_at, places_of}

-- the arguments of a place's directive
abbrev pub arguments_at : Place → List Argument
arguments_at p = meanings (kind_at p) (arguments_of p.directive)

-- a location's name: its words, with a space between two
abbrev pub behind_space : List ℕ → List ℕ
behind_space w = 32 ∷ w

-- the name of a location: its words, with a blank between them
abbrev pub location_name : List (List ℕ) → List ℕ
location_name [] = []
location_name (w ∷ ws) = w ++ flat_map behind_space ws

-- what the first argument that says something of this sort says
abbrev pub first_said : (Argument → Option (List ℕ)) → List Argument → Option (List ℕ)
first_said sort args = option_and_then sort (find (λ a. is_some (sort a)) args)

-- the bytes of a zone, 0 where there is no size of one
abbrev pub bytes_or_none : Option (List ℕ) → ℕ
bytes_or_none size = unwrap_or (option_and_then zone_size size) 0

-- one more, if there is one
abbrev pub and_then_one : List (List ℕ) → Option (List ℕ) → List (List ℕ)
and_then_one names None = names
and_then_one names (Some name) = names ++ name ∷ []

-- the name of a location, of an upstream
abbrev pub name_if_location : Kind → Directive → Option (List ℕ)
name_if_location Location d = Some (location_name (arguments_of d))
name_if_location _ d = None

-- the name of an upstream block
abbrev pub name_if_upstream : Kind → Directive → Option (List ℕ)
name_if_upstream Upstream d = Some (first_of (arguments_of d))
name_if_upstream _ d = None

-- whether a directive is a `server` block of `http`
abbrev pub is_server : Kind → Directive → Bool
is_server Server d = has_block d
is_server _ d = false

-- a directive of this kind and these arguments, noted behind what stands before it
abbrev pub noted_behind : Earlier → Kind → List Argument → Directive → Earlier
noted_behind e k args d = record {
  zone_names = and_then_one e.zone_names (first_said declared_name args);
  zone_bytes = e.zone_bytes + bytes_or_none (first_said declared_size args);
  location_names = and_then_one e.location_names (name_if_location k d);
  upstream_names = and_then_one e.upstream_names (name_if_upstream k d);
  has_server = e.has_server || is_server k d;
}

-- a place, noted behind what stands before it
abbrev pub noted : Earlier → Place → Earlier
noted e p = noted_behind e (kind_at p) (arguments_at p) p.directive

-- nothing stands before
abbrev pub nothing : Earlier
nothing = record { zone_names = []; zone_bytes = 0; location_names = []; upstream_names = []; has_server = false }

-- the names of the zones that arguments declare, of request zones or of connection zones
abbrev pub names_if_req : Kind → List Argument → List (List ℕ)
names_if_req ReqZone args = filter_map declared_name args
names_if_req _ args = []

-- the names of the connection zones that a directive declares
abbrev pub names_if_conn : Kind → List Argument → List (List ℕ)
names_if_conn ConnZone args = filter_map declared_name args
names_if_conn _ args = []

-- the names of the zones that these places declare, by kind
abbrev pub req_names : List Place → List (List ℕ)
req_names ps = flat_map (λ (p : Place). names_if_req (kind_at p) (arguments_at p)) ps

-- the names of the connection zones
abbrev pub conn_names : List Place → List (List ℕ)
conn_names ps = flat_map (λ (p : Place). names_if_conn (kind_at p) (arguments_at p)) ps

-- the names of both kinds
abbrev pub zones_named : List Place → ZoneNames
zones_named ps = record { req = req_names ps; conn = conn_names ps }

-- what the rules look at: the zones of the text, what stands before, and a place with what its directive
-- and the arguments of it are
pub record Seen : Type 0 where
  pub text : ZoneNames
  pub earlier : Earlier
  pub kind : Kind
  pub arguments : List Argument
  pub place : Place

-- what is seen at a place
abbrev pub seen_at : ZoneNames → Earlier → Place → Seen
seen_at text e p = record { text = text; earlier = e; kind = kind_at p; arguments = arguments_at p; place = p }

-- Rule 2: a second `server` block in `http`.
abbrev pub is_server_block : Directive → Bool
is_server_block d = is_called (codes "server") d && has_block d

-- a `server` block of `http` behind another one
abbrev pub second_server : Kind → Directive → List Directive → Bool
second_server Server d before = has_block d && list_any is_server_block before
second_server _ d before = false

-- Rule 3: a named directive at a read level that isn't its own.
abbrev pub misplaced : Kind → Bool
misplaced Misplaced = true
misplaced _ = false

-- Rule 4: a wrong number of arguments, or a block missing or not wanted.
abbrev pub is_formed : Kind → ℕ → Bool → Bool
is_formed Http n block = n == 0 && block
is_formed Server n block = n == 0 && block
is_formed Upstream n block = n == 1 && block
is_formed Location n block = (n == 1 || n == 2) && block
is_formed ReqZone n block = n == 3 && not block
is_formed ConnZone n block = n == 2 && not block
is_formed LimitReq n block = nat_le 1 n && not block
is_formed LimitConn n block = n == 2 && not block
is_formed Status n block = n == 1 && not block
is_formed DryRun n block = n == 1 && not block
is_formed ProxyPass n block = n == 1 && not block
is_formed PeerZone n block = n == 2 && not block
is_formed Peer n block = nat_le 1 n && not block
is_formed LeastConn n block = n == 0 && not block
is_formed _ n block = true

-- Rule 5: an argument that the directive doesn't have.
abbrev pub is_unknown : Argument → Bool
is_unknown Unknown = true
is_unknown _ = false

-- Rule 6: a size that isn't digits with at most one of `k`, `K`, `m`, `M`.
abbrev pub has_bad_size : Argument → Bool
has_bad_size a = option_map_or (λ size. is_none (size_of size)) (declared_size a) false

-- whether an argument has a size that passes the test
abbrev pub has_size : (ℕ → Bool) → Argument → Bool
has_size test a = option_map_or test (option_and_then size_of (declared_size a)) false

-- Rule 7: a size below 32,768.
abbrev pub is_small : ℕ → Bool
is_small bytes = nat_lt bytes 32768

-- Rule 8: a size above 67,108,864, or a sum of the sizes up to this directive above 268,435,456.
abbrev pub is_large : ℕ → ℕ → Bool
is_large earlier bytes = nat_lt 67108864 bytes || nat_lt 268435456 (earlier + bytes)

-- Rule 9: a rate that isn't `Nr/s` or `Nr/m` with N from 1 to 1,000,000.
abbrev pub has_bad_rate : Argument → Bool
has_bad_rate (Rate text) = is_none (rate_of text)
has_bad_rate _ = false

-- Rule 10: another number, switch, name or address out of its range or form.
abbrev pub is_name : List ℕ → Bool
is_name w = nat_le 1 (length w) && nat_le (length w) 255

-- `on` or `off`
abbrev pub is_switch : List ℕ → Bool
is_switch w = is_same w (codes "on") || is_same w (codes "off")

-- an argument whose value is outside its range
abbrev pub is_out_of_range : Argument → Bool
is_out_of_range (Zone name size) = not (is_name name)
is_out_of_range (Name name) = not (is_name name)
is_out_of_range (Use name) = not (is_name name)
is_out_of_range (Number text low most) = not (is_number_in low most text)
is_out_of_range (Switch text) = not (is_switch text)
is_out_of_range (Time text) = is_none (time_of text)
is_out_of_range (Address text) = not (is_name text)
is_out_of_range _ = false

-- Rule 11: `limit_req` or `limit_conn` names no zone of its kind in the text.
abbrev pub uses_one_of : List (List ℕ) → Argument → Bool
uses_one_of names a = option_map_or (λ name. list_any (is_same name) names) (used_name a) false

-- a limit of a zone that the text doesn't declare
abbrev pub names_no_zone : ZoneNames → Kind → List Argument → Bool
names_no_zone text LimitReq args = not (list_any (uses_one_of text.req) args)
names_no_zone text LimitConn args = not (list_any (uses_one_of text.conn) args)
names_no_zone text _ args = false

-- Rule 12: a zone's name that an earlier zone has.
abbrev pub declares_one_of : List (List ℕ) → Argument → Bool
declares_one_of names a = option_map_or (λ name. list_any (is_same name) names) (declared_name a) false

-- Rule 13: a directive or a parameter twice.
abbrev pub is_once : Kind → Bool
is_once Http = true
is_once Status = true
is_once DryRun = true
is_once ProxyPass = true
is_once PeerZone = true
is_once _ = false

-- a directive twice in one block
abbrev pub is_again : Kind → Directive → List Directive → Bool
is_again k d before = is_once k && has_called (name_of d) before

-- whether a word of `limit_req` names this zone
abbrev pub is_use_of : List ℕ → List ℕ → Bool
is_use_of zone w = option_map_or (is_same zone) (value_of (codes "zone=") w) false

-- whether a directive that limits requests, or connections, names this zone
abbrev pub limits_by : Kind → List ℕ → Directive → Bool
limits_by LimitReq zone d = is_called (codes "limit_req") d && list_any (is_use_of zone) (arguments_of d)
limits_by LimitConn zone d = is_called (codes "limit_conn") d && is_same zone (first_of (arguments_of d))
limits_by _ zone d = false

-- the same zone twice in one block
abbrev pub limits_again : Kind → List Directive → Argument → Bool
limits_again k before a = option_map_or (λ zone. list_any (limits_by k zone) before) (used_name a) false

-- the arguments that may stand in a directive once
abbrev pub parameters : Kind → List (List ℕ) → List (List ℕ)
parameters ReqZone words = behind_first words
parameters ConnZone words = behind_first words
parameters LimitReq words = words
parameters Peer words = behind_first words
parameters _ words = []

-- a parameter that is given again, but for `nodelay` and `delay`
abbrev pub is_delay : List ℕ → Bool
is_delay name = is_same name (codes "delay") || is_same name (codes "nodelay")

-- a word is the parameter of this name
abbrev pub is_parameter : List ℕ → List ℕ → Bool
is_parameter name w = is_same name (parameter_name w)

-- a parameter that stands among these words again; of `delay` and `nodelay` the later one counts
abbrev pub is_repeated : List ℕ → List (List ℕ) → Bool
is_repeated w ws = not (is_delay (parameter_name w)) && list_any (is_parameter (parameter_name w)) ws

-- one of these parameters stands there twice
abbrev pub has_repeats : List (List ℕ) → Bool
has_repeats [] = false
has_repeats (w ∷ ws) = is_repeated w ws || has_repeats ws

-- a directive, a parameter or a limit of a zone that stands there twice
abbrev pub is_twice : Kind → List Argument → Place → Bool
is_twice k args p =
    is_again k p.directive p.before
    || has_repeats (parameters k (arguments_of p.directive))
    || list_any (limits_again k p.before) args

-- Rule 14: the 17th zone, the 65th server of a list, the 65th location, the 9th limit of a kind in a block.
abbrev pub is_backup_word : List ℕ → Bool
is_backup_word w = is_same w (codes "backup")

-- a server with the word `backup`
abbrev pub is_backup : Directive → Bool
is_backup d = list_any is_backup_word (behind_first (arguments_of d))

-- a server of the list to which a server belongs
abbrev pub is_in_list_of : Bool → Directive → Bool
is_in_list_of backup d = is_called (codes "server") d && (if is_backup d then backup else not backup)

-- one zone, server or limit more than there may be
abbrev pub is_too_many : Earlier → Kind → Directive → List Directive → Bool
is_too_many e ReqZone d before = nat_le 16 (length e.zone_names)
is_too_many e ConnZone d before = nat_le 16 (length e.zone_names)
is_too_many e PeerZone d before = nat_le 16 (length e.zone_names)
is_too_many e Peer d before = nat_le 64 (count_by (is_in_list_of (is_backup d)) before)
is_too_many e Location d before = nat_le 64 (length e.location_names)
is_too_many e LimitReq d before = nat_le 8 (count_by (is_called (codes "limit_req")) before)
is_too_many e LimitConn d before = nat_le 8 (count_by (is_called (codes "limit_conn")) before)
is_too_many e _ d before = false

-- Rule 15: a location's name that an earlier location has byte for byte, an upstream's name that an
-- earlier upstream has without regard to the case of ASCII letters.
abbrev pub has_taken_name : Earlier → Kind → Directive → Bool
has_taken_name e Location d = list_any (is_same (location_name (arguments_of d))) e.location_names
has_taken_name e Upstream d = list_any (is_same_name (first_of (arguments_of d))) e.upstream_names
has_taken_name e _ d = false

-- Rule 16: a key expression that is none.
abbrev pub is_bad_key : Argument → Bool
is_bad_key (Key text) = is_none (expr_of text)
is_bad_key _ = false

-- Rule 17: an upstream without a primary server.
abbrev pub is_primary : Directive → Bool
is_primary d = is_called (codes "server") d && not (is_backup d)

-- an upstream block without a server of the first list
abbrev pub lacks_primary : Kind → Directive → Bool
lacks_primary Upstream d = not (list_any is_primary (inner_of d))
lacks_primary _ d = false

-- Rule 18: a method that isn't built.
abbrev pub is_other_method : Kind → Bool
is_other_method OtherMethod = true
is_other_method _ = false

-- a rule's number, and its test
pub record Rule : Type 0 where
  pub number : ℕ
  pub is_broken : Seen → Bool

-- a rule of what a directive is
abbrev pub of_kind : ℕ → (Kind → Place → Bool) → Rule
of_kind number test = record { number = number; is_broken = λ seen. test seen.kind seen.place }

-- a rule of each argument
abbrev pub of_arguments : ℕ → (Earlier → Argument → Bool) → Rule
of_arguments number test = record { number = number; is_broken = λ seen. list_any (test seen.earlier) seen.arguments }

-- rules of a directive as a whole
abbrev pub form_rules : List Rule
form_rules =
    of_kind 2 (λ k p. second_server k p.directive p.before)
    ∷ of_kind 3 (λ k p. misplaced k)
    ∷ of_kind 4 (λ k p. not (is_formed k (length (arguments_of p.directive)) (has_block p.directive)))
    ∷ []

-- rules of each argument by itself
abbrev pub argument_rules : List Rule
argument_rules =
    of_arguments 5 (λ e a. is_unknown a)
    ∷ of_arguments 6 (λ e a. has_bad_size a)
    ∷ of_arguments 7 (λ e a. has_size is_small a)
    ∷ of_arguments 8 (λ e a. has_size (is_large e.zone_bytes) a)
    ∷ of_arguments 9 (λ e a. has_bad_rate a)
    ∷ of_arguments 10 (λ e a. is_out_of_range a)
    ∷ []

-- rules of a directive among others
abbrev pub order_rules : List Rule
order_rules =
    record { number = 11; is_broken = λ seen. names_no_zone seen.text seen.kind seen.arguments }
    ∷ of_arguments 12 (λ e a. declares_one_of e.zone_names a)
    ∷ record { number = 13; is_broken = λ seen. is_twice seen.kind seen.arguments seen.place }
    ∷ record { number = 14; is_broken = λ seen. is_too_many seen.earlier seen.kind seen.place.directive seen.place.before }
    ∷ record { number = 15; is_broken = λ seen. has_taken_name seen.earlier seen.kind seen.place.directive }
    ∷ of_arguments 16 (λ e a. is_bad_key a)
    ∷ of_kind 17 (λ k p. lacks_primary k p.directive)
    ∷ of_kind 18 (λ k p. is_other_method k)
    ∷ []

-- the rules, in their order
abbrev pub rules : List Rule
rules = form_rules ++ argument_rules ++ order_rules

-- the first of these rules that is broken
abbrev pub first_broken : List Rule → Seen → Option ℕ
first_broken [] seen = None
first_broken (r ∷ rs) seen = if r.is_broken seen then Some r.number else first_broken rs seen

-- the line of a fault, and its rule
pub record Fault : Type 0 where
  pub line : ℕ
  pub rule : ℕ

-- Rule 1, behind all others: no `server` block in an `http` block.
abbrev pub without_server : Earlier → Option Fault
without_server e = if e.has_server then None else Some (record { line = 1; rule = 1 })

-- the fault of a place, if it breaks a rule
abbrev pub fault_at : ZoneNames → Earlier → Place → Option Fault
fault_at text e p = option_map (λ rule. record { line = line_of p.directive; rule = rule }) (first_broken rules (seen_at text e p))

-- the first of two faults
abbrev pub or_fault : Option Fault → Option Fault → Option Fault
or_fault None later = later
or_fault (Some fault) later = Some fault

-- The first fault of the places from here on, behind these, in a text with these zones.
abbrev pub first_fault : ZoneNames → Earlier → List Place → Option Fault
first_fault text e [] = without_server e
first_fault text e (p ∷ ps) = or_fault (fault_at text e p) (first_fault text (noted e p) ps)

-- the first fault of a tree's places
abbrev pub fault_among : List Place → Option Fault
fault_among places = first_fault (zones_named places) nothing places

-- the first fault of a tree, if it has one
abbrev pub fault_of : List Directive → Option Fault
fault_of ds = fault_among (places_of ds)
