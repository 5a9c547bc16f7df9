-- One place more.
use Rattle.std.proofs.Common.{ℕ, ◌+◌, ◌<◌, length, get_or, take, ◌≡◌, Bool, true, false, cond, List, [], ◌∷◌, ◌++◌, Option, None, Some, is_some, refl, sym, ◌∙◌, ap}
use Rattle.std.specs.Prelude.{◌||◌}
use Rattle.directive_text.specs.declared.tree.Directive.{Directive}
use Rattle.config_rules.specs.declared.kind.Kind.{Kind}
use Rattle.config_rules.specs.declared.kind.Kind.TheVariants.{Server}
use Rattle.zone_config.specs.declared.data.ZoneSpec.{ZoneSpec}
use Rattle.zone_config.specs.declared.data.Level.{Level}
use Rattle.zone_config.specs.declared.data.Upstream.{Upstream}
use Rattle.config_rules.specs.declared.earlier.Earlier.{Earlier}
use Rattle.config_rules.specs.declared.earlier.ZoneNames.{ZoneNames}
use Rattle.config_rules.specs.InOrder.{Place, kind_at}
use Rattle.config_rules.specs.Rules.{Fault, fault_at, first_fault, is_server, noted, nothing, or_fault, without_server}
use Rattle.std.proofs.lemmas.List.{take_more}
use Rattle.zone_config.specs.Configuration.{Delay, delay_behind, delay_with, level_of, server_among, server_at, server_if}

-- a fault is not passed over
pub no_fault : (fault rest : Option Fault) → or_fault fault rest ≡ None → (fault ≡ None) × (rest ≡ None)
no_fault None rest e = (refl, e)
no_fault (Some f) rest e = absurd (cc)

not_server : (k : Kind) (level : Level) (d : Directive) → server_if k level ≡ None → is_server k d ≡ false
not_server Server level d e = absurd (cc)
not_server _ level d e = refl

none_here : (here later : Option Level) → cond (is_some here) here later ≡ None → (here ≡ None) × (later ≡ None)
none_here None later e = (refl, e)
none_here (Some level) later e = absurd (cc)

has_it : (b : Bool) → (let fault : Fault = record { line = 1; rule = 1 } in cond b None (Some fault) ≡ None) → b ≡ true
has_it true h = refl
has_it false h = absurd (cc)

left_true : (a b : Bool) → (a || b) ≡ true → b ≡ false → a ≡ true
left_true true b h e = refl
left_true false b h e = absurd (cc)

served : (e : Earlier) → without_server e ≡ None → e.has_server ≡ true
served e h = has_it e.has_server h

-- Places that break no rule and have no server stand behind one.
server_before : (text : ZoneNames) (e : Earlier) (zones : List ZoneSpec) (upstreams : List Upstream) (ps : List Place) →
    first_fault text e ps ≡ None → server_among zones upstreams ps ≡ None → e.has_server ≡ true
server_before text e zones upstreams [] sound none = served e sound
server_before text e zones upstreams (p ∷ ps) sound none =
    let rest = no_fault (fault_at text e p) (first_fault text (noted e p) ps) sound in
    let nowhere = none_here (server_at zones upstreams p) (server_among zones upstreams ps) none in
    let later = server_before text (noted e p) zones upstreams ps rest.1 nowhere.1 in
    left_true e.has_server (is_server (kind_at p) p.directive) later (not_server (kind_at p) (level_of zones upstreams p) p.directive nowhere.0)

-- places that break no rule have a server
pub has_server : (text : ZoneNames) (zones : List ZoneSpec) (upstreams : List Upstream) (ps : List Place) →
    first_fault text nothing ps ≡ None → server_among zones upstreams ps ≡ None → ⊥
has_server text zones upstreams ps sound none = let e : false ≡ true = server_before text nothing zones upstreams ps sound none in cc

-- one word more
delay_behind-push : (d : Delay) (ws : List (List ℕ)) (w : List ℕ) → delay_behind d (ws ++ w ∷ []) ≡ delay_with (delay_behind d ws) w
delay_behind-push d [] w = refl
delay_behind-push d (v ∷ ws) w = delay_behind-push (delay_with d v) ws w

pub delay_more : (d : Delay) (ws : List (List ℕ)) (i : ℕ) (w : List ℕ) → i < length ws → w ≡ get_or ws i w →
    delay_behind d (take (i + 1) ws) ≡ delay_with (delay_behind d (take i ws)) w
delay_more d ws i w below is =
    ap (delay_behind d) (take_more ws i w below)
    ∙ delay_behind-push d (take i ws) (get_or ws i w)
    ∙ ap (delay_with (delay_behind d (take i ws))) (sym is)
