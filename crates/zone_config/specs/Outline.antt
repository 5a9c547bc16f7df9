-- What one walk over the places finds, from which the rest of a configuration is built.
use Rattle.std.specs.Prelude.{List, Option, None, Some}
use Rattle.std.specs.List.{filter_map}
use Rattle.directive_text.specs.declared.tree.Directive.{Directive}
use Rattle.config_rules.specs.declared.kind.Kind.TheVariants.{Server, Upstream, Location}
use Rattle.config_rules.specs.InOrder.{Place, kind_at}

-- an upstream's directive
abbrev pub if_upstream : Place → Option Directive
if_upstream p = elim (kind_at p) [ Upstream ↦ Some p.directive | _ ↦ None ]

-- a server's place, or a location's
abbrev pub if_level : Place → Option Place
if_level p = elim (kind_at p) [ Server ↦ Some p | Location ↦ Some p | _ ↦ None ]

-- the directives of the upstreams, in their order
abbrev pub upstream_directives : List Place → List Directive
upstream_directives places = filter_map if_upstream places

-- the places of the server and of the locations, in their order
abbrev pub level_places : List Place → List Place
level_places places = filter_map if_level places
