-- The directives that are read, in the order of the text, each with its place.
use Rattle.std.specs.Prelude.{ℕ, Bool, List, [], ◌∷◌, ◌++◌, Option, None, Some, map, codes, unwrap_or, if◌then◌else◌}
use Rattle.std.specs.Option.{option_map}
use Rattle.directive_text.specs.declared.tree.Directive.{Directive}
use Rattle.directive_text.specs.declared.tree.Directive.TheOpen.{Directive-F}
use Rattle.directive_text.specs.declared.tree.Directive.TheFolds.{fold-Directive}
use Rattle.config_rules.specs.declared.kind.Context.{Context}
use Rattle.config_rules.specs.declared.kind.Context.TheVariants.{Top}
use Rattle.config_rules.specs.declared.kind.Kind.{Kind}
use Rattle.config_rules.specs.Words.{name_of, has_block, inner_of, has_called}
use Rattle.config_rules.specs.Kinds.{kind_of, inner_context}

-- for each setting that is inherited, the innermost block that has a directive of it, or none
pub record Sources : Type 0 where
  pub req : List Directive
  pub conn : List Directive
  pub req_status : List Directive
  pub conn_status : List Directive
  pub req_dry : List Directive
  pub conn_dry : List Directive

-- no block has any
abbrev pub no_sources : Sources
no_sources = record { req = []; conn = []; req_status = []; conn_status = []; req_dry = []; conn_dry = [] }

-- the block itself where it has a directive of this name, else the one around
abbrev pub taken : List ℕ → List Directive → List Directive → List Directive
taken name own around = if has_called name own then own else around

-- the sources of a block, from those of the block around it
abbrev pub inherited : List Directive → Sources → Sources
inherited own around = record {
  req = taken (codes "limit_req") own around.req;
  conn = taken (codes "limit_conn") own around.conn;
  req_status = taken (codes "limit_req_status") own around.req_status;
  conn_status = taken (codes "limit_conn_status") own around.conn_status;
  req_dry = taken (codes "limit_req_dry_run") own around.req_dry;
  conn_dry = taken (codes "limit_conn_dry_run") own around.conn_dry;
}

-- a block that is read: its context, its directives, and the sources of its settings
pub record Scope : Type 0 where
  pub context : Context
  pub block : List Directive
  pub sources : Sources

-- the text itself
abbrev pub top : List Directive → Scope
top ds = record { context = Top; block = ds; sources = no_sources }

-- a directive in the block that holds it, behind those before it
pub record Place : Type 0 where
  pub scope : Scope
  pub before : List Directive
  pub directive : Directive

-- what a directive is in this block
abbrev pub kind_in : Scope → Directive → Kind
kind_in scope d = kind_of scope.context (name_of d)

-- what a directive is at its place
abbrev pub kind_at : Place → Kind
kind_at p = kind_in p.scope p.directive

-- the context of a directive's block, where it has one that is read
abbrev pub context_within : Kind → Bool → Option Context
context_within k block = if block then inner_context k else None

-- a directive's own block, where it is read
abbrev pub scope_within : Scope → Directive → Option Scope
scope_within scope d =
    option_map (λ context. record { context = context; block = inner_of d; sources = inherited (inner_of d) scope.sources })
    (context_within (kind_in scope d) (has_block d))

-- what a directive gives in a block, behind the directives before it
abbrev pub Walk : Type 0
Walk = Directive → Scope → List Directive → List Place

-- the places of a block's directives, each with its own walk, behind the directives before them
abbrev pub in_order : Scope → List Directive → List Directive → List Walk → List Place
in_order scope before (d ∷ ds) (walk ∷ walks) = walk d scope before ++ in_order scope (before ++ d ∷ []) ds walks
in_order scope before _ _ = []

-- the places inside a directive's block, where it is read
abbrev pub inside : Option Scope → List Walk → List Place
inside None walks = []
inside (Some scope) walks = in_order scope [] scope.block walks

-- a directive's place, and then those inside its block, from the walks of the directives there
abbrev pub walk_step : Directive-F Walk → Walk
walk_step layer d scope before =
    record { scope = scope; before = before; directive = d } ∷ inside (scope_within scope d) (unwrap_or layer.block [])

-- the walk of a directive
abbrev pub walked : Directive → Walk
walked = fold-Directive Walk walk_step

-- the places of directives in a block, behind others
abbrev pub places_from : Scope → List Directive → List Directive → List Place
places_from scope before ds = in_order scope before ds (map walked ds)

-- the places of a tree
abbrev pub places_of : List Directive → List Place
places_of ds = places_from (top ds) [] ds
