-- What a place of a text without faults has: it keeps the rules, and is one of the walk.
use Rattle.std.proofs.Common.{◌≡◌, ℕ, Bool, true, false, List, [], ◌∷◌, ◌++◌, None, Some, codes, refl, sym, ◌∙◌, ap, subst}
use Rattle.std.specs.Prelude.{not}
use Rattle.std.specs.List.{All, Contains, find, list_any}
use Rattle.std.specs.Cmp.Lexicographic.{bytes_decides}
use Rattle.std.proofs.lemmas.Bool.{not-false}
use Rattle.std.proofs.lemmas.List.Elements.{All-nil, All-cons, All-head, All-tail, All-contains_itself}
use Rattle.directive_text.specs.declared.tree.Directive.{Directive}
use Rattle.config_rules.specs.declared.kind.Context.{Context}
use Rattle.config_rules.specs.declared.kind.Context.TheVariants.{Top, Http, Server, Location, Upstream}
use Rattle.config_rules.specs.declared.kind.Kind.{Kind}
use Rattle.config_rules.specs.declared.kind.Kind.TheVariants as kind
use Rattle.config_rules.specs.declared.earlier.Earlier.{Earlier}
use Rattle.config_rules.specs.declared.earlier.ZoneNames.{ZoneNames}
use Rattle.config_rules.specs.Words.{has_block, inner_of, is_called, name_of}
use Rattle.config_rules.specs.Kinds.{kind_of}
use Rattle.config_rules.specs.InOrder.{Place, Scope, context_within, kind_at, places_of, scope_within}
use Rattle.config_rules.specs.Rules.{fault_at, first_fault, is_primary, lacks_primary, misplaced, noted, nothing}
use Rattle.config_rules.proofs.Around.{Around, Each, IsWithin, all_around, is_within}
use Rattle.zone_config.proofs.Keeps.{Keeps, keeps_at, seen_as}
use Rattle.zone_config.proofs.NextPlace.{no_fault}

-- a place of these places that keeps the rules
pub record Sound (text : ZoneNames) (places : List Place) (p : Place) : Type 0 where
  pub earlier : Earlier
  pub keeps : Keeps (seen_as text earlier p (kind_at p))
  pub listed : Contains places p

sound_from : (text : ZoneNames) (places : List Place) (e : Earlier) (ps : List Place) → first_fault text e ps ≡ None → All (Contains places) ps → All (Sound text places) ps
sound_from text places e [] sound listed = All-nil (Sound text places)
sound_from text places e (p ∷ ps) sound listed =
    let both = no_fault (fault_at text e p) (first_fault text (noted e p) ps) sound in
    All-cons (Sound text places) p ps
    (record { earlier = e; keeps = keeps_at text e p both.0; listed = All-head (Contains places) p ps listed })
    (sound_from text places (noted e p) ps both.1 (All-tail (Contains places) p ps listed))

pub all_sound : (text : ZoneNames) (places : List Place) → first_fault text nothing places ≡ None → All (Sound text places) places
all_sound text places sound = sound_from text places nothing places sound (All-contains_itself places)

-- an upstream's block has a primary server
abbrev pub Serves : Scope → Type 0
Serves s = s.context ≡ Upstream → list_any is_primary s.block ≡ true

-- the kind of a directive that has a block with servers
upstream_kind : (k : Kind) (b : Bool) (c : Context) → context_within k b ≡ Some c → c ≡ Upstream → k ≡ kind.Upstream
upstream_kind kind.Upstream b c e u = refl
upstream_kind kind.Http true c e u = absurd (cc)
upstream_kind kind.Server true c e u = absurd (cc)
upstream_kind kind.Location true c e u = absurd (cc)
upstream_kind k false c e u = absurd (cc)
upstream_kind _ true c e u = absurd (cc)

serves : (text : ZoneNames) (places : List Place) (p : Place) (s : Scope) → Sound text places p → scope_within p.scope p.directive ≡ Some s → Serves s
serves text places p s sound is upstream =
    let w : IsWithin p.scope p.directive s = is_within p.scope p.directive s is in
    let kind_is : kind_at p ≡ kind.Upstream = upstream_kind (kind_at p) (has_block p.directive) s.context w.context upstream in
    let lacks : lacks_primary (kind_at p) p.directive ≡ false = sound.keeps.served in
    let has : not (list_any is_primary (inner_of p.directive)) ≡ false = subst (λ k. lacks_primary k p.directive ≡ false) kind_is lacks in
    subst (λ block. list_any is_primary block ≡ true) (sym w.block) (not-false (list_any is_primary (inner_of p.directive)) has)

-- a place of a text without faults, and what is around it
abbrev pub Seated : ZoneNames → List Place → Place → Type 0
Seated text places p = Around (Sound text places) Serves p

pub all_seated : (text : ZoneNames) (ds : List Directive) → first_fault text nothing (places_of ds) ≡ None → All (Seated text (places_of ds)) (places_of ds)
all_seated text ds sound =
    all_around (Sound text (places_of ds)) Serves (serves text (places_of ds)) ds (λ e. absurd (cc)) (all_sound text (places_of ds) sound)

-- what a place keeps, as one of this kind
pub kept_as : (text : ZoneNames) (places : List Place) (p : Place) (k : Kind) (s : Sound text places p) → kind_at p ≡ k → Keeps (seen_as text s.earlier p k)
kept_as text places p k s is = subst (λ j. Keeps (seen_as text s.earlier p j)) is s.keeps

-- a directive of a name has it
pub named_so : (name : List ℕ) (d : Directive) → is_called name d ≡ true → name_of d ≡ name
named_so name d e = (bytes_decides (name_of d) name).0 e

-- where the directives of limits are read, they are those
limit_req_is : (c : Context) → misplaced (kind_of c (codes "limit_req")) ≡ false → kind_of c (codes "limit_req") ≡ kind.LimitReq
limit_req_is Top e = absurd (cc)
limit_req_is Http e = refl
limit_req_is Server e = refl
limit_req_is Location e = refl
limit_req_is Upstream e = absurd (cc)

limit_conn_is : (c : Context) → misplaced (kind_of c (codes "limit_conn")) ≡ false → kind_of c (codes "limit_conn") ≡ kind.LimitConn
limit_conn_is Top e = absurd (cc)
limit_conn_is Http e = refl
limit_conn_is Server e = refl
limit_conn_is Location e = refl
limit_conn_is Upstream e = absurd (cc)

req_status_is : (c : Context) → misplaced (kind_of c (codes "limit_req_status")) ≡ false → kind_of c (codes "limit_req_status") ≡ kind.Status
req_status_is Top e = absurd (cc)
req_status_is Http e = refl
req_status_is Server e = refl
req_status_is Location e = refl
req_status_is Upstream e = absurd (cc)

conn_status_is : (c : Context) → misplaced (kind_of c (codes "limit_conn_status")) ≡ false → kind_of c (codes "limit_conn_status") ≡ kind.Status
conn_status_is Top e = absurd (cc)
conn_status_is Http e = refl
conn_status_is Server e = refl
conn_status_is Location e = refl
conn_status_is Upstream e = absurd (cc)

-- what a directive of this name is, where the name can be nothing else
pub called_is : (name : List ℕ) (k : Kind) → ((c : Context) → misplaced (kind_of c name) ≡ false → kind_of c name ≡ k) →
    (text : ZoneNames) (places : List Place) (p : Place) → Sound text places p → is_called name p.directive ≡ true → kind_at p ≡ k
called_is name k is text places p s called =
    let named : name_of p.directive ≡ name = named_so name p.directive called in
    let kind_is : kind_at p ≡ kind_of p.scope.context name = ap (kind_of p.scope.context) named in
    kind_is ∙ is p.scope.context (subst (λ j. misplaced j ≡ false) kind_is s.keeps.placed)

pub is_limit_req : (text : ZoneNames) (places : List Place) (p : Place) → Sound text places p → is_called (codes "limit_req") p.directive ≡ true → kind_at p ≡ kind.LimitReq
is_limit_req = called_is (codes "limit_req") kind.LimitReq limit_req_is

pub is_limit_conn : (text : ZoneNames) (places : List Place) (p : Place) → Sound text places p → is_called (codes "limit_conn") p.directive ≡ true → kind_at p ≡ kind.LimitConn
is_limit_conn = called_is (codes "limit_conn") kind.LimitConn limit_conn_is

pub is_req_status : (text : ZoneNames) (places : List Place) (p : Place) → Sound text places p → is_called (codes "limit_req_status") p.directive ≡ true → kind_at p ≡ kind.Status
is_req_status = called_is (codes "limit_req_status") kind.Status req_status_is

pub is_conn_status : (text : ZoneNames) (places : List Place) (p : Place) → Sound text places p → is_called (codes "limit_conn_status") p.directive ≡ true → kind_at p ≡ kind.Status
is_conn_status = called_is (codes "limit_conn_status") kind.Status conn_status_is

-- in an upstream's block a server is one of its servers, and `zone` its zone
pub is_peer : (p : Place) → p.scope.context ≡ Upstream → is_called (codes "server") p.directive ≡ true → kind_at p ≡ kind.Peer
is_peer p upstream called =
    ap (kind_of p.scope.context) (named_so (codes "server") p.directive called) ∙ ap (λ c. kind_of c (codes "server")) upstream

pub is_peer_zone : (p : Place) → p.scope.context ≡ Upstream → is_called (codes "zone") p.directive ≡ true → kind_at p ≡ kind.PeerZone
is_peer_zone p upstream called =
    ap (kind_of p.scope.context) (named_so (codes "zone") p.directive called) ∙ ap (λ c. kind_of c (codes "zone")) upstream

-- the first directive of a block that passes a test has a place
pub record Found (P : Place → Type 0) (scope : Scope) (d : Directive) : Type 0 where
  pub before : List Directive
  pub here : P (record { scope = scope; before = before; directive = d })

found_here : (P : Place → Type 0) (test : Directive → Bool) (scope : Scope) (before : List Directive) (x : Directive) (ds : List Directive) (d : Directive) (b : Bool) → test x ≡ b →
    P (record { scope = scope; before = before; directive = x }) → find test (x ∷ ds) ≡ Some d → (find test ds ≡ Some d → Found P scope d × (test d ≡ true)) → Found P scope d × (test d ≡ true)
found_here P test scope before x ds d true is here e later =
    let same : x ≡ d = (let u = rw is at e in cc) in
    (record { before = before; here = subst (λ y. P (record { scope = scope; before = before; directive = y })) same here }, subst (λ y. test y ≡ true) same is)
found_here P test scope before x ds d false is here e later = later (rw is at e)

pub each_found : (P : Place → Type 0) (test : Directive → Bool) (scope : Scope) (before ds : List Directive) (d : Directive) → Each P scope before ds → find test ds ≡ Some d → Found P scope d × (test d ≡ true)
each_found P test scope before [] d each e = absurd (cc)
each_found P test scope before (x ∷ ds) d each e =
    found_here P test scope before x ds d (test x) refl each.0 e (λ later. each_found P test scope (before ++ x ∷ []) ds d each.1 later)
