-- Each directive of a block that is read has a place in the walk: what holds of each place of a tree holds of each
-- directive in the block around a place, in the blocks from which its settings come, and in its own block.
use Rattle.std.proofs.Common.{◌≡◌, ℕ, zero, suc, ◌+◌, ◌<◌, List, [], ◌∷◌, ◌++◌, Option, None, Some, codes, map, length, refl, sym, ◌∙◌, ap, subst, arith, length-append}
use Rattle.std.specs.Option.{option_map}
use Rattle.std.specs.List.{All}
use Rattle.std.proofs.lemmas.Bool.{cond_both}
use Rattle.std.proofs.lemmas.List.Elements.{All-nil, All-cons, All-head, All-tail, All-same, All-append}
use Rattle.directive_text.specs.declared.tree.Directive.{Directive}
use Rattle.config_rules.specs.declared.kind.Context.{Context}
use Rattle.config_rules.specs.Words.{has_block, has_called, inner_of}
use Rattle.config_rules.specs.InOrder.{Place, Scope, Sources, context_within, inherited, inside, kind_in, no_sources, places_from, places_of, scope_within, taken, top, walked}
use Rattle.config_rules.proofs.Walks.{inside_scope, places_more}

-- it holds of these directives of a block, each at its place behind those before it
abbrev pub Each : (Place → Type 0) → Scope → List Directive → List Directive → Type 0
Each P scope before [] = Unit {0}
Each P scope before (d ∷ ds) = P (record { scope = scope; before = before; directive = d }) × Each P scope (before ++ d ∷ []) ds

-- it holds of each directive of a block from which a setting comes
abbrev pub Source : (Place → Type 0) → List Directive → Type 0
Source P block = ((scope : Scope) × Each P scope [] block)

-- so of all the blocks from which settings come
pub record Sourced (P : Place → Type 0) (s : Sources) : Type 0 where
  pub req : Source P s.req
  pub conn : Source P s.conn
  pub req_status : Source P s.req_status
  pub conn_status : Source P s.conn_status
  pub req_dry : Source P s.req_dry
  pub conn_dry : Source P s.conn_dry

-- a block that is read: it holds of each of its directives, and of the blocks from which its settings come
pub record Whole (P : Place → Type 0) (R : Scope → Type 0) (scope : Scope) : Type 0 where
  pub each : Each P scope [] scope.block
  pub sourced : Sourced P scope.sources
  pub own : R scope

-- a place, the block around it, and its own block if that is read
pub record Around (P : Place → Type 0) (R : Scope → Type 0) (p : Place) : Type 0 where
  pub itself : P p
  pub around : Whole P R p.scope
  pub within : (s : Scope) → scope_within p.scope p.directive ≡ Some s → Whole P R s

-- the parts of a list
pub all_front : {X : Type 0} (P : X → Type 0) (xs ys : List X) → All P (xs ++ ys) → All P xs
all_front P [] ys h = All-nil P
all_front P (x ∷ xs) ys h = All-cons P x xs (All-head P x (xs ++ ys) h) (all_front P xs ys (All-tail P x (xs ++ ys) h))

pub all_back : {X : Type 0} (P : X → Type 0) (xs ys : List X) → All P (xs ++ ys) → All P ys
all_back P [] ys h = h
all_back P (x ∷ xs) ys h = all_back P xs ys (All-tail P x (xs ++ ys) h)

-- the places of a block are those of its directives, and more
pub each_of : (P : Place → Type 0) (scope : Scope) (before ds : List Directive) → All P (places_from scope before ds) → Each P scope before ds
each_of P scope before [] h = tt
each_of P scope before (d ∷ ds) h =
    let own : List Place = inside (scope_within scope d) (map walked (inner_of d)) in
    let later : List Place = places_from scope (before ++ d ∷ []) ds in
    let here : Place = record { scope = scope; before = before; directive = d } in
    let all : All P (here ∷ (own ++ later)) = All-same P (here ∷ (own ++ later)) (places_from scope before (d ∷ ds)) (sym (places_more scope before d ds)) h in
    (All-head P here (own ++ later) all, each_of P scope (before ++ d ∷ []) ds (all_back P own later (All-tail P here (own ++ later) all)))

-- a block's settings come from it, or from where those of the block around it do
source_taken : (P : Place → Type 0) (name : List ℕ) (own around : List Directive) → Source P own → Source P around → Source P (taken name own around)
source_taken P name own around here there = cond_both (has_called name own) own around (Source P) (λ _. here) (λ _. there)

sourced_inherited : (P : Place → Type 0) (own : List Directive) (around : Sources) → Source P own → Sourced P around → Sourced P (inherited own around)
sourced_inherited P own around here there = record {
  req = source_taken P (codes "limit_req") own around.req here there.req;
  conn = source_taken P (codes "limit_conn") own around.conn here there.conn;
  req_status = source_taken P (codes "limit_req_status") own around.req_status here there.req_status;
  conn_status = source_taken P (codes "limit_conn_status") own around.conn_status here there.conn_status;
  req_dry = source_taken P (codes "limit_req_dry_run") own around.req_dry here there.req_dry;
  conn_dry = source_taken P (codes "limit_conn_dry_run") own around.conn_dry here there.conn_dry;
}

-- what the block of a directive is, where it is read
pub record IsWithin (scope : Scope) (d : Directive) (s : Scope) : Type 0 where
  pub block : s.block ≡ inner_of d
  pub sources : s.sources ≡ inherited (inner_of d) scope.sources
  pub context : context_within (kind_in scope d) (has_block d) ≡ Some s.context

within_parts : (scope : Scope) (d : Directive) (c : Option Context) (s : Scope) → context_within (kind_in scope d) (has_block d) ≡ c →
    option_map (λ context. record { context = context; block = inner_of d; sources = inherited (inner_of d) scope.sources }) c ≡ Some s → IsWithin scope d s
within_parts scope d None s is e = absurd (cc)
within_parts scope d (Some c) s is e =
    let whole : Scope = record { context = c; block = inner_of d; sources = inherited (inner_of d) scope.sources } in
    let same : whole ≡ s = cc in
    record {
      block = sym (ap (λ (t : Scope). t.block) same);
      sources = sym (ap (λ (t : Scope). t.sources) same);
      context = is ∙ ap (λ (t : Scope). Some t.context) same;
    }

pub is_within : (scope : Scope) (d : Directive) (s : Scope) → scope_within scope d ≡ Some s → IsWithin scope d s
is_within scope d s is = within_parts scope d (context_within (kind_in scope d) (has_block d)) s refl is

-- the block of a directive whose places it holds of
within_whole : (P : Place → Type 0) (R : Scope → Type 0) → ((p : Place) (s : Scope) → P p → scope_within p.scope p.directive ≡ Some s → R s) →
    (scope : Scope) (before : List Directive) (d : Directive) (s : Scope) → scope_within scope d ≡ Some s → P (record { scope = scope; before = before; directive = d }) →
    Sourced P scope.sources → All P (places_from s [] s.block) → Whole P R s
within_whole P R enters scope before d s is here sourced all =
    let w : IsWithin scope d s = is_within scope d s is in
    let each : Each P s [] s.block = each_of P s [] s.block all in
    let source : Source P (inner_of d) = (s, subst (Each P s []) w.block each) in
    record {
      each = each;
      sourced = subst (Sourced P) (sym w.sources) (sourced_inherited P (inner_of d) scope.sources source sourced);
      own = enters (record { scope = scope; before = before; directive = d }) s here is;
    }

-- what is to be shown of a block, for trees with fewer places than this
abbrev Shows : (Place → Type 0) → (Scope → Type 0) → ℕ → Type 0
Shows P R most = (scope : Scope) (before ds : List Directive) → length (places_from scope before ds) < most → Whole P R scope → All P (places_from scope before ds) → All (Around P R) (places_from scope before ds)

inside_around : (P : Place → Type 0) (R : Scope → Type 0) → ((p : Place) (s : Scope) → P p → scope_within p.scope p.directive ≡ Some s → R s) →
    (most : ℕ) → Shows P R most → (scope : Scope) (before : List Directive) (d : Directive) (own : Option Scope) → scope_within scope d ≡ own →
    length (inside (scope_within scope d) (map walked (inner_of d))) < most → P (record { scope = scope; before = before; directive = d }) → Sourced P scope.sources →
    All P (inside (scope_within scope d) (map walked (inner_of d))) → All (Around P R) (inside (scope_within scope d) (map walked (inner_of d)))
inside_around P R enters most shows scope before d None is few here sourced all =
    All-same (Around P R) (inside (scope_within scope d) (map walked (inner_of d))) [] (ap (λ s. inside s (map walked (inner_of d))) is) (All-nil (Around P R))
inside_around P R enters most shows scope before d (Some s) is few here sourced all =
    let places : List Place = inside (scope_within scope d) (map walked (inner_of d)) in
    let same : places ≡ places_from s [] s.block = inside_scope scope d s is in
    let held : All P (places_from s [] s.block) = All-same P (places_from s [] s.block) places (sym same) all in
    let fewer : length (places_from s [] s.block) < most = subst (λ (ps : List Place). length ps < most) same few in
    All-same (Around P R) places (places_from s [] s.block) same
    (shows s [] s.block fewer (within_whole P R enters scope before d s is here sourced held) held)

around_from : (P : Place → Type 0) (R : Scope → Type 0) → ((p : Place) (s : Scope) → P p → scope_within p.scope p.directive ≡ Some s → R s) → (most : ℕ) → Shows P R most
around_from P R enters zero scope before ds few whole all = absurd (omega arith)
around_from P R enters (suc most) scope before [] few whole all = All-nil (Around P R)
around_from P R enters (suc most) scope before (d ∷ ds) few whole all =
    let own : List Place = inside (scope_within scope d) (map walked (inner_of d)) in
    let later : List Place = places_from scope (before ++ d ∷ []) ds in
    let here : Place = record { scope = scope; before = before; directive = d } in
    let same : places_from scope before (d ∷ ds) ≡ here ∷ (own ++ later) = places_more scope before d ds in
    let held : All P (here ∷ (own ++ later)) = All-same P (here ∷ (own ++ later)) (places_from scope before (d ∷ ds)) (sym same) all in
    let fewer : length (here ∷ (own ++ later)) < suc most = subst (λ (ps : List Place). length ps < suc most) same few in
    let both : length (own ++ later) ≡ length own + length later = length-append own later in
    let first : P here = All-head P here (own ++ later) held in
    let rest : All P (own ++ later) = All-tail P here (own ++ later) held in
    All-same (Around P R) (places_from scope before (d ∷ ds)) (here ∷ (own ++ later)) same
    (All-cons (Around P R) here (own ++ later)
    (record {
      itself = first;
      around = whole;
      within = λ s is. within_whole P R enters scope before d s is first whole.sourced (All-same P (places_from s [] s.block) own (sym (inside_scope scope d s is)) (all_front P own later rest));
    })
    (All-append (Around P R) own later
    (inside_around P R enters most (around_from P R enters most) scope before d (scope_within scope d) refl (omega arith) first whole.sourced (all_front P own later rest))
    (around_from P R enters most scope (before ++ d ∷ []) ds (omega arith) whole (all_back P own later rest))))

no_sources_sourced : (P : Place → Type 0) → Sourced P no_sources
no_sources_sourced P = record { req = (top [], tt); conn = (top [], tt); req_status = (top [], tt); conn_status = (top [], tt); req_dry = (top [], tt); conn_dry = (top [], tt) }

-- What holds of each place of a tree holds around each place. What holds of a block by the directive that has it
-- holds of each block that is read.
pub all_around : (P : Place → Type 0) (R : Scope → Type 0) → ((p : Place) (s : Scope) → P p → scope_within p.scope p.directive ≡ Some s → R s) →
    (ds : List Directive) → R (top ds) → All P (places_of ds) → All (Around P R) (places_of ds)
all_around P R enters ds first all =
    around_from P R enters (suc (length (places_of ds))) (top ds) [] ds (omega arith)
    (record { each = each_of P (top ds) [] ds all; sourced = no_sources_sourced P; own = first })
    all
