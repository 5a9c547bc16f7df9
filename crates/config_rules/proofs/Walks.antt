-- The walk over a tree.
use Rattle.std.proofs.Common.{◌≡◌, ℕ, zero, suc, ◌+◌, ◌<◌, ◌≤◌, List, [], ◌∷◌, ◌++◌, Option, None, Some, map, take, drop, length, get_or, unwrap_or, refl, sym, ◌∙◌, ap, subst, append_assoc, append-nil, add-one, drop-cons, arith}
use Rattle.std.specs.Option.{option_map}
use Rattle.std.proofs.lemmas.List.{take_more}
use Rattle.directive_text.specs.declared.tree.Directive.{Directive}
use Rattle.directive_text.specs.declared.tree.Directive.TheViews.{out-Directive}
use Rattle.directive_text.specs.declared.tree.Directive.TheFolds.{fold_out-Directive, map-Directive}
use Rattle.config_rules.specs.declared.kind.Context.{Context}
use Rattle.config_rules.specs.declared.place.Space.{Space}
use Rattle.config_rules.specs.declared.walk.Frame.{Frame}
use Rattle.config_rules.specs.Words.{inner_of, has_block}
use Rattle.config_rules.specs.InOrder.{Scope, Sources, Walk, walk_step, walked, inside, places_from, scope_within, context_within, kind_in, inherited}
use Rattle.config_rules.specs.Views.{scope_now}
use Rattle.config_rules.specs.Walking.{frame_left, places_left}

-- what a block gives
block_walked : (words : List (List ℕ)) (line : ℕ) (block : Option (List Directive)) →
    unwrap_or (map-Directive Directive Walk walked (record { words = words; line = line; block = block })).block [] ≡ map walked (unwrap_or block [])
block_walked words line None = refl
block_walked words line (Some ds) = refl

-- the place of a directive, and those inside its block
places_first : (scope : Scope) (before : List Directive) (d : Directive) →
    walked d d scope before ≡ record { scope = scope; before = before; directive = d } ∷ inside (scope_within scope d) (map walked (inner_of d))
places_first scope before d =
    ap (λ (w : Walk). w d scope before) (fold_out-Directive Walk walk_step d)
    ∙ ap (λ ws. record { scope = scope; before = before; directive = d } ∷ inside (scope_within scope d) ws)
    (block_walked (out-Directive d).words (out-Directive d).line (out-Directive d).block)

-- one directive, and those behind it
pub places_more : (scope : Scope) (before : List Directive) (d : Directive) (ds : List Directive) →
    places_from scope before (d ∷ ds) ≡ record { scope = scope; before = before; directive = d } ∷ (inside (scope_within scope d) (map walked (inner_of d)) ++ places_from scope (before ++ d ∷ []) ds)
places_more scope before d ds =
    ap (λ ps. ps ++ places_from scope (before ++ d ∷ []) ds) (places_first scope before d)

-- a block that is read gives the places of its directives
inside_of : (context : Option Context) (block : List Directive) (sources : Sources) (s : Scope) →
    option_map (λ c. record { context = c; block = block; sources = sources }) context ≡ Some s →
    inside (option_map (λ c. record { context = c; block = block; sources = sources }) context) (map walked block) ≡ places_from s [] s.block
inside_of None block sources s e = absurd (cc)
inside_of (Some c) block sources s e =
    let same : Scope = record { context = c; block = block; sources = sources } in
    let is : same ≡ s = cc in
    ap (λ (t : Scope). places_from t [] t.block) is

pub inside_scope : (scope : Scope) (d : Directive) (s : Scope) → scope_within scope d ≡ Some s → inside (scope_within scope d) (map walked (inner_of d)) ≡ places_from s [] s.block
inside_scope scope d s e = inside_of (context_within (kind_in scope d) (has_block d)) (inner_of d) (inherited (inner_of d) scope.sources) s e

-- the innermost block stands last
pub places_left-push : (fs : List Frame) (f : Frame) → places_left (fs ++ f ∷ []) ≡ frame_left f ++ places_left fs
places_left-push [] f = sym (append-nil (frame_left f))
places_left-push (g ∷ fs) f = ap (λ ps. ps ++ frame_left g) (places_left-push fs f) ∙ append_assoc (frame_left f) (places_left fs) (frame_left g)

drop-nil : (n : ℕ) → drop n (let none : List Directive = [] in none) ≡ []
drop-nil zero = refl
drop-nil (suc n) = refl

-- a block that is walked to its end
drop_end : (n : ℕ) (ds : List Directive) → length ds ≤ n → drop n ds ≡ []
drop_end n [] h = drop-nil n
drop_end zero (d ∷ ds) h = absurd (omega arith)
drop_end (suc n) (d ∷ ds) h = drop_end n ds (omega arith)

pub frame_done : (f : Frame) → length f.scope.block.now ≤ f.at → frame_left f ≡ []
frame_done f h = ap (λ ds. places_from (scope_now f.scope) (take f.at f.scope.block.now) ds) (drop_end f.at f.scope.block.now h)

-- one step in a block
pub frame_more : (f : Frame) (d : Directive) → f.at < length f.scope.block.now → get_or f.scope.block.now f.at d ≡ d →
    frame_left f ≡ record { scope = scope_now f.scope; before = take f.at f.scope.block.now; directive = d }
    ∷ (inside (scope_within (scope_now f.scope) d) (map walked (inner_of d)) ++ frame_left (record f { at = f.at + 1 }))
frame_more f d below is =
    let rest : drop f.at f.scope.block.now ≡ d ∷ drop (f.at + 1) f.scope.block.now =
    drop-cons f.scope.block.now f.at d below ∙ ap (λ x. x ∷ drop (suc f.at) f.scope.block.now) is ∙ ap (λ n. d ∷ drop n f.scope.block.now) (sym (add-one f.at)) in
    let done : take f.at f.scope.block.now ++ d ∷ [] ≡ take (f.at + 1) f.scope.block.now =
    ap (λ x. take f.at f.scope.block.now ++ x ∷ []) (sym is) ∙ sym (take_more f.scope.block.now f.at d below) in
    ap (places_from (scope_now f.scope) (take f.at f.scope.block.now)) rest
    ∙ places_more (scope_now f.scope) (take f.at f.scope.block.now) d (drop (f.at + 1) f.scope.block.now)
    ∙ ap (λ ds. record { scope = scope_now f.scope; before = take f.at f.scope.block.now; directive = d } ∷ (inside (scope_within (scope_now f.scope) d) (map walked (inner_of d)) ++ places_from (scope_now f.scope) ds (drop (f.at + 1) f.scope.block.now))) done

-- one step in a block, at the directive that is read there
step : (f : Frame) (r : Directive) → f.at < length f.scope.block.now → r ≡ get_or f.scope.block.now f.at r →
    frame_left f ≡ record { scope = scope_now f.scope; before = take f.at f.scope.block.now; directive = get_or f.scope.block.now f.at r }
    ∷ (inside (scope_within (scope_now f.scope) (get_or f.scope.block.now f.at r)) (map walked (inner_of (get_or f.scope.block.now f.at r))) ++ frame_left (record f { at = f.at + 1 }))
step f r below is =
    let P : Directive → Type 0 = λ x. frame_left f ≡ record { scope = scope_now f.scope; before = take f.at f.scope.block.now; directive = x } ∷ (inside (scope_within (scope_now f.scope) x) (map walked (inner_of x)) ++ frame_left (record f { at = f.at + 1 })) in
    subst P is (frame_more f r below (sym is))

-- past a directive whose block isn't read
pub step_by : (frames : List Frame) (f : Frame) (r : Directive) → f.at < length f.scope.block.now → r ≡ get_or f.scope.block.now f.at r →
    scope_within (scope_now f.scope) (get_or f.scope.block.now f.at r) ≡ None →
    places_left (frames ++ f ∷ []) ≡ record { scope = scope_now f.scope; before = take f.at f.scope.block.now; directive = get_or f.scope.block.now f.at r }
    ∷ places_left (frames ++ record f { at = f.at + 1 } ∷ [])
step_by frames f r below is none =
    let d : Directive = get_or f.scope.block.now f.at r in
    let next : Frame = record f { at = f.at + 1 } in
    places_left-push frames f
    ∙ ap (λ ps. ps ++ places_left frames) (step f r below is)
    ∙ ap (λ s. record { scope = scope_now f.scope; before = take f.at f.scope.block.now; directive = d } ∷ ((inside s (map walked (inner_of d)) ++ frame_left next) ++ places_left frames)) none
    ∙ ap (λ ps. record { scope = scope_now f.scope; before = take f.at f.scope.block.now; directive = d } ∷ ps) (sym (places_left-push frames next))

-- into a directive's block
pub step_in : (frames : List Frame) (f : Frame) (r : Directive) (s : Space) → f.at < length f.scope.block.now → r ≡ get_or f.scope.block.now f.at r →
    scope_within (scope_now f.scope) (get_or f.scope.block.now f.at r) ≡ Some (scope_now s) →
    places_left (frames ++ f ∷ []) ≡ record { scope = scope_now f.scope; before = take f.at f.scope.block.now; directive = get_or f.scope.block.now f.at r }
    ∷ places_left ((frames ++ record f { at = f.at + 1 } ∷ []) ++ record { scope = s; at = 0 } ∷ [])
step_in frames f r s below is some =
    let d : Directive = get_or f.scope.block.now f.at r in
    let next : Frame = record f { at = f.at + 1 } in
    let inner : Frame = record { scope = s; at = 0 } in
    places_left-push frames f
    ∙ ap (λ ps. ps ++ places_left frames) (step f r below is)
    ∙ ap (λ ps. record { scope = scope_now f.scope; before = take f.at f.scope.block.now; directive = d } ∷ ((ps ++ frame_left next) ++ places_left frames)) (inside_scope (scope_now f.scope) d (scope_now s) some)
    ∙ ap (λ ps. record { scope = scope_now f.scope; before = take f.at f.scope.block.now; directive = d } ∷ ps)
    (append_assoc (frame_left inner) (frame_left next) (places_left frames)
    ∙ ap (λ ps. frame_left inner ++ ps) (sym (places_left-push frames next))
    ∙ sym (places_left-push (frames ++ next ∷ []) inner))
