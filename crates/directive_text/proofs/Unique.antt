-- The marks of a tree tell it.
use Rattle.std.proofs.Common.{◌≡◌, ℕ, List, [], ◌∷◌, ◌++◌, Option, None, Some, option_map, map, refl, sym, ◌∙◌, ap, subst, append_assoc, append-nil}
use Rattle.directive_text.specs.declared.tree.Directive.{Directive}
use Rattle.directive_text.specs.declared.tree.Directive.TheViews.{roll-Directive}
use Rattle.directive_text.specs.declared.tree.Directive.TheFolds.{ind-Directive, map-Directive}
use Rattle.directive_text.specs.Marks.{Mark, begins, has, ended, opened, closed, directive_marks, marks_of}
use Rattle.directive_text.proofs.Trees.{marks-ended, marks-block}

-- a directive whose block is not yet built
pub record Waits : Type 0 where
  pub before : List Directive
  pub words : List (List ℕ)
  pub line : ℕ

-- the tree of marks: open blocks, innermost first, the directives before, and the line and words of the next
pub built : List Mark → List Waits → List Directive → ℕ → List (List ℕ) → List Directive
built [] open_blocks done line words = done
built (begins n ∷ ms) open_blocks done line words = built ms open_blocks done n []
built (has w ∷ ms) open_blocks done line words = built ms open_blocks done line (words ++ w ∷ [])
built (ended ∷ ms) open_blocks done line words = built ms open_blocks (done ++ roll-Directive (record { words = words; line = line; block = None }) ∷ []) 0 []
built (opened ∷ ms) open_blocks done line words = built ms (record { before = done; words = words; line = line } ∷ open_blocks) [] 0 []
built (closed ∷ ms) [] done line words = done
built (closed ∷ ms) (f ∷ fs) done line words = built ms fs (f.before ++ roll-Directive (record { words = f.words; line = f.line; block = Some done }) ∷ []) 0 []

-- words are gathered
built-words : (ws : List (List ℕ)) (ms : List Mark) (fs : List Waits) (done : List Directive) (line : ℕ) (words : List (List ℕ)) →
    built (map has ws ++ ms) fs done line words ≡ built ms fs done line (words ++ ws)
unfolding built
built-words [] ms fs done line words = ap (built ms fs done line) (sym (append-nil words))
built-words (w ∷ ws) ms fs done line words =
    built-words ws ms fs done line (words ++ w ∷ []) ∙ ap (built ms fs done line) (append_assoc words (w ∷ []) ws)

-- the marks of a directive build it
abbrev IsBuilt : Directive → Type 0
IsBuilt d = (ms : List Mark) (fs : List Waits) (done : List Directive) (line : ℕ) (words : List (List ℕ)) →
    built (directive_marks d ++ ms) fs done line words ≡ built ms fs (done ++ d ∷ []) 0 []

built-all : (ds : List ((d : Directive) × IsBuilt d)) (ms : List Mark) (fs : List Waits) (done : List Directive) →
    built (marks_of (map (λ e. e.0) ds) ++ ms) fs done 0 [] ≡ built ms fs (done ++ map (λ e. e.0) ds) 0 []
built-all [] ms fs done = ap (λ d. built ms fs d 0 []) (sym (append-nil done))
built-all (d ∷ ds) ms fs done =
    ap (λ m. built m fs done 0 []) (append_assoc (directive_marks d.0) (marks_of (map (λ e. e.0) ds)) ms)
    ∙ d.1 (marks_of (map (λ e. e.0) ds) ++ ms) fs done 0 []
    ∙ built-all ds ms fs (done ++ d.0 ∷ [])
    ∙ ap (λ k. built ms fs k 0 []) (append_assoc done (d.0 ∷ []) (map (λ e. e.0) ds))

built-one : (words : List (List ℕ)) (line : ℕ) (block : Option (List ((d : Directive) × IsBuilt d))) →
    IsBuilt (roll-Directive (record { words = words; line = line; block = option_map (map (λ e. e.0)) block }))
unfolding built
built-one ws n None ms fs done line words =
    rw (marks-ended ws n, append_assoc) (built-words ws (ended ∷ ms) fs done n [])
built-one ws n (Some es) ms fs done line words =
    let inner : List Directive = map (λ e. e.0) es in
    let f : Waits = record { before = done; words = ws; line = n } in
    ap (λ m. built (m ++ ms) fs done line words) (marks-block ws n inner)
    ∙ ap (λ m. built (begins n ∷ m) fs done line words) (append_assoc (map has ws) (opened ∷ marks_of inner ++ closed ∷ []) ms)
    ∙ built-words ws (opened ∷ (marks_of inner ++ closed ∷ []) ++ ms) fs done n []
    ∙ ap (λ m. built m (f ∷ fs) [] 0 []) (append_assoc (marks_of inner) (closed ∷ []) ms)
    ∙ built-all es (closed ∷ ms) (f ∷ fs) []

pub is_built : (d : Directive) → IsBuilt d
is_built = ind-Directive IsBuilt (λ x y is. subst (λ z. IsBuilt (roll-Directive z)) is
    (elim y.block as (λ b. IsBuilt (roll-Directive (map-Directive ((d : Directive) × IsBuilt d) Directive (λ e. e.0) (record { words = y.words; line = y.line; block = b })))) [
      | None ↦ built-one y.words y.line None
      | Some es ↦ built-one y.words y.line (Some es)
    ]))

pairs : (ds : List Directive) → (es : List ((d : Directive) × IsBuilt d)) × (map (λ e. e.0) es ≡ ds)
pairs [] = ([], refl)
pairs (d ∷ ds) = let p = pairs ds in ((d, is_built d) ∷ p.0, ap (λ r. d ∷ r) p.1)

-- a tree is built from its marks
pub built-marks : (ds : List Directive) → built (marks_of ds) [] [] 0 [] ≡ ds
unfolding built
built-marks ds =
    let p = pairs ds in
    subst (λ k. built (marks_of k) [] [] 0 [] ≡ k) p.1
    (ap (λ m. built m [] [] 0 []) (sym (append-nil (marks_of (map (λ e. e.0) p.0)))) ∙ built-all p.0 [] [] [])

-- the same marks are of the same tree
pub unique : (a b : List Directive) → marks_of a ≡ marks_of b → a ≡ b
unique a b e = sym (built-marks a) ∙ ap (λ m. built m [] [] 0 []) e ∙ built-marks b
