-- The marks of trees as they grow.
use Rattle.std.proofs.Common.{◌≡◌, ℕ, ◌+◌, ◌-◌, true, false, List, [], ◌∷◌, ◌++◌, None, Some, map, length, refl, sym, ◌∙◌, ap, append_assoc, append-nil, length-append, arith}
use Rattle.directive_text.specs.declared.tree.Directive.{Directive}
use Rattle.directive_text.specs.declared.tree.Directive.TheViews.{roll-Directive}
use Rattle.directive_text.specs.declared.tree.Directive.TheFolds.{fold-roll-Directive}
use Rattle.directive_text.specs.declared.builder.Frame.{Frame}
use Rattle.directive_text.specs.Marks.{Mark, begins, has, ended, opened, closed, joined, marks_step, directive_marks, marks_of}
use Rattle.directive_text.specs.Internals.Progress.{some_word, pending_marks, frame_marks, progress_of}

-- one more list at the end
pub joined_push : {X : Type 0} → (g : X → List Mark) (xs : List X) (x : X) → joined (map g (xs ++ x ∷ [])) ≡ joined (map g xs) ++ g x
joined_push g [] x = append-nil (g x)
joined_push g (y ∷ ys) x = ap (λ r. g y ++ r) (joined_push g ys x) ∙ sym (append_assoc (g y) (joined (map g ys)) (g x))

-- a directive that `;` ends
pub marks-ended : (words : List (List ℕ)) (line : ℕ) → directive_marks (roll-Directive (record { words = words; line = line; block = None })) ≡ begins line ∷ map has words ++ ended ∷ []
marks-ended words line = fold-roll-Directive (List Mark) marks_step (record { words = words; line = line; block = None })

-- a directive with a block
pub marks-block : (words : List (List ℕ)) (line : ℕ) (inner : List Directive) → directive_marks (roll-Directive (record { words = words; line = line; block = Some inner })) ≡ begins line ∷ map has words ++ (opened ∷ marks_of inner ++ closed ∷ [])
marks-block words line inner = fold-roll-Directive (List Mark) marks_step (record { words = words; line = line; block = Some inner })

-- `;` is read
regroup-end : (F M P E : List Mark) → (F ++ (M ++ (P ++ E))) ++ [] ≡ ((F ++ M) ++ P) ++ E
regroup-end F M P E = simp (append_assoc, append-nil)

pub progress-end : (frames : List Frame) (done : List Directive) (line : ℕ) (words : List (List ℕ)) → some_word words ≡ true →
    progress_of frames (done ++ roll-Directive (record { words = words; line = line; block = None }) ∷ []) line []
    ≡ record { marks = (progress_of frames done line words).marks ++ ended ∷ []; blocks = length frames; pending = false }
progress-end frames done line [] e = absurd (cc)
progress-end frames done line (w ∷ ws) e =
    ap (λ m. record { marks = m; blocks = length frames; pending = false })
    (rw (joined_push directive_marks done, marks-ended (w ∷ ws) line)
    (regroup-end (joined (map frame_marks frames)) (marks_of done) (pending_marks line (w ∷ ws)) (ended ∷ [])))

-- `{` is read
regroup-open : (F M P O : List Mark) → ((F ++ (M ++ (P ++ O))) ++ []) ++ [] ≡ ((F ++ M) ++ P) ++ O
regroup-open F M P O = simp (append_assoc, append-nil)

pending-some : (line : ℕ) (words : List (List ℕ)) → some_word words ≡ true → pending_marks line words ≡ begins line ∷ map has words
pending-some line [] e = absurd (cc)
pending-some line (w ∷ ws) e = refl

pub progress-open : (frames : List Frame) (f : Frame) (line : ℕ) → some_word f.words ≡ true →
    progress_of (frames ++ f ∷ []) [] line []
    ≡ record { marks = (progress_of frames f.before.items f.line f.words).marks ++ opened ∷ []; blocks = length frames + 1; pending = false }
progress-open frames f line e =
    let n : length (frames ++ f ∷ []) ≡ length frames + 1 = length-append frames (f ∷ []) in
    let m : joined (map frame_marks (frames ++ f ∷ [])) ++ [] ++ [] ≡ (progress_of frames f.before.items f.line f.words).marks ++ opened ∷ [] =
    rw (joined_push frame_marks frames f, pending-some f.line f.words e)
    (regroup-open (joined (map frame_marks frames)) (marks_of f.before.items) (begins f.line ∷ map has f.words) (opened ∷ [])) in
    ap (λ k. record { marks = joined (map frame_marks (frames ++ f ∷ [])) ++ [] ++ []; blocks = k; pending = false }) n
    ∙ ap (λ k. record { marks = k; blocks = length frames + 1; pending = false }) m

-- `}` is read
regroup-close : (F B W O D C : List Mark) → (F ++ (B ++ (W ++ ((O ++ D) ++ C)))) ++ [] ≡ (((F ++ (B ++ (W ++ O))) ++ D) ++ []) ++ C
regroup-close F B W O D C = simp (append_assoc, append-nil)

pub progress-close : (frames : List Frame) (f : Frame) (done : List Directive) (line : ℕ) (words : List (List ℕ)) → some_word words ≡ false →
    progress_of frames (f.before.items ++ roll-Directive (record { words = f.words; line = f.line; block = Some done }) ∷ []) line words
    ≡ record { marks = (progress_of (frames ++ f ∷ []) done line words).marks ++ closed ∷ []; blocks = length (frames ++ f ∷ []) - 1; pending = false }
progress-close frames f done line (w ∷ ws) e = absurd (cc)
progress-close frames f done line [] e =
    let n : length frames ≡ length (frames ++ f ∷ []) - 1 = omega (arith, length-append frames (f ∷ [])) in
    let m : joined (map frame_marks frames) ++ marks_of (f.before.items ++ roll-Directive (record { words = f.words; line = f.line; block = Some done }) ∷ []) ++ []
    ≡ joined (map frame_marks (frames ++ f ∷ [])) ++ marks_of done ++ [] ++ closed ∷ [] =
    rw (joined_push directive_marks f.before.items, marks-block f.words f.line done, joined_push frame_marks frames f)
    (regroup-close (joined (map frame_marks frames)) (marks_of f.before.items) (begins f.line ∷ map has f.words) (opened ∷ []) (marks_of done) (closed ∷ [])) in
    ap (λ k. record { marks = k; blocks = length frames; pending = false }) m
    ∙ ap (λ k. record { marks = joined (map frame_marks (frames ++ f ∷ [])) ++ marks_of done ++ [] ++ closed ∷ []; blocks = k; pending = false }) n
