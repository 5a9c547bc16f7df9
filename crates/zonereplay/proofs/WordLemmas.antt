-- Words of one form are of no other.
use Rattle.std.proofs.Common.{ℕ, ◌≡◌, Bool, true, false, List, [], ◌∷◌, Option, Some, None, ap, refl, subst, ◌∙◌}
use Rattle.std.specs.Prelude.{if◌then◌else◌, codes, MatchOption, is_some}
use Rattle.std.specs.Str.{bytes_eq}
use Rattle.std.proofs.lemmas.Slice.Eq.{bytes_eq-Decides}
use Rattle.zonereplay.specs.Words.{Command, first_form, one_of, check_of, plain_of, image_of, made_of, replay_of, command_of}

abbrev NoCommand : Option Command → Type 0
NoCommand None = Unit {0}
NoCommand (Some command) = ⊥

-- words that ask for a check ask for nothing else
pub check_alone : (words : List (List ℕ)) (command : Command) → check_of words ≡ Some command → command_of words ≡ Some command
check_alone [] command is = absurd (subst NoCommand is tt)
check_alone (a ∷ []) command is = absurd (subst NoCommand is tt)
check_alone (a ∷ b ∷ []) command is = ap (λ (o : Option Command). first_form o None) is
check_alone (a ∷ b ∷ c ∷ rest) command is = absurd (subst NoCommand is tt)

-- words that ask for a replay on one worker ask for nothing else
pub plain_alone : (words : List (List ℕ)) (command : Command) → plain_of words ≡ Some command → command_of words ≡ Some command
plain_alone [] command is = absurd (subst NoCommand is tt)
plain_alone (a ∷ []) command is = absurd (subst NoCommand is tt)
plain_alone (a ∷ b ∷ []) command is = absurd (subst NoCommand is tt)
plain_alone (a ∷ b ∷ c ∷ []) command is = ap (λ (o : Option Command). first_form o (first_form (made_of (a ∷ b ∷ c ∷ [])) None)) is
plain_alone (a ∷ b ∷ c ∷ d ∷ rest) command is = absurd (subst NoCommand is tt)

-- words that ask for a zone's words ask for nothing else
pub image_alone : (words : List (List ℕ)) (command : Command) → image_of words ≡ Some command → command_of words ≡ Some command
image_alone [] command is = absurd (subst NoCommand is tt)
image_alone (a ∷ []) command is = absurd (subst NoCommand is tt)
image_alone (a ∷ b ∷ []) command is = absurd (subst NoCommand is tt)
image_alone (a ∷ b ∷ c ∷ []) command is = absurd (subst NoCommand is tt)
image_alone (a ∷ b ∷ c ∷ d ∷ []) command is = ap (λ (o : Option Command). first_form o (replay_of (a ∷ b ∷ c ∷ d ∷ []))) is
image_alone (a ∷ b ∷ c ∷ d ∷ e ∷ rest) command is = absurd (subst NoCommand is tt)

-- an answer that depends on a test is there where the test is met
is_met : (met : Bool) (answer : Option Command) (command : Command) → (if met then answer else None) ≡ Some command → met ≡ true
is_met true answer command is = refl
is_met false answer command is = absurd (subst NoCommand is tt)

-- the word `made` is no other
is_made : (word : List ℕ) → bytes_eq word (codes "made") ≡ true → word ≡ codes "made"
is_made word is = (bytes_eq-Decides word (codes "made")).0 is

-- words that ask for a made log ask for nothing else
pub made_alone : (words : List (List ℕ)) (command : Command) → made_of words ≡ Some command → command_of words ≡ Some command
made_alone [] command is = absurd (subst NoCommand is tt)
made_alone (a ∷ []) command is = absurd (subst NoCommand is tt)
made_alone (a ∷ b ∷ []) command is = absurd (subst NoCommand is tt)
made_alone (a ∷ b ∷ c ∷ []) command is =
    let word : a ≡ codes "made" = is_made a (is_met (bytes_eq a (codes "made")) _ command is) in
    let other : plain_of (a ∷ b ∷ c ∷ []) ≡ None = ap (λ (w : List ℕ). plain_of (w ∷ b ∷ c ∷ [])) word in
    ap (λ (o : Option Command). first_form o (first_form (made_of (a ∷ b ∷ c ∷ [])) None)) other ∙ ap (λ (o : Option Command). first_form o None) is
made_alone (a ∷ b ∷ c ∷ d ∷ rest) command is = absurd (subst NoCommand is tt)

-- the word `replay` is no other
is_replay : (word : List ℕ) → bytes_eq word (codes "replay") ≡ true → word ≡ codes "replay"
is_replay word is = (bytes_eq-Decides word (codes "replay")).0 is

-- words that ask for a replay on several workers ask for nothing else
pub replay_alone : (words : List (List ℕ)) (command : Command) → replay_of words ≡ Some command → command_of words ≡ Some command
replay_alone [] command is = absurd (subst NoCommand is tt)
replay_alone (a ∷ []) command is = absurd (subst NoCommand is tt)
replay_alone (a ∷ b ∷ []) command is = absurd (subst NoCommand is tt)
replay_alone (a ∷ b ∷ c ∷ []) command is = absurd (subst NoCommand is tt)
replay_alone (a ∷ b ∷ c ∷ d ∷ []) command is =
    let words : List (List ℕ) = a ∷ b ∷ c ∷ d ∷ [] in
    let word : a ≡ codes "replay" = is_replay a (is_met (bytes_eq a (codes "replay")) _ command is) in
    let other : image_of words ≡ None = ap (λ (w : List ℕ). image_of (w ∷ b ∷ c ∷ d ∷ [])) word in
    ap (λ (o : Option Command). first_form o (replay_of words)) other ∙ is
replay_alone (a ∷ b ∷ c ∷ d ∷ e ∷ []) command is =
    let words : List (List ℕ) = a ∷ b ∷ c ∷ d ∷ e ∷ [] in
    let word : a ≡ codes "replay" = is_replay a (is_met (bytes_eq a (codes "replay")) _ command is) in
    let other : one_of words ≡ None = ap (λ (w : List ℕ). one_of (w ∷ b ∷ c ∷ d ∷ e ∷ [])) word in
    ap (λ (o : Option Command). first_form o (replay_of words)) other ∙ is
replay_alone (a ∷ b ∷ c ∷ d ∷ e ∷ f ∷ rest) command is = absurd (subst NoCommand is tt)

-- what isn't there is none
pub not_there : {A : Type 0} (found : Option A) (none : Type 0) (some : A → Type 0) → MatchOption found none some → is_some found ≡ false → none
not_there None none some h is = h
not_there (Some a) none some h is = cc

-- words of no form
pub no_form : (words : List (List ℕ)) → one_of words ≡ None → check_of words ≡ None → plain_of words ≡ None → image_of words ≡ None → made_of words ≡ None → replay_of words ≡ None → command_of words ≡ None
no_form words one check plain image made replay =
    let forms : Option Command → Option Command → Option Command → Option Command → Option Command → Option Command → Option Command = λ o c p i m r. first_form o (first_form c (first_form p (first_form i (first_form m r)))) in
    ap (λ (o : Option Command). forms o (check_of words) (plain_of words) (image_of words) (made_of words) (replay_of words)) one
    ∙ ap (λ (o : Option Command). forms None o (plain_of words) (image_of words) (made_of words) (replay_of words)) check
    ∙ ap (λ (o : Option Command). forms None None o (image_of words) (made_of words) (replay_of words)) plain
    ∙ ap (λ (o : Option Command). forms None None None o (made_of words) (replay_of words)) image
    ∙ ap (λ (o : Option Command). forms None None None None o (replay_of words)) made
    ∙ replay
