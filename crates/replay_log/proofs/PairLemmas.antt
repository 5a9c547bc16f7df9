-- The variables of a line, one after another.
use Rattle.std.proofs.Common.{ℕ, ◌≡◌, Bool, true, false, cond, ◌||◌, List, [], ◌∷◌, ◌++◌, Option, Some, Ok, Err, ap, sym, ◌∙◌, refl}
use Rattle.std.specs.Option.{is_some}
use Rattle.std.specs.Str.{bytes_eq}
use Rattle.std.proofs.lemmas.List.Folds.{list_any-append}
use Rattle.zone_key.specs.Expr.{is_same}
use Rattle.zone_key.specs.declared.vars.Pair.{Pair}
use Rattle.replay_log.specs.Words.{then_behind, pair_of, is_given}
use Rattle.replay_log.specs.Requests.{with_pair, pairs_of}

-- a word that is a new variable
pub pairs_more : (pairs : List Pair) (word : List ℕ) (words : List (List ℕ)) (pair : Pair) → pair_of word ≡ Ok pair → is_given pair.name pairs ≡ false
    → pairs_of pairs (word ∷ words) ≡ pairs_of (pairs ++ pair ∷ []) words
pairs_more pairs word words pair is fresh =
    ap (λ read. then_behind (then_behind read (λ found. with_pair pairs found)) (λ more. pairs_of more words)) is
    ∙ ap (λ given. then_behind (cond given (Err 9) (Ok (pairs ++ pair ∷ []))) (λ more. pairs_of more words)) fresh

-- a name that is found once more
or_found : {U : Type 0} (b : Bool) (found : Option U) (u : U) (given : Bool) → is_some found ≡ given → is_some (cond b (Some u) found) ≡ (given || (b || false))
or_found true found u true is = refl
or_found true found u false is = refl
or_found false found u true is = is
or_found false found u false is = is

-- the names that are given, with one variable more
pub given_more : {U : Type 0} (pairs : List Pair) (pair : Pair) (key name : List ℕ) (found : Option U) (u : U) → pair.name ≡ key → is_some found ≡ is_given name pairs
    → is_some (cond (bytes_eq key name) (Some u) found) ≡ is_given name (pairs ++ pair ∷ [])
given_more pairs pair key name found u is known =
    ap (λ (text : List ℕ). is_some (cond (bytes_eq text name) (Some u) found)) (sym is)
    ∙ or_found (is_same pair.name name) found u (is_given name pairs) known
    ∙ sym (list_any-append (λ (p : Pair). is_same p.name name) pairs (pair ∷ []))
