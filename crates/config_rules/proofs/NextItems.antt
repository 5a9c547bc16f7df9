-- One item more.
use Rattle.std.proofs.Common.{ℕ, ◌+◌, ◌<◌, length, get_or, take, ◌≡◌, List, [], ◌∷◌, ◌++◌, Option, None, Some, refl, sym, ◌∙◌, ap}
use Rattle.std.specs.Option.{option_to_list}
use Rattle.std.specs.List.{cons_option, filter_map}
use Rattle.std.proofs.lemmas.List.{take_more}

one_option : {Y : Type 0} (o : Option Y) → cons_option o [] ≡ option_to_list o
one_option None = refl
one_option (Some y) = refl

option_ahead : {Y : Type 0} (o : Option Y) (xs ys : List Y) → cons_option o (xs ++ ys) ≡ cons_option o xs ++ ys
option_ahead None xs ys = refl
option_ahead (Some y) xs ys = refl

-- one item more
filter_map-push : {X Y : Type 0} (h : X → Option Y) (xs : List X) (x : X) → filter_map h (xs ++ x ∷ []) ≡ filter_map h xs ++ option_to_list (h x)
filter_map-push h [] x = one_option (h x)
filter_map-push h (y ∷ xs) x = ap (cons_option (h y)) (filter_map-push h xs x) ∙ option_ahead (h y) (filter_map h xs) (option_to_list (h x))

pub filter_map_more : {X Y : Type 0} (h : X → Option Y) (xs : List X) (i : ℕ) (x : X) → i < length xs → x ≡ get_or xs i x →
    filter_map h (take (i + 1) xs) ≡ filter_map h (take i xs) ++ option_to_list (h x)
filter_map_more h xs i x below is =
    ap (filter_map h) (take_more xs i x below)
    ∙ filter_map-push h (take i xs) (get_or xs i x)
    ∙ ap (λ y. filter_map h (take i xs) ++ option_to_list (h y)) (sym is)
