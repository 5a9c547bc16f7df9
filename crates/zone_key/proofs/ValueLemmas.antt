-- Joining one piece more, and the values of parts.
use Rattle.std.proofs.Common.{◌≡◌, ℕ, ◌+◌, ◌<◌, ◌≤◌, List, [], ◌∷◌, ◌++◌, length, take, get_or, map, decimal, refl, ap, sym, ◌∙◌, append_assoc, length-take, arith}
use Rattle.std.specs.List.{join_with_byte}
use Rattle.std.proofs.lemmas.List.{length-map, map_more}
use Rattle.zone_key.specs.Value.{dotted}

-- a further piece comes behind the byte
pub join_with_byte-append : (c : ℕ) (x : List ℕ) (xs : List (List ℕ)) (y : List ℕ)
    → join_with_byte c ((x ∷ xs) ++ y ∷ []) ≡ join_with_byte c (x ∷ xs) ++ c ∷ y
join_with_byte-append c x [] y = refl
join_with_byte-append c x (x' ∷ xs) y =
    ap (λ rest. x ++ (c ∷ rest)) (join_with_byte-append c x' xs y)
    ∙ sym (append_assoc x (c ∷ join_with_byte c (x' ∷ xs)) (c ∷ y))

joined-more : (xs : List (List ℕ)) (y : List ℕ) → 0 < length xs → join_with_byte 46 (xs ++ y ∷ []) ≡ join_with_byte 46 xs ++ 46 ∷ y
joined-more [] y some = absurd (omega arith)
joined-more (x ∷ xs) y some = join_with_byte-append 46 x xs y

-- a further octet comes behind a dot
pub dotted-more : (address : List ℕ) (i : ℕ) → 0 < i → i < length address → dotted (take (i + 1) address) ≡ dotted (take i address) ++ 46 ∷ decimal (get_or address i 0)
dotted-more address i some within =
    let some_taken : 0 < length (map decimal (take i address)) = grind (arith, length-map, length-take) in
    ap (join_with_byte 46) (map_more decimal address i 0 within)
    ∙ joined-more (map decimal (take i address)) (decimal (get_or address i 0)) some_taken

-- the first octet
pub dotted-first : (address : List ℕ) (i : ℕ) → i ≤ 0 → i < length address → dotted (take (i + 1) address) ≡ dotted (take i address) ++ decimal (get_or address i 0)
dotted-first [] i none within = absurd (omega arith)
dotted-first (a ∷ rest) i none within = let e : i ≡ 0 = omega arith in rw e refl
