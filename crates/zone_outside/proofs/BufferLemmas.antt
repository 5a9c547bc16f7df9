-- What a buffer keeps, between its start and its end.
use Rattle.std.proofs.Common.{ℕ, ◌≡◌, ◌+◌, ◌-◌, ◌≤◌, List, ◌++◌, length, take, drop, sym, ap, ◌∙◌, arith}
use Rattle.std.proofs.Math.Seq.{take-append_seam, take-append-add}
use Rattle.std.proofs.lemmas.List.{take-append-drop, drop-take, drop-drop, drop-append-le, length-take-le, length-drop}

-- the bytes between two places are those up to a place between, and those from there on
pub kept_split : (items : List ℕ) (start n end : ℕ) → start + n ≤ end → take (end - start) (drop start items) ≡ take n (take (end - start) (drop start items)) ++ take (end - (start + n)) (drop (start + n) items)
kept_split items start n end within =
    let m = end - (start + n) in
    let whole : end - start ≡ n + m = omega arith in
    let kept = take (n + m) (drop start items) in
    rw whole (sym (take-append-drop n kept) ∙ ap (λ (l : List ℕ). take n kept ++ l) (drop-take n m (drop start items) ∙ ap (take m) (drop-drop n start items)))

-- bytes that are put at the end
pub kept_more : (items added rest : List ℕ) (start end n : ℕ) → start ≤ end → end ≤ length items → n ≡ length added
    → take (end + n - start) (drop start (take end items ++ (added ++ rest))) ≡ take (end - start) (drop start items) ++ added
kept_more items added rest start end n before within many =
    let front = take end items in
    let kept = drop start front in
    let long : length front ≡ end = length-take-le end items within in
    let length_is : length kept ≡ end - start = length-drop start front ∙ ap (λ n. n - start) long in
    let total : end + n - start ≡ length kept + length added = omega arith in
    let through : start + (end - start) ≡ end = omega arith in
    let same : kept ≡ take (end - start) (drop start items) = sym (ap (λ n. drop start (take n items)) through) ∙ drop-take start (end - start) items in
    rw total (rw (drop-append-le start front (added ++ rest) (omega arith)) (take-append-add kept (added ++ rest) (length added) ∙ ap (λ (l : List ℕ). kept ++ l) (take-append_seam added rest) ∙ ap (λ (l : List ℕ). l ++ added) same))
