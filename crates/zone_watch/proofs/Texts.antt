-- Texts that grow by one part at a time.
use Rattle.std.proofs.Common.{ℕ, zero, suc, ◌≡◌, ◌+◌, ◌<◌, List, [], ◌∷◌, ◌++◌, length, map, take, get_or, sym, ap, add-one, ◌∙◌, arith, append_assoc, append-nil}
use Rattle.std.proofs.Math.Seq.{take-suc}
use Rattle.std.proofs.lemmas.List.{map-append}
use Rattle.std.proofs.lemmas.Grind.{flat_map-append}
use Rattle.zone_watch.specs.RefusedCounts.{refusals_line, refusals_lines}
use Rattle.zone_watch.specs.Watched.{Watched, report_of, reports_of}

-- a text that has a part and gets another has both
text-more : (old text new part more whole : List ℕ) → text ≡ old ++ part → new ≡ text ++ more → part ++ more ≡ whole → new ≡ old ++ whole
text-more old text new part more whole had grew is = grew ∙ ap (λ (t : List ℕ). t ++ more) had ∙ append_assoc old part more ∙ ap (λ (t : List ℕ). old ++ t) is

refused-push : (zone i : ℕ) (counts : List ℕ) → i < length counts → refusals_lines zone (take i counts) ++ refusals_line (zone + i) (get_or counts i 0) ≡ refusals_lines zone (take (suc i) counts)
refused-push zone i [] low = absurd (omega (arith, low))
refused-push zone zero (c ∷ counts) low =
    let at : zone + 0 ≡ zone = omega arith in
    ap (λ (z : ℕ). refusals_line z c) at ∙ sym (append-nil (refusals_line zone c))
refused-push zone (suc i) (c ∷ counts) low =
    let at : zone + suc i ≡ zone + 1 + i = omega arith in
    append_assoc (refusals_line zone c) (refusals_lines (zone + 1) (take i counts)) (refusals_line (zone + suc i) (get_or counts i 0))
    ∙ ap (λ (t : List ℕ). refusals_line zone c ++ t)
    (ap (λ (z : ℕ). refusals_lines (zone + 1) (take i counts) ++ refusals_line z (get_or counts i 0)) at ∙ refused-push (zone + 1) i counts (omega (arith, low)))

-- the line of one zone more
pub refused-grow : (old text new : List ℕ) (counts : List ℕ) (i : ℕ) → i < length counts → text ≡ old ++ refusals_lines 0 (take i counts) → new ≡ text ++ refusals_line i (get_or counts i 0)
    → new ≡ old ++ refusals_lines 0 (take (i + 1) counts)
refused-grow old text new counts i low had grew =
    let at : i ≡ 0 + i = omega arith in
    text-more old text new (refusals_lines 0 (take i counts)) (refusals_line i (get_or counts i 0)) (refusals_lines 0 (take (i + 1) counts)) had grew
    (ap (λ (z : ℕ). refusals_lines 0 (take i counts) ++ refusals_line z (get_or counts i 0)) at ∙ refused-push 0 i counts low ∙ ap (λ (j : ℕ). refusals_lines 0 (take j counts)) (sym (add-one i)))

-- the report of one watcher more
pub reports-grow : {W : Type 0} (m : W → Watched) (old text new : List ℕ) (list : List W) (i : ℕ) (d : W) → i < length list → text ≡ old ++ reports_of (map m (take i list)) → new ≡ text ++ report_of (m (get_or list i d))
    → new ≡ old ++ reports_of (map m (take (i + 1) list))
reports-grow m old text new list i d low had grew =
    text-more old text new (reports_of (map m (take i list))) (report_of (m (get_or list i d))) (reports_of (map m (take (i + 1) list))) had grew
    (ap (λ (t : List ℕ). reports_of (map m (take i list)) ++ t) (sym (append-nil (report_of (m (get_or list i d)))))
    ∙ sym (flat_map-append report_of (map m (take i list)) (m (get_or list i d) ∷ []))
    ∙ ap reports_of (sym (map-append m (take i list) (get_or list i d ∷ [])))
    ∙ ap (λ (xs : List _). reports_of (map m xs)) (sym (take-suc list i d low))
    ∙ ap (λ (j : ℕ). reports_of (map m (take j list))) (sym (add-one i)))
