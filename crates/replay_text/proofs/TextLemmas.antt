-- Texts that grow by one part at a time.
use Rattle.std.proofs.Common.{ℕ, zero, suc, ◌≡◌, ◌+◌, ◌<◌, List, [], ◌∷◌, ◌++◌, length, map, get_or, take, subst, sym, ap, refl, add-one, ◌∙◌, arith, append_assoc, append-nil}
use Rattle.std.specs.List.{flat_map}
use Rattle.std.proofs.lemmas.List.{take_more, get_or-map, length-map}
use Rattle.std.proofs.lemmas.Grind.{flat_map-append}
use Rattle.zone_config.specs.declared.data.Config.{Config}
use Rattle.replay_log.specs.declared.line.Line.{Line}
use Rattle.request_script.specs.declared.decision.Decision.{Decision}
use Rattle.decision_text.specs.DecisionText.{decision_text}
use Rattle.decision_text.specs.HistoryText.{zone_head}
use Rattle.replay_share.specs.Replay.{Decided, line_of, decision_of}
use Rattle.replay_text.specs.ReplayText.{decided_line, lines_from}

-- a text that has a part and gets another has both
pub text-more : (old text new part more whole : List ℕ) → text ≡ old ++ part → new ≡ text ++ more → part ++ more ≡ whole → new ≡ old ++ whole
text-more old text new part more whole had grew is = grew ∙ ap (λ (t : List ℕ). t ++ more) had ∙ append_assoc old part more ∙ ap (λ (t : List ℕ). old ++ t) is

-- ---- lines of entries

lines-push : {E : Type 0} (line : ℕ → E → List ℕ) (place : ℕ) (es : List E) (i : ℕ) (d e : E) → i < length es → e ≡ get_or es i d → lines_from line place (take i es) ++ line (place + i) e ≡ lines_from line place (take (suc i) es)
lines-push line place [] i d e low is = absurd (omega (arith, low))
lines-push line place (x ∷ es) zero d e low is =
    let at : place + 0 ≡ place = omega arith in
    ap (λ (n : ℕ). line n e) at ∙ ap (line place) is ∙ sym (append-nil (line place x))
lines-push line place (x ∷ es) (suc i) d e low is =
    let at : place + suc i ≡ place + 1 + i = omega arith in
    append_assoc (line place x) (lines_from line (place + 1) (take i es)) (line (place + suc i) e)
    ∙ ap (λ (t : List ℕ). line place x ++ t) (ap (λ (n : ℕ). lines_from line (place + 1) (take i es) ++ line n e) at ∙ lines-push line (place + 1) es i d e (omega (arith, low)) is)

-- a text that has the lines of the first entries gets one more
pub lines-grow : {E : Type 0} (line : ℕ → E → List ℕ) (old text new : List ℕ) (es : List E) (i place : ℕ) (d e : E) → i < length es → e ≡ get_or es i d → place ≡ i + 1
    → text ≡ old ++ lines_from line 1 (take i es) → new ≡ text ++ line place e → new ≡ old ++ lines_from line 1 (take (i + 1) es)
lines-grow line old text new es i place d e low is placed had grew =
    let at : place ≡ 1 + i = omega (arith, placed) in
    subst (λ (n : ℕ). new ≡ old ++ lines_from line 1 (take n es)) (sym (add-one i))
    (text-more old text new (lines_from line 1 (take i es)) (line place e) (lines_from line 1 (take (suc i) es)) had grew
    (ap (λ (n : ℕ). lines_from line 1 (take i es) ++ line n e) at ∙ lines-push line 1 es i d e low is))

-- a text that gets the three parts of a history has it
pub history-text : {E : Type 0} (line : ℕ → E → List ℕ) (kind name given : List ℕ) (log : List E) (old first second third tail : List ℕ) → given ≡ name
    → first ≡ old ++ zone_head given kind (length log) → second ≡ first ++ lines_from line 1 log → third ≡ second ++ tail
    → third ≡ old ++ (zone_head name kind (length log) ++ lines_from line 1 log ++ tail)
history-text line kind name given log old first second third tail name_is head lines rest =
    let begun : first ≡ old ++ zone_head name kind (length log) = head ∙ ap (λ (x : List ℕ). old ++ zone_head x kind (length log)) name_is in
    let both = text-more old first second (zone_head name kind (length log)) (lines_from line 1 log) (zone_head name kind (length log) ++ lines_from line 1 log) begun lines refl in
    text-more old second third (zone_head name kind (length log) ++ lines_from line 1 log) tail (zone_head name kind (length log) ++ lines_from line 1 log ++ tail) both rest refl

-- ---- decisions

-- a text that has the lines of the first decisions gets one more
pub decisions-grow : (config : Config) (old text new : List ℕ) (lines : List Line) (decisions : List Decision) (i : ℕ) (line : Line) (decision : Decision) → i < length lines
    → line ≡ get_or lines i line → decision ≡ get_or decisions i decision → (decided : List Decided) → map line_of decided ≡ lines → map decision_of decided ≡ decisions
    → text ≡ old ++ flat_map (decided_line config) (take i decided) → new ≡ text ++ decision_text config line decision → new ≡ old ++ flat_map (decided_line config) (take (i + 1) decided)
decisions-grow config old text new lines decisions i line decision low line_is decision_is decided lines_are decisions_are had grew =
    let one : Decided = record { line = line; decision = decision } in
    let d : Decided = get_or decided i one in
    let in_decided : i < length decided = omega (arith, low, length-map decided line_of, ap length lines_are) in
    let first : line ≡ d.line = line_is ∙ ap (λ (xs : List Line). get_or xs i line) (sym lines_are) ∙ get_or-map line_of decided i one line in_decided in
    let second : decision ≡ d.decision = decision_is ∙ ap (λ (xs : List Decision). get_or xs i decision) (sym decisions_are) ∙ get_or-map decision_of decided i one decision in_decided in
    let more : decision_text config line decision ≡ decided_line config d = ap (λ (x : Line). decision_text config x decision) first ∙ ap (decision_text config d.line) second in
    let grown : flat_map (decided_line config) (take (i + 1) decided) ≡ flat_map (decided_line config) (take i decided) ++ decided_line config d =
    ap (flat_map (decided_line config)) (take_more decided i one in_decided) ∙ flat_map-append (decided_line config) (take i decided) (d ∷ []) ∙ ap (λ (t : List ℕ). flat_map (decided_line config) (take i decided) ++ t) (append-nil (decided_line config d)) in
    text-more old text new (flat_map (decided_line config) (take i decided)) (decision_text config line decision) (flat_map (decided_line config) (take (i + 1) decided)) had grew
    (ap (λ (t : List ℕ). flat_map (decided_line config) (take i decided) ++ t) more ∙ sym grown)
