-- The lines of the summary, part by part.
use Rattle.std.proofs.Common.{ℕ, ◌≡◌, ◌++◌, ◌∙◌, List, length, ap, append_assoc}
use Rattle.std.specs.Prelude.{codes}
use Rattle.decision_text.specs.Coding.{coded}
use Rattle.decision_text.specs.HistoryText.{with_number}
use Rattle.made_log.specs.Summary.{zone_line}

-- a text that has a part gets another
more : (old text new part next : List ℕ) → text ≡ old ++ part → new ≡ text ++ next → new ≡ old ++ (part ++ next)
more old text new part next had grew = grew ∙ ap (λ (t : List ℕ). t ++ next) had ∙ append_assoc old part next

-- or a number behind a word
more-number : (old text new part word : List ℕ) (n m : ℕ) → text ≡ old ++ part → new ≡ text ++ with_number word n → n ≡ m → new ≡ old ++ (part ++ with_number word m)
more-number old text new part word n m had grew is = more old text new part (with_number word m) had (grew ∙ ap (λ (k : ℕ). text ++ with_number word k) is)

-- five numbers behind their words
pub five-numbers : (t0 t1 t2 t3 t4 t5 t6 : List ℕ) (w1 w2 w3 w4 w5 : List ℕ) (m1 n2 n3 n4 n5 m2 m3 m4 m5 : ℕ)
    → t1 ≡ t0 ++ with_number w1 m1 → t2 ≡ t1 ++ with_number w2 n2 → n2 ≡ m2 → t3 ≡ t2 ++ with_number w3 n3 → n3 ≡ m3 → t4 ≡ t3 ++ with_number w4 n4 → n4 ≡ m4 → t5 ≡ t4 ++ with_number w5 n5 → n5 ≡ m5 → t6 ≡ t5 ++ codes "\n"
    → t6 ≡ t0 ++ (with_number w1 m1 ++ with_number w2 m2 ++ with_number w3 m3 ++ with_number w4 m4 ++ with_number w5 m5 ++ codes "\n")
five-numbers t0 t1 t2 t3 t4 t5 t6 w1 w2 w3 w4 w5 m1 n2 n3 n4 n5 m2 m3 m4 m5 e1 e2 f2 e3 f3 e4 f4 e5 f5 e6 =
    let h2 = more-number t0 t1 t2 (with_number w1 m1) w2 n2 m2 e1 e2 f2 in
    let h3 = more-number t0 t2 t3 (with_number w1 m1 ++ with_number w2 m2) w3 n3 m3 h2 e3 f3 in
    let h4 = more-number t0 t3 t4 (with_number w1 m1 ++ with_number w2 m2 ++ with_number w3 m3) w4 n4 m4 h3 e4 f4 in
    let h5 = more-number t0 t4 t5 (with_number w1 m1 ++ with_number w2 m2 ++ with_number w3 m3 ++ with_number w4 m4) w5 n5 m5 h4 e5 f5 in
    more t0 t5 t6 (with_number w1 m1 ++ with_number w2 m2 ++ with_number w3 m3 ++ with_number w4 m4 ++ with_number w5 m5) (codes "\n") h5 e6

-- a zone's line
pub zone-parts : (t0 t1 t2 t3 t4 t5 t6 t7 : List ℕ) (name kind : List ℕ) (calls n5 n6 entries free : ℕ)
    → t1 ≡ t0 ++ codes "zone " → t2 ≡ t1 ++ coded name → t3 ≡ t2 ++ kind → t4 ≡ t3 ++ with_number (codes "calls=") calls → t5 ≡ t4 ++ with_number (codes " entries=") n5 → n5 ≡ entries → t6 ≡ t5 ++ with_number (codes " free=") n6 → n6 ≡ free
    → t7 ≡ t6 ++ codes "\n" → t7 ≡ t0 ++ zone_line name kind calls entries free
zone-parts t0 t1 t2 t3 t4 t5 t6 t7 name kind calls n5 n6 entries free e1 e2 e3 e4 e5 f5 e6 f6 e7 =
    let h2 = more t0 t1 t2 (codes "zone ") (coded name) e1 e2 in
    let h3 = more t0 t2 t3 (codes "zone " ++ coded name) kind h2 e3 in
    let h4 = more t0 t3 t4 (codes "zone " ++ coded name ++ kind) (with_number (codes "calls=") calls) h3 e4 in
    let h5 = more-number t0 t4 t5 (codes "zone " ++ coded name ++ kind ++ with_number (codes "calls=") calls) (codes " entries=") n5 entries h4 e5 f5 in
    let h6 = more-number t0 t5 t6 (codes "zone " ++ coded name ++ kind ++ with_number (codes "calls=") calls ++ with_number (codes " entries=") entries) (codes " free=") n6 free h5 e6 f6 in
    more t0 t6 t7 (codes "zone " ++ coded name ++ kind ++ with_number (codes "calls=") calls ++ with_number (codes " entries=") entries ++ with_number (codes " free=") free) (codes "\n") h6 e7

-- a zone's line by its name and its history
pub line-named : {E : Type 0} (old new kind name given : List ℕ) (log entries : List E) (n free : ℕ) → given ≡ name → entries ≡ log → new ≡ old ++ zone_line given kind (length entries) n free → new ≡ old ++ zone_line name kind (length log) n free
line-named {E} old new kind name given log entries n free name_is log_is had =
    had
    ∙ ap (λ (x : List ℕ). old ++ zone_line x kind (length entries) n free) name_is
    ∙ ap (λ (es : List E). old ++ zone_line name kind (length es) n free) log_is
