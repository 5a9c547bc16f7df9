use Rattle.std.proofs.Common.{◌≡◌, ◌∙◌, ℕ, List, [], ◌∷◌, ◌++◌, Option, Some, None, ap, refl, sym, append_assoc}
use Rattle.zone_outside.specs.Coded.{after, decoded}
use Rattle.zone_outside.proofs.coded.decode.Goals as goal

after_more : (front : List ℕ) (byte : ℕ) (o : Option (List ℕ)) → after front (after (byte ∷ []) o) ≡ after (front ++ byte ∷ []) o
after_more front byte None = refl
after_more front byte (Some bytes) = ap (λ (xs : List ℕ). Some xs) (sym (append_assoc front (byte ∷ []) bytes))

pub loop-rest-preserved : goal.loop-rest-preserved
loop-rest-preserved c =
    c.loop-rest.invariant ∙ ap (λ o. after c.loop-rest.bytes.items o) c.in-Some.ensures.0 ∙ after_more c.loop-rest.bytes.items c.in-Some.byte (decoded c.in-Some.tail.now) ∙ ap (λ xs. after xs (decoded c.in-Some.tail.now)) (sym c.in_ok-push.ensures.items)
