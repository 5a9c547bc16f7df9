use Rattle.std.proofs.Common.{◌≡◌, ◌∙◌, ℕ, List, [], ◌∷◌, ◌++◌, take, decimal, get_or, ap, sym, append_assoc, arith}
use Rattle.zone_key.specs.Value.{dotted}
use Rattle.zone_key.proofs.ValueLemmas.{dotted-more, dotted-first}
use Rattle.zone_key.proofs.vars.push_dotted.Goals as goal
use Rattle.zone_key.proofs.vars.push_dotted.Goals.{then-i-gt0+in_ok-push, else-i-gt0}

-- a dot and an octet behind what was there
behind_dot : (before done octet : List ℕ) → ((before ++ done) ++ 46 ∷ []) ++ octet ≡ before ++ (done ++ 46 ∷ octet)
behind_dot before done octet = simp append_assoc

pub loop-i-preserved : goal.loop-i-preserved
loop-i-preserved c =
    let octet : c.as_bytes.result.now ≡ decimal (get_or c.args.address.now c.loop-i.i 0) = c.as_bytes.ensures.value ∙ c.format.ensures.text in
    let added : c.extend_from_slice.new.self.items ≡ c.if-i-gt0.bytes.items ++ decimal (get_or c.args.address.now c.loop-i.i 0) = c.in_ok-extend_from_slice.ensures.items ∙ ap (λ xs. c.if-i-gt0.bytes.items ++ xs) octet in
    elim c.if-i-gt0.branch [
      | then-i-gt0+in_ok-push w ↦
          let before : c.if-i-gt0.bytes.items ≡ (c.args.bytes.now.items ++ dotted (take c.loop-i.i c.args.address.now)) ++ 46 ∷ [] =
          ap (λ v. v.items) w.bytes-is ∙ w.in_ok-push.ensures.items ∙ ap (λ xs. xs ++ 46 ∷ []) c.loop-i.invariant in
          added ∙ ap (λ xs. xs ++ decimal (get_or c.args.address.now c.loop-i.i 0)) before
          ∙ behind_dot c.args.bytes.now.items (dotted (take c.loop-i.i c.args.address.now)) (decimal (get_or c.args.address.now c.loop-i.i 0))
          ∙ ap (λ xs. c.args.bytes.now.items ++ xs) (sym (dotted-more c.args.address.now c.loop-i.i (omega arith) (omega arith)))
      | else-i-gt0 w ↦
          let before : c.if-i-gt0.bytes.items ≡ c.args.bytes.now.items ++ dotted (take c.loop-i.i c.args.address.now) =
          ap (λ v. v.items) w.bytes-is ∙ c.loop-i.invariant in
          added ∙ ap (λ xs. xs ++ decimal (get_or c.args.address.now c.loop-i.i 0)) before
          ∙ append_assoc c.args.bytes.now.items (dotted (take c.loop-i.i c.args.address.now)) (decimal (get_or c.args.address.now c.loop-i.i 0))
          ∙ ap (λ xs. c.args.bytes.now.items ++ xs) (sym (dotted-first c.args.address.now c.loop-i.i (omega arith) (omega arith)))
    ]
