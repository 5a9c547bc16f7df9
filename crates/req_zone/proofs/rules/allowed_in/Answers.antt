use Rattle.std.proofs.Common.{arith, rules, sym, ap, ◌∙◌, ◌≡◌, ◌<◌, ℕ, ◌+◌, ◌*◌, ◌/◌, ◌%◌}
use Rattle.std.proofs.Math.Nat.{mul-add-div_right}
use Rattle.std.proofs.lemmas.Nat.{div-add-mod'}
use Rattle.req_zone.proofs.rules.allowed_in.Goals as goal

whole : (rate ms : ℕ) → rate * (ms / 1000) * 1000 + rate * (ms % 1000) ≡ rate * ms
whole rate ms = omega (arith, ap (λ n. rate * n) (div-add-mod' ms 1000))

-- src/rules.rt:21:1
pub returns : goal.returns
returns c = sym (mul-add-div_right (omega arith) (c.args.rate * (c.args.ms / 1000)) (c.args.rate * (c.args.ms % 1000))) ∙ ap (λ n. n / 1000) (whole c.args.rate c.args.ms)
