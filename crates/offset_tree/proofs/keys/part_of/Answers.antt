-- A shift up and down again keeps the lowest bytes.
use Rattle.std.proofs.Common.{ℕ, ◌≡◌, ◌+◌, ◌-◌, ◌*◌, ◌/◌, ◌%◌, ◌^◌, ap, ◌∙◌, arith}
use Rattle.std.proofs.lemmas.Nat.{field_of, shl-shr}
use Rattle.offset_tree.proofs.keys.part_of.Goals as goal

pub returns : goal.returns
returns c =
    let high = c.args.word / 2 ^ (8 * c.args.from) in
    let spare = 64 - 8 * c.args.count in
    let all : 64 ≡ 8 * c.args.count + spare = omega arith in
    ap (λ (w : ℕ). high * 2 ^ spare % 2 ^ w / 2 ^ spare) all
    ∙ (field_of (high * 2 ^ spare) (8 * c.args.count) spare
    ∙ ap (λ (z : ℕ). z % 2 ^ (8 * c.args.count)) (shl-shr high spare))
