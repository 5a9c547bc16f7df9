-- Four bytes or more are the number of the first four, and that of the rest above it.
use Rattle.std.proofs.Common.{ℕ, ◌≡◌, ◌+◌, ◌<◌, ◌≤◌, List, length, get_or, drop, subst, sym, ap, ◌∙◌, arith}
use Rattle.std.proofs.lemmas.List.{get_or-drop, length-drop, take_rest}
use Rattle.zone_key.specs.Word.{little_endian}
use Rattle.offset_tree.proofs.PartLemmas.{four_bytes, three_bytes}
use Rattle.offset_tree.proofs.keys.number_in.Goals as goal

pub returns : goal.returns
returns c =
    let bytes = c.args.bytes.now in
    let high : c.short_number-2.result ≡ little_endian (drop 4 bytes) = c.short_number-2.ensures ∙ ap (λ (bs : List ℕ). little_endian bs) (take_rest bytes 4) in
    let few : length (drop 4 bytes) ≤ 3 = omega (arith, length-drop 4 bytes) in
    let fits : (i : ℕ) → get_or (drop 4 bytes) i 0 < 256 = λ i. subst (λ (b : ℕ). b < 256) (sym (get_or-drop 4 bytes i 0)) (omega (arith, c.type_inv.bytes (4 + i))) in
    omega (arith, c.from.ensures, c.from_le_bytes-low.ensures, high, three_bytes (drop 4 bytes) few fits, four_bytes bytes (omega arith))
