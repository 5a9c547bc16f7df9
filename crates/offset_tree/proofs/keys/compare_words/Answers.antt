use Rattle.std.proofs.Common.{ℕ, ap, ◌∙◌}
use Rattle.std.specs.Int.{w64, swap_bytes}
use Rattle.std.specs.Ordering.{nat_cmp}
use Rattle.offset_tree.proofs.PartLemmas.{word_order}
use Rattle.offset_tree.proofs.keys.compare_words.Goals as goal

pub returns : goal.returns
returns c =
    c.cmp.ensures
    ∙ (ap (λ (z : ℕ). nat_cmp z c.swap_bytes-2.result) c.swap_bytes.ensures
    ∙ (ap (λ (z : ℕ). nat_cmp (swap_bytes w64 c.args.a) z) c.swap_bytes-2.ensures
    ∙ word_order c.args.a c.args.b))
