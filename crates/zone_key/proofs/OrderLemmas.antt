-- Keys that compare as equal are equal.
use Rattle.std.proofs.Common.{ℕ, ◌≡◌, ◌↔◌, List, Equal, subst, sym, ◌∙◌}
use Rattle.std.proofs.lemmas.Cmp.{nat_list_cmp_total, tied_itself}
use Rattle.std.proofs.lemmas.Map.Lookups.{exact_bytes}
use Rattle.std.specs.Cmp.{IsTotalOrder}
use Rattle.std.specs.declared.cmp.Ordering.{Ordering}
use Rattle.zone_key.specs.Order.{key_order}

pub order_total : IsTotalOrder key_order
order_total = nat_list_cmp_total

pub order_equal : (r : Ordering) (xs ys : List ℕ) → r ≡ key_order xs ys → (r ≡ Equal) ↔ (xs ≡ ys)
order_equal r xs ys is = (λ e. exact_bytes xs ys (sym is ∙ e), λ e. is ∙ subst (λ (zs : List ℕ). key_order xs zs ≡ Equal) e (tied_itself nat_list_cmp_total xs))
