use Rattle.std.proofs.Common.{◌≤◌, length, ap, ◌∙◌, arith}
use Rattle.std.proofs.lemmas.Grind.{common_steps}
use Rattle.slab_model.specs.Inside.{place_in}
use Rattle.slab_model.proofs.NumberLemmas.{with_place, place_in_le}
use Rattle.slab_model.proofs.numbers.Numbers.with.Goals as goal

pub slice_bounds-extend_from_slice-end : goal.slice_bounds-extend_from_slice-end
slice_bounds-extend_from_slice-end c =
    let low : c.place_of-place.result ≤ length c.deref-2.result.now = omega (arith, c.place_of-place.ensures, place_in_le c.args.n c.deref.result.now, ap (λ l. length l) c.deref.ensures.value, ap (λ l. length l) c.deref-2.ensures.value) in
    grind (arith, common_steps, low)

pub returns : goal.returns
returns c =
    let list = c.self.inside.kept.items in
    let place = c.place_of-place.ensures ∙ ap (λ l. place_in c.args.n l) c.deref.ensures.value in
    let cut = with_place c.args.n list in
    grind (arith, common_steps, place, cut, c.deref-2.ensures.value, c.deref-3.ensures.value, c.self.view_is)
