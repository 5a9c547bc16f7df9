-- One step of the loops over pages.
use Rattle.std.proofs.Common.{ℕ, ◌≡◌, ◌+◌, suc, List, set, ap, arith}
use Rattle.slab_model.specs.declared.page.PageState.{PageState}
use Rattle.slab_model.specs.State.{fill_pages}

-- one page more of a stretch
pub fill_step : (state : PageState) (page left next : ℕ) (pages : List PageState) → left ≡ next + 1 → fill_pages state page left pages ≡ fill_pages state (page + 1) next (set pages page state)
fill_step state page left next pages e = let h : left ≡ suc next = omega arith in ap (λ n. fill_pages state page n pages) h
