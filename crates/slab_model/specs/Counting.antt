-- What a slab counts: the requests, the failures and the blocks of a class, and the pages.
use Rattle.std.specs.Prelude.{ℕ, ◌+◌, ◌-◌, ◌^◌, min, Bool, true, false, not, count_by}
use Rattle.slab_model.specs.declared.stat.Stat.{Stat}
use Rattle.slab_model.specs.declared.page.PageState.{PageState}
use Rattle.slab_model.specs.declared.page.PageState.TheVariants.{Free, First, Later, Class}
use Rattle.slab_model.specs.Runs.{page_total}
use Rattle.slab_model.specs.State.{Slab}

-- a count that stands still at the last number of 64 bits
abbrev pub one_more : ℕ → ℕ
one_more n = min (n + 1) (2 ^ 64 - 1)

-- a request that was given a block, after which the class can grant `more` blocks more
abbrev pub count_grant : ℕ → Stat → Stat
count_grant more stat = record { total = stat.total + more; used = stat.used + 1; reqs = one_more stat.reqs; fails = stat.fails }

-- a request that was given no block
abbrev pub count_fail : Stat → Stat
count_fail stat = record { total = stat.total; used = stat.used; reqs = one_more stat.reqs; fails = one_more stat.fails }

-- a block that came back, after which the class can grant `less` blocks less
abbrev pub count_return : ℕ → Stat → Stat
count_return less stat = record { total = stat.total - less; used = stat.used - 1; reqs = stat.reqs; fails = stat.fails }

-- the page is free
abbrev pub is_free : PageState → Bool
is_free Free = true
is_free (First pages) = false
is_free Later = false
is_free (Class class used) = false

-- the number of free pages
abbrev pub free_pages : Slab → ℕ
free_pages slab = page_total slab.runs

-- the number of pages that are not free
abbrev pub used_pages : Slab → ℕ
used_pages slab = count_by (λ page. not (is_free page)) slab.pages
