use Rattle.std.proofs.Common.{ℕ, List, ◌≡◌, drop, sym, ap, ◌∙◌, subst, arith}
use Rattle.std.proofs.lemmas.Grind.{common_steps}
use Rattle.slab_model.specs.Inside.{slab_of}
use Rattle.slab_model.specs.declared.page.PageState.{PageState}
use Rattle.slab_model.specs.Inside.{IsOfClass}
use Rattle.slab_model.specs.State.{list_of, page_at}
use Rattle.slab_model.specs.Blocks.{used_in, lowest_unused}
use Rattle.slab_model.specs.Numbers.{with_number}
use Rattle.slab_model.specs.Soundness.{AreUsed}
use Rattle.slab_model.proofs.Bounds.{listed, small_stat}
use Rattle.slab_model.proofs.grants.grant_in_page.Goals as goal

pub index-requires : goal.index-requires
index-requires c = let l = listed (slab_of c.args.parts.now) c.args.class c.args.page (drop 1 (list_of (slab_of c.args.parts.now) c.args.class)) c.requires.sound c.requires.class c.requires.listed in omega (arith, l.in_pages)

pub indexes-used-requires : goal.indexes-used-requires
indexes-used-requires c = let l = listed (slab_of c.args.parts.now) c.args.class c.args.page (drop 1 (list_of (slab_of c.args.parts.now) c.args.class)) c.requires.sound c.requires.class c.requires.listed in
    let is : c.index.result.now ≡ page_at c.args.parts.now.pages.items c.args.page = c.index.ensures ∙ l.same c.index.result.now in
    subst (λ (t : PageState). IsOfClass t) (sym is) l.of_class

pub block_at-block-requires-clause-page : goal.block_at-block-requires-clause-page
block_at-block-requires-clause-page c = let l = listed (slab_of c.args.parts.now) c.args.class c.args.page (drop 1 (list_of (slab_of c.args.parts.now) c.args.class)) c.requires.sound c.requires.class c.requires.listed in l.few

pub block_at-block-requires-clause-index : goal.block_at-block-requires-clause-index
block_at-block-requires-clause-index c = let l = listed (slab_of c.args.parts.now) c.args.class c.args.page (drop 1 (list_of (slab_of c.args.parts.now) c.args.class)) c.requires.sound c.requires.class c.requires.listed in
    let is : c.index.result.now ≡ page_at c.args.parts.now.pages.items c.args.page = c.index.ensures ∙ l.same c.index.result.now in
    let e : c.lowest_unused-index.result ≡ lowest_unused c.args.parts.now.shape c.args.class (used_in (page_at c.args.parts.now.pages.items c.args.page)) = c.lowest_unused-index.ensures ∙ ap (λ u. lowest_unused c.args.parts.now.shape c.args.class u) (c.indexes-used.ensures ∙ ap (λ t. used_in t) is) in
    omega (arith, e, l.index)

pub index_mut-requires-2 : goal.index_mut-requires-2
index_mut-requires-2 c = let l = listed (slab_of c.args.parts.now) c.args.class c.args.page (drop 1 (list_of (slab_of c.args.parts.now) c.args.class)) c.requires.sound c.requires.class c.requires.listed in grind (arith, common_steps, l.in_pages)

pub count_grant-requires-clause-total : goal.count_grant-requires-clause-total
count_grant-requires-clause-total c = let l = small_stat (slab_of c.args.parts.now) c.args.class c.requires.sound c.requires.class in grind (arith, common_steps, l.total)

pub count_grant-requires-clause-used : goal.count_grant-requires-clause-used
count_grant-requires-clause-used c = let l = small_stat (slab_of c.args.parts.now) c.args.class c.requires.sound c.requires.class in grind (arith, common_steps, l.used)

pub lowest_unused-index-requires-clause-used : goal.lowest_unused-index-requires-clause-used
lowest_unused-index-requires-clause-used c = let l = listed (slab_of c.args.parts.now) c.args.class c.args.page (drop 1 (list_of (slab_of c.args.parts.now) c.args.class)) c.requires.sound c.requires.class c.requires.listed in
    let is : c.indexes-used.result.now ≡ used_in (page_at c.args.parts.now.pages.items c.args.page) = c.indexes-used.ensures ∙ ap (λ t. used_in t) (c.index.ensures ∙ l.same c.index.result.now) in
    subst (λ (u : List ℕ). AreUsed c.args.parts.now.shape c.args.class u) (sym is) l.used

pub is_full-full-requires-clause-used : goal.is_full-full-requires-clause-used
is_full-full-requires-clause-used c = let l = listed (slab_of c.args.parts.now) c.args.class c.args.page (drop 1 (list_of (slab_of c.args.parts.now) c.args.class)) c.requires.sound c.requires.class c.requires.listed in
    let is : c.indexes-used.result.now ≡ used_in (page_at c.args.parts.now.pages.items c.args.page) = c.indexes-used.ensures ∙ ap (λ t. used_in t) (c.index.ensures ∙ l.same c.index.result.now) in
    let index_is : c.lowest_unused-index.result ≡ lowest_unused c.args.parts.now.shape c.args.class (used_in (page_at c.args.parts.now.pages.items c.args.page)) = c.lowest_unused-index.ensures ∙ ap (λ u. lowest_unused c.args.parts.now.shape c.args.class u) is in
    let now = c.in_ok-used.ensures {u = tt} ∙ ap (λ k. with_number k c.indexes-used.result.now) index_is ∙ ap (λ u. with_number (lowest_unused c.args.parts.now.shape c.args.class (used_in (page_at c.args.parts.now.pages.items c.args.page))) u) is in
    subst (λ (u : List ℕ). AreUsed c.args.parts.now.shape c.args.class u) (sym now) l.granted
