use Rattle.std.proofs.Common.{ℕ, List, ◌≡◌, ◌<◌, ◌-◌, ◌/◌, ◌%◌, ◌∙◌, length, sym, ap, subst, arith}
use Rattle.std.specs.Result.{OnOk}
use Rattle.std.proofs.lemmas.List.{get_or_default}
use Rattle.slab_model.specs.declared.page.PageState.TheVariants.{Free, First, Class}
use Rattle.slab_model.specs.Geometry.{start_of, class_size}
use Rattle.slab_model.specs.Inside.{slab_of}
use Rattle.slab_model.specs.Numbers.{without}
use Rattle.slab_model.specs.State.{Slab, page_at}
use Rattle.slab_model.specs.Blocks.{used_in, page_number, place_in_page}
use Rattle.slab_model.specs.Return.{give_in_page}
use Rattle.slab_model.proofs.Bounds.{back_run, back_class, class_page, live_page_in}
use Rattle.slab_model.proofs.returns.give_back.Goals as goal

pub returns-in-First-clause-ok : goal.returns-in-First-clause-ok
returns-in-First-clause-ok c =
    let old = slab_of c.args.parts.now in
    let size = c.page_size-size.result in
    let page = (c.args.at - c.start_offset.result) / size in
    let number : page ≡ page_number old.shape c.args.at = ap (λ k. (c.args.at - k) / size) c.start_offset.ensures ∙ ap (λ k. (c.args.at - start_of old.shape) / k) c.page_size-size.ensures in
    let low : page < length old.pages = live_page_in old c.args.at page number c.requires.live in
    let is : page_at old.pages page ≡ First c.in-First.pages = get_or_default old.pages page Free c.index.result.now low ∙ sym c.index.ensures ∙ c.in-First.is in
    let back = back_run old c.args.at page c.in-First.pages number is in
    subst (λ (t : Slab). OnOk c.give_pages.result (slab_of c.give_pages.new.parts ≡ t)) (sym back) c.give_pages.ensures.ok

pub returns-in-Class-clause-ok : goal.returns-in-Class-clause-ok
returns-in-Class-clause-ok c =
    let old = slab_of c.args.parts.now in
    let size = c.page_size-size.result in
    let page = (c.args.at - c.start_offset.result) / size in
    let index = (c.args.at - c.start_offset.result) % size / c.class_size.result in
    let number : page ≡ page_number old.shape c.args.at = ap (λ k. (c.args.at - k) / size) c.start_offset.ensures ∙ ap (λ k. (c.args.at - start_of old.shape) / k) c.page_size-size.ensures in
    let low : page < length old.pages = live_page_in old c.args.at page number c.requires.live in
    let is : page_at old.pages page ≡ Class c.in-Class.class c.in-Class.used = get_or_default old.pages page Free c.index.result.now low ∙ sym c.index.ensures ∙ c.in-Class.is in
    let index_is : index ≡ place_in_page old.shape c.args.at / class_size c.in-Class.class = ap (λ k. (c.args.at - k) % size / c.class_size.result) c.start_offset.ensures ∙ ap (λ k. (c.args.at - start_of old.shape) % k / c.class_size.result) c.page_size-size.ensures ∙ ap (λ k. place_in_page old.shape c.args.at / k) c.class_size.ensures in
    let back = back_class old c.args.at page c.in-Class.class index c.in-Class.used number index_is is in
    let used_is : used_in (page_at old.pages page) ≡ c.in-Class.used = ap (λ t. used_in t) is in
    let same : OnOk c.give_in_page.result (slab_of c.give_in_page.new.parts ≡ give_in_page old page c.in-Class.class c.in-Class.used (without index c.in-Class.used)) = subst (λ (u : List ℕ). OnOk c.give_in_page.result (slab_of c.give_in_page.new.parts ≡ give_in_page old page c.in-Class.class u (without index u))) used_is c.give_in_page.ensures.ok in
    subst (λ (t : Slab). OnOk c.give_in_page.result (slab_of c.give_in_page.new.parts ≡ t)) (sym back) same

pub class_size-requires : goal.class_size-requires
class_size-requires c =
    let old = slab_of c.args.parts.now in
    let size = c.page_size-size.result in
    let page = (c.args.at - c.start_offset.result) / size in
    let number : page ≡ page_number old.shape c.args.at = ap (λ k. (c.args.at - k) / size) c.start_offset.ensures ∙ ap (λ k. (c.args.at - start_of old.shape) / k) c.page_size-size.ensures in
    let low : page < length old.pages = live_page_in old c.args.at page number c.requires.live in
    let is : page_at old.pages page ≡ Class c.in-Class.class c.in-Class.used = get_or_default old.pages page Free c.index.result.now low ∙ sym c.index.ensures ∙ c.in-Class.is in
    let h = class_page old page c.in-Class.class c.in-Class.used c.requires.sound is in
    omega (arith, h.2)

pub give_in_page-requires-clause-known : goal.give_in_page-requires-clause-known
give_in_page-requires-clause-known c =
    let old = slab_of c.args.parts.now in
    let size = c.page_size-size.result in
    let page = (c.args.at - c.start_offset.result) / size in
    let number : page ≡ page_number old.shape c.args.at = ap (λ k. (c.args.at - k) / size) c.start_offset.ensures ∙ ap (λ k. (c.args.at - start_of old.shape) / k) c.page_size-size.ensures in
    let low : page < length old.pages = live_page_in old c.args.at page number c.requires.live in
    let is : page_at old.pages page ≡ Class c.in-Class.class c.in-Class.used = get_or_default old.pages page Free c.index.result.now low ∙ sym c.index.ensures ∙ c.in-Class.is in
    let h = class_page old page c.in-Class.class c.in-Class.used c.requires.sound is in
    h.2
