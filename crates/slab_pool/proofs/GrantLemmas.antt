-- A grant by the class of its size.
use Rattle.std.proofs.Common.{ℕ, ◌≡◌, ◌*◌, ◌^◌, ◌<◌, ◌≤◌, Option, Some, None, sym, ap, subst, ◌∙◌, refl, arith}
use Rattle.slab_model.specs.declared.shape.Shape.{Shape}
use Rattle.slab_model.specs.Geometry.{class_of, class_size, pages_for, page_size, greatest_zone}
use Rattle.slab_model.specs.Runs.{first_fit}
use Rattle.slab_model.specs.State.{Slab, list_of}
use Rattle.slab_model.specs.Grant.{grant, grant_as, grant_from_list, grant_run, block_bytes, block_bytes_as}
use Rattle.slab_model.proofs.ClassLemmas.{cuts, class_known, pages_some}
use Rattle.slab_pages.specs.Places.{Image}
use Rattle.slab_pool.specs.Pool.{LaysPool}

pub some-pages : (shape : Shape) (size n : ℕ) → 0 < size → n ≡ pages_for shape size → 0 < n
some-pages shape size n some is = omega (arith, is, pages_some shape size some)

-- a request that no class serves is one for whole pages
pub grant-whole : (image : Image) (slab : Slab) (size n : ℕ) → LaysPool image slab → class_of image.shape size ≡ None → n ≡ pages_for image.shape size → grant slab size ≡ grant_run slab n (first_fit n slab.runs)
unfolding grant
grant-whole image slab size n p none is =
    let no_class : class_of slab.shape size ≡ None = ap (λ (s : Shape). class_of s size) p.shape_is ∙ none in
    let same : pages_for slab.shape size ≡ n = ap (λ (s : Shape). pages_for s size) p.shape_is ∙ sym is in
    ap (grant_as slab size) no_class ∙ ap (λ k. grant_run slab k (first_fit k slab.runs)) same

pub whole-block : (image : Image) (slab : Slab) (size n : ℕ) (at : Option ℕ) → LaysPool image slab → class_of image.shape size ≡ None → n ≡ pages_for image.shape size → at ≡ (grant_run slab n (first_fit n slab.runs)).0 → at ≡ (grant slab size).0
whole-block image slab size n at p none is block = block ∙ ap (λ (r : Option ℕ × Slab). r.0) (sym (grant-whole image slab size n p none is))

pub whole-laid : (image new : Image) (slab : Slab) (size n : ℕ) → LaysPool image slab → class_of image.shape size ≡ None → n ≡ pages_for image.shape size → LaysPool new (grant_run slab n (first_fit n slab.runs)).1 → LaysPool new (grant slab size).1
whole-laid image new slab size n p none is laid = subst (λ (r : Option ℕ × Slab). LaysPool new r.1) (sym (grant-whole image slab size n p none is)) laid

-- the bytes of whole pages are few
pub pages_for-few : (shape : Shape) (size n m : ℕ) → size ≤ greatest_zone → n ≡ page_size shape → m ≡ pages_for shape size → n * m < 2 ^ 64
unfolding pages_for
pages_for-few shape size n m few e f = omega (arith, few, ap (λ k. k * m) e, f)

abbrev bytes_in : Shape → ℕ → Option ℕ → ℕ
bytes_in shape size None = page_size shape * pages_for shape size
bytes_in shape size (Some class) = class_size class

is_bytes : (slab : Slab) (size : ℕ) (class : Option ℕ) → block_bytes_as slab size class ≡ bytes_in slab.shape size class
is_bytes slab size None = refl
is_bytes slab size (Some class) = refl

pub block_bytes-shape : (a b : Slab) (size : ℕ) → a.shape ≡ b.shape → block_bytes a size ≡ block_bytes b size
unfolding block_bytes
block_bytes-shape a b size e = is_bytes a size (class_of a.shape size) ∙ ap (λ (s : Shape). bytes_in s size (class_of s size)) e ∙ sym (is_bytes b size (class_of b.shape size))

-- no block is empty
pub block_bytes-some : (slab : Slab) (size : ℕ) → 0 < size → 0 < block_bytes slab size
unfolding block_bytes
block_bytes-some slab size some = go (class_of slab.shape size) refl where
  go : (class : Option ℕ) → class_of slab.shape size ≡ class → 0 < block_bytes_as slab size class
  go None is = omega (arith, pages_some slab.shape size some)
  go (Some class) is = (cuts slab.shape class (class_known slab.shape size class is)).some

-- a request that a class serves is one of the class
pub grant-class : (image : Image) (slab : Slab) (size class : ℕ) (shape : Shape) → LaysPool image slab → Some class ≡ class_of shape size → shape ≡ image.shape → grant slab size ≡ grant_from_list slab class (list_of slab class)
unfolding grant
grant-class image slab size class shape p some is = ap (grant_as slab size) (sym (some ∙ ap (λ (s : Shape). class_of s size) (is ∙ sym p.shape_is)))
