-- The plain program's lists stay a sound slab.
use Rattle.std.proofs.Common.{ℕ, ◌≡◌, ◌^◌, ◌<◌, Option, Result, Ok, Err, sym, ap, subst, arith}
use Rattle.std.specs.Prelude.{IfOk, OnOk, OnErr}
use Rattle.zone_outside.specs.declared.errors.NoMemory.{NoMemory}
use Rattle.zone_region.specs.declared.blocks.Block.{Block}
use Rattle.slab_model.specs.declared.parts.Parts.{Parts}
use Rattle.slab_model.specs.Inside.{slab_of}
use Rattle.slab_model.specs.State.{Slab}
use Rattle.slab_model.specs.Blocks.{IsLive}
use Rattle.slab_model.specs.Counting.{free_pages}
use Rattle.slab_model.specs.Grant.{grant, granted_offset}
use Rattle.slab_model.specs.Return.{give_back}
use Rattle.slab_model.specs.Soundness.{IsSound}
use Rattle.slab_model.proofs.ClassLemmas.{zone}
use Rattle.slab_model.proofs.Laws.{grant-sound, give_back-sound}
use Rattle.slab_model.proofs.CountLaws.{pages-law}

pub sound_after_grant : (result : Result (Option Block) NoMemory) (old new : Parts) (size : ℕ) → IsSound (slab_of old) → 0 < size → IfOk result (λ b. (granted_offset b, slab_of new) ≡ grant (slab_of old) size) → OnErr result (new ≡ old) → IsSound (slab_of new)
sound_after_grant (Ok b) old new size s some ok err = subst (λ (t : Slab). IsSound t) (sym (ap (λ (p : Option ℕ × Slab). p.1) ok)) (grant-sound (slab_of old) size s some)
sound_after_grant (Err e) old new size s some ok err = subst (λ (p : Parts). IsSound (slab_of p)) (sym err) s

pub sound_after_return : (result : Result (Unit {0}) NoMemory) (old new : Parts) (at : ℕ) → IsSound (slab_of old) → IsLive (slab_of old) at → OnOk result (slab_of new ≡ give_back (slab_of old) at) → OnErr result (new ≡ old) → IsSound (slab_of new)
sound_after_return (Ok u) old new at s live ok err = subst (λ (t : Slab). IsSound t) (sym ok) (give_back-sound (slab_of old) at s live)
sound_after_return (Err e) old new at s live ok err = subst (λ (p : Parts). IsSound (slab_of p)) (sym err) s

pub few_free : (slab : Slab) → IsSound slab → free_pages slab < 2 ^ 64
few_free slab s = let h = pages-law slab s in let z = zone slab.shape s.limits in omega (arith, h, z.many)
