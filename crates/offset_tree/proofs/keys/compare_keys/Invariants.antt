-- The first `done` bytes of both are the same.
use Rattle.std.proofs.Common.{ℕ, ◌≡◌, ◌⊎◌, ◌+◌, ◌-◌, ◌/◌, ◌%◌, ◌<◌, ◌≤◌, get_or, drop}
use Rattle.std.specs.Ordering.{nat_cmp}
use Rattle.std.specs.Cmp.Lexicographic.{slice_cmp}
use Rattle.offset_tree.specs.Keys.{bytes_of, key_of}
use Rattle.offset_tree.proofs.keys.compare_keys.Given as goal

abbrev pub invariant-loop-done : goal.invariant-loop-done
invariant-loop-done g l =
    let m = g.B.Blocks.words l.blocks in
    record {
      bytes : (i : ℕ) → get_or l.key i 0 < 256;
      same : (r : ℕ) → l.done + r ≡ l.len → slice_cmp nat_cmp l.key (key_of m l.form l.x) ≡ slice_cmp nat_cmp (drop l.done l.key) (bytes_of m l.x (l.form.key_at + l.done) r);
      within : l.done ≤ l.both;
      whole : (l.done ≡ 0) ⊎ (((l.form.key_at + l.done) % 8 ≡ 0) ⊎ (l.done ≡ l.both));
      first : l.done ≡ 0 → l.steps ≤ l.initial.steps;
      cost : l.steps ≤ l.initial.steps + ((l.form.key_at + l.done + 7) / 8 - l.form.key_at / 8);
    }

abbrev pub decreases-loop-done : goal.decreases-loop-done
decreases-loop-done g l = l.both - l.done
