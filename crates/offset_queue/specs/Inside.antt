-- Of the inside: the joints of a queue, and what linking two of them changes.
use Rattle.std.specs.Prelude.{ℕ, ◌≡◌, ◌≢◌, ◌⊎◌, ◌+◌, ◌-◌, ◌*◌, List, length, ◌==◌, if◌then◌else◌}
use Rattle.zone_region.specs.Words.{Words, word_at}
use Rattle.zone_region.specs.Members.{In}
use Rattle.offset_queue.specs.declared.queue.Queue.{Queue}
use Rattle.offset_queue.specs.Queue.{joint_offset, head_joint, AreLinked}

-- the head's joint, or that of one of the blocks
abbrev pub IsJoint : Queue → ℕ → List ℕ → ℕ × ℕ → Type 0
IsJoint q link xs a = (a ≡ head_joint q) ⊎ (In a.0 xs × (a.1 ≡ link))

-- the joint at a byte offset: the head's, or that of the block whose links stand there
abbrev pub joint_from : Queue → ℕ → ℕ → ℕ × ℕ
joint_from q link o = if o == joint_offset (head_joint q) then head_joint q else (o - 8 * link, link)

-- the next link at `a` and the previous one at `b` were set to each other
pub record Joins (old new : Words) (a b : ℕ × ℕ) : Type 0 where
  pub linked : AreLinked new a b
  pub lengths : (o : ℕ) → length (new o) ≡ length (old o)
  pub blocks : (o : ℕ) → o ≢ a.0 → o ≢ b.0 → new o ≡ old o
  pub words : (o i : ℕ) → (o ≡ a.0 → i ≢ a.1 + 1) → (o ≡ b.0 → i ≢ b.1) → word_at new o i ≡ word_at old o i
