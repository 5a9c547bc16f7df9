-- What holds at a side or a colour that the code computed holds at the one that it equals.
use Rattle.std.proofs.Common.{ℕ, ◌≡◌, Bool, sym, ap, subst, ◌∙◌}
use Rattle.zone_region.specs.Words.{Words, word_at}
use Rattle.offset_tree.specs.declared.side.Side.{Side}
use Rattle.offset_tree.specs.Inside.Sides.{child_word}
use Rattle.offset_tree.specs.Inside.Links.{IsShape}
use Rattle.offset_tree.specs.Inside.Moves.{Turn, unturned, turned, Spot, recoloured, ChangesTree}

-- a turn on an equal side
pub unturned_at : (m : Words) (context : ℕ) (u : Turn) (s t : Side) (x : ℕ) → s ≡ t → IsShape m context (unturned u t x) → IsShape m context (unturned u s x)
unturned_at m context u s t x e h = subst (λ (q : Side). IsShape m context (unturned u q x)) (sym e) h

pub turned_at : (m : Words) (context : ℕ) (u : Turn) (s t : Side) (x : ℕ) → s ≡ t → IsShape m context (turned u s x) → IsShape m context (turned u t x)
turned_at m context u s t x e h = subst (λ (q : Side). IsShape m context (turned u q x)) e h

pub turn_changes_at : (m n : Words) (context : ℕ) (u : Turn) (s t : Side) (x : ℕ) → s ≡ t → ChangesTree m n context (unturned u s x) → ChangesTree m n context (unturned u t x)
turn_changes_at m n context u s t x e h = subst (λ (q : Side). ChangesTree m n context (unturned u q x)) e h

-- a colour that the code read
pub recoloured_at : (m : Words) (context : ℕ) (a : Spot) (x : ℕ) (c d : Bool) → c ≡ d → IsShape m context (recoloured a x c) → IsShape m context (recoloured a x d)
recoloured_at m context a x c d e h = subst (λ (q : Bool). IsShape m context (recoloured a x q)) e h

pub read_at : (m : Words) (p r : ℕ) (f h : Side) → f ≡ h → r ≡ word_at m p (child_word f) → r ≡ word_at m p (child_word h)
read_at m p r f h e at = at ∙ ap (λ (s : Side). word_at m p (child_word s)) e
