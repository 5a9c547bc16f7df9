-- What a call that decodes answers.
use Rattle.std.specs.Prelude.{ℕ, ◌≡◌, List, Some, None, Result, Ok, Err}
use Rattle.std.specs.declared.vec.Vec.{Vec}
use Rattle.std.specs.declared.alloc.Global.{Global}
use Rattle.zone_outside.specs.Coded.{decoded}
use Rattle.zone_outside.specs.declared.coded.DecodeFault.{DecodeFault}
use Rattle.zone_outside.specs.declared.coded.DecodeFault.TheVariants.{Badly, NoMemory}

-- the bytes that the text spells, or that it spells none; want of memory says nothing
abbrev pub Decodes : Result (Vec ℕ Global) DecodeFault → List ℕ → Type 0
Decodes (Ok bytes) text = decoded text ≡ Some bytes.items
Decodes (Err Badly) text = decoded text ≡ None
Decodes (Err NoMemory) text = Unit {0}
