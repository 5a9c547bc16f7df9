-- The words of a line.
use Rattle.std.proofs.Common.{ℕ, ◌≡◌, List, [], ◌∷◌, map, Option, Some, None, ap, refl, ◌∙◌}
use Rattle.zone_outside.specs.Numbers.{number_of}
use Rattle.replay_log.specs.Lines.{parts}
use Rattle.replay_log.specs.Words.{four_of, octets_of}
use Rattle.replay_log.proofs.PartLemmas.{some_part}

-- five words or more are no address
five : (a b c d e : Option ℕ) (rest : List (Option ℕ)) → four_of (a ∷ b ∷ c ∷ d ∷ e ∷ rest) ≡ None
five None b c d e rest = refl
five (Some a) None c d e rest = refl
five (Some a) (Some b) None d e rest = refl
five (Some a) (Some b) (Some c) None e rest = refl
five (Some a) (Some b) (Some c) (Some d) e rest = refl

pub too_many_octets : (a b c d : List ℕ) (rest : List ℕ) → four_of (map (number_of 255) (a ∷ b ∷ c ∷ d ∷ parts 46 rest)) ≡ None
too_many_octets a b c d rest =
    let more = some_part 46 rest in
    ap (λ ws. four_of (map (number_of 255) (a ∷ b ∷ c ∷ d ∷ ws))) more.1.1
    ∙ five (number_of 255 a) (number_of 255 b) (number_of 255 c) (number_of 255 d) (number_of 255 more.0) (map (number_of 255) more.1.0)
