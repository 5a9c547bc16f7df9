use Rattle.std.proofs.Common.{ℕ, List, ◌∷◌, map, sym, ap, ◌∙◌}
use Rattle.zone_outside.specs.Numbers.{number_of}
use Rattle.replay_log.specs.Words.{four_of}
use Rattle.replay_log.specs.Reading.{parts_left}
use Rattle.replay_log.proofs.WordLemmas.{too_many_octets}
use Rattle.replay_log.proofs.words.octets.Goals as goal

pub returns-in-Some : goal.returns-in-Some
returns-in-Some c =
    let first = c.in_ok-first.ensures in
    let second = c.in_ok-second.ensures in
    let third = c.in_ok-third.ensures in
    let fourth = c.in_ok-fourth.ensures in
    sym (ap (λ (ws : List (List ℕ)). four_of (map (number_of 255) ws))
    (first.1.0
    ∙ ap (λ rest. first.0 ∷ parts_left 46 rest) c.in_ok-rest.was
    ∙ ap (λ (ws : List (List ℕ)). first.0 ∷ ws) second.1.0
    ∙ ap (λ rest. first.0 ∷ second.0 ∷ parts_left 46 rest) c.in_ok-rest-2.was
    ∙ ap (λ (ws : List (List ℕ)). first.0 ∷ second.0 ∷ ws) third.1.0
    ∙ ap (λ rest. first.0 ∷ second.0 ∷ third.0 ∷ parts_left 46 rest) c.in_ok-rest-3.was
    ∙ ap (λ (ws : List (List ℕ)). first.0 ∷ second.0 ∷ third.0 ∷ ws) fourth.1.0
    ∙ ap (λ rest. first.0 ∷ second.0 ∷ third.0 ∷ fourth.0 ∷ parts_left 46 rest) c.in-Some.is)
    ∙ too_many_octets first.0 second.0 third.0 fourth.0 c.in-Some.field-0.now)
