-- The oldest entry of a table is the first of its reverse.
use Rattle.std.proofs.Common.{◌≡◌, ◌+◌, ◌-◌, List, [], ◌∷◌, ◌++◌, reverse, ap, ◌∙◌}
use Rattle.std.proofs.lemmas.List.{reverse-append}
use Rattle.req_zone.specs.declared.state.ReqEntry.{ReqEntry}

pub oldest_first : (table newer : List ReqEntry) (oldest : ReqEntry) → table ≡ newer ++ (oldest ∷ []) → reverse table ≡ oldest ∷ reverse newer
oldest_first table newer oldest is = ap (λ (xs : List ReqEntry). reverse xs) is ∙ reverse-append newer (oldest ∷ [])
