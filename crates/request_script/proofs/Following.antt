-- How a share goes on, by a reply and by a line.
use Rattle.std.proofs.Common.{[], ◌∷◌, ◌++◌, refl, subst, sym, append_assoc}
use Rattle.std.proofs.lemmas.List.{append-nil}
use Rattle.request_script.specs.Turn.{Turn, Leads}
use Rattle.request_script.specs.Turn.Turn.{asks, decides}
use Rattle.request_script.specs.Drive.{with_active, Drives}
use Rattle.request_script.specs.Drive.Drives.{at_end, line}
use Rattle.request_script.specs.Laws.{ExchangeLaw, LineLaw}

pub exchange-law : ExchangeLaw
exchange-law turn [] call next reply leads = subst (λ (t : Turn). Leads t (record { call = call; reply = reply } ∷ []) (next reply)) (sym leads) (refl, refl)
exchange-law (decides decision active) (e ∷ es) call next reply leads = absurd leads
exchange-law (asks first more) (e ∷ es) call next reply leads = (leads.0, exchange-law (more e.reply) es call next reply leads.1)

pub line-law : LineLaw
line-law config _ _ _ _ _ next since decision active (at_end table) leads =
    let after = with_active table next.conn active in
    subst (λ asked. Drives config table (next ∷ []) asked (decision ∷ []) after) (append-nil since)
    (line table next [] since [] decision active [] after leads (at_end after))
line-law config _ _ _ _ _ next since decision active (line table one lines asked more own had decisions last leads_own drives) leads =
    let after = with_active last next.conn active in
    subst (λ all. Drives config table (one ∷ (lines ++ next ∷ [])) all (own ∷ (decisions ++ decision ∷ [])) after) (sym (append_assoc asked more since))
    (line table one (lines ++ next ∷ []) asked (more ++ since) own had (decisions ++ decision ∷ []) after leads_own
    (line-law config (with_active table one.conn had) lines more decisions last next since decision active drives leads))
