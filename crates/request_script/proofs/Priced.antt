-- What the calls of a turn cost, where each zone has a price.
use Rattle.std.proofs.Common.{◌≡◌, ℕ, ◌+◌, ◌≤◌, Bool, true, false, if◌then◌else◌, List, [], ◌∷◌, Option, ap, subst, arith}
use Rattle.request_script.specs.declared.active.Active.{Active}
use Rattle.request_script.specs.declared.call.ZoneCall.{ZoneCall}
use Rattle.request_script.specs.declared.call.ZoneCall.TheVariants as to
use Rattle.request_script.specs.declared.call.ZoneReply.{ZoneReply}
use Rattle.request_script.specs.Turn.{Turn, Exchange, Leads}
use Rattle.request_script.specs.Turn.Turn.{asks, decides}
use Rattle.request_script.proofs.Totals.{total}

-- the prices of a call to a zone of each kind
pub record Prices : Type 0 where
  pub req : ℕ → ℕ
  pub conn : ℕ → ℕ
  pub peer : ℕ → ℕ

abbrev pub price : Prices → ZoneCall → ℕ
price p (to.Req zone call) = p.req zone
price p (to.Conn zone call) = p.conn zone
price p (to.Peer zone call) = p.peer zone

abbrev pub spent_by : Prices → List Exchange → ℕ
spent_by p since = total (λ (e : Exchange). price p e.call) since

module _ (p : Prices) (bound : ℕ) (Ends : Option Active → Type 0) where
  -- where so much is spent, the rest of a turn stays within the bound, whatever it is answered, and ends well
  abbrev pub Within : ℕ → Turn → Type 0
  Within spent (decides decision active) = Ends active
  Within spent (asks call next) = (spent + price p call ≤ bound) × ((reply : ZoneReply) → Within (spent + price p call) (next reply))

  pub within-leads : (turn : Turn) (spent : ℕ) (since : List Exchange) (end : Turn) → Within spent turn → Leads turn since end → Within (spent + spent_by p since) end
  within-leads turn spent [] end within leads =
      let same : spent ≡ spent + 0 = omega arith in
      subst (λ t. Within (spent + 0) t) leads (subst (λ n. Within n turn) same within)
  within-leads (decides decision active) spent (e ∷ es) end within leads = absurd leads
  within-leads (asks call next) spent (e ∷ es) end within leads =
      let costs : price p e.call ≡ price p call = ap (price p) leads.0 in
      let same : spent + price p call + spent_by p es ≡ spent + (price p e.call + spent_by p es) = omega (arith, costs) in
      subst (λ n. Within n end) same (within-leads (next e.reply) (spent + price p call) es end (within.1 e.reply) leads.1)

  -- and what leads on from it stays within the bound too
  pub within-spent : (turn : Turn) (spent : ℕ) (since : List Exchange) (end : Turn) → Within spent turn → Leads turn since end → spent ≤ bound → spent + spent_by p since ≤ bound
  within-spent turn spent [] end within leads fits = omega (arith, fits)
  within-spent (decides decision active) spent (e ∷ es) end within leads fits = absurd leads
  within-spent (asks call next) spent (e ∷ es) end within leads fits =
      let costs : price p e.call ≡ price p call = ap (price p) leads.0 in
      let later = within-spent (next e.reply) (spent + price p call) es end (within.1 e.reply) leads.1 within.0 in
      omega (arith, costs, later)

  pub if-within : (b : Bool) (spent : ℕ) (first second : Turn) → Within spent first → Within spent second → Within spent (if b then first else second)
  if-within true spent first second h k = h
  if-within false spent first second h k = k
