-- What the zones gave a share in its exchanges and it hasn't given back.
use Rattle.std.proofs.Common.{◌≡◌, ℕ, ◌+◌, ◌<◌, ◌≤◌, Bool, true, ◌&&◌, nat_eq, if◌then◌else◌, List, [], ◌∷◌, ◌++◌, sum_by, refl, ap, ◌∙◌, arith}
use Rattle.std.proofs.lemmas.Bool.{eq-eqb}
use Rattle.req_zone.specs.declared.calls.ReqCall.{ReqCall}
use Rattle.req_zone.specs.declared.calls.ReqReply.{ReqReply}
use Rattle.req_zone.specs.Object as req
use Rattle.conn_zone.specs.declared.calls.ConnCall.{ConnCall}
use Rattle.conn_zone.specs.declared.calls.ConnReply.{ConnReply}
use Rattle.conn_zone.specs.Object as conn
use Rattle.peer_zone.specs.declared.calls.PeerCall.{PeerCall}
use Rattle.peer_zone.specs.declared.calls.PeerReply.{PeerReply}
use Rattle.peer_zone.specs.Object as peer
use Rattle.request_script.specs.declared.call.ZoneCall.{ZoneCall}
use Rattle.request_script.specs.declared.call.ZoneReply.{ZoneReply}
use Rattle.request_script.specs.Turn.{Exchange}
use Rattle.request_script.specs.Drive.{Made, req_made, conn_made, peer_made, req_part, conn_part, peer_part}
use Rattle.request_script.specs.Permitted.{HoldsEntry, HoldsPeer}
use Rattle.request_script.proofs.Totals.{weigh, total, total-append, total-picked}

-- what a zone gives and takes back
pub data Thing : Type 0 where
  -- a hold on the entry of a block of a request zone
  hold : (zone at : ℕ) → Thing
  -- a connection on the entry of a block of a connection zone
  connection : (zone at : ℕ) → Thing
  -- a server of an upstream's zone
  server : (zone list index : ℕ) → Thing

-- once if two things are the same
abbrev pub once : Thing → Thing → ℕ
once (hold z at) (hold zone block) = if nat_eq zone z then req.once_at at block else 0
once (connection z at) (connection zone block) = if nat_eq zone z then conn.once_at at block else 0
once (server z list index) (server zone to at) = if nat_eq zone z then peer.once_for list index to at else 0
once _ _ = 0

-- how often an exchange gives a thing
abbrev pub gives : Thing → ZoneCall → ZoneReply → ℕ
gives (hold z at) call reply = weigh (λ (m : Made ReqCall ReqReply). req.given_by at m.reply) (req_made z call reply)
gives (connection z at) call reply = weigh (λ (m : Made ConnCall ConnReply). conn.given_by at m.reply) (conn_made z call reply)
gives (server z list index) call reply = weigh (λ (m : Made PeerCall PeerReply). peer.given_by list index m.call m.reply) (peer_made z call reply)

-- how often an exchange gives it back
abbrev pub takes : Thing → ZoneCall → ZoneReply → ℕ
takes (hold z at) call reply = weigh (λ (m : Made ReqCall ReqReply). req.back_by at m.call) (req_made z call reply)
takes (connection z at) call reply = weigh (λ (m : Made ConnCall ConnReply). conn.back_by at m.call) (conn_made z call reply)
takes (server z list index) call reply = weigh (λ (m : Made PeerCall PeerReply). peer.back_by list index m.call) (peer_made z call reply)

abbrev pub given : Thing → List Exchange → ℕ
given t past = total (λ (e : Exchange). gives t e.call e.reply) past

abbrev pub back : Thing → List Exchange → ℕ
back t past = total (λ (e : Exchange). takes t e.call e.reply) past

abbrev pub times : Thing → List Thing → ℕ
times t things = total (once t) things

-- Of what was given in these exchanges, at least these things weren't given back.
abbrev pub Has : List Exchange → List Thing → Type 0
Has past things = (t : Thing) → back t past + times t things ≤ given t past

-- ---- a thing that the share has may be given back

eq-self : (n : ℕ) → nat_eq n n ≡ true
eq-self n = eq-eqb n n refl

both-self : (m n : ℕ) → (nat_eq m m && nat_eq n n) ≡ true
both-self m n = ap (λ (b : Bool). b && nat_eq n n) (eq-self m) ∙ eq-self n

once-self : (t : Thing) → once t t ≡ 1
once-self (hold zone at) = ap (λ (b : Bool). if b then req.once_at at at else 0) (eq-self zone) ∙ ap (λ (b : Bool). if b then 1 else 0) (eq-self at)
once-self (connection zone at) = ap (λ (b : Bool). if b then conn.once_at at at else 0) (eq-self zone) ∙ ap (λ (b : Bool). if b then 1 else 0) (eq-self at)
once-self (server zone list index) = ap (λ (b : Bool). if b then peer.once_for list index list index else 0) (eq-self zone) ∙ ap (λ (b : Bool). if b then 1 else 0) (both-self list index)

has-first : (past : List Exchange) (t : Thing) (things : List Thing) → Has past (t ∷ things) → back t past < given t past
has-first past t things has = let one = once-self t in let here = has t in omega (arith, one, here)

pub holds-entry : (past : List Exchange) (zone at : ℕ) (things : List Thing) → Has past (hold zone at ∷ things) → HoldsEntry (req_part zone past) at
holds-entry past zone at things has =
    let less = has-first past (hold zone at) things has in
    let b = total-picked (λ (m : Made ReqCall ReqReply). req.back_by at m.call) (λ (e : Exchange). req_made zone e.call e.reply) past in
    let g = total-picked (λ (m : Made ReqCall ReqReply). req.given_by at m.reply) (λ (e : Exchange). req_made zone e.call e.reply) past in
    omega (arith, less, b, g)

pub holds-connection : (past : List Exchange) (zone at : ℕ) (things : List Thing) → Has past (connection zone at ∷ things)
    → sum_by (λ (m : Made ConnCall ConnReply). conn.back_by at m.call) (conn_part zone past) < sum_by (λ (m : Made ConnCall ConnReply). conn.given_by at m.reply) (conn_part zone past)
holds-connection past zone at things has =
    let less = has-first past (connection zone at) things has in
    let b = total-picked (λ (m : Made ConnCall ConnReply). conn.back_by at m.call) (λ (e : Exchange). conn_made zone e.call e.reply) past in
    let g = total-picked (λ (m : Made ConnCall ConnReply). conn.given_by at m.reply) (λ (e : Exchange). conn_made zone e.call e.reply) past in
    omega (arith, less, b, g)

pub holds-peer : (past : List Exchange) (zone list index : ℕ) (things : List Thing) → Has past (server zone list index ∷ things) → HoldsPeer (peer_part zone past) list index
holds-peer past zone list index things has =
    let less = has-first past (server zone list index) things has in
    let b = total-picked (λ (m : Made PeerCall PeerReply). peer.back_by list index m.call) (λ (e : Exchange). peer_made zone e.call e.reply) past in
    let g = total-picked (λ (m : Made PeerCall PeerReply). peer.given_by list index m.call m.reply) (λ (e : Exchange). peer_made zone e.call e.reply) past in
    omega (arith, less, b, g)

-- ---- one exchange more

module _ (past : List Exchange) (call : ZoneCall) (reply : ZoneReply) where
  -- the exchanges with one more
  abbrev pub with_one : List Exchange
  with_one = past ++ record { call = call; reply = reply } ∷ []

  back-one : (t : Thing) → back t with_one ≡ back t past + takes t call reply
  back-one t = let all = total-append (λ (e : Exchange). takes t e.call e.reply) past (record { call = call; reply = reply } ∷ []) in omega (arith, all)

  given-one : (t : Thing) → given t with_one ≡ given t past + gives t call reply
  given-one t = let all = total-append (λ (e : Exchange). gives t e.call e.reply) past (record { call = call; reply = reply } ∷ []) in omega (arith, all)

  -- one that gives nothing back
  pub has-same : (things : List Thing) → ((t : Thing) → takes t call reply ≤ 0) → Has past things → Has with_one things
  has-same things none has t = let here = has t in let b = back-one t in let g = given-one t in let n = none t in omega (arith, here, b, g, n)

  -- one that gives a thing
  pub has-more : (one : Thing) (things : List Thing) → ((t : Thing) → takes t call reply ≤ 0) → ((t : Thing) → once t one ≤ gives t call reply) → Has past things → Has with_one (one ∷ things)
  has-more one things none some has t = let here = has t in let b = back-one t in let g = given-one t in let n = none t in let m = some t in omega (arith, here, b, g, n, m)

  -- one that gives back a thing
  pub has-less : (one : Thing) (things : List Thing) → ((t : Thing) → takes t call reply ≤ once t one) → Has past (one ∷ things) → Has with_one things
  has-less one things gone has t = let here = has t in let b = back-one t in let g = given-one t in let n = gone t in omega (arith, here, b, g, n)

-- the order doesn't count, nor what is let go without being given back
pub has-fewer : (past : List Exchange) (things fewer : List Thing) → ((t : Thing) → times t fewer ≤ times t things) → Has past things → Has past fewer
has-fewer past things fewer less has t = let here = has t in let l = less t in omega (arith, here, l)

-- of things that are held those behind others are held
pub has-rest : (past : List Exchange) (things rest : List Thing) → Has past (things ++ rest) → Has past rest
has-rest past things rest has = has-fewer past (things ++ rest) rest (λ t. let all = total-append (once t) things rest in omega (arith, all)) has
