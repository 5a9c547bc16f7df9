-- Walks along the limits of a level: what the walk from a place on does with the limit that stands there.
use Rattle.std.proofs.Common.{◌≡◌, ℕ, ◌+◌, ◌<◌, ◌≤◌, true, false, nat_eq, List, [], ◌∷◌, length, drop, get_or, refl, subst, sym, inl, inr, add-one, arith}
use Rattle.std.proofs.Math.Seq.{drop-cons, drop-length}
use Rattle.std.proofs.lemmas.Bool.{eq-eqb, cases_eq, ne_eqb}
use Rattle.std.proofs.lemmas.List.{drop_all}
use Rattle.zone_config.specs.declared.data.Config.{Config}
use Rattle.zone_config.specs.declared.data.ConnLimit.{ConnLimit}
use Rattle.zone_config.specs.declared.data.ReqLimit.{ReqLimit}
use Rattle.req_zone.specs.declared.calls.ReqCall.TheVariants.{Check}
use Rattle.conn_zone.specs.declared.calls.ConnCall.TheVariants as conn
use Rattle.request_script.specs.declared.call.ZoneCall.TheVariants as to
use Rattle.request_script.specs.declared.progress.Asked.TheVariants as asked
use Rattle.request_script.specs.declared.progress.Progress.{Progress}
use Rattle.request_script.specs.Turn.Turn.{asks}
use Rattle.request_script.specs.Zones.{key_of, is_skipped}
use Rattle.request_script.specs.ReqLimits.{is_last, walk_ends}
use Rattle.request_script.specs.ConnLimits.{conn_passed}
use Rattle.request_script.specs.Progress.{behind_conns, behind_reqs, conns_from, level_of, reqs_from, rest}

-- the element at a place, and those behind it
drop-here : {A : Type 0} (xs : List A) (i : ℕ) (d : A) → i < length xs → drop i xs ≡ get_or xs i d ∷ drop (i + 1) xs
drop-here xs i d low = rw add-one (drop-cons xs i d low)

-- whether nothing stands at a place or behind it
is_last-drop : (xs : List ReqLimit) (i : ℕ) (d : ReqLimit) → i ≤ length xs → is_last (drop i xs) ≡ nat_eq i (length xs)
is_last-drop xs i d low = elim (cases_eq i (length xs)) [
  | inl e ↦ rw (eq-eqb i (length xs) e, e, drop-length xs) refl
  | inr ne ↦ rw (drop-cons xs i d (omega arith)) (sym (ne_eqb i (length xs) ne))
]

-- the same in a list that is equal to another
drop-there : {A : Type 0} (xs ys : List A) (i : ℕ) (d : A) → xs ≡ ys → i < length xs → drop i ys ≡ get_or xs i d ∷ drop (i + 1) ys
drop-there xs ys i d e low = subst (λ zs. drop i zs ≡ get_or xs i d ∷ drop (i + 1) zs) e (drop-here xs i d low)

is_last-there : (xs ys : List ReqLimit) (i : ℕ) (d : ReqLimit) → xs ≡ ys → i ≤ length xs → is_last (drop i ys) ≡ nat_eq i (length xs)
is_last-there xs ys i d e low = subst (λ zs. is_last (drop i zs) ≡ nat_eq i (length xs)) e (is_last-drop xs i d low)

drop-past : {A : Type 0} (xs ys : List A) (i : ℕ) → xs ≡ ys → length xs ≤ i → drop i ys ≡ []
drop-past xs ys i e past = subst (λ zs. drop i zs ≡ []) e (drop_all i xs past)

module _ (config : Config) (p : Progress) (place : ℕ) where
  module _ (limits : List ReqLimit) (are : limits ≡ (level_of config p.opening).req) where
    -- a limit of requests that is skipped
    pub reqs-skipped : (d : ReqLimit) → place < length limits → is_skipped 65535 (key_of config p.opening.vars (get_or limits place d).zone) ≡ true
        → reqs_from config p.opening p.holds (place + 1) ≡ reqs_from config p.opening p.holds place
    reqs-skipped d low skipped = rw (drop-there limits _ place d are low, skipped) refl

    -- one that is asked
    pub reqs-asked : (d : ReqLimit) → place < length limits → is_skipped 65535 (key_of config p.opening.vars (get_or limits place d).zone) ≡ false
        → asks (to.Req (get_or limits place d).zone (Check (key_of config p.opening.vars (get_or limits place d).zone) p.opening.moment (get_or limits place d).burst (nat_eq (place + 1) (length limits))))
        (rest config (record p { asked = asked.Check (get_or limits place d) (place + 1) }))
        ≡ reqs_from config p.opening p.holds place
    reqs-asked d low asked = rw (drop-there limits _ place d are low, asked, is_last-there limits _ (place + 1) d are (omega arith)) refl

    -- the end of the list
    pub reqs-end : length limits ≤ place
        → walk_ends config p.opening.moment p.opening.vars (level_of config p.opening).req_dry p.holds (behind_reqs config p.opening) ≡ reqs_from config p.opening p.holds place
    reqs-end past = rw (drop-past limits _ place are past) refl

  module _ (limits : List ConnLimit) (are : limits ≡ (level_of config p.opening).conn) where
    -- a limit of connections that is skipped
    pub conns-skipped : (d : ConnLimit) → place < length limits → is_skipped 255 (key_of config p.opening.vars (get_or limits place d).zone) ≡ true
        → conns_from config p.opening p.said p.opened (place + 1) ≡ conns_from config p.opening p.said p.opened place
    conns-skipped d low skipped = rw (drop-there limits _ place d are low, skipped) refl

    -- one that is asked
    pub conns-asked : (d : ConnLimit) → place < length limits → is_skipped 255 (key_of config p.opening.vars (get_or limits place d).zone) ≡ false
        → asks (to.Conn (get_or limits place d).zone (conn.Open (key_of config p.opening.vars (get_or limits place d).zone) (get_or limits place d).limit))
        (rest config (record p { asked = asked.Open (get_or limits place d) (place + 1) }))
        ≡ conns_from config p.opening p.said p.opened place
    conns-asked d low asked = rw (drop-there limits _ place d are low, asked) refl

    -- the end of the list
    pub conns-end : length limits ≤ place → behind_conns config p.opening p.said (conn_passed p.opened) p.opened ≡ conns_from config p.opening p.said p.opened place
    conns-end past = rw (drop-past limits _ place are past) refl
