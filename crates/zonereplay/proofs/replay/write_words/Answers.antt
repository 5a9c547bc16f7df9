use Rattle.std.proofs.Common.{List, ℕ, ◌≡◌, ◌++◌, map, ap, subst, sym, ◌∙◌}
use Rattle.std.specs.Prelude.{slice_get}
use Rattle.zone_config.specs.declared.data.ZoneSpec.{ZoneSpec}
use Rattle.replay_share.specs.Journals.{Serves, log_of}
use Rattle.replay_text.specs.Images.{ShowsWordsAt}
use Rattle.zonereplay.proofs.PlainLemmas.{shows_image}
use Rattle.zonereplay.proofs.replay.write_words.Goals as goal

pub push_zone_words-requires-clause-served : goal.push_zone_words-requires-clause-served
push_zone_words-requires-clause-served c =
    let h = c.in_ok-zones.ensures in
    (h.0, h.1.asked, subst (λ (zs : List ZoneSpec). Serves c.in_ok-zones.zones zs h.0 h.1.asked) (sym c.as_slice.ensures) h.1.served)

pub returns : goal.returns
returns c =
    let config = c.args.config.now in
    let zones = c.in_ok-zones.zones in
    let text = c.from_vec.result in
    let h = c.in_ok-zones.ensures in
    let served = subst (λ (zs : List ZoneSpec). Serves zones zs h.0 h.1.asked) (sym c.as_slice.ensures) h.1.served in
    let added = c.in_ok-push_zone_words.ensures h.0 h.1.asked served in
    let text_is : text ≡ added.0 = c.from_vec.ensures ∙ added.2 ∙ ap (λ (t : List ℕ). t ++ added.0) c.new-text.ensures.items in
    let log = slice_get (map log_of zones) c.args.zone in
    let shown = subst (λ (t : List ℕ). ShowsWordsAt (slice_get c.as_slice.result.now c.args.zone) log t) (sym text_is) added.1 in
    shows_image config h.0 zones c.args.zone c.args.lines.now c.in_ok-zones._decisions.items text h.1 (subst (λ (zs : List ZoneSpec). ShowsWordsAt (slice_get zs c.args.zone) log text) c.as_slice.ensures shown)
