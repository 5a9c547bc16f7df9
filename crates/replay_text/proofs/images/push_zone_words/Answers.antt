use Rattle.std.proofs.Common.{ℕ, ◌≡◌, ◌<◌, ◌++◌, List, length, map, get_or, Option, Some, Result, Ok, Err, ap, subst, sym, refl, ◌∙◌, arith}
use Rattle.std.specs.Prelude.{OnOk, slice_get}
use Rattle.std.specs.Option.{option_map}
use Rattle.std.proofs.lemmas.Option.{slice_get-get_or, slice_get-map}
use Rattle.zone_outside.specs.declared.errors.NoMemory.{NoMemory}
use Rattle.zone_config.specs.declared.data.ZoneSpec.{ZoneSpec}
use Rattle.zone_config.specs.Configuration.{zone_name}
use Rattle.replay_share.specs.declared.journal.ZoneJournal.{ZoneJournal}
use Rattle.replay_share.specs.Journals.{IsJournalOf, log_of}
use Rattle.replay_share.specs.Logs.{ZoneLog}
use Rattle.decision_text.specs.TailText.{image_text}
use Rattle.replay_text.specs.Images.{AddsWords, LaysAfter, ShowsWords, ShowsWordsAt}
use Rattle.replay_text.proofs.Served.{HaveEach, as-many, one-at}
use Rattle.replay_text.proofs.images.push_zone_words.Goals as goal

-- a place among the zones is one among their journals
below : (room : ℕ) (specs : List ZoneSpec) (journals : List ZoneJournal) (n : ℕ) → HaveEach (IsJournalOf room) specs journals → n < length specs → n < length journals
below room specs journals n at low = let many = as-many (IsJournalOf room) specs journals at in omega (arith, many, low)

-- words that were added at a place are those of the zone and the history that stand there
shows : (specs : List ZoneSpec) (journals : List ZoneJournal) (n : ℕ) (spec : ZoneSpec) (journal : ZoneJournal) (old new : List ℕ) → n < length specs → n < length journals
    → spec ≡ get_or specs n spec → journal ≡ get_or journals n journal → AddsWords (zone_name spec) (LaysAfter spec (log_of journal)) old new
    → (image : List ℕ) × ShowsWordsAt (slice_get specs n) (slice_get (map log_of journals) n) image × (new ≡ old ++ image)
shows specs journals n spec journal old new low low_journal spec_is journal_is added =
    let image = image_text (zone_name spec) added.words in
    let shown : ShowsWords spec (log_of journal) image = record { words = added.words; image = record { laid = added.laid; wide = added.wide; short = added.short }; text_is = refl } in
    let spec_at : slice_get specs n ≡ Some spec = slice_get-get_or specs n spec low ∙ ap Some (sym spec_is) in
    let journal_at : slice_get journals n ≡ Some journal = slice_get-get_or journals n journal low_journal ∙ ap Some (sym journal_is) in
    let log_at : slice_get (map log_of journals) n ≡ Some (log_of journal) = slice_get-map log_of journals n ∙ ap (option_map log_of) journal_at in (
      image,
      subst (λ (o : Option ZoneSpec). ShowsWordsAt o (slice_get (map log_of journals) n) image) (sym spec_at) (subst (λ (o : Option ZoneLog). ShowsWordsAt (Some spec) o image) (sym log_at) shown),
      added.grown,
    )

when_ok : (A B : Type 0) (r : Result (Unit {0}) NoMemory) → (A → B) → OnOk r A → OnOk r B
when_ok A B (Ok v) f a = f a
when_ok A B (Err e) f a = a

pub push_words-requires : goal.push_words-requires
push_words-requires c =
    let served = c.requires.served in
    let specs = c.args.specs.now in
    let zones = c.args.zones.now in
    let n = c.args.number in
    let journal = c.index-journals-number.result in (
      served.0,
      one-at (IsJournalOf served.0) specs zones n c.index-specs-number.result journal served.2.each c.requires.there (below served.0 specs zones n served.2.each c.requires.there) c.index-specs-number.is
          (c.index-journals-number.is ∙ ap (λ (js : List ZoneJournal). get_or js n journal) c.as_slice-journals.ensures),
    )

pub returns : goal.returns
returns c room asked serves =
    let specs = c.args.specs.now in
    let zones = c.args.zones.now in
    let n = c.args.number in
    let spec = c.index-specs-number.result in
    let journal = c.index-journals-number.result in
    let old = c.args.text.now.items in
    let new = c.push_words.new.text.items in
    let low = below room specs zones n serves.each c.requires.there in
    let journal_is : journal ≡ get_or zones n journal = c.index-journals-number.is ∙ ap (λ (js : List ZoneJournal). get_or js n journal) c.as_slice-journals.ensures in
    when_ok (AddsWords (zone_name spec) (LaysAfter spec (log_of journal)) old new) ((image : List ℕ) × ShowsWordsAt (slice_get specs n) (slice_get (map log_of zones) n) image × (new ≡ old ++ image)) c.push_words.result
    (shows specs zones n spec journal old new c.requires.there low c.index-specs-number.is journal_is) c.push_words.ensures
