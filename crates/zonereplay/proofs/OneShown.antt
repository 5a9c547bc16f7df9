-- A replay by one worker has one text, and what `plain` replays follows from what its files hold.
use Rattle.std.proofs.Common.{ℕ, ◌≡◌, Bool, true, false, if◌then◌else◌, List, ◌++◌, length, map, Option, Some, None, Result, Ok, Err, sym, refl, ap, subst, ◌∙◌, inl, inr}
use Rattle.std.specs.Prelude.{nat_lt}
use Rattle.std.specs.List.{filter_map}
use Rattle.directive_text.specs.declared.tree.Directive.{Directive}
use Rattle.directive_text.proofs.Meaning.{one_tree}
use Rattle.config_rules.specs.InOrder.{Place, places_of}
use Rattle.zone_config.specs.declared.data.Config.{Config}
use Rattle.zone_config.specs.declared.data.Level.{Level}
use Rattle.zone_config.specs.declared.data.Upstream.{Upstream}
use Rattle.zone_config.specs.declared.data.ZoneSpec.{ZoneSpec}
use Rattle.zone_config.specs.Configuration.{Configures, server_among, upstreams_of, location_at}
use Rattle.replay_log.specs.declared.line.Line.{Line}
use Rattle.replay_log.specs.Requests.{requests_of}
use Rattle.replay_log.specs.Lines.{Fault}
use Rattle.replay_share.specs.OneReplay.{Outcome, SomeReplay}
use Rattle.replay_share.specs.Replay.{decision_of}
use Rattle.replay_share.specs.Opening.{refused_line}
use Rattle.replay_share.proofs.OneReplay.{one_replay}
use Rattle.replay_text.specs.ReplayText.{replay_text}
use Rattle.zonereplay.specs.declared.stop.Refusal.{Refusal}
use Rattle.zonereplay.specs.declared.stop.Refusal.TheVariants.{TooLong}
use Rattle.made_log.specs.MadeConfig.{made_config}
use Rattle.made_log.specs.MadeLog.{made_lines}
use Rattle.made_log.specs.Summary.{summary_text}
use Rattle.zone_watch.specs.Notices.{notices_of}
use Rattle.zone_watch.specs.Watched.{Watched, shown, reports_of}
use Rattle.zonereplay.specs.Told.{Told, Shows}
use Rattle.zonereplay.specs.Told.Told.{replay, summary}
use Rattle.zonereplay.specs.Plan.{Plan, SaysConfig, Ends, MayHold, text_limit, in_limit, unless_refused, with_zones, log_run, plain_log, plain_plan}
use Rattle.zonereplay.specs.Plan.Plan.{refuses, reads}
use Rattle.zonereplay.specs.Plan.End.{refused, written}
use Rattle.zonereplay.specs.OneShown.{OneShown, SomeShown, OnePlain, OneWorker, OneSummary, OneMade}

-- ---- a replay

pub one_shown : OneShown
one_shown config lines watchers one_left other_left first second h k =
    let one : Outcome = record { decided = h.decided; logs = h.logs } in
    let two : Outcome = record { decided = k.decided; logs = k.logs } in
    let same = one_replay config lines one two h.played k.played in
    let left : one_left ≡ other_left = h.reported.list ∙ ap (λ (o : Outcome). shown (notices_of lines (map decision_of o.decided)) watchers) same ∙ sym k.reported.list in
    let text = h.reported.told ∙ ap (λ (o : Outcome). replay_text config o.decided o.logs ++ reports_of one_left) same
    ∙ ap (λ (ws : List Watched). replay_text config k.decided k.logs ++ reports_of ws) left ∙ sym k.reported.told in
    (text, left)

pub some_shown : SomeReplay → SomeShown
some_shown law config lines watchers is none ok few =
    let found = law config lines is none ok few in
    let left = shown (notices_of lines (map decision_of found.0.decided)) watchers in
    let text = replay_text config found.0.decided found.0.logs ++ reports_of left in
    (left, (text, record { decided = found.0.decided; logs = found.0.logs; played = found.1; reported = record { list = refl; told = refl } }))

-- ---- a configuration

some-same : {A : Type 0} (x y : A) → Some x ≡ Some y → x ≡ y
some-same x y is = cc

-- places give one configuration
same_config : (places : List Place) (one two : Config) → Configures places one → Configures places two → one ≡ two
same_config places one two h k =
    let zones : one.zones ≡ two.zones = h.zones ∙ sym k.zones in
    let upstreams : one.upstreams ≡ two.upstreams = h.upstreams ∙ ap (λ (zs : List ZoneSpec). upstreams_of zs places) zones ∙ sym k.upstreams in
    let among : server_among one.zones one.upstreams places ≡ server_among two.zones two.upstreams places =
    ap (λ (zs : List ZoneSpec). server_among zs one.upstreams places) zones ∙ ap (λ (us : List Upstream). server_among two.zones us places) upstreams in
    let server : one.server ≡ two.server = some-same one.server two.server (sym h.server ∙ among ∙ k.server) in
    let locations : one.locations ≡ two.locations =
    h.locations ∙ ap (λ (zs : List ZoneSpec). filter_map (location_at zs one.upstreams) places) zones ∙ ap (λ (us : List Upstream). filter_map (location_at two.zones us) places) upstreams ∙ sym k.locations in
    let passed : one.passed ≡ two.passed = h.passed ∙ sym k.passed in
    ap (λ (x : List ZoneSpec). record { zones = x; upstreams = one.upstreams; server = one.server; locations = one.locations; passed = one.passed }) zones
    ∙ ap (λ (x : List Upstream). record { zones = two.zones; upstreams = x; server = one.server; locations = one.locations; passed = one.passed }) upstreams
    ∙ ap (λ (x : Level). record { zones = two.zones; upstreams = two.upstreams; server = x; locations = one.locations; passed = one.passed }) server
    ∙ ap (λ (x : List Level). record { zones = two.zones; upstreams = two.upstreams; server = two.server; locations = x; passed = one.passed }) locations
    ∙ ap (λ (x : ℕ). record { zones = two.zones; upstreams = two.upstreams; server = two.server; locations = two.locations; passed = x }) passed

-- and so does a text
one_config : (text : List ℕ) (one two : Config) → SaysConfig text one → SaysConfig text two → one ≡ two
one_config text one two h k =
    let directives : h.directives ≡ k.directives = one_tree text h.directives k.directives h.spelled k.spelled in
    same_config (places_of k.directives) one two (subst (λ (ds : List Directive). Configures (places_of ds) one) directives h.given.configures) k.given.configures

-- ---- a plan that ends in a text

not_refused : (told : Told) (refusal : Refusal) → written told ≡ refused refusal → ⊥
not_refused told refusal is = cc

module _ (contents : List ℕ → Option (List ℕ)) (told : Told) where
  limit_end : (b : Bool) (plan : Plan) → Ends contents (if b then refuses TooLong else plan) (written told) → Ends contents plan (written told)
  limit_end true plan h = absurd (not_refused told TooLong h)
  limit_end false plan h = h

  -- it goes on by what the file holds
  read_end : (name text : List ℕ) (next : List ℕ → Plan) → contents name ≡ Some text → Ends contents (reads name (in_limit next)) (written told) → Ends contents (next text) (written told)
  read_end name text next is h =
      let held : h.0 ≡ text = subst (λ (o : Option (List ℕ)). MayHold o h.0) is h.1 in
      limit_end (nat_lt text_limit (length text)) (next text) (subst (λ (t : List ℕ). Ends contents (in_limit next t) (written told)) held h.2)

  zones_end : (line : Option ℕ) (plan : Plan) → Ends contents (unless_refused line plan) (written told) → Ends contents plan (written told)
  zones_end None plan h = h
  zones_end (Some line) plan h = absurd (not_refused told _ h)

  -- and by the configuration that the text says
  config_end : (text : List ℕ) (next : Config → Plan) → Ends contents (with_zones text next) (written told) → (config : Config) × SaysConfig text config × Ends contents (next config) (written told)
  config_end text next (inl h) = (h.0, h.1, zones_end (refused_line h.0.zones) (next h.0) h.2)
  config_end text next (inr h) = absurd (not_refused told h.0 h.2)

  told-same : (other : Told) → written told ≡ written other → told ≡ other
  told-same other is = cc

  -- and tells the replay of the lines that were read
  run_end : (config : Config) (read : Result (List Line) Fault) → Ends contents (log_run (λ (lines : List Line). replay config 1 lines) read) (written told) → (lines : List Line) × (read ≡ Ok lines) × (told ≡ replay config 1 lines)
  run_end config (Ok lines) h = (lines, refl, told-same (replay config 1 lines) h)
  run_end config (Err fault) h = absurd (not_refused told _ h)

-- what `plain` tells, where its files hold these texts
record IsToldOf (given lines : List ℕ) (told : Told) : Type 0 where
  config : Config
  said : SaysConfig given config
  requests : List Line
  read : requests_of config.locations lines ≡ Ok requests
  told_is : told ≡ replay config 1 requests

plain_told : (contents : List ℕ → Option (List ℕ)) (told : Told) (name log given lines : List ℕ) → contents name ≡ Some given → contents log ≡ Some lines → Ends contents (plain_plan name log) (written told) → IsToldOf given lines told
plain_told contents told name log given lines name_is log_is h =
    let first = config_end contents told given (plain_log log) (read_end contents told name given (λ (text : List ℕ). with_zones text (plain_log log)) name_is h) in
    let config = first.0 in
    let second = run_end contents told config (requests_of config.locations lines) (read_end contents told log lines (λ (text : List ℕ). log_run (λ (requests : List Line). replay config 1 requests) (requests_of config.locations text)) log_is first.2) in
    record { config = config; said = first.1; requests = second.0; read = second.1; told_is = second.2 }

-- ---- `plain`

ok-same : {A B : Type 0} (r : Result A B) (x y : A) → r ≡ Ok x → r ≡ Ok y → x ≡ y
ok-same r x y h k = let is = sym h ∙ k in cc

one_told : (given lines : List ℕ) (one two : Told) → IsToldOf given lines one → IsToldOf given lines two → one ≡ two
one_told given lines one two h k =
    let config : h.config ≡ k.config = one_config given h.config k.config h.said k.said in
    let requests : h.requests ≡ k.requests = ok-same (requests_of k.config.locations lines) h.requests k.requests (sym (ap (λ (c : Config). requests_of c.locations lines) config) ∙ h.read) k.read in
    h.told_is ∙ ap (λ (c : Config). replay c 1 h.requests) config ∙ ap (λ (l : List Line). replay k.config 1 l) requests ∙ sym k.told_is

pub one_plain : OnePlain
one_plain contents name log given lines watchers one_left other_left first second name_is log_is h k =
    let one = plain_told contents h.told name log given lines name_is log_is h.ends in
    let two = plain_told contents k.told name log given lines name_is log_is k.ends in
    let same : k.told ≡ h.told = one_told given lines k.told h.told two one in
    let shows : Shows (replay one.config 1 one.requests) watchers one_left first = subst (λ (t : Told). Shows t watchers one_left first) one.told_is h.shown in
    let too : Shows (replay one.config 1 one.requests) watchers other_left second = subst (λ (t : Told). Shows t watchers other_left second) (same ∙ one.told_is) k.shown in
    one_shown one.config one.requests watchers one_left other_left first second shows too

-- ---- `replay` on one worker

pub one_worker : OneWorker
one_worker name log = refl

-- ---- `made`

pub one_summary : OneSummary
one_summary config lines first second h k =
    let one : Outcome = record { decided = h.decided; logs = h.logs } in
    let two : Outcome = record { decided = k.decided; logs = k.logs } in
    h.text_is ∙ ap (λ (o : Outcome). summary_text config.zones (map decision_of o.decided) o.logs) (one_replay config lines one two h.played k.played) ∙ sym k.text_is

same-told : (one two : Told) → written one ≡ written two → one ≡ two
same-told one two is = cc

pub one_made : OneMade
one_made some other seed count watchers one_left others other_left first second h k =
    let config = made_config in
    let lines = made_lines seed count in
    let one : h.told ≡ summary config lines = same-told h.told (summary config lines) h.ends in
    let two : k.told ≡ summary config lines = same-told k.told (summary config lines) k.ends in
    let shows : Shows (summary config lines) watchers one_left first = subst (λ (t : Told). Shows t watchers one_left first) one h.shown in
    let too : Shows (summary config lines) others other_left second = subst (λ (t : Told). Shows t others other_left second) two k.shown in
    one_summary config lines first second shows.0 too.0
