use Rattle.std.proofs.Common.{◌++◌, List, ℕ, ap, ◌∙◌}
use Rattle.zone_object.specs.History.{run}
use Rattle.conn_zone.specs.Object as conn
use Rattle.conn_zone.specs.Starting.{words-law}
use Rattle.decision_text.specs.TailText.{image_text}
use Rattle.replay_share.specs.Logs.{conn_opened}
use Rattle.replay_text.proofs.images.push_conn_words.Goals as goal

pub returns : goal.returns
returns c log laid =
    let zone = c.args.zone.now in
    record {
      words = zone.image.words;
      laid = words-law zone (run conn.zone_after (conn_opened c.args.spec.now) log) laid;
      wide = c.in_ok-push_image.ensures.wide;
      short = c.in_ok-push_image.ensures.short;
      grown = c.in_ok-push_image.ensures.text ∙ ap (λ (name : List ℕ). c.args.text.now.items ++ image_text name zone.image.words) c.bytes.ensures;
    }
