use Rattle.std.proofs.Common.{◌++◌, refl}
use Rattle.zone_config.specs.Configuration.{zone_name}
use Rattle.decision_text.specs.TailText.{image_text}
use Rattle.replay_workers.specs.Columns.{log_left}
use Rattle.replay_text.specs.ReplayText.{zone_text}
use Rattle.replay_text.proofs.TextLemmas.{text-more}
use Rattle.replay_text.proofs.left.push_history_with_words.Goals as goal

pub returns : goal.returns
returns c =
    let spec = c.args.spec.now in
    let log = log_left c.args.left.now in
    let added = c.in_ok-push_words_left.ensures in (
      added.words,
      record { laid = added.laid; wide = added.wide; short = added.short },
      text-more c.args.text.now.items c.push_history.new.text.items c.push_words_left.new.text.items (zone_text spec log) (image_text (zone_name spec) added.words) (zone_text spec log ++ image_text (zone_name spec) added.words)
          c.in_ok-push_history.ensures added.grown refl,
    )
