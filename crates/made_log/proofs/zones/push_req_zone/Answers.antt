use Rattle.std.proofs.Common.{◌+◌, length, subst, sym}
use Rattle.std.specs.Prelude.{codes}
use Rattle.slab_model.specs.Counting.{free_pages}
use Rattle.zone_object.specs.History.{run}
use Rattle.req_zone.specs.declared.words.ReqWords.{ReqWords}
use Rattle.req_zone.specs.Lays.{Lays}
use Rattle.req_zone.specs.Object as req
use Rattle.replay_share.specs.Logs.{req_opened}
use Rattle.made_log.proofs.Parts.{line-named}
use Rattle.made_log.proofs.zones.push_req_zone.Goals as goal

pub push_zone_line-requires : goal.push_zone_line-requires
push_zone_line-requires c =
    let s = run req.zone_after (req_opened c.args.spec.now) c.args.journal.now.log in
    (s, subst (λ (z : ReqWords). Lays z s) (sym c.object.ensures) c.requires.1.ran.laid)

pub returns : goal.returns
returns c room runs =
    let s = run req.zone_after (req_opened c.args.spec.now) c.args.journal.now.log in
    let laid = subst (λ (z : ReqWords). Lays z s) (sym c.object.ensures) runs.ran.laid in
    line-named c.args.text.now.items c.push_zone_line.new.text.items (codes " req ") c.args.spec.now.name c.bytes.result.now c.args.journal.now.log c.entries.result.now (length s.table) (free_pages s.slab)
    c.bytes.ensures c.entries.ensures (c.in_ok-push_zone_line.ensures s laid)
