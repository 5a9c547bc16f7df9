use Rattle.std.proofs.Common.{◌∙◌, ◌++◌, take, sym, subst}
use Rattle.std.proofs.KnownBytes.{Appends-trans}
use Rattle.std.specs.Io.KnownBytes.{Appends}
use Rattle.zonereplay.proofs.LineLemmas.{cut_is, line_after, line_part}
use Rattle.zonereplay.proofs.output.write_lines.Goals as goal

pub lines-preserved : goal.lines-preserved
lines-preserved g c =
    let written = c.lines.invariant.taken in
    let line = c.split_at.result.0.now in
    let later = c.split_at.result.1.now in
    let cut = cut_is c.lines.rest.now line later c.line_length.result c.split_at.ensures.front c.split_at.ensures.back in
    record {
      calm = c.in-Ok.ensures.calm ∙ c.lines.invariant.calm;
      taken = (written.0 ++ line, line_after c.args.text.now written.0 c.lines.rest.now line later written.1 cut, Appends-trans (g.K.Sink.taken c.args.sink.now) (g.K.Sink.taken c.lines.sink) (g.K.Sink.taken c.write_all.new.sink) written.0 line written.2 c.in-Ok.ensures.whole);
    }

pub returns-in-Err-clause-part : goal.returns-in-Err-clause-part
returns-in-Err-clause-part g c =
    let written = c.lines.invariant.taken in
    let here = c.in-Err.ensures.part in
    let line = c.split_at.result.0.now in
    let later = c.split_at.result.1.now in
    let cut = cut_is c.lines.rest.now line later c.line_length.result c.split_at.ensures.front c.split_at.ensures.back in
    let part = line_part c.args.text.now written.0 c.lines.rest.now line later here.0 written.1 cut here.1 in
    (part.0, part.1, subst (Appends (g.K.Sink.taken c.args.sink.now) (g.K.Sink.taken c.write_all.new.sink)) (sym part.2) (Appends-trans (g.K.Sink.taken c.args.sink.now) (g.K.Sink.taken c.lines.sink) (g.K.Sink.taken c.write_all.new.sink) written.0 (take here.0 line) written.2 here.2))
