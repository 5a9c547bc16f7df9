use Rattle.std.proofs.lemmas.List.{take_rest}
use Rattle.directive_text.proofs.TextPlaces.{comment_passed}
use Rattle.directive_text.proofs.scanner.Scanner.skip_comment.Goals as goal

pub returns-clause-same : goal.returns-clause-same
returns-clause-same c =
    let passed = comment_passed c.args.self.now.line c.line_end-end.result c.args.self.now.left.now c.line_end-end.ensures.before c.line_end-end.ensures.within c.line_end-end.ensures.end in
    rw (take_rest c.args.self.now.left.now c.line_end-end.result) passed
