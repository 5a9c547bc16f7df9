use Rattle.std.proofs.Common.{rules, ◌≡◌, ◌+◌, ◌-◌, ◌++◌, ◌∙◌, length, decimal, take, ap, arith, length-append, length-drop}
use Rattle.std.proofs.lemmas.Fmt.{length-decimal-le}
use Rattle.std.proofs.lemmas.List.{length-take}
use Rattle.decision_text.proofs.TextLemmas.{digits_cut}
use Rattle.decision_text.proofs.numbers.push_digits.Goals as goal

pub write_digits-start-requires : goal.write_digits-start-requires
write_digits-start-requires c = search (rules, length-decimal-le 20)

pub returns : goal.returns
returns c =
    let start = c.write_digits-start.result in
    let old = c.args.text.now.items in
    let digits = decimal c.args.number in
    let is : start + length digits ≡ 20 = c.write_digits-start.ensures.start in
    let size : start + 20 - start ≡ length digits + start = omega (arith, is) in
    let count : c.len.result - start ≡ length (old ++ digits) = grind (arith, is, length-append, length-take, length-drop, c.len.ensures, c.in_ok-extend_from_slice.ensures.len, c.write_digits-start.auto.buf) in
    c.truncate.ensures.items
    ∙ ap (take (c.len.result - start)) c.in_ok-extend_from_slice.ensures.items
    ∙ digits_cut old digits _ c.write_digits-start.new.buf start (start + 20 - start) (c.len.result - start) c.write_digits-start.ensures.written size count
