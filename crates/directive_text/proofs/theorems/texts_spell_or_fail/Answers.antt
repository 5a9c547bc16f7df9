use Rattle.directive_text.proofs.Meaning.{either, one_tree, one_fault, not_both}
use Rattle.directive_text.proofs.theorems.texts_spell_or_fail.Goals as goal

pub returns : goal.returns
returns c = record {
  either = either;
  one_tree = one_tree;
  one_fault = one_fault;
  not_both = not_both;
}
