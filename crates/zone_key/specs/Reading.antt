-- What the reader of key expressions answers.
use Rattle.std.specs.Prelude.{◌≡◌, ℕ, List, None, Some, Result, Ok, Err}
use Rattle.zone_key.specs.declared.expr.Expr.{Expr}
use Rattle.zone_key.specs.declared.expr.ExprFault.{ExprFault}
use Rattle.zone_key.specs.declared.expr.ExprFault.TheVariants.{BadKey, NoMemory}
use Rattle.zone_key.specs.Expr.{expr_of}

-- the expression that the text spells, or that it spells none; want of memory says nothing
abbrev pub ReadsExpr : Result Expr ExprFault → List ℕ → Type 0
ReadsExpr (Ok expr) text = expr_of text ≡ Some expr.parts
ReadsExpr (Err BadKey) text = expr_of text ≡ None
ReadsExpr (Err NoMemory) text = Unit {0}
