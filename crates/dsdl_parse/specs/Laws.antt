-- What holds of the grammar as a whole.
use Rattle.std.specs.Prelude.{◌≡◌, ℕ, List}
use Rattle.dsdl_parse.specs.declared.expr.Expr.{Expr}
use Rattle.dsdl_parse.specs.Words.{Word}
use Rattle.dsdl_parse.specs.Grammar.{IsExpression}

-- words are one expression at most
abbrev pub HaveOneTree : Type 0
HaveOneTree = (depth : ℕ) (ws : List Word) (x y : Expr) → IsExpression depth ws x → IsExpression depth ws y → x ≡ y
