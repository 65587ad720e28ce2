-- The operators and their texts.
use Rattle.std.specs.Prelude.{ℕ, List, Option, Some, None, if◌then◌else◌, codes}
use Rattle.std.specs.Str.{bytes_eq}
use Rattle.const_expr.specs.declared.operator.Operator.{Operator}
use Rattle.const_expr.specs.declared.operator.Operator.TheVariants.{Logic, Compare, Bits}
use Rattle.const_expr.specs.declared.operator.Operator.TheVariants.{Arithmetic, Power}
use Rattle.const_expr.specs.declared.operator.Logic.TheVariants as logic
use Rattle.const_expr.specs.declared.operator.Relation.TheVariants as relation
use Rattle.const_expr.specs.declared.operator.Bits.TheVariants as bits
use Rattle.const_expr.specs.declared.operator.Arithmetic.TheVariants as arithmetic
use Rattle.const_expr.specs.declared.operator.Prefix.{Prefix}
use Rattle.const_expr.specs.declared.operator.Prefix.TheVariants as prefix

-- the binary operator of a text
abbrev pub operator_of : List ℕ → Option Operator
operator_of text =
    if bytes_eq text (codes "||") then Some (Logic logic.Or)
    else if bytes_eq text (codes "&&") then Some (Logic logic.And)
    else if bytes_eq text (codes "==") then Some (Compare relation.Equal)
    else if bytes_eq text (codes "!=") then Some (Compare relation.Unequal)
    else if bytes_eq text (codes "<=") then Some (Compare relation.AtMost)
    else if bytes_eq text (codes ">=") then Some (Compare relation.AtLeast)
    else if bytes_eq text (codes "<") then Some (Compare relation.Below)
    else if bytes_eq text (codes ">") then Some (Compare relation.Above)
    else if bytes_eq text (codes "|") then Some (Bits bits.Or)
    else if bytes_eq text (codes "^") then Some (Bits bits.Xor)
    else if bytes_eq text (codes "&") then Some (Bits bits.And)
    else if bytes_eq text (codes "+") then Some (Arithmetic arithmetic.Add)
    else if bytes_eq text (codes "-") then Some (Arithmetic arithmetic.Sub)
    else if bytes_eq text (codes "*") then Some (Arithmetic arithmetic.Mul)
    else if bytes_eq text (codes "/") then Some (Arithmetic arithmetic.Div)
    else if bytes_eq text (codes "%") then Some (Arithmetic arithmetic.Rem)
    else if bytes_eq text (codes "**") then Some Power
    else None

-- the operator of a text in front of its operand
abbrev pub prefix_of : List ℕ → Option Prefix
prefix_of text =
    if bytes_eq text (codes "!") then Some prefix.Not
    else if bytes_eq text (codes "+") then Some prefix.Plus
    else if bytes_eq text (codes "-") then Some prefix.Minus
    else None
