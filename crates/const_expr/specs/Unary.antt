-- What an operator makes of one constant, and which set a set literal is.
use Rattle.std.specs.Prelude.{ℕ, ◌==◌, ◌&&◌, nat_lt, pos, Bool, not, List, [], ◌∷◌, Option, Some}
use Rattle.std.specs.Prelude.{None, Result, Ok, Err, if◌then◌else◌}
use Rattle.std.specs.List.{list_all}
use Rattle.cy_ratio.specs.Fraction.{difference_of}
use Rattle.const_expr.specs.declared.constant.Const.{Const, out-Const}
use Rattle.const_expr.specs.declared.constant.Const.TheVariants as c
use Rattle.const_expr.specs.declared.constant.Const.TheOpen as o
use Rattle.const_expr.specs.declared.operator.Prefix.{Prefix}
use Rattle.const_expr.specs.declared.operator.Prefix.TheVariants as prefix
use Rattle.const_expr.specs.declared.why.Why.{Why}
use Rattle.const_expr.specs.declared.why.Why.TheVariants as why
use Rattle.const_expr.specs.Refusals.{and_then}
use Rattle.const_expr.specs.Constants.{Layer, whole, number_of, kind, gathered}
use Rattle.const_expr.specs.Operators.{prefix_of}
use Rattle.const_expr.specs.Binary.{listed}

-- `!` on a truth value, `+` and `-` on a number; -x is 0 - x
abbrev pub on_one : Prefix → Layer → Result Const Why
on_one prefix.Not (o.Truth b) = Ok (c.Truth (not b))
on_one prefix.Plus (o.Number x) = Ok (c.Number x)
on_one prefix.Minus (o.Number x) = number_of (difference_of (whole (pos 0)) x)
on_one op u = Err why.Kind

abbrev pub by_prefix : Option Prefix → Const → Result Const Why
by_prefix None u = Err why.Kind
by_prefix (Some op) u = and_then (listed u) (λ x. on_one op (out-Const x))

-- the operator of a text on a constant
unfoldable pub unary : List ℕ → Const → Result Const Why
unary op u = by_prefix (prefix_of op) u

-- all are numbers, all are truth values, or all are strings
abbrev pub are_members : Const → List Const → Bool
are_members x xs = nat_lt (kind (out-Const x)) 3 && list_all (λ y. kind (out-Const y) == kind (out-Const x)) xs

-- the set of some constants of one kind, at least one
unfoldable pub set_of : List Const → Result Const Why
set_of [] = Err why.Kind
set_of (x ∷ xs) = if are_members x xs then Ok (c.Set (gathered (x ∷ xs))) else Err why.Kind
