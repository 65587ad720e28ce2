-- Which constants keep what every constant keeps.
use Rattle.std.proofs.Common.{ℕ, Bool, List, sym, subst}
use Rattle.cy_ratio.specs.Fraction.{Fraction}
use Rattle.const_expr.specs.declared.constant.Const.{Const}
use Rattle.const_expr.specs.declared.constant.Const.TheVariants as c
use Rattle.const_expr.specs.Constants.{IsAscending, IsConst, IsConstLayer}
use Rattle.const_expr.proofs.Layers.{number_layer, truth_layer, text_layer, set_layer, lengths_layer}

pub number_keeps : (x : Fraction) → IsConst (c.Number x)
number_keeps x = subst IsConstLayer (sym (number_layer x)) tt

pub truth_keeps : (b : Bool) → IsConst (c.Truth b)
truth_keeps b = subst IsConstLayer (sym (truth_layer b)) tt

pub text_keeps : (s : List ℕ) → IsConst (c.Str s)
text_keeps s = subst IsConstLayer (sym (text_layer s)) tt

pub lengths_keep : (ns : List ℕ) → IsConst (c.Lengths ns)
lengths_keep ns = subst IsConstLayer (sym (lengths_layer ns)) tt

pub set_keeps : (xs : List Const) → IsAscending xs → IsConst (c.Set xs)
set_keeps xs asc = subst IsConstLayer (sym (set_layer xs)) asc

pub set_ascends : (xs : List Const) → IsConst (c.Set xs) → IsAscending xs
set_ascends xs h = subst IsConstLayer (set_layer xs) h
