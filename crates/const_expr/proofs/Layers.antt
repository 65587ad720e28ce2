-- What each form of constant is made of
use Rattle.std.proofs.Common.{◌≡◌, ℕ, Bool, List, rules}
use Rattle.dsdl_names.specs.declared.TypeId.{TypeId}
use Rattle.cy_ratio.specs.Fraction.{Fraction}
use Rattle.const_expr.specs.declared.constant.Const.{Const, out-Const}
use Rattle.const_expr.specs.declared.constant.Const.TheVariants as c
use Rattle.const_expr.specs.declared.constant.Const.TheOpen as o
use Rattle.const_expr.specs.declared.constant.Const.TheFolds.{the_lemmas}

pub number_layer : (x : Fraction) → out-Const (c.Number x) ≡ o.Number x
number_layer x = search (rules, the_lemmas)

pub truth_layer : (b : Bool) → out-Const (c.Truth b) ≡ o.Truth b
truth_layer b = search (rules, the_lemmas)

pub text_layer : (s : List ℕ) → out-Const (c.Str s) ≡ o.Str s
text_layer s = search (rules, the_lemmas)

pub set_layer : (xs : List Const) → out-Const (c.Set xs) ≡ o.Set xs
set_layer xs = search (rules, the_lemmas)

pub lengths_layer : (ns : List ℕ) → out-Const (c.Lengths ns) ≡ o.Lengths ns
lengths_layer ns = search (rules, the_lemmas)

pub type_layer : (id : TypeId) → out-Const (c.Named id) ≡ o.Named id
type_layer id = search (rules, the_lemmas)

pub ruleset layers = (number_layer, truth_layer, text_layer, set_layer, lengths_layer, type_layer)
