-- Worked rows of the definitions.
use Rattle.std.proofs.Common.{◌≡◌, pos, negsuc, neg_ℤ, true, [], ◌∷◌, Ok, Err, codes, refl}
use Rattle.cy_ratio.specs.Fraction.{Fraction}
use Rattle.cy_ratio.specs.Fraction as fraction
use Rattle.const_expr.specs.declared.constant.Const.TheVariants as c
use Rattle.const_expr.specs.declared.constant.Const.TheOpen as o
use Rattle.const_expr.specs.declared.operator.Operator.TheVariants.{Arithmetic, Power}
use Rattle.const_expr.specs.declared.operator.Arithmetic.TheVariants as arithmetic
use Rattle.const_expr.specs.declared.why.Why.TheVariants as why
use Rattle.const_expr.specs.Constants.{whole}
use Rattle.const_expr.specs.Unary.{set_of}
use Rattle.const_expr.proofs.Layers.{number_layer, truth_layer}
use Rattle.const_expr.specs.Literal.{literal}
use Rattle.const_expr.specs.Binary.{by_kinds}

third_and_sixth : by_kinds (Arithmetic arithmetic.Add) (o.Number (record { num = pos 1; den = 3 })) (o.Number (record { num = pos 1; den = 6 })) ≡ Ok (c.Number (record { num = pos 1; den = 2 }))
unfolding fraction.gcd fraction.divisor_by
third_and_sixth = refl

two_to_minus_two : by_kinds Power (o.Number (whole (pos 2))) (o.Number (whole (negsuc 1))) ≡ Ok (c.Number (record { num = pos 1; den = 4 }))
two_to_minus_two = refl

least : by_kinds Power (o.Number (whole (negsuc 1))) (o.Number (whole (pos 127))) ≡ Ok (c.Number (whole (neg_ℤ (pos 170141183460469231731687303715884105728))))
least = refl

too_great : by_kinds Power (o.Number (whole (pos 2))) (o.Number (whole (pos 127))) ≡ Err why.Range
too_great = refl

no_power : by_kinds Power (o.Number (whole (pos 0))) (o.Number (whole (pos 0))) ≡ Ok (c.Number (whole (pos 1)))
no_power = refl

remainder : by_kinds (Arithmetic arithmetic.Rem) (o.Number (whole (pos 7))) (o.Number (whole (negsuc 1))) ≡ Ok (c.Number (whole (negsuc 0)))
unfolding fraction.gcd fraction.divisor_by
remainder = refl

zero_divisor : by_kinds (Arithmetic arithmetic.Div) (o.Number (whole (pos 8))) (o.Number (whole (pos 0))) ≡ Err why.Zero
zero_divisor = refl

row_2e38 : literal (codes "2e38") ≡ Err why.Range
unfolding literal
row_2e38 = refl

row_1e39 : literal (codes "1e39") ≡ Err why.Range
unfolding literal
row_1e39 = refl

row_0e99 : literal (codes "0e99") ≡ Err why.Range
unfolding literal
row_0e99 = refl

row_hex : literal (codes "0x_fF_e1") ≡ Ok (c.Number (whole (pos 65505)))
unfolding literal
row_hex = refl

row_decimals : literal (codes "0_1.50e+1") ≡ Ok (c.Number (whole (pos 15)))
unfolding literal fraction.gcd fraction.divisor_by
row_decimals = refl

row_fraction : literal (codes ".25") ≡ Ok (c.Number (record { num = pos 1; den = 4 }))
unfolding literal fraction.gcd fraction.divisor_by
row_fraction = refl

row_small : literal (codes "1.E-38") ≡ Ok (c.Number (record { num = pos 1; den = 100000000000000000000000000000000000000 }))
unfolding literal fraction.gcd fraction.divisor_by
row_small = refl

mixed : set_of (c.Number (whole (pos 1)) ∷ c.Truth true ∷ []) ≡ Err why.Kind
unfolding set_of
mixed = rw (number_layer (whole (pos 1)), truth_layer true) refl
