-- What single steps of the code say.
use Rattle.std.specs.Prelude.{Result}
use Rattle.cy_ratio.specs.Fraction.{Fraction}
use Rattle.cy_ratio.specs.declared.RatioError.{RatioError}
use Rattle.const_expr.specs.declared.arithmetic.Half.{Half}
use Rattle.const_expr.specs.declared.arithmetic.Half.TheVariants.{Left, Right}
use Rattle.const_expr.specs.declared.operator.Arithmetic.{Arithmetic}
use Rattle.const_expr.specs.Binary.{calculated}

-- an operator that has one operand, at the other
abbrev pub with_operand : Arithmetic → Half → Fraction → Result Fraction RatioError
with_operand sign (Left x) y = calculated sign x y
with_operand sign (Right y) x = calculated sign x y
