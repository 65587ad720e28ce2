-- What stands on the left of an operator, as a constant.
use Rattle.std.specs.Prelude.{Result, Ok, Err}
use Rattle.const_expr.specs.declared.constant.Const.{Const}
use Rattle.const_expr.specs.declared.constant.Const.TheVariants as c
use Rattle.const_expr.specs.declared.operand.Operand.{Operand}
use Rattle.const_expr.specs.declared.operand.Operand.TheVariants as operand
use Rattle.const_expr.specs.Constants.{IsConst}
use Rattle.const_expr.specs.Shifts.{wholes}

abbrev pub constant_of : Operand → Const
constant_of (operand.Constant u) = u
constant_of (operand.Members set) = c.Set set.keys
constant_of (operand.Shifted zs) = c.Set (wholes zs)

-- what every operand keeps
abbrev pub IsOperand : Operand → Type 0
IsOperand u = IsConst (constant_of u)

-- an operand as a constant; a refusal stays
abbrev pub worth : {E : Type 0} → Result Operand E → Result Const E
worth (Ok u) = Ok (constant_of u)
worth (Err e) = Err e
