-- The levels of binary operators that group from the left.
use Rattle.std.specs.Prelude.{◌≡◌, ℕ, ◌+◌, Option, Some, None}
use Rattle.dsdl_parse.specs.declared.expr.Expr.{Expr}
use Rattle.dsdl_parse.specs.declared.level.Level.{Level}
use Rattle.dsdl_parse.specs.declared.level.Level.TheVariants as l
use Rattle.dsdl_parse.specs.Words.{Signs, logics, orders, bit_signs, plus_minus, times}
use Rattle.dsdl_parse.specs.Reading.{Reader, Readers, not_of, bits_of, sum_of, product_of, sign_of}
use Rattle.dsdl_parse.specs.Reading.{read_chain}

-- one level of nesting less, where there is one
abbrev pub Deeper : ℕ → Option ℕ → Type 0
Deeper depth None = depth ≡ 0
Deeper depth (Some d) = depth ≡ d + 1

-- the operators of a level
abbrev pub signs_of : Level → Signs
signs_of l.Logic = logics
signs_of l.Order = orders
signs_of l.Bits = bit_signs
signs_of l.Sum = plus_minus
signs_of l.Product = times

-- what stands between them
abbrev pub operand_of : Readers → Level → Reader Expr
operand_of i l.Logic = not_of i
operand_of i l.Order = bits_of i
operand_of i l.Bits = sum_of i
operand_of i l.Sum = product_of i
operand_of i l.Product = sign_of i

abbrev pub level_of : Readers → Level → Reader Expr
level_of i l = read_chain (signs_of l) (operand_of i l)

-- how far a level stands above the atoms
abbrev pub rank : Level → ℕ
rank l.Logic = 15
rank l.Order = 12
rank l.Bits = 10
rank l.Sum = 8
rank l.Product = 6
