-- Whole numbers to which another is added.
use Rattle.std.specs.Prelude.{◌≡◌, ℤ, ◌+ℤ◌, List, map, All, AllPairs, Ok}
use Rattle.std.specs.Int.{w128}
use Rattle.std.specs.Int.RustNames.{FitsSigned}
use Rattle.cy_ratio.specs.Fraction.{Fraction}
use Rattle.const_expr.specs.declared.constant.Const.{Const}
use Rattle.const_expr.specs.declared.constant.Const.TheVariants as c
use Rattle.const_expr.specs.declared.operator.Arithmetic.{Arithmetic}
use Rattle.const_expr.specs.Constants.{whole}
use Rattle.const_expr.specs.Binary.{calculated}
use lib.Signed.{◌<ℤ◌}

-- whole numbers as constants
abbrev pub wholes : List ℤ → List Const
wholes zs = map (λ z. c.Number (whole z)) zs

-- each number with another added
abbrev pub moved : ℤ → List ℤ → List ℤ
moved k zs = map (λ z. z +ℤ k) zs

-- each number stands before the next ones
abbrev pub Ascend : List ℤ → Type 0
Ascend zs = AllPairs (λ m n. m <ℤ n) zs

-- each number lies within 128 bits
abbrev pub Fit : List ℤ → Type 0
Fit zs = All (λ z. FitsSigned w128 z) zs

-- ascending numbers to each of which another can be added
pub record CanMove (before : List ℤ) (shift : ℤ) : Type 0 where
  pub ascend : Ascend before
  pub shift_fits : FitsSigned w128 shift
  pub fit : Fit (moved shift before)

-- numbers before and after another was added to each
pub record IsMoved (before : List ℤ) (k : ℤ) (after : List ℤ) : Type 0 where
  pub each : after ≡ moved k before
  pub fit : Fit before
  pub still_fit : Fit after

-- an operator with this right operand adds k, wherever no number leaves 128 bits
abbrev pub IsShift : Arithmetic → Fraction → ℤ → Type 0
IsShift sign y k = (x : ℤ) → FitsSigned w128 x → FitsSigned w128 (x +ℤ k) → calculated sign (whole x) y ≡ Ok (whole (x +ℤ k))
