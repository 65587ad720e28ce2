use Rattle.std.proofs.Common.{◌/◌, [], ◌∷◌, refl, arith}
use Rattle.line_text.specs.Text.{digit}
use Rattle.line_text.specs.declared.two_digits.TheConstants.{TWO_DIGITS}
use Rattle.line_text.proofs.Tables.{row_says}
use Rattle.line_text.proofs.two_digits.two_digits.Goals as goal

pub returns : goal.returns
returns c = row_says TWO_DIGITS (λ row. row) (λ k. digit (k / 10) ∷ digit k ∷ []) 100 c.args.number [] (omega arith) refl
