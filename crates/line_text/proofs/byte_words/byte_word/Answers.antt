use Rattle.std.proofs.Common.{◌-◌, ◌++◌, [], ◌∷◌, refl, arith, decimal, take, slice_index}
use Rattle.std.specs.Fmt.{digits}
use Rattle.line_text.specs.declared.byte_words.TheConstants.{BYTE_WORDS}
use Rattle.line_text.proofs.Tables.{row_says}
use Rattle.line_text.proofs.byte_words.byte_word.Goals as goal

pub returns-clause-text : goal.returns-clause-text
unfolding digits
returns-clause-text c =
    row_says BYTE_WORDS (λ row. take (slice_index row 7) row) (λ b. decimal b ++ 32 ∷ []) 256 c.args.number [] (omega arith) refl

pub returns-clause-length : goal.returns-clause-length
returns-clause-length c =
    let within = row_says BYTE_WORDS (λ row. slice_index row 7 - 4) (λ b. 0) 256 c.args.number [] (omega arith) refl in
    omega (arith, within)
