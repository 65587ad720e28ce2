use Rattle.std.proofs.Common.{◌∙◌, ◌-◌, arith, ap, length, refl, take}
use Rattle.line_text.specs.Buffer.{text_of}
use Rattle.std.specs.Prelude.{◌++◌, codes}
use Rattle.value_put.proofs.Blocks.{two_blocks_and}
use Rattle.value_put.proofs.name.put_two_of_eight.Goals as goal

pub returns-clause-text : goal.returns-clause-text
returns-clause-text c =
    two_blocks_and 8 (length c.args.word.now - 8) 10 c.args.word.now (text_of c.args.text.now) (text_of c.put.new.self) (text_of c.put-2.new.self) (codes ": : : : ") (omega arith) (omega arith) refl c.put.ensures.text
    (c.put-2.ensures.text ∙ ap (λ l. text_of c.put.new.self ++ take 10 l) c.joined_of_eight-both.ensures)
