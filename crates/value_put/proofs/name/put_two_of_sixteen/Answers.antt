use Rattle.std.proofs.Common.{◌∙◌, ◌-◌, ap, arith, length}
use Rattle.std.specs.Prelude.{◌++◌, codes}
use Rattle.line_text.specs.Buffer.{text_of}
use Rattle.value_put.proofs.Blocks.{two_blocks}
use Rattle.value_put.proofs.name.put_two_of_sixteen.Goals as goal

pub returns-clause-text : goal.returns-clause-text
returns-clause-text c =
    c.put-3.ensures.text
    ∙ ap (λ l. l ++ codes ": ") (two_blocks 16 (length c.args.word.now - 16) c.args.word.now (text_of c.args.text.now) (text_of c.put.new.self) (text_of c.put-2.new.self) (omega arith) (omega arith) c.put.ensures.text c.put-2.ensures.text)
