use Rattle.line_text.specs.Buffer.{text_of}
use Rattle.json_lines.specs.Typed.{comma}
use Rattle.json_lines.proofs.Lines.{name_written}
use Rattle.json_lines.proofs.name.put_quoted.Goals as goal

pub returns-clause-text : goal.returns-clause-text
returns-clause-text c = name_written (comma c.args.first) c.args.name.now (text_of c.args.text.now)
    _ _ _ c.put_quote.ensures.text c.put_word.ensures.text c.put.ensures.text
