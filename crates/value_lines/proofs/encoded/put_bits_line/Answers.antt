use Rattle.std.proofs.Common.{◌∙◌, ◌++◌, ap}
use Rattle.line_text.specs.Buffer.{text_of}
use Rattle.value_lines.specs.Encoded.{hex_line}
use Rattle.value_put.proofs.Readings.{on_ok}
use Rattle.value_lines.proofs.encoded.put_bits_line.Goals as goal

pub returns-clause-text : goal.returns-clause-text
returns-clause-text c =
    on_ok c.put_front_line.result (λ e whole. e ∙ ap (λ b. text_of c.args.gathered.now ++ hex_line b) (c.room-all.ensures.front whole)) c.put_front_line.ensures.text
