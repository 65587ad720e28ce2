use Rattle.json_lines.specs.Text.{kind_front}
use Rattle.json_lines.proofs.Lines.{key_written}
use Rattle.json_lines.proofs.members.put_key.Goals as goal

pub returns-clause-text : goal.returns-clause-text
returns-clause-text c =
    key_written (kind_front c.args.key.now.kind) _ _ _ _ _ _ _ c.kind_front.ensures.text c.put_label.ensures.text c.put_slice.ensures.text c.put_source.ensures.text
