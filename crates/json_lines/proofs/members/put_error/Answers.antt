use Rattle.std.proofs.Common.{ap}
use Rattle.std.specs.Prelude.{decimal}
use Rattle.value_text.specs.Unreadable.{read_why_number}
use Rattle.json_lines.specs.Text.{why_name}
use Rattle.json_lines.proofs.Lines.{error_written}
use Rattle.json_lines.proofs.members.put_error.Goals as goal

pub returns-clause-text : goal.returns-clause-text
returns-clause-text c =
    error_written (why_name c.args.why) _ (decimal (read_why_number c.args.why)) _ c.args.path.now _ _ _ _ _ _ _ _ c.why_name.ensures.text (ap (λ n. decimal n) c.read_why_number.ensures) c.as_bytes.ensures.value
    c.put_slice.ensures.text c.put_slice-2.ensures.text c.put_label.ensures.text c.put_slice-3.ensures.text c.put_slice-4.ensures.text c.put_slice-5.ensures.text
