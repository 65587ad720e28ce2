use Rattle.value_json.proofs.Adding.{adds_exact, adds_then, on_ok}
use Rattle.json_lines.proofs.writer.put_last.Goals as goal

pub returns-clause-put : goal.returns-clause-put
returns-clause-put c = on_ok c.push.result (λ e. adds_then _ _ _ _ _ c.in_ok-put_value.ensures.ok (adds_exact _ _ _ e)) c.push.ensures.ok
