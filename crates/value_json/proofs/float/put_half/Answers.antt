use Rattle.std.proofs.Common.{subst}
use Rattle.line_text.specs.Buffer.{text_of}
use Rattle.value_json.specs.Json.{float_json}
use Rattle.value_json.specs.Pieces.{Adds}
use Rattle.value_json.proofs.Adding.{on_ok}
use Rattle.value_json.proofs.float.put_half.Goals as goal

pub returns-clause-put : goal.returns-clause-put
returns-clause-put c =
    on_ok c.put_single.result (λ a. subst (λ x. Adds (float_json 16 x) (text_of c.args.text.now) (text_of c.put_single.new.text)) c.as_single.ensures a) c.put_single.ensures.put
