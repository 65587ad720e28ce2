use Rattle.std.proofs.Common.{refl}
use Rattle.value_json.proofs.Adding.{adds_lead, adds_no_lead, on_ok}
use Rattle.value_json.proofs.words.put_lead.Goals as goal

pub returns-then-first-clause-put : goal.returns-then-first-clause-put
returns-then-first-clause-put c = adds_no_lead c.args.first _ _ c.if-first.true refl

pub returns-else-first-clause-put : goal.returns-else-first-clause-put
returns-else-first-clause-put c = on_ok c.put_word.result (λ e. adds_lead c.args.first _ _ c.if-first.false e) c.put_word.ensures.text
