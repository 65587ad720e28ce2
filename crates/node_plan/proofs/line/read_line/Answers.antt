use Rattle.node_plan.proofs.ValueTexts.{says_plain, says_register}
use Rattle.node_plan.proofs.line.read_line.Goals as goal

pub returns-in-Some-clause-value : goal.returns-in-Some-clause-value
returns-in-Some-clause-value c = says_register c.args.names.now c.args.is_two c.args.line.now (record { name = c.in-Some.words.name.now; access = c.in-Some.words.access.now; text = c.in-Some.words.text.now }) c.register.result c.in-Some.ensures c.register.ensures.value

pub returns-in-None-clause-value : goal.returns-in-None-clause-value
returns-in-None-clause-value c = says_plain c.args.names.now c.args.is_two c.args.line.now c.plain_line.result c.in-None.ensures c.plain_line.ensures.value
