use Rattle.node_plan.proofs.ValueTexts.{fits_of_read, says_with}
use Rattle.node_plan.proofs.registers.register.Goals as goal

pub register_with-requires : goal.register_with-requires
register_with-requires c = fits_of_read c.args.words.now.text.now c.in_ok-value.value c.in_ok-value.ensures

pub returns-clause-value : goal.returns-clause-value
returns-clause-value c = says_with (record { name = c.args.words.now.name.now; access = c.args.words.now.access.now; text = c.args.words.now.text.now }) c.in_ok-value.value c.register_with.result c.in_ok-value.ensures c.register_with.ensures.value
