use Rattle.node_core.proofs.Registers.{registers_are, registers_stay}
use Rattle.node_core.proofs.laws.registers_stay.Goals as goal

pub returns-clause-registers : goal.returns-clause-registers
returns-clause-registers c = registers_are

pub returns-clause-within : goal.returns-clause-within
returns-clause-within c =
    registers_stay c.register_laws.ensures (record {
      rules = c.schemas_keep_rules.ensures.rules;
      suffice = c.rules_suffice.ensures;
      stored = c.readings_stored.ensures.stored;
    })
