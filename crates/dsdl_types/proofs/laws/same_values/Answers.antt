use Rattle.dsdl_types.proofs.ValuesOf.{val_value_of, value_of_val}
use Rattle.dsdl_types.proofs.laws.same_values.Goals as goal

pub returns-clause-stands : goal.returns-clause-stands
returns-clause-stands c = val_value_of

pub returns-clause-same : goal.returns-clause-same
returns-clause-same c = value_of_val
