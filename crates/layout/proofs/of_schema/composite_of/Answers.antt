use Rattle.dsdl_types.specs.Views.{sch}
use Rattle.layout.proofs.Sets.{composite_short}
use Rattle.layout.proofs.of_schema.composite_of.Goals as goal

pub rows_of-requires-clause-short : goal.rows_of-requires-clause-short
rows_of-requires-clause-short c = composite_short (sch c.args.schema.now) c.requires.rules.0 c.requires.composite
