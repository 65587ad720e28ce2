use Rattle.std.proofs.Common.{◌∙◌, sym, ap}
use Rattle.dsdl_types.specs.Views.{sch, val}
use Rattle.wire_values.specs.Found.{found}
use Rattle.wire_values.proofs.Buffers.{schema_rules}
use Rattle.wire_values.proofs.WhatFits.{fits_or_misfit}
use Rattle.wire_values.proofs.serialized.write_as.Goals as goal

pub misfit-requires : goal.misfit-requires
misfit-requires c = schema_rules (sch c.args.schema.now) c.requires.rules

pub write_fitting-requires-clause-fits : goal.write_fitting-requires-clause-fits
write_fitting-requires-clause-fits c =
    (fits_or_misfit (sch c.args.schema.now) (val c.args.value.now)).0 (sym c.in_ok-misfit.ensures ∙ ap found c.in-None.is)
