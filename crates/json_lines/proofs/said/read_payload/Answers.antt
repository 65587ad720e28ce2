use Rattle.dsdl_types.specs.Views.{sch, val}
use Rattle.json_lines.proofs.said.read_payload.Goals as goal

pub returns-in-Ok-clause-fits : goal.returns-in-Ok-clause-fits
returns-in-Ok-clause-fits c =
    let s = sch c.args.shape.now.schema in
    let v = val c.in-Ok.value in
    let sound = c.rules_suffice.ensures s c.args.shape.now.rules in
    c.readings_stored.ensures.fits s v (c.readings_stored.ensures.stored s sound _ v c.in-Ok.ensures.ok)
