use Rattle.dsdl_types.specs.Views.{sch, val}
use Rattle.report_lines.proofs.compiled_shape.CompiledShape.reading.Goals as goal

pub good-requires : goal.good-requires
good-requires c =
    let s = sch c.args.self.now.schema in
    let v = val c.in-Ok.value in
    let sound = c.rules_suffice.ensures s c.args.self.now.rules in
    c.readings_stored.ensures.fits s v (c.readings_stored.ensures.stored s sound _ v c.in-Ok.ensures.ok)
