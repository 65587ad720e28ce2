use Rattle.dsdl_types.specs.Views.{sch, val}
use Rattle.value_lines.proofs.by_value.put_value.Goals as goal

pub print_value-requires : goal.print_value-requires
print_value-requires c =
    let s = sch c.args.schema.now in
    let v = val c.in-Ok.value in
    c.readings_stored.ensures.fits s v (c.readings_stored.ensures.stored s (c.rules_suffice.ensures s c.requires.rules.0) c.args.bytes.now v c.in-Ok.ensures.ok)
