use Rattle.std.proofs.Common.{sym, ap, ◌∙◌}
use Rattle.dsdl_types.specs.Views.{val}
use Rattle.dsdl_types.proofs.Equations.{val_struct}
use Rattle.std_types.specs.Held.{part}
use Rattle.std_types.proofs.Parts.{part_found, part_missing}
use Rattle.std_types.proofs.held.part.Goals as goal

pub returns-in-Some : goal.returns-in-Some
returns-in-Some c =
    let fields = ap val c.in-Struct.is ∙ val_struct c.in-Struct.fields in
    sym (ap (λ v. part c.args.number v) fields ∙ part_found _ c.in-Struct.fields c.args.number c.in-Some.part.now (sym c.in-Some.ensures))

pub returns-in-None : goal.returns-in-None
returns-in-None c =
    let fields = ap val c.in-Struct.is ∙ val_struct c.in-Struct.fields in
    fields ∙ sym (ap (λ v. part c.args.number v) fields ∙ part_missing _ c.in-Struct.fields c.args.number (sym c.in-None.ensures))
