use Rattle.std.proofs.Common.{◌==◌, rules}
use Rattle.dsdl_types.specs.Schemas.{PBool}
use Rattle.dsdl_types.proofs.Equations.{val_bool}
use Rattle.wire_values.proofs.Readings.{simple_read}
use Rattle.wire_values.proofs.simple.read_truth.Goals as goal

pub returns-clause-reads : goal.returns-clause-reads
returns-clause-reads c =
    simple_read PBool c.args.at.now.bytes c.take.new.self.bytes c.args.at.now.place c.take.new.self.place 1 c.take.result _ (search rules) c.take.ensures.bytes c.take.ensures.place c.take.ensures.value
    (val_bool (c.take.result == 1))
