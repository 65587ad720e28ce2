use Rattle.std.proofs.Common.{◌∙◌, sym}
use Rattle.rx_session.specs.Extents.{extent_bytes}
use Rattle.rx_table.proofs.FoundPorts.{is_there}
use Rattle.rx_table.proofs.table.Table.takes.Goals as goal

pub returns : goal.returns
returns g c = c.is_some.ensures ∙ is_there (extent_bytes g.S.Shape.shape) c.args.kind c.args.port c.args.self.now.ports.items c.find.result (sym c.find.ensures)
