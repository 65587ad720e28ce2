use Rattle.std.proofs.Common.{refl, length}
use Rattle.std.proofs.lemmas.Option.{slice_get_read}
use Rattle.rx_session.specs.Extents.{extent_bytes}
use Rattle.rx_table.proofs.FoundPorts.{found, shape_found}
use Rattle.rx_table.proofs.table.Table.shape_on.Goals as goal

pub returns : goal.returns
returns g c kind port there =
    let ports = c.args.self.now.ports.items in
    let at = found (extent_bytes g.S.Shape.shape) kind port ports c.args.place there in
    shape_found (extent_bytes g.S.Shape.shape) kind port ports c.args.place c.index.result.now at
    (slice_get_read ports (length ports) c.args.place c.index.result.now refl c.requires c.index.ensures)
