use Rattle.std.proofs.Common.{◌∙◌, sym, refl, length}
use Rattle.std.proofs.lemmas.Option.{slice_get_read}
use Rattle.rx_session.specs.Extents.{extent_bytes}
use Rattle.rx_table.proofs.FoundPorts.{found, found_within, shape_found, shape_none}
use Rattle.rx_table.proofs.table.Table.shape.Goals as goal

pub returns-in-Some : goal.returns-in-Some
returns-in-Some g c =
    let ports = c.args.self.now.ports.items in
    let at = found (extent_bytes g.S.Shape.shape) c.args.kind c.args.port ports c.in-Some.place (sym c.find.ensures ∙ c.in-Some.is) in
    sym (shape_found (extent_bytes g.S.Shape.shape) c.args.kind c.args.port ports c.in-Some.place c.index.result.now at
    (slice_get_read ports (length ports) c.in-Some.place c.index.result.now refl (found_within (extent_bytes g.S.Shape.shape) c.args.kind c.args.port ports c.in-Some.place at) c.index.ensures))

pub returns-in-None : goal.returns-in-None
returns-in-None g c = sym (shape_none (extent_bytes g.S.Shape.shape) c.args.kind c.args.port c.args.self.now.ports.items (sym c.find.ensures ∙ c.in-None.is))
