use Rattle.std.proofs.Common.{◌∙◌, sym, ap, refl, length, Option}
use Rattle.std.proofs.lemmas.Option.{slice_get_read}
use Rattle.rx_session.specs.Extents.{extent_bytes}
use Rattle.rx_table.specs.Ports.{Port}
use Rattle.rx_table.specs.Table.{admitted_on}
use Rattle.rx_table.proofs.FoundPorts.{found, found_within, not_found}
use Rattle.rx_table.proofs.FirstSources.{sources-found}
use Rattle.rx_table.proofs.table.Table.sources.Goals as goal

pub returns-in-Some : goal.returns-in-Some
returns-in-Some g c log st =
    let ports = c.args.self.now.ports.items in
    let at = found (extent_bytes g.S.Shape.shape) c.args.kind c.args.port ports c.in-Some.place (sym c.find.ensures ∙ c.in-Some.is) in
    c.first_sources.ensures
    ∙ sources-found (extent_bytes g.S.Shape.shape) c.args.kind c.args.port c.args.self.now.timeout log ports c.in-Some.place c.index.result.now st.table.each st.sessions at
    (slice_get_read ports (length ports) c.in-Some.place c.index.result.now refl (found_within (extent_bytes g.S.Shape.shape) c.args.kind c.args.port ports c.in-Some.place at) c.index.ensures)

pub returns-in-None : goal.returns-in-None
returns-in-None g c log st =
    c.new.ensures ∙ ap (λ (o : Option Port). admitted_on o log) (sym (not_found (extent_bytes g.S.Shape.shape) c.args.kind c.args.port c.args.self.now.ports.items (sym c.find.ensures ∙ c.in-None.is)))
