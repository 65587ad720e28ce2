use Rattle.std.proofs.Common.{◌∙◌, sym, ap, refl, length, ◌<◌, ◌≤◌, arith}
use Rattle.std.proofs.lemmas.Option.{slice_get_read}
use Rattle.rx_session.specs.Extents.{extent_bytes}
use Rattle.rx_session.specs.Seen.{record_of}
use Rattle.rx_table.specs.Places.{table_answer}
use Rattle.rx_table.specs.Table.{states}
use Rattle.rx_table.proofs.NthPorts.{met-some, met-none}
use Rattle.rx_table.proofs.table.Table.lend.Goals as goal

pub returns-then-place-len : goal.returns-then-place-len
returns-then-place-len g c =
    let ports = c.args.self.now.ports.items in
    let n = c.len.ensures in
    let within : c.in-Port.place < length ports = omega arith in
    c.lend-then-place-len.ensures
    ∙ (sym (met-some (extent_bytes g.S.Shape.shape) ports c.in-Port.place c.index.result.now (record_of c.args.frame.now) c.in-Port.met (slice_get_read ports (length ports) c.in-Port.place c.index.result.now refl within c.index.ensures))
    ∙ ap (table_answer (states (extent_bytes g.S.Shape.shape) ports) (record_of c.args.frame.now)) (sym c.in-Port.is))

pub returns-else-place-len : goal.returns-else-place-len
returns-else-place-len g c =
    let ports = c.args.self.now.ports.items in
    let n = c.len.ensures in
    let past : length ports ≤ c.in-Port.place = omega arith in
    sym (met-none (extent_bytes g.S.Shape.shape) ports c.in-Port.place (record_of c.args.frame.now) c.in-Port.met past) ∙ ap (table_answer (states (extent_bytes g.S.Shape.shape) ports) (record_of c.args.frame.now)) (sym c.in-Port.is)
