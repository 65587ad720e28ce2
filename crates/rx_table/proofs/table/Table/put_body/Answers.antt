use Rattle.std.proofs.Common.{◌≡◌, ◌∙◌, ◌+◌, refl, sym, ap, length, min, arith}
use Rattle.std.proofs.lemmas.Option.{slice_get_read}
use Rattle.rx_session.specs.Extents.{extent_bytes}
use Rattle.rx_session.specs.Seen.{record_of}
use Rattle.rx_table.specs.Ports.{buffered}
use Rattle.rx_table.specs.Table.{entries_of, held_in}
use Rattle.rx_table.proofs.Buffered.{held_in-set}
use Rattle.rx_table.proofs.SubjectPlaces.{places-set}
use Rattle.rx_table.proofs.NthPorts.{set-ports, set-shapes}
use Rattle.rx_table.proofs.PutBodies.{set-put, put-past}
use Rattle.rx_table.proofs.table.Table.put_body.Goals as goal

pub invariant_of-self : goal.invariant_of-self
invariant_of-self g c =
    let ports = c.args.self.now.ports.items in
    let p = c.index_mut-port.result.now in
    let q = c.put_body.new.self in
    let at = slice_get_read ports (length ports) c.args.place p refl (omega arith) c.index_mut-port.ensures.value in
    let same : buffered (entries_of q.sessions.entries) ≡ buffered (entries_of p.sessions.entries) + 0 = c.put_body.ensures.buffered ∙ grind arith in
    let more = held_in-set ports c.args.place 0 p q at same in
    let none : held_in ports + 0 ≡ held_in ports = omega arith in
    record {
      sum = c.args.self.now.sum ∙ ap (λ n. min n 18446744073709551615) (sym (more ∙ none));
      places = places-set (extent_bytes g.S.Shape.shape) c.args.self.now.subjects ports c.args.place p q at c.put_body.ensures.port c.args.self.now.places;
    }

pub returns-then-place-len-clause-keeps : goal.returns-then-place-len-clause-keeps
returns-then-place-len-clause-keeps g c =
    let ports = c.args.self.now.ports.items in
    let at = slice_get_read ports (length ports) c.args.place c.index_mut-port.result.now refl (omega arith) c.index_mut-port.ensures.value in
    record {
      timeout = refl;
      ports = set-ports (extent_bytes g.S.Shape.shape) ports c.args.place c.index_mut-port.result.now c.put_body.new.self at c.put_body.ensures.port;
      shapes = set-shapes (extent_bytes g.S.Shape.shape) ports c.args.place c.index_mut-port.result.now c.put_body.new.self at c.put_body.ensures.shape;
    }

pub returns-then-place-len-clause-states : goal.returns-then-place-len-clause-states
returns-then-place-len-clause-states g c =
    let ports = c.args.self.now.ports.items in
    let at = slice_get_read ports (length ports) c.args.place c.index_mut-port.result.now refl (omega arith) c.index_mut-port.ensures.value in
    set-put (record_of c.args.frame.now) (extent_bytes g.S.Shape.shape) ports c.args.place c.args.index c.index_mut-port.result.now c.put_body.new.self at c.put_body.ensures.port c.put_body.ensures.entries

pub returns-else-place-len-clause-states : goal.returns-else-place-len-clause-states
returns-else-place-len-clause-states g c =
    sym (put-past (record_of c.args.frame.now) (extent_bytes g.S.Shape.shape) c.args.self.now.ports.items c.args.place c.args.index (omega arith))
