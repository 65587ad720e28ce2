use Rattle.std.proofs.Common.{◌≡◌, ◌∙◌, ◌+◌, refl, sym, ap, length, min, arith}
use Rattle.std.proofs.lemmas.Option.{slice_get_read}
use Rattle.rx_session.specs.Extents.{extent_bytes}
use Rattle.rx_session.specs.Seen.{record_of}
use Rattle.rx_table.specs.Ports.{buffered}
use Rattle.rx_table.specs.Table.{entries_of, held_in}
use Rattle.rx_table.specs.declared.fed.PortMet.TheVariants.{Session}
use Rattle.rx_table.proofs.Buffered.{held_in-set}
use Rattle.rx_table.proofs.SubjectPlaces.{places-set}
use Rattle.rx_table.proofs.NthPorts.{heard-nth, set-ports, set-shapes, set-same, set-met, set-fed, port_answer-nth, source-get, source-set}
use Rattle.rx_table.proofs.table.Table.quick_at.Goals as goal

pub quick-requires : goal.quick-requires
quick-requires g c =
    let ports = c.args.self.now.ports.items in
    heard-nth (extent_bytes g.S.Shape.shape) c.args.frame.now.moment ports c.args.place c.index_mut-port.result.now
    (slice_get_read ports (length ports) c.args.place c.index_mut-port.result.now refl c.requires.within c.index_mut-port.ensures.value) c.requires.heard

pub invariant_of-self : goal.invariant_of-self
invariant_of-self g c =
    let ports = c.args.self.now.ports.items in
    let p = c.index_mut-port.result.now in
    let q = c.quick.new.self in
    let at = slice_get_read ports (length ports) c.args.place p refl c.requires.within c.index_mut-port.ensures.value in
    let same : buffered (entries_of q.sessions.entries) ≡ buffered (entries_of p.sessions.entries) + 0 = c.quick.ensures.buffered ∙ grind arith in
    let more = held_in-set ports c.args.place 0 p q at same in
    let none : held_in ports + 0 ≡ held_in ports = omega arith in
    record {
      sum = c.args.self.now.sum ∙ ap (λ n. min n 18446744073709551615) (sym (more ∙ none));
      places = places-set (extent_bytes g.S.Shape.shape) c.args.self.now.subjects ports c.args.place p q at c.quick.ensures.port c.args.self.now.places;
    }

pub returns-in-Some-clause-keeps : goal.returns-in-Some-clause-keeps
returns-in-Some-clause-keeps g c =
    let ports = c.args.self.now.ports.items in
    let at = slice_get_read ports (length ports) c.args.place c.index_mut-port.result.now refl c.requires.within c.index_mut-port.ensures.value in
    record {
      timeout = refl;
      ports = set-ports (extent_bytes g.S.Shape.shape) ports c.args.place c.index_mut-port.result.now c.quick.new.self at c.quick.ensures.port;
      shapes = set-shapes (extent_bytes g.S.Shape.shape) ports c.args.place c.index_mut-port.result.now c.quick.new.self at c.quick.ensures.shape;
    }

pub returns-in-Some-clause-states : goal.returns-in-Some-clause-states
returns-in-Some-clause-states g c =
    let ports = c.args.self.now.ports.items in
    let at = slice_get_read ports (length ports) c.args.place c.index_mut-port.result.now refl c.requires.within c.index_mut-port.ensures.value in
    set-fed (extent_bytes g.S.Shape.shape) c.args.self.now.timeout c.args.source (record_of c.args.frame.now) ports c.args.place c.index_mut-port.result.now c.quick.new.self at c.quick.ensures.port c.in-Some.ensures.entries

pub returns-in-Some-clause-answer : goal.returns-in-Some-clause-answer
returns-in-Some-clause-answer g c =
    let ports = c.args.self.now.ports.items in
    let at = slice_get_read ports (length ports) c.args.place c.index_mut-port.result.now refl c.requires.within c.index_mut-port.ensures.value in
    set-met (extent_bytes g.S.Shape.shape) ports c.args.place c.index_mut-port.result.now c.quick.new.self (record_of c.args.frame.now) (Session c.in-Some.index c.in-Some.step) at
    ∙ (c.in-Some.ensures.answer ∙ port_answer-nth (extent_bytes g.S.Shape.shape) c.args.self.now.timeout c.args.source (record_of c.args.frame.now) ports c.args.place c.index_mut-port.result.now at)

pub returns-in-None-clause-keeps : goal.returns-in-None-clause-keeps
returns-in-None-clause-keeps g c =
    let ports = c.args.self.now.ports.items in
    let at = slice_get_read ports (length ports) c.args.place c.index_mut-port.result.now refl c.requires.within c.index_mut-port.ensures.value in
    record {
      timeout = refl;
      ports = set-ports (extent_bytes g.S.Shape.shape) ports c.args.place c.index_mut-port.result.now c.quick.new.self at c.quick.ensures.port;
      shapes = set-shapes (extent_bytes g.S.Shape.shape) ports c.args.place c.index_mut-port.result.now c.quick.new.self at c.quick.ensures.shape;
    }

pub returns-in-None-clause-none : goal.returns-in-None-clause-none
returns-in-None-clause-none g c _ =
    let ports = c.args.self.now.ports.items in
    let at = slice_get_read ports (length ports) c.args.place c.index_mut-port.result.now refl c.requires.within c.index_mut-port.ensures.value in
    set-same (extent_bytes g.S.Shape.shape) ports c.args.place c.index_mut-port.result.now c.quick.new.self at c.quick.ensures.port (c.in-None.ensures.none refl)

pub returns-in-Some-clause-index : goal.returns-in-Some-clause-index
returns-in-Some-clause-index g c =
    let ports = c.args.self.now.ports.items in
    let at = slice_get_read ports (length ports) c.args.place c.index_mut-port.result.now refl c.requires.within c.index_mut-port.ensures.value in
    source-set (extent_bytes g.S.Shape.shape) ports c.args.place c.in-Some.index c.index_mut-port.result.now c.quick.new.self at ∙ c.in-Some.ensures.place

pub returns-in-Some-clause-known : goal.returns-in-Some-clause-known
returns-in-Some-clause-known g c =
    let ports = c.args.self.now.ports.items in
    let at = slice_get_read ports (length ports) c.args.place c.index_mut-port.result.now refl c.requires.within c.index_mut-port.ensures.value in
    source-get (extent_bytes g.S.Shape.shape) ports c.args.place c.in-Some.index c.index_mut-port.result.now at ∙ c.in-Some.ensures.known
