use Rattle.std.proofs.Common.{◌≡◌, ◌∙◌, ◌+◌, ℕ, Option, refl, sym, ap, subst, slice_set, length, min, arith}
use Rattle.std.proofs.lemmas.Option.{slice_get_read}
use Rattle.rx_session.specs.Extents.{extent_bytes}
use Rattle.rx_session.specs.Seen.{record_of}
use Rattle.rx_table.specs.Ports.{buffered}
use Rattle.rx_table.specs.Places.{grown, source_at, NamesSession}
use Rattle.rx_table.specs.Table.{entries_of, held_in, states}
use Rattle.rx_table.proofs.Buffered.{held_in-set, capped-more}
use Rattle.rx_table.proofs.FoundPorts.{place_stays}
use Rattle.rx_table.proofs.SubjectPlaces.{places-set}
use Rattle.rx_table.proofs.NthPorts.{heard-nth, set-ports, set-shapes, set-same, set-met, set-fed, port_answer-nth, names-nth, Adds-nth}
use Rattle.rx_table.proofs.table.Table.step_at.Goals as goal

pub meet-requires : goal.meet-requires
meet-requires g c =
    let ports = c.args.self.now.ports.items in
    heard-nth (extent_bytes g.S.Shape.shape) c.args.frame.now.moment ports c.args.place c.index_mut-port.result.now
    (slice_get_read ports (length ports) c.args.place c.index_mut-port.result.now refl c.requires.within c.index_mut-port.ensures.value) c.requires.heard

pub returns-in-Ok-clause-keeps : goal.returns-in-Ok-clause-keeps
returns-in-Ok-clause-keeps g c =
    let ports = c.args.self.now.ports.items in
    let at = slice_get_read ports (length ports) c.args.place c.index_mut-port.result.now refl c.requires.within c.index_mut-port.ensures.value in
    record {
      timeout = refl;
      ports = set-ports (extent_bytes g.S.Shape.shape) ports c.args.place c.index_mut-port.result.now c.meet.new.self at c.meet.ensures.port;
      shapes = set-shapes (extent_bytes g.S.Shape.shape) ports c.args.place c.index_mut-port.result.now c.meet.new.self at c.meet.ensures.shape;
    }

pub returns-in-Ok-clause-states : goal.returns-in-Ok-clause-states
returns-in-Ok-clause-states g c =
    let ports = c.args.self.now.ports.items in
    let at = slice_get_read ports (length ports) c.args.place c.index_mut-port.result.now refl c.requires.within c.index_mut-port.ensures.value in
    set-fed (extent_bytes g.S.Shape.shape) c.args.self.now.timeout c.args.source (record_of c.args.frame.now) ports c.args.place c.index_mut-port.result.now c.meet.new.self at c.meet.ensures.port c.in-Ok.ensures.entries

pub returns-in-Ok-clause-answer : goal.returns-in-Ok-clause-answer
returns-in-Ok-clause-answer g c =
    let ports = c.args.self.now.ports.items in
    let at = slice_get_read ports (length ports) c.args.place c.index_mut-port.result.now refl c.requires.within c.index_mut-port.ensures.value in
    set-met (extent_bytes g.S.Shape.shape) ports c.args.place c.index_mut-port.result.now c.meet.new.self (record_of c.args.frame.now) c.in-Ok.met at
    ∙ (c.in-Ok.ensures.answer ∙ port_answer-nth (extent_bytes g.S.Shape.shape) c.args.self.now.timeout c.args.source (record_of c.args.frame.now) ports c.args.place c.index_mut-port.result.now at)

pub returns-in-Err-clause-keeps : goal.returns-in-Err-clause-keeps
returns-in-Err-clause-keeps g c =
    let ports = c.args.self.now.ports.items in
    let at = slice_get_read ports (length ports) c.args.place c.index_mut-port.result.now refl c.requires.within c.index_mut-port.ensures.value in
    record {
      timeout = refl;
      ports = set-ports (extent_bytes g.S.Shape.shape) ports c.args.place c.index_mut-port.result.now c.meet.new.self at c.meet.ensures.port;
      shapes = set-shapes (extent_bytes g.S.Shape.shape) ports c.args.place c.index_mut-port.result.now c.meet.new.self at c.meet.ensures.shape;
    }

pub returns-in-Err-clause-err : goal.returns-in-Err-clause-err
returns-in-Err-clause-err g c =
    let ports = c.args.self.now.ports.items in
    let at = slice_get_read ports (length ports) c.args.place c.index_mut-port.result.now refl c.requires.within c.index_mut-port.ensures.value in
    set-same (extent_bytes g.S.Shape.shape) ports c.args.place c.index_mut-port.result.now c.meet.new.self at c.meet.ensures.port c.in-Err.ensures.err

pub returns-in-Err-clause-memory : goal.returns-in-Err-clause-memory
returns-in-Err-clause-memory g c =
    let ports = c.args.self.now.ports.items in
    let at = slice_get_read ports (length ports) c.args.place c.index_mut-port.result.now refl c.requires.within c.index_mut-port.ensures.value in
    Adds-nth (extent_bytes g.S.Shape.shape) c.args.source (record_of c.args.frame.now) ports c.args.place c.index_mut-port.result.now at c.in-Err.ensures.memory

pub invariant_of-self : goal.invariant_of-self
invariant_of-self g c =
    let ports = c.args.self.now.ports.items in
    let p = c.index_mut-port.result.now in
    let q = c.meet.new.self in
    let at = slice_get_read ports (length ports) c.args.place p refl c.requires.within c.index_mut-port.ensures.value in
    let opened : c.opened_bytes-opened.result ≡ grown (extent_bytes g.S.Shape.shape p.shape) c.in-Ok.met =
    c.opened_bytes-opened.ensures ∙ ap (λ (s : g.row.S.Denot). grown (extent_bytes g.S.Shape.shape s) c.in-Ok.met) c.meet.ensures.shape in
    let more = held_in-set ports c.args.place c.opened_bytes-opened.result p q at (c.in-Ok.ensures.grown ∙ ap (λ n. buffered (entries_of p.sessions.entries) + n) (sym opened)) in
    record {
      sum =
          capped-more (held_in ports) c.opened_bytes-opened.result c.args.self.now.held c.saturating_add-self.result 18446744073709551615 c.args.self.now.sum c.saturating_add-self.ensures
          ∙ ap (λ n. min n 18446744073709551615) (sym more);
      places = places-set (extent_bytes g.S.Shape.shape) c.args.self.now.subjects ports c.args.place p q at c.meet.ensures.port c.args.self.now.places;
    }

pub invariant_of-self-in-Err-1 : goal.invariant_of-self-in-Err-1
invariant_of-self-in-Err-1 g c =
    let ports = c.args.self.now.ports.items in
    let p = c.index_mut-port.result.now in
    let q = c.meet.new.self in
    let at = slice_get_read ports (length ports) c.args.place p refl c.requires.within c.index_mut-port.ensures.value in
    let same : buffered (entries_of q.sessions.entries) ≡ buffered (entries_of p.sessions.entries) + 0 = ap buffered c.in-Err.ensures.err ∙ grind arith in
    let more = held_in-set ports c.args.place 0 p q at same in
    let none : held_in ports + 0 ≡ held_in ports = omega arith in
    record {
      sum = c.args.self.now.sum ∙ ap (λ n. min n 18446744073709551615) (sym (more ∙ none));
      places = places-set (extent_bytes g.S.Shape.shape) c.args.self.now.subjects ports c.args.place p q at c.meet.ensures.port c.args.self.now.places;
    }

pub returns-in-Ok-clause-place : goal.returns-in-Ok-clause-place
returns-in-Ok-clause-place g c key there source =
    let extent = extent_bytes g.S.Shape.shape in
    let ports = c.args.self.now.ports.items in
    let p = c.index_mut-port.result.now in
    let q = c.meet.new.self in
    let at = slice_get_read ports (length ports) c.args.place p refl c.requires.within c.index_mut-port.ensures.value in
    let after = slice_set ports c.args.place q in (
      place_stays extent key.kind key.port ports after (set-ports extent ports c.args.place p q at c.meet.ensures.port) ∙ there,
      subst (λ (s : Option ℕ). NamesSession s (source_at (states extent ports) c.args.place) (source_at (states extent after) c.args.place) c.in-Ok.met)
          (sym source) (names-nth extent _ ports c.args.place p q c.in-Ok.met at c.in-Ok.ensures.place),
    )
