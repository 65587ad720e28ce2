-- A port of the code as the definitions see it, and what a frame of a source does to it.
use Rattle.std.specs.Prelude.{ℕ, List}
use Rattle.dsdl_types.specs.Schemas.{Sch}
use Rattle.tail_frame.specs.declared.frame.Frame.{Frame}
use Rattle.rx_session.specs.Extents.{extent_bytes}
use Rattle.rx_session.specs.Seen.{record_of}
use Rattle.rx_table.specs.Ports.{Port as PortOf, Entry, Answer, sources_of, buffered}
use Rattle.rx_table.specs.Places.{fed_entries, port_answer, opened, opened_answer, Adds, grown}
use Rattle.rx_table.specs.Table.{entries_of, port_of}
use Rattle.rx_table.specs.declared.port.Port.{Port}
use Rattle.rx_table.specs.declared.fed.PortMet as code_met

-- its sources with what their sessions keep
abbrev pub entries_in : {S : Type 0} → Port S → List Entry
entries_in p = entries_of p.sessions.entries

-- its sources
abbrev pub sources_in : {S : Type 0} → Port S → List ℕ
sources_in p = sources_of (entries_in p)

-- the bytes of its sessions' buffers
abbrev pub buffered_in : {S : Type 0} → Port S → ℕ
buffered_in p = buffered (entries_in p)

module _ {S : Type 0} (shape : S → Sch) where
  -- the subscription
  abbrev pub subscription : Port S → PortOf
  subscription p = port_of (extent_bytes shape) p

  -- its sources after a frame of a source, what is answered, and whether that opens a session
  abbrev pub after_frame : ℕ → Port S → ℕ → Frame → List Entry
  after_frame timeout p source frame = fed_entries timeout (subscription p) (entries_in p) source (record_of frame)

  abbrev pub answer_to : ℕ → Port S → ℕ → Frame → Answer
  answer_to timeout p source frame = port_answer timeout (subscription p) (entries_in p) source (record_of frame)

  abbrev pub OpensFor : Port S → ℕ → Frame → Type 0
  OpensFor p source frame = Adds (subscription p) (entries_in p) source (record_of frame)

  -- and after a frame of a source that has no session
  abbrev pub after_first : ℕ → Port S → ℕ → Frame → List Entry
  after_first timeout p source frame = opened timeout (subscription p) (entries_in p) source (record_of frame)

  abbrev pub answer_to_first : ℕ → Port S → Frame → Answer
  answer_to_first timeout p frame = opened_answer timeout (subscription p) (entries_in p) (record_of frame)

  -- the bytes of buffers that it got where a frame met these
  abbrev pub bytes_for : Port S → code_met.PortMet → ℕ
  bytes_for p met = grown (extent_bytes shape p.shape) met
