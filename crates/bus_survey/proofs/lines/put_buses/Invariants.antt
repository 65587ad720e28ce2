use Rattle.std.proofs.Common.{◌≡◌, ◌++◌, drop}
use Rattle.line_text.specs.Buffer.{text_of}
use Rattle.bus_survey.specs.Lines.{bus_lines}
use Rattle.bus_survey.proofs.lines.put_buses.Given as goal

-- the lines so far, with those of the buses that are left
abbrev pub invariant-loop-bus : goal.invariant-loop-bus
invariant-loop-bus l =
    text_of l.text ++ bus_lines (drop l.bus l.listed) (drop l.bus l.buses.counts)
    ≡ text_of l.initial.text ++ bus_lines l.names l.buses.counts
