use Rattle.std.proofs.Common.{◌≡◌, ◌++◌}
use Rattle.std.specs.Map.{values_of}
use Rattle.line_text.specs.Buffer.{text_of}
use Rattle.bus_survey.specs.Lines.{flow_lines}
use Rattle.bus_survey.proofs.lines.put_flows.Given as goal

-- the lines so far, with those of the flows that are left
abbrev pub invariant-loop-flow : goal.invariant-loop-flow
invariant-loop-flow l =
    text_of l.text ++ flow_lines l.names l.flow-iterator
    ≡ text_of l.initial.text ++ flow_lines l.names (values_of l.flows.counts.entries)
