use Rattle.std.proofs.Common.{◌≡◌, ◌++◌, List, map, take, drop}
use Rattle.line_text.specs.Buffer.{text_of}
use Rattle.report_lines.specs.declared.line.Line.{Line}
use Rattle.node_core.specs.Keeps.{keeps}
use Rattle.node_core.specs.Queues.{drained, leaving, leaving_from}
use Rattle.node_run.specs.Forms.{Types}
use Rattle.node_run.specs.Leaves.{IsSameNode}
use Rattle.node_run.specs.Tells.{HasTold}
use Rattle.node_run.proofs.log.sending.drain_buses.Given as goal

abbrev pub invariant-loop-bus : goal.invariant-loop-bus
invariant-loop-bus g l = let W = g.W.ReportWriter in let K = g.K.LineSink in let old = keeps l.fn.node in record {
  done : List Line;
  same : IsSameNode l.fn.node l.node;
  style : W.style l.writer ≡ W.style l.fn.writer;
  untold : K.failed l.lines ≡ K.failed l.fn.lines;
  keeps_are : keeps l.node ≡ record old { queues = map drained (take l.bus old.queues) ++ drop l.bus old.queues };
  told : (types : Types) → HasTold (W.style l.fn.writer) types done (text_of l.fn.gathered) (text_of l.gathered) (K.lines l.fn.lines) (K.lines l.lines);
  leaves : leaving l.moment old.queues ≡ done ++ leaving_from l.moment l.bus (drop l.bus old.queues);
}
