use Rattle.std.proofs.Common.{◌≡◌, ◌++◌, ◌-◌, List, map}
use Rattle.tx_queue.specs.declared.frame.OutFrame.{OutFrame}
use Rattle.line_text.specs.Buffer.{text_of}
use Rattle.report_lines.specs.declared.line.Line.{Line}
use Rattle.node_core.specs.Keeps.{keeps}
use Rattle.node_core.specs.Pops.{queue_at, with_waiting}
use Rattle.node_core.specs.Queues.{bus_lines, leave, stay, tx_line}
use Rattle.node_run.specs.Forms.{Types}
use Rattle.node_run.specs.Leaves.{IsSameNode}
use Rattle.node_run.specs.Tells.{HasTold}
use Rattle.node_run.proofs.log.sending.drain_bus.Given as goal

abbrev pub invariant-loop-turn : goal.invariant-loop-turn
invariant-loop-turn g l = let W = g.W.ReportWriter in let K = g.K.LineSink in let old = keeps l.fn.node in let q = queue_at old.queues l.bus in record {
  waits : List OutFrame;
  done : List Line;
  same : IsSameNode l.fn.node l.node;
  style : W.style l.writer ≡ W.style l.fn.writer;
  untold : K.failed l.lines ≡ K.failed l.fn.lines;
  keeps_are : keeps l.node ≡ record old { queues = with_waiting old.queues l.bus waits };
  rate : l.rate ≡ q.rate;
  told : (types : Types) → HasTold (W.style l.fn.writer) types done (text_of l.fn.gathered) (text_of l.gathered) (K.lines l.fn.lines) (K.lines l.lines);
  leaves : bus_lines l.moment l.bus q ≡ done ++ map (tx_line l.moment l.bus) (leave (l.rate - l.turn) waits);
  stays : stay (l.rate - l.turn) waits ≡ stay q.rate q.waiting;
}
