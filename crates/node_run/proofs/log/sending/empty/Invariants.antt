use Rattle.std.proofs.Common.{◌≡◌, ◌+◌, ◌++◌, ◌-◌, List, length}
use Rattle.line_text.specs.Buffer.{text_of}
use Rattle.report_lines.specs.declared.line.Line.{Line}
use Rattle.node_core.specs.Keeps.{keeps}
use Rattle.node_core.specs.Queues.{rounds, waiting}
use Rattle.node_run.specs.Forms.{Types}
use Rattle.node_run.specs.Tells.{HasTold}
use Rattle.node_run.proofs.log.sending.empty.Given as goal

abbrev pub invariant-loop-round : goal.invariant-loop-round
invariant-loop-round g l = let W = g.W.ReportWriter in let K = g.K.LineSink in let qs = (keeps l.fn.node).queues in record {
  done : List Line;
  most : l.most ≡ waiting qs;
  style : W.style l.writer ≡ W.style l.fn.writer;
  untold : K.failed l.lines ≡ K.failed l.fn.lines;
  told : (types : Types) → HasTold (W.style l.fn.writer) types done (text_of l.fn.gathered) (text_of l.gathered) (K.lines l.fn.lines) (K.lines l.lines);
  leaves : rounds (waiting qs) l.moment qs ≡ done ++ rounds (l.most - l.round) l.moment (keeps l.node).queues;
  left : length done + waiting (keeps l.node).queues ≡ waiting qs;
}
