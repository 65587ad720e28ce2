use Rattle.std.proofs.Common.{◌≡◌, map, take}
use Rattle.line_text.specs.Buffer.{text_of}
use Rattle.report_lines.specs.declared.line.Line.TheVariants.{Full}
use Rattle.node_run.specs.Forms.{Types}
use Rattle.node_run.specs.Tells.{HasTold}
use Rattle.node_run.proofs.log.telling.tell_fulls.Given as goal

abbrev pub invariant-loop-full : goal.invariant-loop-full
invariant-loop-full g l = let W = g.W.ReportWriter in let K = g.K.LineSink in record {
  style : W.style l.writer ≡ W.style l.fn.writer;
  untold : K.failed l.lines ≡ K.failed l.fn.lines;
  told : (types : Types) → HasTold (W.style l.fn.writer) types (map Full (take l.full-index l.full-items)) (text_of l.fn.gathered) (text_of l.gathered) (K.lines l.fn.lines) (K.lines l.lines);
}
