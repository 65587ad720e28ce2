use Rattle.std.proofs.Common.{◌≡◌, ◌∙◌, IfOk, List, Some, ap, subst}
use Rattle.line_text.specs.Buffer.{text_of}
use Rattle.tail_frame.specs.Frames.{seen}
use Rattle.rx_table.specs.declared.fed.Met.{Met}
use Rattle.report_lines.specs.declared.line.Line.{Line}
use Rattle.node_core.specs.Quick.{quick_lines}
use Rattle.node_core.specs.Types.{type_at}
use Rattle.node_run.specs.Forms.{Types}
use Rattle.node_run.specs.Tells.{AreTypesOf, HasTold, framed_lines, lines_if}
use Rattle.node_run.proofs.Tells.{typed_by}
use Rattle.node_run.proofs.log.telling.tell_ended.Goals as goal

pub returns-then-not-is_untyped-clause-told : goal.returns-then-not-is_untyped-clause-told
returns-then-not-is_untyped-clause-told g c =
    let lines = g.K.LineSink.lines in
    let node = c.args.node.now in
    let said : framed_lines node c.args.rec.now c.met.result ≡ quick_lines node c.args.quick.now =
    ap (λ f. lines_if node f c.met.result) c.requires.of ∙ ap (λ (m : Met). lines_if node (Some (seen c.args.quick.now.frame)) m) c.met.ensures in
    subst (λ (ls : List Line). IfOk c.tell_typed.result (λ _. (types : Types) → AreTypesOf types node → HasTold (g.W.ReportWriter.style c.args.writer.now) types ls (text_of c.args.gathered.now) (text_of c.tell_typed.new.gathered) (lines c.args.lines.now) (lines c.tell_typed.new.lines))) said c.tell_typed.ensures.told

pub returns-clause-told : goal.returns-clause-told
returns-clause-told g c =
    let lines = g.K.LineSink.lines in
    let node = c.args.node.now in
    let told = c.told_untyped-told.result in
    λ types same.
    subst (λ (ls : List Line). HasTold (g.W.ReportWriter.style c.args.writer.now) types ls (text_of c.args.gathered.now) (text_of c.tell_untyped.new.gathered) (lines c.args.lines.now) (lines c.tell_untyped.new.lines)) c.told_untyped-told.ensures.line
    (c.in_ok-tell_untyped.ensures.told types (typed_by types (type_at node.table) told same c.told_untyped-told.ensures.typed))
