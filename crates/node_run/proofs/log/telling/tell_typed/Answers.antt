use Rattle.std.proofs.Common.{◌≡◌, ◌∙◌, List, ap, sym, subst}
use Rattle.std.specs.Prelude.{option_map}
use Rattle.line_text.specs.Buffer.{text_of}
use Rattle.tail_frame.specs.Frames.{seen}
use Rattle.report_lines.specs.Lent.{told_lines}
use Rattle.report_lines.specs.declared.line.Line.{Line}
use Rattle.node_core.specs.Types.{type_at}
use Rattle.node_run.specs.Tells.{HasTold, framed_lines, lines_if}
use Rattle.node_run.proofs.Tells.{typed_by}
use Rattle.node_run.proofs.log.telling.tell_typed.Goals as goal

pub returns-clause-told : goal.returns-clause-told
returns-clause-told g c =
    let lines = g.K.LineSink.lines in
    let node = c.args.node.now in
    let told = c.told_met-told.result in
    let said : told_lines told ≡ framed_lines node c.args.rec.now c.args.met =
    c.told_met-told.ensures.line ∙ ap (λ f. lines_if node f c.args.met) (sym (ap (option_map seen) c.in-Some.is) ∙ c.frame_of.ensures.value) in
    λ types same.
    let typed = typed_by types (type_at node.table) told same c.told_met-told.ensures.typed in
    subst (λ (ls : List Line). HasTold (g.W.ReportWriter.style c.args.writer.now) types ls (text_of c.args.gathered.now) (text_of c.tell.new.gathered) (lines c.args.lines.now) (lines c.tell.new.lines)) said
    (record { gathered = c.in_ok-tell.ensures.text types typed; put = c.in_ok-tell.ensures.adds })
