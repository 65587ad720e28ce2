use Rattle.std.proofs.Common.{◌≡◌, ◌∙◌, List, [], map, take, drop, sym, ap, subst}
use Rattle.std.proofs.lemmas.List.{drop_all}
use Rattle.line_text.specs.Buffer.{text_of}
use Rattle.report_lines.specs.LineSinks.{BeginsList}
use Rattle.report_lines.specs.declared.line.FullLine.{FullLine}
use Rattle.report_lines.specs.declared.line.Line.{Line}
use Rattle.report_lines.specs.declared.line.Line.TheVariants.{Full}
use Rattle.node_core.proofs.Steps.{on_err}
use Rattle.node_run.specs.Tells.{HasTold}
use Rattle.node_run.proofs.Tells.{broke_at, full_cut, full_next, put_of, told_all, told_next}
use Rattle.node_run.proofs.log.telling.tell_fulls.Goals as goal

pub loop-full-preserved : goal.loop-full-preserved
loop-full-preserved g c =
    let i = c.loop-full.invariant in
    let lines = g.K.LineSink.lines in
    let style = g.W.ReportWriter.style in record {
      style = c.tell.ensures.style ∙ i.style;
      untold = c.tell.ensures.untold ∙ i.untold;
      told = λ types. subst (λ (ls : List Line). HasTold (style c.args.writer.now) types ls (text_of c.args.gathered.now) (text_of c.tell.new.gathered) (lines c.args.lines.now) (lines c.tell.new.lines)) (full_next c.as_slice-full-items.result.now c.loop-full.full-index _ c.loop-full-test.true)
          (told_next (style c.args.writer.now) (style c.loop-full.writer) types _ _ (text_of c.args.gathered.now) (text_of c.loop-full.gathered) (text_of c.tell.new.gathered) (lines c.args.lines.now) (lines c.loop-full.lines) (lines c.tell.new.lines) i.style (i.told types) (c.in_ok-tell.ensures.text types tt) c.in_ok-tell.ensures.adds);
    }

pub returns-in_err-tell-clause-err : goal.returns-in_err-tell-clause-err
returns-in_err-tell-clause-err g c =
    let lines = g.K.LineSink.lines in
    let fulls = c.as_slice-full-items.result.now in
    let at = c.loop-full.full-index in
    let broke = broke_at (map Full fulls) (map Full (take at fulls)) (map Full (drop at fulls)) (lines c.args.lines.now) (lines c.loop-full.lines) (lines c.tell.new.lines) (full_cut fulls at) (put_of c.loop-full.invariant.told) c.in_err-tell.ensures.err in
    on_err _ c.from_residual.result (subst (λ (fulls : List FullLine). BeginsList (map Full fulls) (lines c.args.lines.now) (lines c.tell.new.lines)) c.as_slice-full-items.ensures.value broke)

pub returns-clause-told : goal.returns-clause-told
returns-clause-told g c =
    let fulls = c.as_slice-full-items.result.now in
    let at = c.loop-full.full-index in
    let none : map Full (drop at fulls) ≡ [] = ap (map Full) (drop_all at fulls c.loop-full-test.false) in
    told_all (map Full c.args.fulls.now) (map Full (take at fulls)) (map Full (drop at fulls)) (ap (map Full) (sym c.as_slice-full-items.ensures.value) ∙ full_cut fulls at) none c.loop-full.invariant.told
