use Rattle.std.proofs.Common.{◌≡◌, Bool, true, false, IfOk, sym, subst}
use Rattle.line_text.specs.Buffer.{text_of}
use Rattle.node_core.specs.Quick.{quick_is_bad, quick_lines}
use Rattle.node_core.proofs.Messages.{ignored_says, held_says, bad_says, whole_good, delivered_good}
use Rattle.node_run.specs.Tells.{Counts}
use Rattle.node_run.proofs.Tells.{told_silent, counts_silent}
use Rattle.node_run.proofs.log.telling.tell_quick.Goals as goal
use Rattle.node_run.proofs.log.telling.tell_quick.Goals.{in-Whole, in-Delivered}

pub tell_ended-requires-clause-good : goal.tell_ended-requires-clause-good
tell_ended-requires-clause-good g c =
    elim c.match-quick.branch [
      | in-Whole w ↦ whole_good c.args.node.now c.args.quick.now w.in-Whole.is
      | in-Delivered w ↦ delivered_good c.args.node.now c.args.quick.now w.in-Delivered.field-0 w.in-Delivered.is
    ]

pub returns-in-Ignored-clause-told : goal.returns-in-Ignored-clause-told
returns-in-Ignored-clause-told g c =
    λ types same. told_silent (g.W.ReportWriter.style c.args.writer.now) types _ (text_of c.args.gathered.now) (g.K.LineSink.lines c.args.lines.now) (ignored_says c.args.node.now c.args.quick.now c.in-Ignored.is).lines

pub returns-in-Ignored-clause-counts : goal.returns-in-Ignored-clause-counts
returns-in-Ignored-clause-counts g c =
    let said = ignored_says c.args.node.now c.args.quick.now c.in-Ignored.is in
    counts_silent c.silent.result _ false _ (record { delivered = c.silent.ensures.delivered; badcrc = c.silent.ensures.badcrc; nosession = c.silent.ensures.nosession }) said.lines said.is_bad

pub returns-in-Held-clause-told : goal.returns-in-Held-clause-told
returns-in-Held-clause-told g c =
    λ types same. told_silent (g.W.ReportWriter.style c.args.writer.now) types _ (text_of c.args.gathered.now) (g.K.LineSink.lines c.args.lines.now) (held_says c.args.node.now c.args.quick.now c.in-Held.is).lines

pub returns-in-Held-clause-counts : goal.returns-in-Held-clause-counts
returns-in-Held-clause-counts g c =
    let said = held_says c.args.node.now c.args.quick.now c.in-Held.is in
    counts_silent c.silent-in-Held.result _ false _ (record { delivered = c.silent-in-Held.ensures.delivered; badcrc = c.silent-in-Held.ensures.badcrc; nosession = c.silent-in-Held.ensures.nosession }) said.lines said.is_bad

pub returns-in-BadCrc-clause-told : goal.returns-in-BadCrc-clause-told
returns-in-BadCrc-clause-told g c =
    λ types same. told_silent (g.W.ReportWriter.style c.args.writer.now) types _ (text_of c.args.gathered.now) (g.K.LineSink.lines c.args.lines.now) (bad_says c.args.node.now c.args.quick.now c.requires.placed c.in-BadCrc.is).lines

pub returns-in-BadCrc-clause-counts : goal.returns-in-BadCrc-clause-counts
returns-in-BadCrc-clause-counts g c =
    let said = bad_says c.args.node.now c.args.quick.now c.requires.placed c.in-BadCrc.is in
    counts_silent c.silent-in-BadCrc.result _ true _ (record { delivered = c.silent-in-BadCrc.ensures.delivered; badcrc = c.silent-in-BadCrc.ensures.badcrc; nosession = c.silent-in-BadCrc.ensures.nosession }) said.lines said.is_bad

pub returns-clause-counts : goal.returns-clause-counts
returns-clause-counts g c =
    let node = c.args.node.now in
    let quick = c.args.quick.now in
    let good : quick_is_bad node quick ≡ false = elim c.match-quick.branch [
      | in-Whole w ↦ whole_good node quick w.in-Whole.is
      | in-Delivered w ↦ delivered_good node quick w.in-Delivered.field-0 w.in-Delivered.is
    ] in
    subst (λ (bad : Bool). IfOk c.tell_ended.result (λ counted. Counts counted (quick_lines node quick) bad)) (sym good) c.tell_ended.ensures.counts
