use Rattle.std.proofs.Common.{◌∙◌, sym}
use Rattle.tail_frame.proofs.Rules.{broken, is_frame, no_frame}
use Rattle.tail_frame.proofs.frame.read_tail.Goals as goal

pub returns-in-Some-clause-frame : goal.returns-in-Some-clause-frame
returns-in-Some-clause-frame c =
    no_frame c.args.rec.now c.args.ident c.args.byte c.parse-tail.result c.as_slice-bytes.result.now c.broken_by.result c.parse-tail.ensures.value c.as_slice-bytes.ensures.value c.broken_by.ensures c.in-Some.why c.in-Some.is

pub returns-in-Some-clause-discard : goal.returns-in-Some-clause-discard
returns-in-Some-clause-discard c =
    sym c.in-Some.is ∙ broken c.args.rec.now c.args.ident c.args.byte c.parse-tail.result c.as_slice-bytes.result.now c.broken_by.result c.parse-tail.ensures.value c.as_slice-bytes.ensures.value c.broken_by.ensures

pub returns-in-None-clause-frame : goal.returns-in-None-clause-frame
returns-in-None-clause-frame c =
    is_frame c.args.rec.now c.args.ident c.args.byte c.parse-tail.result c.as_slice-bytes.result.now c.broken_by.result c.parse-tail.ensures.value c.as_slice-bytes.ensures.value c.broken_by.ensures c.in-None.is

pub returns-in-None-clause-discard : goal.returns-in-None-clause-discard
returns-in-None-clause-discard c =
    sym c.in-None.is ∙ broken c.args.rec.now c.args.ident c.args.byte c.parse-tail.result c.as_slice-bytes.result.now c.broken_by.result c.parse-tail.ensures.value c.as_slice-bytes.ensures.value c.broken_by.ensures
