use Rattle.std.proofs.Common.{◌∙◌, sym}
use Rattle.wire_values.proofs.PutAnswers.{never_full, put_done}
use Rattle.wire_values.proofs.put.put.Goals as goal

pub unreachable-requires : goal.unreachable-requires
unreachable-requires c =
    never_full c.put.result (sym c.is_err.ensures.value ∙ c.if-is_err.true) c.args.out.now c.args.to.now.place c.args.width c.args.value c.requires.room c.put.ensures.full

pub returns : goal.returns
returns c =
    put_done c.put.result (sym c.is_err.ensures.value ∙ c.if-is_err.false) c.args.out.now c.put.new.buf c.args.to.now.place c.put.new.self.place c.args.width c.args.value c.put.ensures.place c.put.ensures.written
