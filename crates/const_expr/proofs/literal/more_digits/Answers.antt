use Rattle.std.proofs.Common.{◌^◌, get_or, refl}
use Rattle.std.specs.Str.Parse.{digits_value_after}
use Rattle.const_expr.specs.Literal.{digits}
use Rattle.const_expr.proofs.LiteralLemmas.{too_great}
use Rattle.const_expr.proofs.literal.more_digits.Goals as goal

pub returns-in-None : goal.returns-in-None
returns-in-None c =
    let text = c.args.text.now in
    too_great c.args.base c.loop-b.sum text c.loop-b.b-index (get_or text c.loop-b.b-index 0)
    (digits_value_after c.args.base c.args.number (digits text)) c.loop-b-test.true refl c.loop-b.invariant.whole
    c.requires c.if-b-ne95.true (2 ^ 128) c.in-None.ensures
