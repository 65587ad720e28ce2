use Rattle.std.proofs.Common.{◌+◌, ◌-◌, ◌*◌, ◌∙◌, arith}
use Rattle.value_text.proofs.Scans.{room, in_word, digit_read, less_one, digits_end}
use Rattle.value_text.proofs.scan.read_hex.Goals as goal

pub overflow_mul-number : goal.overflow_mul-number
overflow_mul-number c = let w = in_word c.loop.number c.loop.counter c.args.digits 0 c.loop.invariant.fits c.loop-test.true c.requires (omega arith) in omega (arith, w)

pub overflow_add-number : goal.overflow_add-number
overflow_add-number c = let w = in_word c.loop.number c.loop.counter c.args.digits c.from.result c.loop.invariant.fits c.loop-test.true c.requires (omega (arith, c.from.ensures, c.digit_value.ensures.fits)) in omega (arith, w)

pub loop-preserved : goal.loop-preserved
loop-preserved c = record {
  fits = room c.loop.number c.loop.counter c.from.result c.loop.invariant.fits (omega (arith, c.from.ensures, c.digit_value.ensures.fits));
  reads = λ n rest small e.
      let was = c.loop.invariant.reads n rest small e in
      less_one n c.args.digits c.loop.counter (c.loop.number * 16 + c.from.result) _ rest c.loop-test.true
      (digit_read n c.loop.number (c.args.digits - c.loop.counter) c.from.result _ _ rest (omega (arith, c.loop-test.true)) was.0 was.1 (λ d h t. c.from.ensures ∙ c.digit_value.ensures.digit d h (c.peek.ensures ∙ t)) c.skip.ensures);
}

pub returns-clause-reads : goal.returns-clause-reads
returns-clause-reads c n rest small e = digits_end n c.args.digits c.loop.counter c.loop.number _ rest c.loop-test.false (c.loop.invariant.reads n rest small e)
