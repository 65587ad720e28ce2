use Rattle.std.proofs.Common.{◌∙◌, ◌+◌, ap, arith, drop, rules}
use Rattle.cy_bits.specs.Numbers.{decimal_from}
use Rattle.cy_bits.proofs.Decimals.{up_to, next_digit}
use Rattle.cy_bits.proofs.decimal.capped_decimal.Goals as goal

pub loop-digit-preserved : goal.loop-digit-preserved
loop-digit-preserved c =
    let s = c.args.digits.now in
    let i = c.loop-digit.digit-index in
    record {
      value = c.loop-digit.invariant.value
          ∙ next_digit c.args.most s i c.loop-digit.number (omega arith) (omega arith) (omega arith)
          ∙ ap (λ n. up_to c.args.most (decimal_from n (drop (i + 1) s))) (search rules);
      most = search rules;
    }
