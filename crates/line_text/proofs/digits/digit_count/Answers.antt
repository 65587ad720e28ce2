use Rattle.std.proofs.Common.{sym, ap, arith, length}
use Rattle.std.proofs.lemmas.Fmt.{decimal_digit}
use Rattle.line_text.proofs.Decimals.{length-decimal}
use Rattle.line_text.proofs.digits.digit_count.Goals as goal

pub returns-then-number-lt10-clause-count : goal.returns-then-number-lt10-clause-count
returns-then-number-lt10-clause-count c = sym (ap length (decimal_digit c.args.number c.if-number-lt10.true))

pub returns-then-number-lt100-clause-count : goal.returns-then-number-lt100-clause-count
returns-then-number-lt100-clause-count c = sym (length-decimal 1 c.args.number (omega arith) (omega arith) (omega arith))

pub returns-then-number-lt1000-clause-count : goal.returns-then-number-lt1000-clause-count
returns-then-number-lt1000-clause-count c = sym (length-decimal 2 c.args.number (omega arith) (omega arith) (omega arith))

pub returns-then-number-lt10000-clause-count : goal.returns-then-number-lt10000-clause-count
returns-then-number-lt10000-clause-count c = sym (length-decimal 3 c.args.number (omega arith) (omega arith) (omega arith))

pub returns-then-number-lt100000-clause-count : goal.returns-then-number-lt100000-clause-count
returns-then-number-lt100000-clause-count c = sym (length-decimal 4 c.args.number (omega arith) (omega arith) (omega arith))

pub returns-then-number-lt1000000-clause-count : goal.returns-then-number-lt1000000-clause-count
returns-then-number-lt1000000-clause-count c = sym (length-decimal 5 c.args.number (omega arith) (omega arith) (omega arith))

pub returns-then-number-lt10000000-clause-count : goal.returns-then-number-lt10000000-clause-count
returns-then-number-lt10000000-clause-count c = sym (length-decimal 6 c.args.number (omega arith) (omega arith) (omega arith))

pub returns-else-number-lt10000000-clause-count : goal.returns-else-number-lt10000000-clause-count
returns-else-number-lt10000000-clause-count c = sym (length-decimal 7 c.args.number (omega arith) (omega arith) (omega arith))
