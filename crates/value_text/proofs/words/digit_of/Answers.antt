use Rattle.value_text.proofs.Rest.{no_digit}
use Rattle.value_text.proofs.words.digit_of.Goals as goal

pub returns-else-k-lt16-clause-value : goal.returns-else-k-lt16-clause-value
returns-else-k-lt16-clause-value c = no_digit c.args.number c.args.k c.ranges.number.fits c.if-k-lt16.false
