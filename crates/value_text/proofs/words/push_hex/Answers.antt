use Rattle.value_text.proofs.Rest.{hex_written, hex_whole}
use Rattle.value_text.proofs.words.push_hex.Goals as goal

pub loop-k-preserved : goal.loop-k-preserved
loop-k-preserved c = hex_written _ _ _ c.loop-k.k c.args.number _ c.loop-k-test.true c.digit_of.ensures.value c.in_ok-push_digit.ensures c.loop-k.invariant

pub returns : goal.returns
returns c = hex_whole _ _ c.loop-k.k c.args.number c.loop-k-test.false c.loop-k.invariant
