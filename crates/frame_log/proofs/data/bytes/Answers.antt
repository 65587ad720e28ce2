use Rattle.std.proofs.Common.{arith, sym, ◌∙◌}
use Rattle.frame_log.proofs.LineLemmas.{bytes_of-long, bytes_of-not, bytes_of-fits}
use Rattle.frame_log.proofs.data.bytes.Goals as goal

pub returns-then-s-gt128 : goal.returns-then-s-gt128
returns-then-s-gt128 c = bytes_of-long c.args.fd c.args.s.now (omega arith)

pub returns-then-not-is_length : goal.returns-then-not-is_length
returns-then-not-is_length c = bytes_of-not c.args.fd c.args.s.now (sym c.is_length.ensures ∙ c.if-not-is_length.true)

pub returns : goal.returns
returns c = sym (bytes_of-fits c.args.fd c.args.s.now (sym c.is_length.ensures ∙ c.if-not-is_length.false)) ∙ c.pairs.ensures
