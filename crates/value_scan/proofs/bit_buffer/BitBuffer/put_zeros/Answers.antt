use Rattle.std.proofs.Common.{◌∙◌, ◌++◌, ◌-◌, ap, refl}
use Rattle.value_scan.specs.Written.{written}
use Rattle.value_scan.proofs.Steps.{gap_put, on_ok}
use Rattle.value_scan.proofs.bit_buffer.BitBuffer.put_zeros.Goals as goal

pub returns-clause-bits : goal.returns-clause-bits
returns-clause-bits c = on_ok c.put.result (λ e. e ∙ ap (λ l. written c.args.self.now ++ l) (gap_put (c.args.self.now.place - c.args.start) _ refl)) c.put.ensures.bits
