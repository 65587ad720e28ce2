use Rattle.std.proofs.Common.{rules, arith}
use Rattle.bit_length.proofs.MovedLemmas.{value_moved}
use Rattle.bit_length.proofs.set.LengthSet.has.Goals as goal

pub returns-in-None : goal.returns-in-None
returns-in-None c = (
  λ e. absurd (search rules),
  λ h. absurd (let (m, x, e) = (value_moved c.self.inside.shift c.self.inside.runs c.args.self.now c.self.view_is c.args.n).1 h in omega (arith, c.in-None.ensures)),
)
