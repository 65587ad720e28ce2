use Rattle.std.proofs.Common.{◌+◌, subst, sym, arith}
use Rattle.bit_length.specs.Lengths.{Has, Same, Only, Sums}
use Rattle.bit_length.specs.Moved.{moved}
use Rattle.bit_length.proofs.MovedLemmas.{shifted_short, shifted_is}
use Rattle.bit_length.proofs.set.LengthSet.shifted.Goals as goal

pub overflow_add-result : goal.overflow_add-result
overflow_add-result c =
    let (m, h) = c.in_ok-runs.ensures.some in
    let short = shifted_short c.self.inside.shift c.args.n c.self.inside.runs c.args.self.now c.self.view_is c.requires m h in
    omega arith

pub invariant_of-result : goal.invariant_of-result
invariant_of-result c =
    rw c.in_ok-runs.ensures.value (shifted_short c.self.inside.shift c.args.n c.self.inside.runs c.args.self.now c.self.view_is c.requires)

pub returns : goal.returns
returns c =
    let k = c.self.inside.shift + c.args.n in
    subst (λ xs. Same (Has (moved k xs)) (Sums (Has c.args.self.now) (Only c.args.n))) (sym c.in_ok-runs.ensures.value) (shifted_is c.self.inside.shift c.args.n c.self.inside.runs c.args.self.now c.self.view_is)
