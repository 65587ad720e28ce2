use Rattle.std.proofs.Common.{arith}
use Rattle.bit_length.specs.Lengths.{Has}
use Rattle.bit_length.specs.Moved.{Moved}
use Rattle.bit_length.proofs.SetLemmas.{leaves_same}
use Rattle.bit_length.proofs.MovedLemmas.{moved_leaves, value_moved, same_back}
use Rattle.bit_length.proofs.set.LengthSet.residue.Goals as goal

pub returns : goal.returns
returns c =
    let s = c.self.inside.shift in
    let k = c.args.k in
    let r = c.args.r in
    let own = Moved s (Has c.self.inside.runs) in
    let v = Has c.args.self.now in
    let e = value_moved s c.self.inside.runs c.args.self.now c.self.view_is in
    let turned = moved_leaves s k r (Has c.self.inside.runs) (omega arith) in
    let leaves = rw c.get.ensures.value at c.residue.ensures in (
      λ t. leaves_same own v k r e (turned.1 (leaves.0 t)),
      λ h. leaves.1 (turned.0 (leaves_same v own k r (same_back own v e) h)),
    )
