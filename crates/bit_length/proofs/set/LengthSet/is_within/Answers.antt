use Rattle.bit_length.specs.Lengths.{Has}
use Rattle.bit_length.specs.Moved.{Moved}
use Rattle.bit_length.proofs.MovedLemmas.{value_moved, within_alike, same_back}
use Rattle.bit_length.proofs.set.LengthSet.is_within.Goals as goal

pub is_within-requires : goal.is_within-requires
is_within-requires c = rw c.get.ensures.value c.self.invariant

pub returns : goal.returns
returns c =
    let own = Moved c.self.inside.shift (Has c.self.inside.runs) in
    let other = Moved c.o.inside.shift (Has c.o.inside.runs) in
    let v = Has c.args.self.now in
    let w = Has c.args.o.now in
    let e = value_moved c.self.inside.shift c.self.inside.runs c.args.self.now c.self.view_is in
    let f = value_moved c.o.inside.shift c.o.inside.runs c.args.o.now c.o.view_is in
    let within = rw (c.get.ensures.value, c.get-2.ensures.value) at c.is_within.ensures in
    (λ t. within_alike own v other w e f (within.0 t), λ h. within.1 (within_alike v own w other (same_back own v e) (same_back other w f) h))
