use Rattle.std.proofs.Common.{refl, arith}
use Rattle.bit_length.specs.Lengths.{Has, Only}
use Rattle.bit_length.proofs.SetLemmas.{same_join}
use Rattle.bit_length.proofs.set.LengthSet.of.Goals as goal

pub alone-requires : goal.alone-requires
alone-requires c = record {
  some = (c.args.n, (c.of.ensures c.args.n).1 refl);
  short = λ m h. let e = (c.of.ensures m).0 h in omega arith;
}

pub returns-clause-members : goal.returns-clause-members
returns-clause-members c =
    same_join (Has c.alone.result) (Has c.of.result) (Only c.args.n) c.alone.ensures c.of.ensures
