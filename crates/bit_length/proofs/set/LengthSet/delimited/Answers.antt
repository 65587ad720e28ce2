use Rattle.std.proofs.Common.{◌+◌, arith}
use Rattle.bit_length.specs.Lengths.{Has, Delimited}
use Rattle.bit_length.proofs.SetLemmas.{same_join, delimited_greatest, long_at}
use Rattle.bit_length.proofs.set.LengthSet.delimited.Goals as goal

pub returns-then-greatest-gt-LONGEST-clause-long :
    goal.returns-then-greatest-gt-LONGEST-clause-long
returns-then-greatest-gt-LONGEST-clause-long c =
    long_at (Delimited c.args.extent) (32 + c.args.extent) (delimited_greatest c.args.extent c.requires.whole) (omega arith)

pub alone-requires : goal.alone-requires
alone-requires c = record {
  some = (32, (c.delimited.ensures 32).1 (0, omega arith, omega arith));
  short = λ m h. let (q, le, e) = (c.delimited.ensures m).0 h in omega arith;
}

pub returns-clause-members : goal.returns-clause-members
returns-clause-members c =
    same_join (Has c.alone.result) (Has c.delimited.result) (Delimited c.args.extent) c.alone.ensures c.delimited.ensures
