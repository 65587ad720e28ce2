use Rattle.std.proofs.Common.{◌++◌, [], ◌∷◌, ◌+◌, ◌/◌, arith}
use Rattle.bit_length.specs.Lengths.{Has, Delimited}
use Rattle.bit_length.specs.Runs.{InRun, members_of}
use Rattle.bit_length.proofs.SetLemmas.{single_value, same_join, delimited_run}
use Rattle.bit_length.proofs.run_set.RunSet.delimited.Goals as goal

pub returns : goal.returns
returns c =
    let e = c.args.extent in
    same_join (Has (members_of 8 (c.new.result.items ++ record { residue = 0; first = 4; last = (32 + e) / 8 } ∷ []))) (InRun 8 (record { residue = 0; first = 4; last = (32 + e) / 8 })) (Delimited e) (single_value 8 c.new.result.items (record { residue = 0; first = 4; last = (32 + e) / 8 }) c.new.ensures.items (omega arith, omega arith, omega arith)) (delimited_run e c.requires.whole)
