use Rattle.std.proofs.Common.{◌++◌, [], ◌∷◌, arith}
use Rattle.bit_length.specs.Lengths.{Has, Only}
use Rattle.bit_length.specs.Runs.{InRun, members_of}
use Rattle.bit_length.proofs.SetLemmas.{single_value, same_join, of_run}
use Rattle.bit_length.proofs.run_set.RunSet.of.Goals as goal

pub returns : goal.returns
returns c =
    same_join (Has (members_of 1 (c.new.result.items ++ record { residue = 0; first = c.args.n; last = c.args.n } ∷ []))) (InRun 1 (record { residue = 0; first = c.args.n; last = c.args.n })) (Only c.args.n) (single_value 1 c.new.result.items (record { residue = 0; first = c.args.n; last = c.args.n }) c.new.ensures.items (omega arith, omega arith, omega arith)) (of_run c.args.n)
