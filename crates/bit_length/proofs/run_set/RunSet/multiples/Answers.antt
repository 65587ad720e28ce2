use Rattle.std.proofs.Common.{◌++◌, [], ◌∷◌, arith}
use Rattle.bit_length.specs.declared.run.Run.{Run}
use Rattle.bit_length.specs.Lengths.{Has, Multiples}
use Rattle.bit_length.specs.Runs.{InRun, members_of}
use Rattle.bit_length.proofs.SetLemmas.{single_value, same_join, multiples_run}
use Rattle.bit_length.proofs.run_set.RunSet.multiples.Goals as goal

pub returns : goal.returns
returns c =
    let step = c.args.step in
    let run : Run = record { residue = 0; first = 0; last = c.args.most } in
    same_join (Has (members_of step (c.new.result.items ++ run ∷ []))) (InRun step run) (Multiples step c.args.most) (single_value step c.new.result.items run c.new.ensures.items (c.requires.step, omega arith, omega arith)) (multiples_run step c.args.most)
