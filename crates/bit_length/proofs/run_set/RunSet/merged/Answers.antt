use Rattle.std.proofs.Common.{arith}
use Rattle.bit_length.proofs.SetLemmas.{filled, merged_value}
use Rattle.bit_length.proofs.run_set.RunSet.merged.Goals as goal

pub merge_runs-requires : goal.merge_runs-requires
merge_runs-requires c =
    let h = filled c.args.step c.args.runs.items c.requires.some.0 c.requires.some.1 in omega (arith, c.args.runs.ok.0)

pub returns : goal.returns
returns c =
    merged_value c.args.step c.args.runs.items c.in_ok-others.field-0.others.items c.in_ok-others.field-0.last c.requires.each c.in_ok-others.ensures
