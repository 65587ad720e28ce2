use Rattle.bit_length.specs.Lengths.{Has}
use Rattle.bit_length.specs.Runs.{InSome}
use Rattle.bit_length.proofs.SetLemmas.{done, some_of}
use Rattle.bit_length.proofs.run_set.RunSet.simplified.Goals as goal

pub merged-requires-clause-some : goal.merged-requires-clause-some
merged-requires-clause-some c =
    some_of c.widest_step-step.result c.in_ok-runs_at.field-0.items (Has c.args.self) c.in_ok-runs_at.ensures.runs c.in_ok-runs_at.ensures.some

pub returns : goal.returns
returns c =
    done c.merged.result (InSome c.widest_step-step.result c.in_ok-runs_at.field-0.items) (Has c.args.self) c.in_ok-runs_at.ensures.runs.same c.merged.ensures
