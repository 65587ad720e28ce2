use Rattle.bit_length.specs.Lengths.{Has}
use Rattle.bit_length.specs.Runs.{InSome}
use Rattle.bit_length.proofs.SetLemmas.{done, same_join}
use Rattle.bit_length.proofs.run_set.RunSet.from_runs.Goals as goal

pub returns : goal.returns
returns c =
    let runs = InSome c.args.step c.args.runs.items in
    let merged = Has c.in_ok-merged.field-0 in
    let simplified = Has c.in_ok-simplified.field-0 in
    done c.coarsened.result simplified runs (same_join simplified merged runs c.in_ok-simplified.ensures c.in_ok-merged.ensures) c.coarsened.ensures
