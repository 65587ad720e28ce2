use Rattle.std.proofs.Common.{◌<◌, length, arith}
use Rattle.std.proofs.lemmas.Grind.{common_steps}
use Rattle.bit_length.proofs.SetLemmas.{first_member}
use Rattle.bit_length.proofs.run_set.RunSet.at_finer.Goals as goal

pub merged-requires-clause-some : goal.merged-requires-clause-some
merged-requires-clause-some c =
    let some : 0 < length c.in-Some.coarse.items = grind (arith, common_steps) in
    first_member c.args.finer c.in-Some.coarse.items (rw c.in-Some.is at c.in_ok-coarse.ensures) some
