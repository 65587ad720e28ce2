use Rattle.std.proofs.Common.{◌+◌, ◌*◌, refl, arith}
use Rattle.bit_length.specs.Lengths.{Only, Sums}
use Rattle.bit_length.specs.Moved.{Moved}
use Rattle.bit_length.specs.Runs.{InRun}
use Rattle.bit_length.proofs.SetLemmas.{same_join, sums_left}
use Rattle.bit_length.proofs.MovedLemmas.{moved_only}
use Rattle.bit_length.proofs.run.Run.moved.Goals as goal

pub plus-requires-clause-short : goal.plus-requires-clause-short
plus-requires-clause-short c =
    let one = c.single.result in
    let e = (c.single.ensures.member (one.residue + c.args.step * one.last)).0 (one.last, c.single.ensures.run.1, omega arith, refl) in
    omega (arith, e, c.requires.short)

pub returns-clause-moved : goal.returns-clause-moved
returns-clause-moved c =
    let s = c.args.step in
    let run = InRun s c.args.self.now in
    let one = InRun s c.single.result in
    same_join (InRun s c.plus.result) (Sums one run) (Moved c.args.by run) c.plus.ensures.sums
    (same_join (Sums one run) (Sums (Only c.args.by) run) (Moved c.args.by run) (sums_left one run (Only c.args.by) c.single.ensures.member) (moved_only c.args.by run))
