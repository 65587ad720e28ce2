use Rattle.std.proofs.Common.{◌≡◌, ◌==◌, drop, subst, arith, true}
use Rattle.dsdl_types.specs.Schemas.{PBool, Simple}
use Rattle.value_scan.specs.Scanned.{RowScans}
use Rattle.value_scan.specs.Written.{written}
use Rattle.value_scan.proofs.Steps.{row_left_end}
use Rattle.value_scan.proofs.truths.scan_truths.Goals as goal

pub returns-then-eq-clause-scanned : goal.returns-then-eq-clause-scanned
returns-then-eq-clause-scanned c =
    let line = c.args.line.now in
    row_left_end (Simple PBool) (drop c.args.at.now line) (drop c.loop-index.at line) (written c.args.out.now) (written c.loop-index.out) c.loop-index.index _ c.loop-index.invariant.left

pub returns-clause-scanned : goal.returns-clause-scanned
returns-clause-scanned c =
    let line = c.args.line.now in
    let e : c.loop-index.index ≡ c.args.most = omega (arith, c.loop-index-test.false, c.loop-index.auto.index-end) in
    let all = row_left_end (Simple PBool) (drop c.args.at.now line) (drop c.loop-index.at line) (written c.args.out.now) (written c.loop-index.out) c.loop-index.index _ c.loop-index.invariant.left in
    subst (λ n. RowScans (Simple PBool) true n (drop c.args.at.now line) (drop c.loop-index.at line) (written c.args.out.now) (written c.loop-index.out)) e all
