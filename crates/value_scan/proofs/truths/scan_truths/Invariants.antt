use Rattle.std.proofs.Common.{◌≤◌, ◌==◌, true, drop}
use Rattle.dsdl_types.specs.Schemas.{PBool, Simple}
use Rattle.value_scan.specs.Written.{written}
use Rattle.value_scan.specs.Scanned.{LeavesRow}
use Rattle.value_scan.proofs.truths.scan_truths.Given as goal

-- so many items more, and all are there
abbrev pub invariant-loop-index : goal.invariant-loop-index
invariant-loop-index l = record {
  left : LeavesRow (Simple PBool) (drop l.fn.at l.line) (drop l.at l.line) (written l.fn.out) (written l.out) true l.index (l.index == 0);
  past : l.fn.out.place ≤ l.out.place;
}
