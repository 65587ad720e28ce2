use Rattle.std.proofs.Common.{◌≤◌, drop}
use Rattle.value_scan.specs.Bytes.{ScansBytes}
use Rattle.value_scan.specs.Written.{written}
use Rattle.value_scan.proofs.byte_arrays.scan_hex.Given as goal

-- the bytes so far
abbrev pub invariant-loop : goal.invariant-loop
invariant-loop l = record {
  bytes : ScansBytes l.count (drop l.fn.at l.line) (drop l.at l.line) (written l.fn.out) (written l.out);
  few : l.count ≤ l.most;
  past : l.fn.out.place ≤ l.out.place;
}
