use Rattle.std.proofs.Common.{◌≡◌, ◌++◌, ◌-◌, ◌≤◌, drop, length, replicate, take}
use Rattle.wire_values.proofs.clear.clear_from.Given as goal

-- zeros up to here, and what was there behind
abbrev pub invariant-loop-i : goal.invariant-loop-i
invariant-loop-i l = record {
  past : l.from ≤ l.i;
  within : l.i ≤ length l.fn.out;
  size : length l.out ≡ length l.fn.out;
  out : l.out ≡ (take l.from l.fn.out ++ replicate (l.i - l.from) 0) ++ drop l.i l.fn.out;
}
