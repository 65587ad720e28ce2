use Rattle.std.proofs.Common.{◌≡◌, ◌≤◌, ◌-◌, length, take}
use Rattle.cy_outside.specs.Written.{behind}
use Rattle.cy_outside.proofs.writing.put_all.Given as goal

abbrev pub invariant-loop-done : goal.invariant-loop-done
invariant-loop-done g l = let s = g.O.Sink in record {
  within : l.done ≤ length l.bytes;
  written : s.written l.out ≡ behind (s.written l.fn.out) (take l.done l.bytes);
  faults : s.faults l.out ≡ s.faults l.fn.out;
}

abbrev pub decreases-loop-done : goal.decreases-loop-done
decreases-loop-done g l = length l.bytes - l.done
