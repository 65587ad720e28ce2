use Rattle.std.proofs.Common.{◌≡◌, ◌-◌, ◌≤◌, drop, take}
use Rattle.cy_bits.specs.Bits.{bits, number}
use Rattle.cy_bits.proofs.bit_reader.bits_from.Given as goal

-- the number so far is that of the bits so far
abbrev pub invariant-loop-done : goal.invariant-loop-done
invariant-loop-done l = record {
  value : l.value ≡ number (take l.done (drop l.place (bits l.bytes)));
  within : l.done ≤ l.width;
}

abbrev pub decreases-loop-done : goal.decreases-loop-done
decreases-loop-done l = l.width - l.done
