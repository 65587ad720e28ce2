use Rattle.std.proofs.Common.{◌≡◌, ◌≤◌, ◌+◌, length}
use Rattle.cy_bits.specs.Bits.{bits, bits_of}
use Rattle.cy_bits.specs.Put.{put_bits}
use Rattle.cy_bits.proofs.bit_writer.BitWriter.put_bits.Given as goal

-- with the bits that are left all are put
abbrev pub invariant-loop-left : goal.invariant-loop-left
invariant-loop-left l = record {
  place : l.self.place + l.left ≡ l.fn.self.place + l.width;
  left : l.left ≤ l.width;
  size : length l.buf ≡ length l.fn.buf;
  written : put_bits (bits l.buf) l.self.place (bits_of l.left l.rest) ≡ put_bits (bits l.fn.buf) l.fn.self.place (bits_of l.width l.value);
}

abbrev pub decreases-loop-left : goal.decreases-loop-left
decreases-loop-left l = l.left
