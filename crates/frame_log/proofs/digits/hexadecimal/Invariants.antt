use Rattle.std.proofs.Common.{◌≡◌, ◌<◌, ◌^◌, drop}
use Rattle.frame_log.specs.Line.{hex_from}
use Rattle.frame_log.proofs.digits.hexadecimal.Given as goal

abbrev pub invariant-loop-b : goal.invariant-loop-b
invariant-loop-b l = record {
  value : hex_from 0 l.s ≡ hex_from l.n (drop l.b-index l.s);
  bound : l.n < 16 ^ l.b-index;
}
