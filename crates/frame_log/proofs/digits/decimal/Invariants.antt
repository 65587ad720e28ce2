use Rattle.std.proofs.Common.{◌≡◌, ◌<◌, ◌^◌, drop}
use Rattle.frame_log.specs.Line.{decimal_from}
use Rattle.frame_log.proofs.digits.decimal.Given as goal

abbrev pub invariant-loop-b : goal.invariant-loop-b
invariant-loop-b l = record {
  value : decimal_from 0 l.s ≡ decimal_from l.n (drop l.b-index l.s);
  bound : l.n < 10 ^ l.b-index;
}
