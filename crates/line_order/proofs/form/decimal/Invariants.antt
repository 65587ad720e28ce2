use Rattle.std.proofs.Common.{◌≡◌, ◌<◌, ◌^◌, drop}
use Rattle.frame_log.specs.Line.{decimal_from}
use Rattle.line_order.proofs.form.decimal.Given as goal

abbrev pub invariant-loop-b : goal.invariant-loop-b
invariant-loop-b l = record {
  value : decimal_from 0 l.digits ≡ decimal_from l.n (drop l.b-index l.digits);
  bound : l.n < 10 ^ l.b-index;
}
