use Rattle.std.proofs.Common.{drop, arith}
use Rattle.value_scan.specs.Written.{written}
use Rattle.value_scan.proofs.HexLemmas.{bytes_none, bytes_more}
use Rattle.value_scan.proofs.byte_arrays.scan_hex.Goals as goal

pub loop-init : goal.loop-init
loop-init c = record {
  bytes = bytes_none (drop c.args.at.now c.args.line.now) (written c.args.out.now);
  few = omega arith;
  past = omega arith;
}

pub loop-preserved : goal.loop-preserved
loop-preserved c = record {
  bytes = bytes_more c.loop.count c.in_ok-size.size _ _ _ _ _ _ c.loop.invariant.bytes c.in_ok-size.ensures.scanned;
  few = omega (arith, c.in_ok-size.ensures.few, c.loop.invariant.few);
  past = omega (arith, c.in_ok-size.ensures.place, c.loop.invariant.past);
}

pub returns-then-size-lt8-clause-scanned : goal.returns-then-size-lt8-clause-scanned
returns-then-size-lt8-clause-scanned c = bytes_more c.loop.count c.in_ok-size.size _ _ _ _ _ _ c.loop.invariant.bytes c.in_ok-size.ensures.scanned
