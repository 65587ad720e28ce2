use Rattle.std.proofs.Common.{drop}
use Rattle.value_scan.specs.Written.{written}
use Rattle.value_scan.proofs.Steps.{array_of_bytes, if_ok}
use Rattle.value_scan.proofs.byte_arrays.scan_bytes.Goals as goal

pub returns-clause-scanned : goal.returns-clause-scanned
returns-clause-scanned c =
    let line = c.args.line.now in
    if_ok c.scan_hex.result
    (λ n bytes cast. array_of_bytes cast n (drop c.args.at.now line) (drop c.eat.new.at line) (drop c.scan_hex.new.at line) (written c.args.out.now) (written c.scan_hex.new.out) c.in_ok-eat.ensures bytes)
    c.scan_hex.ensures.scanned
