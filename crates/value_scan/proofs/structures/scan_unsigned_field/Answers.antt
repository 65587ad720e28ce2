use Rattle.std.proofs.Common.{◌≡◌, ◌+◌, ◌-◌, drop, length, arith}
use Rattle.dsdl_types.specs.Views.{named}
use Rattle.value_scan.specs.Written.{written}
use Rattle.value_scan.proofs.Steps.{on_both, place_is}
use Rattle.value_scan.proofs.SimpleParts.{simple_left}
use Rattle.value_scan.proofs.structures.scan_unsigned_field.Goals as goal

pub returns-clause-scanned : goal.returns-clause-scanned
returns-clause-scanned c =
    let f = named c.args.field.now in
    let line = c.args.line.now in
    let start = c.args.start in
    let u = c.args.out.now in
    let v = c.scan_unsigned.new.out in
    on_both c.scan_unsigned.result
    (λ own past fs.
    let size : v.place - start + length (written u) ≡ u.place - start + length (written v) = omega (arith, place_is u, place_is v, c.requires.start, past) in
    simple_left f.0 f.1 _ c.args.first (drop c.args.at.now line) (drop c.eat_front.new.at line) (drop c.scan_unsigned.new.at line) (written u) (written v) (u.place - start) (v.place - start) c.requires.typed c.in_ok-eat_front.ensures size (own _) fs)
    c.scan_unsigned.ensures.scanned c.scan_unsigned.ensures.place
