use Rattle.std.proofs.Common.{drop, refl}
use Rattle.dsdl_types.specs.Schemas.{PBool, Simple}
use Rattle.value_scan.specs.Written.{written}
use Rattle.value_scan.proofs.Steps.{item_left, on_ok}
use Rattle.value_scan.proofs.SimpleParts.{simple_part}
use Rattle.value_scan.proofs.truths.scan_one.Goals as goal

pub returns-clause-scanned : goal.returns-clause-scanned
returns-clause-scanned c =
    let line = c.args.line.now in
    let b = drop c.eat_lead.new.at line in
    let d = drop c.scan_truth.new.at line in
    let u = written c.args.out.now in
    let v = written c.scan_truth.new.out in
    on_ok c.scan_truth.result
    (λ own. item_left (Simple PBool) c.args.first (drop c.args.at.now line) b d u v c.in_ok-eat_lead.ensures (simple_part (Simple PBool) PBool b d u v refl own))
    c.scan_truth.ensures.scanned
