use Rattle.std.specs.Fmt.{decimal}
use Rattle.value_scan.proofs.Steps.{taken}
use Rattle.value_scan.proofs.line.eat_number.Goals as goal

pub returns : goal.returns
returns c =
    let digits = c.in-Some.digits in
    taken c.args.line.now c.in_ok-rest.rest.now (decimal digits.number) c.args.at.now c.skip.new.at digits.len c.in_ok-rest.ensures c.in-Some.ensures c.in_ok-skip.ensures
