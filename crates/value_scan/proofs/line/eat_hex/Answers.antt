use Rattle.std.proofs.Common.{◌∙◌, ◌+◌, ap}
use Rattle.value_text.specs.Words.{hex_digits}
use Rattle.value_scan.proofs.Steps.{passed}
use Rattle.value_scan.proofs.line.eat_hex.Goals as goal

pub returns : goal.returns
returns c =
    let at = c.args.at.now in
    let there = c.in-Some.ensures in
    (there.0, passed c.args.line.now c.in_ok-rest.rest.now (hex_digits c.args.digits c.in-Some.number) at c.skip.new.at c.args.digits c.in_ok-rest.ensures there.1 (c.in_ok-skip.ensures ∙ ap (λ n. at + n) c.from.ensures))
