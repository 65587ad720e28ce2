use Rattle.std.proofs.Common.{◌∙◌, sym, ap, subst}
use Rattle.value_lines.specs.Digits.{AreDigits, IsHexOf, bytes_of_pairs}
use Rattle.value_lines.proofs.HexLine.{hex_of_pairs}
use Rattle.value_lines.proofs.hex_line.eight_bytes.Goals as goal

pub returns : goal.returns
returns c =
    let digits = c.args.digits in
    let values = c.values_of-values.ensures in
    subst (λ b. IsHexOf digits b) (sym (c.paired.ensures ∙ ap bytes_of_pairs values))
    (hex_of_pairs 8 digits c.fits-digits.0 (subst AreDigits values (c.are_digits.ensures c.if-not-are_digits.false)))
