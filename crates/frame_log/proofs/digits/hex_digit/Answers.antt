use Rattle.std.proofs.Common.{◌≡◌, ◌∙◌, map, get_or, refl, ap, arith}
use Rattle.std.proofs.lemmas.List.FromFn.{get_or-map-range_with_len}
use Rattle.std.specs.List.{range_with_len}
use Rattle.frame_log.specs.Line.{hex_digit}
use Rattle.frame_log.specs.declared.digits.TheConstants.{HEX}
use Rattle.frame_log.proofs.digits.hex_digit.Goals as goal

-- the table has the value of each byte
table_is : HEX ≡ map hex_digit (range_with_len 0 256)
table_is = refl

pub returns : goal.returns
returns c = ap (λ t. get_or t c.args.b 0) table_is ∙ get_or-map-range_with_len hex_digit 0 256 c.args.b c.args.b 0 (omega arith) (omega arith)
