use Rattle.std.proofs.Common.{◌≡◌, true, arith, rules}
use Rattle.std.proofs.lemmas.Int.{ints, to_z-of_z}
use Rattle.wire_values.specs.Numbers.{is_negative, magnitude}
use Rattle.wire_values.proofs.Casts.{signed_negative}
use Rattle.wire_values.proofs.numbers.signed_bits.Goals as goal

pub returns-then-is_negative : goal.returns-then-is_negative
returns-then-is_negative c =
    let negative : is_negative c.args.number ≡ true = first_of (search rules, search (rules, ints, to_z-of_z), grind (arith, ints, to_z-of_z)) in
    let magnitude_is : c.magnitude.result ≡ magnitude c.args.number = first_of (search rules, search (rules, ints, to_z-of_z), grind (arith, ints, to_z-of_z)) in
    signed_negative c.args.bits c.magnitude.result c.most_signed.result c.min-magnitude.result c.args.number (omega arith) (omega arith) negative magnitude_is c.most_signed.ensures c.min-magnitude.ensures
