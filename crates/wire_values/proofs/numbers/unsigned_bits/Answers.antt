use Rattle.std.proofs.Common.{◌≡◌, ◌∙◌, true, false, sym, ap, arith, rules}
use Rattle.std.proofs.lemmas.Int.{ints, to_z-of_z}
use Rattle.wire_values.specs.Numbers.{is_negative, magnitude}
use Rattle.cy_bits.specs.Bits.{bits_of}
use Rattle.dsdl_types.specs.Cast.{cast_uint}
use Rattle.dsdl_types.specs.Views.{is_saturated}
use Rattle.wire_values.proofs.Casts.{truncated_low, truncated_negative}
use Rattle.wire_values.proofs.numbers.unsigned_bits.Goals as goal

pub returns-then-is_negative-2 : goal.returns-then-is_negative-2
returns-then-is_negative-2 c =
    let negative : is_negative c.args.number ≡ true = first_of (search rules, search (rules, ints, to_z-of_z), grind (arith, ints, to_z-of_z)) in
    let magnitude_is : c.magnitude-magnitude.result ≡ magnitude c.args.number = first_of (search rules, search (rules, ints, to_z-of_z), grind (arith, ints, to_z-of_z)) in
    truncated_negative c.args.bits c.magnitude-magnitude.result c.args.number (omega arith) c.requires.number negative magnitude_is
    ∙ ap (λ k. bits_of c.args.bits (cast_uint c.args.bits (is_saturated k) c.args.number)) (sym c.in-Truncated.is)

pub returns-else-is_negative-2 : goal.returns-else-is_negative-2
returns-else-is_negative-2 c =
    let negative : is_negative c.args.number ≡ false = first_of (search rules, search (rules, ints, to_z-of_z), grind (arith, ints, to_z-of_z)) in
    let magnitude_is : c.magnitude-magnitude.result ≡ magnitude c.args.number = first_of (search rules, search (rules, ints, to_z-of_z), grind (arith, ints, to_z-of_z)) in
    truncated_low c.args.bits c.magnitude-magnitude.result c.args.number negative magnitude_is
    ∙ ap (λ k. bits_of c.args.bits (cast_uint c.args.bits (is_saturated k) c.args.number)) (sym c.in-Truncated.is)
