use Rattle.std.proofs.Common.{◌≤◌, ◌^◌, length, ap, arith}
use Rattle.value_lines.proofs.Sizes.{bytes_short}
use Rattle.value_lines.proofs.by_value.decode_by_value.Goals as goal

pub put_value-requires-clause-short : goal.put_value-requires-clause-short
put_value-requires-clause-short c =
    let short : length c.in-Ok.bytes.items ≤ 2 ^ 20 = bytes_short c.args.hex.now c.in-Ok.bytes.items c.in-Ok.ensures.ok (omega arith) in
    omega (arith, short, ap length c.as_slice.ensures.value)
