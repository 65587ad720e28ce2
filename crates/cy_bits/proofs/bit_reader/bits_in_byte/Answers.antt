use Rattle.std.proofs.Common.{◌%◌, ◌*◌, ◌^◌, ◌/◌, get_or, ap, sym, ◌∙◌, arith}
use Rattle.std.proofs.lemmas.Nat.{one_shl}
use Rattle.cy_bits.proofs.BitPlaces.{bits_in_byte, bits_past}
use Rattle.cy_bits.proofs.bit_reader.bits_in_byte.Goals as goal

pub returns-then-at-bytes-clause-value : goal.returns-then-at-bytes-clause-value
returns-then-at-bytes-clause-value c =
    let k = c.args.count in
    let part = get_or c.args.bytes.now (c.args.place / 8) 0 / 2 ^ (c.args.place % 8) in
    ap (λ n. n % (1 * 2 ^ k % 2 ^ 64)) c.from.ensures
    ∙ ap (λ m. part % m) (one_shl k 64 (omega arith))
    ∙ sym (bits_in_byte c.args.bytes.now c.args.place k c.requires.few)

pub returns-else-at-bytes-clause-value : goal.returns-else-at-bytes-clause-value
returns-else-at-bytes-clause-value c = bits_past c.args.bytes.now c.args.place c.args.count c.if-at-bytes.false
