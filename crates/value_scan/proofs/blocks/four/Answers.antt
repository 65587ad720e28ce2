use Rattle.std.proofs.Common.{◌≡◌, take, get_or, arith, rules, Fits, w8}
use Rattle.std.proofs.lemmas.List.{length-take-le}
use Rattle.std.proofs.lemmas.Nat.{le_bytes_4}
use Rattle.std.specs.Int.{from_le_bytes, w32}
use Rattle.value_scan.proofs.BlockLemmas.{take_byte}
use Rattle.value_scan.proofs.blocks.four.Goals as goal

pub returns : goal.returns
returns c =
    let b = c.args.bytes.now in
    let is : c.from_le_bytes.result ≡ from_le_bytes w32 (take 4 b) = search rules in
    le_bytes_4 (take 4 b) c.from_le_bytes.result (length-take-le 4 b c.requires) (take_byte 4 b (λ i. let fits : Fits w8 (get_or b i 0) = c.type_inv.bytes i in omega arith)) is
