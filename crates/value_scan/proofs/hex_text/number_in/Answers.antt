use Rattle.std.proofs.Common.{◌≡◌, ◌<◌, ℕ, length, get_or, rules}
use Rattle.value_scan.proofs.HexLemmas.{number_found}
use Rattle.value_scan.proofs.hex_text.number_in.Goals as goal

pub returns : goal.returns
returns c =
    let xs = c.guess_in-guess.result.bytes in
    let size : length xs ≡ 8 = search rules in
    let small : (i : ℕ) → get_or xs i 0 < 256 = λ i. search rules in
    number_found xs _ c.args.bytes.now c.args.digits _ _ _ size small c.requires.1 c.hex_of_eight-text.ensures (c.begins.ensures c.if-not-begins.false) c.from.ensures c.from_be_bytes.ensures c.from_be_bytes.type_inv c.from-2.ensures
