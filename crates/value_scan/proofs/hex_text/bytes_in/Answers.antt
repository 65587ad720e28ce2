use Rattle.std.proofs.Common.{◌≡◌, ◌<◌, ℕ, length, get_or, arith, rules}
use Rattle.value_scan.proofs.HexLemmas.{bytes_found, no_bytes}
use Rattle.value_scan.proofs.hex_text.bytes_in.Goals as goal

pub returns-clause-read : goal.returns-clause-read
returns-clause-read c =
    let xs = c.guess_in-guess.result.bytes in
    let size : length xs ≡ 8 = search rules in
    let small : (i : ℕ) → get_or xs i 0 < 256 = λ i. search rules in
    bytes_found _ _ xs _ c.args.bytes.now size small (omega (arith, c.min-size.ensures, c.min.ensures)) c.hex_of_eight-text.ensures (c.begins.ensures c.if-not-begins.false) c.from_le_bytes.ensures

pub returns-then-not-begins-clause-read : goal.returns-then-not-begins-clause-read
returns-then-not-begins-clause-read c = no_bytes c.args.bytes.now
