use Rattle.std.proofs.Common.{◌≡◌, ◌∙◌, ◌≤◌, Some, sym, ap, map, take, drop, arith}
use Rattle.std.specs.List.{prefix_len}
use Rattle.std.proofs.lemmas.List.{take-append-drop, take-append-le}
use Rattle.std.proofs.lemmas.Grind.{common_steps}
use Rattle.frame_log.specs.Line.{hex_digit, hex_from}
use Rattle.frame_log.specs.Lanes.{is_digit, bytes_of_pairs}
use Rattle.frame_log.proofs.PairLemmas.{hex_from-eight, pairs-same, first_four}
use Rattle.frame_log.proofs.sixteen.eight_digits.Goals as goal

pub returns : goal.returns
returns c =
    let s = c.args.s.now in
    let w = map hex_digit (take 16 s) in
    let d = c.digits-n.ensures in
    let n : 8 ≤ prefix_len is_digit w = omega (arith, c.if-n-lt8.false, d.count) in
    let p : take 4 c.paired.result ≡ take 4 (bytes_of_pairs w) =
    ap (take 4) c.paired.ensures ∙ pairs-same 4 c.digits-n.result.1 c.digits-n.result.0 w (omega (arith, c.if-n-lt8.false)) d.values in
    let t : take 8 s ≡ take 8 (take 16 s) = ap (take 8) (sym (take-append-drop 16 s)) ∙ take-append-le 8 (take 16 s) (drop 16 s) (grind (arith, common_steps)) in
    ap (hex_from 0) t ∙ hex_from-eight (take 16 s) n
    ∙ ap Some (first_four (bytes_of_pairs w) c.paired.result (sym p)) ∙ ap Some (sym c.from_be_bytes.ensures)
