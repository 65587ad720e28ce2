use Rattle.std.proofs.Common.{◌≡◌, ◌∙◌, ◌≤◌, ◌+◌, ◌*◌, ◌/◌, ◌++◌, ap, map, take, drop, List, ℕ, arith}
use Rattle.std.specs.List.{prefix_len}
use Rattle.frame_log.specs.Line.{hex_digit}
use Rattle.frame_log.specs.Lanes.{is_digit, bytes_of_pairs}
use Rattle.frame_log.proofs.PairLemmas.{front-more, pairs-same}
use Rattle.frame_log.proofs.quick.last_block.Goals as goal

pub returns-clause-value : goal.returns-clause-value
returns-clause-value c =
    let s = c.args.s.now in
    let old = c.args.bytes.now in
    let i = 2 * c.args.n in
    let k = c.digits-k.result.1 in
    let w = map hex_digit (take 16 (drop i s)) in
    let d = c.digits-k.ensures in
    let h : k ≤ prefix_len is_digit w = omega (arith, d.count) in
    let n : c.put.new.self ≡ old ++ take (k / 2) (bytes_of_pairs w) =
    c.put.ensures ∙ ap (λ (b : List ℕ). old ++ b) (ap (take (k / 2)) c.paired.ensures ∙ pairs-same (k / 2) k c.digits-k.result.0 w (omega arith) d.values) in
    (front-more s old c.put.new.self i (2 * (c.args.n + k / 2)) k (k / 2) c.requires.front (omega (arith, c.if-k-more.false)) (omega (arith, c.if-k-more.false)) (omega (arith, c.if-k-more.false, c.if-more-gt8.false)) h n).front
