use Rattle.std.proofs.Common.{◌≡◌, ◌∙◌, ◌≤◌, ◌+◌, ◌*◌, ◌++◌, ap, sym, subst, map, take, drop, List, ℕ, refl, arith, rules}
use Rattle.std.specs.List.{prefix_len}
use Rattle.frame_log.specs.Line.{hex_digit}
use Rattle.frame_log.specs.Reads.{IsHex}
use Rattle.frame_log.specs.Lanes.{is_digit, bytes_of_pairs}
use Rattle.frame_log.proofs.PairLemmas.{no_front, front-more, pairs-same}
use Rattle.frame_log.proofs.data.blocks.Goals as goal

pub loop-i-init : goal.loop-i-init
loop-i-init c = record {
  value = subst (λ (b : List ℕ). IsHex c.args.s.now 0 b) (sym c.requires.empty) (no_front c.args.s.now);
  count = search (rules, c.requires.empty);
  at = refl;
}

pub loop-i-preserved : goal.loop-i-preserved
loop-i-preserved c =
    let s = c.args.s.now in
    let old = c.loop-i.bytes in
    let i = 16 * c.loop-i.i in
    let at = c.loop-i.invariant.at in
    let before : IsHex s i old = subst (λ n. IsHex s n old) (omega (arith, at)) c.loop-i.invariant.value in
    let w = map hex_digit (take 16 (drop i s)) in
    let d = c.digits-k.ensures in
    let h : 16 ≤ prefix_len is_digit w = omega (arith, c.if-k-lt16.false, d.count) in
    let n : c.put.new.self ≡ old ++ take 8 (bytes_of_pairs w) =
    c.put.ensures ∙ ap (λ (b : List ℕ). old ++ b) (ap (take 8) c.paired.ensures ∙ pairs-same 8 c.digits-k.result.1 c.digits-k.result.0 w (omega (arith, c.if-k-lt16.false)) d.values) in
    let f = front-more s old c.put.new.self i (2 * (8 * c.loop-i.i + 8)) 16 8 before (omega arith) refl (omega arith) h n in record {
      value = f.front;
      count = omega (arith, f.count, c.loop-i.invariant.count, at);
      at = omega arith;
    }
